-- The settings record.
use Rattle.std.specs.Prelude.{ℕ, List, get_or, replicate}
use Rattle.rules.specs.Bounds.{most_procs}

-- rounds and hold have an entry for each processor
pub record Settings : Type 0 where
  pub algo : ℕ
  pub procs : ℕ
  pub home : ℕ
  pub ticket : ℕ
  pub budget : ℕ
  pub rounds : List ℕ
  pub hold : List ℕ

-- processor i's entry of a row
abbrev pub entry : List ℕ → ℕ → ℕ
entry row i = get_or row i 0

abbrev pub zeros : List ℕ
zeros = replicate most_procs 0

-- the settings record of zeros, which a refusal answers
abbrev pub no_settings : Settings
no_settings = record { algo = 0; procs = 0; home = 0; ticket = 0; budget = 0; rounds = zeros; hold = zeros }
