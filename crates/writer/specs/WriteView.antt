-- What `write` is to give, for every input: one equation with the rules' definition of the call.
use Rattle.std.specs.Prelude.{ℕ, ◌≡◌, List, Result, Ok, Err}
use Rattle.rules.specs.Settings.{Settings}
use Rattle.rules.specs.Calls.{WriteAnswer, writing}
use Rattle.settings.specs.View.{number_of}
use Rattle.settings.specs.declared.refusal.Refusal.{Refusal}

-- how many bytes were written
abbrev pub count_of : Result ℕ Refusal → ℕ
count_of (Ok count) = count
count_of (Err r) = 0

abbrev pub answer_of : Result ℕ Refusal → WriteAnswer
answer_of r = record { number = number_of r; count = count_of r }

-- the answer and the buffer, whole, are those of the rules
pub record WriteIs (s : Settings) (turns out out' : List ℕ) (r : Result ℕ Refusal) : Type 0 where
  pub is : writing s turns out ≡ record { answer = answer_of r; out = out' }
