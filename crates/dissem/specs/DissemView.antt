-- What the code's dissemination barrier stands for in the rules.
use Rattle.std.specs.Prelude.{ℕ, ◌/◌, ◌%◌, ◌<◌, ◌≡◌}
use Rattle.rules.specs.Memory.{upd}
use Rattle.rules.specs.Settings.{Settings}
use Rattle.rules.specs.Dissem.{State, variable, doublings}
use Rattle.rules.proofs.Views.{view}
use Rattle.dissem.specs.declared.barrier.Dissem.{Dissem}
use Rattle.turns.specs.BitView.{bits}

-- of a processor's own byte
abbrev pub sense_of : ℕ → ℕ
sense_of own = own % 2

abbrev pub parity_of : ℕ → ℕ
parity_of own = own / 2 % 2

abbrev pub round_of : ℕ → ℕ
round_of own = own / 4

-- every processor starts with sense 1, parity 0 and round 0: its byte is 1
abbrev pub memory_of : Dissem → State
memory_of f = record {
  flag = λ i. bits (view 0 f.flags i);
  sense = λ i. sense_of (view 1 f.own i);
  parity = λ i. parity_of (view 1 f.own i);
  round = λ i. round_of (view 1 f.own i);
}

-- processor i has written its sense into j's flag, at its own parity and round
abbrev pub told : ℕ → ℕ → State → State
told i j x = record {
  flag = upd x.flag j (upd (x.flag j) (variable x i (x.round i)) (x.sense i));
  sense = x.sense;
  parity = x.parity;
  round = x.round;
}

-- between passages a processor is in round 0, and within one in a round below R
pub record Rounds (levels : ℕ) (x : State) (at : ℕ → ℕ) : Type 0 where
  pub between : (j : ℕ) → at j ≡ 1 → x.round j ≡ 0
  pub within : (j : ℕ) → (at j ≡ 1 → ⊥) → x.round j < levels

-- levels is R
pub record Sound (s : Settings) (d : Dissem) (at : ℕ → ℕ) : Type 0 where
  pub levels : d.levels ≡ doublings s.procs
  pub rounds : Rounds (doublings s.procs) (memory_of d) at
