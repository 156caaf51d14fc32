-- What the code's MCS lock stands for in the rules.
use Rattle.std.specs.Prelude.{ℕ, ◌≤◌, ◌<◌}
use Rattle.rules.specs.Mcs.{State}
use Rattle.rules.proofs.Views.{view}
use Rattle.mcs.specs.declared.lock.Mcs.{Mcs}

abbrev pub memory_of : Mcs → State
memory_of m = record { tail = m.tail; next = view 0 m.next; locked = view 0 m.locked; pred = view 0 m.pred; succ = view 0 m.succ }

-- whoever is named is a processor: nil or its number + 1 in tail and next, its number in pred and succ
pub record Sound (x : State) : Type 0 where
  pub tail : x.tail ≤ 64
  pub next : (j : ℕ) → x.next j ≤ 64
  pub pred : (j : ℕ) → x.pred j < 64
  pub succ : (j : ℕ) → x.succ j < 64
