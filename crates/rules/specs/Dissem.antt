-- The dissemination barrier (figure 10). True is 1. A processor's flag at parity r and round k is its variable 2 k + r.
-- It keeps its sense, its parity and the round that it is in for itself.
use Rattle.std.specs.Prelude.{ℕ, zero, suc, ◌+◌, ◌-◌, ◌*◌, ◌^◌, ◌%◌, Bool, true, false, eqb, leb}
use Rattle.rules.specs.Memory.{pick, upd, each}
use Rattle.rules.specs.Settings.{Settings}
use Rattle.rules.specs.Step.{none, reads, writes, Says, nothing, one, two, arrive, leave, stay, to, over, Step, Machine}

-- how often x is doubled before it reaches p, at most d times
unfoldable pub doubled : ℕ → ℕ → ℕ → ℕ
doubled zero x p = 0
doubled (suc d) x p = elim (leb p x) [ true ↦ 0 | false ↦ suc (doubled d (x + x) p) ]

-- R: the smallest number of doublings of 1 that reaches p. It is never more than p
unfoldable pub doublings : ℕ → ℕ
doublings p = doubled p 1 p

-- flag: of each processor, by the number of the variable
pub record State : Type 0 where
  pub flag : ℕ → ℕ → ℕ
  pub sense : ℕ → ℕ
  pub parity : ℕ → ℕ
  pub round : ℕ → ℕ

-- the variable of round k, at processor i's parity
abbrev pub variable : State → ℕ → ℕ → ℕ
variable x i k = 2 * k + x.parity i

-- the processor that i tells in round k
abbrev pub partner : Settings → ℕ → ℕ → ℕ
partner s i k = (i + 2 ^ k) % s.procs

-- one processor alone: one turn without reference, arrive and leave together
abbrev pub alone : State → Step State
alone x = record { memory = x; access = none; says = two arrive leave; then = over }

-- write own sense into the partner's flag, at own parity and k
abbrev pub tells : ℕ → Says → Settings → State → ℕ → Step State
tells k says s x i =
    let j : ℕ = partner s i k in
    record {
      memory = record {
        flag = upd x.flag j (upd (x.flag j) (variable x i k) (x.sense i));
        sense = x.sense;
        parity = x.parity;
        round = upd x.round i k;
      };
      access = writes j (variable x i k);
      says = says;
      then = to 2;
    }

-- read own flag; it equals own sense or not, and this is the last round or not.
-- On leaving, the sense is toggled if parity is 1; then parity changes
abbrev pub waits : Bool → Bool → State → ℕ → Step State
waits false last x i = record { memory = x; access = reads i (variable x i (x.round i)); says = nothing; then = stay }
waits true false x i = record {
  memory = record { flag = x.flag; sense = x.sense; parity = x.parity; round = upd x.round i (x.round i + 1) };
  access = reads i (variable x i (x.round i));
  says = nothing;
  then = to 3;
}
waits true true x i = record {
  memory = record {
    flag = x.flag;
    sense = upd x.sense i (pick (eqb (x.parity i) 1) (1 - x.sense i) (x.sense i));
    parity = upd x.parity i (1 - x.parity i);
    round = upd x.round i 0;
  };
  access = reads i (variable x i (x.round i));
  says = one leave;
  then = over;
}

-- 1: the first write; 2: a read; 3: a later write
unfoldable pub step : Settings → State → ℕ → ℕ → Step State
step s x at i =
    pick (eqb at 1) (pick (eqb s.procs 1) (alone x) (tells 0 (one arrive) s x i)) (
    pick (eqb at 2)
    (waits (eqb (x.flag i (variable x i (x.round i))) (x.sense i)) (eqb (x.round i + 1) (doublings s.procs)) x i) (
    tells (x.round i) nothing s x i))

abbrev pub start : Settings → State
start s = record { flag = each (each 0); sense = each 1; parity = each 0; round = each 0 }

abbrev pub machine : Machine
machine = record { State = State; start = start; step = step }
