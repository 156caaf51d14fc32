-- The central barrier (figure 8). True is 1. At home live count, variable 0, and sense, variable 1. A processor keeps its local sense for itself.
use Rattle.std.specs.Prelude.{ℕ, ◌-◌, Bool, true, false, eqb}
use Rattle.rules.specs.Memory.{pick, upd, each}
use Rattle.rules.specs.Settings.{Settings}
use Rattle.rules.specs.Step.{reads, writes, atomics, nothing, one, arrive, leave, stay, to, over, Step, Machine}

pub record State : Type 0 where
  pub count : ℕ
  pub sense : ℕ
  pub local : ℕ → ℕ

-- 1: toggle the local sense and fetch-and-decrement count
abbrev pub counts : Settings → State → ℕ → Step State
counts s x i = record {
  memory = record { count = x.count - 1; sense = x.sense; local = upd x.local i (1 - x.local i) };
  access = atomics s.home 0;
  says = one arrive;
  then = to (pick (eqb x.count 1) 2 4);
}

-- 2: write count P
abbrev pub resets : Settings → State → Step State
resets s x = record {
  memory = record { count = s.procs; sense = x.sense; local = x.local };
  access = writes s.home 0;
  says = nothing;
  then = to 3;
}

-- 3: write sense
abbrev pub opens : Settings → State → ℕ → Step State
opens s x i = record {
  memory = record { count = x.count; sense = x.local i; local = x.local };
  access = writes s.home 1;
  says = one leave;
  then = over;
}

-- 4: read sense; it equals the local sense, or not
abbrev pub waits : Bool → Settings → State → Step State
waits true s x = record { memory = x; access = reads s.home 1; says = one leave; then = over }
waits false s x = record { memory = x; access = reads s.home 1; says = nothing; then = stay }

unfoldable pub step : Settings → State → ℕ → ℕ → Step State
step s x at i =
    pick (eqb at 1) (counts s x i) (
    pick (eqb at 2) (resets s x) (
    pick (eqb at 3) (opens s x i) (
    waits (eqb x.sense (x.local i)) s x)))

abbrev pub start : Settings → State
start s = record { count = s.procs; sense = 1; local = each 1 }

abbrev pub machine : Machine
machine = record { State = State; start = start; step = step }
