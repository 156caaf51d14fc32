-- The ticket lock (figure 2). At home live the request counter, variable 0, and the release counter, variable 1.
-- A processor keeps for itself its ticket and, from 3 to 4, what it found in the release counter.
use Rattle.std.specs.Prelude.{ℕ, ◌+◌, ◌%◌, Bool, true, false, eqb}
use Rattle.rules.specs.Memory.{pick, upd, each}
use Rattle.rules.specs.Bounds.{most_ticket}
use Rattle.rules.specs.Settings.{Settings}
use Rattle.rules.specs.Step.{reads, writes, atomics, nothing, one, join, grant, release, stay, to, over, Step, Machine}

pub record State : Type 0 where
  pub request : ℕ
  pub release : ℕ
  pub mine : ℕ → ℕ
  pub found : ℕ → ℕ

-- ---- one store

abbrev pub set_request : ℕ → State → State
set_request v x = record { request = v; release = x.release; mine = x.mine; found = x.found }

abbrev pub set_release : ℕ → State → State
set_release v x = record { request = x.request; release = v; mine = x.mine; found = x.found }

abbrev pub set_mine : ℕ → ℕ → State → State
set_mine i v x = record { request = x.request; release = x.release; mine = upd x.mine i v; found = x.found }

abbrev pub set_found : ℕ → ℕ → State → State
set_found i v x = record { request = x.request; release = x.release; mine = x.mine; found = upd x.found i v }

-- ---- the steps

-- after 65535 comes 0
abbrev pub up : ℕ → ℕ
up n = (n + 1) % (most_ticket + 1)

-- 1: fetch-and-increment the request counter; the old value is the ticket
abbrev pub asks : Settings → State → ℕ → Step State
asks s x i = record { memory = set_mine i x.request (set_request (up x.request) x); access = atomics s.home 0; says = one join; then = to 2 }

-- 2: read the release counter; it equals the own ticket, or not
abbrev pub waits : Bool → Settings → State → Step State
waits true s x = record { memory = x; access = reads s.home 1; says = one grant; then = to 3 }
waits false s x = record { memory = x; access = reads s.home 1; says = nothing; then = stay }

-- 3: read the release counter, to add one to it
abbrev pub finds : Settings → State → ℕ → Step State
finds s x i = record { memory = set_found i x.release x; access = reads s.home 1; says = nothing; then = to 4 }

-- 4: write the release counter, one higher than it was found
abbrev pub frees : Settings → State → ℕ → Step State
frees s x i = record { memory = set_release (up (x.found i)) x; access = writes s.home 1; says = one release; then = over }

unfoldable pub step : Settings → State → ℕ → ℕ → Step State
step s x at i =
    pick (eqb at 1) (asks s x i) (
    pick (eqb at 2) (waits (eqb x.release (x.mine i)) s x) (
    pick (eqb at 3) (finds s x i) (
    frees s x i)))

abbrev pub start : Settings → State
start s = record { request = s.ticket; release = s.ticket; mine = each 0; found = each 0 }

abbrev pub machine : Machine
machine = record { State = State; start = start; step = step }
