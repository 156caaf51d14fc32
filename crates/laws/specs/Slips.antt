-- The six slips of document 01 ('Slips seen in real ports'): each machine with only the slipped step written anew, and an order of turns that shows it.
use Rattle.std.specs.Prelude.{ℕ, suc, ◌+◌, ◌-◌, ◌&&◌, List, [], ◌∷◌, eqb, leb}
use Rattle.rules.specs.Memory.{pick, upd}
use Rattle.rules.specs.Settings.{Settings}
use Rattle.rules.specs.Step.{none, reads, join, grant, release, arrive, leave, Says, nothing, one, Event, event, Next, to, over, Step, Machine}
use Rattle.rules.specs.Ticket as ticket
use Rattle.rules.specs.Mcs as mcs
use Rattle.rules.specs.Central as central
use Rattle.rules.specs.Dissem as dissem

-- m, but for what is done at step k
abbrev pub altered : (m : Machine) → ℕ → (Settings → m.State → ℕ → Step m.State) → Machine
altered m k does = record { State = m.State; start = m.start; step = λ s x at i. pick (eqb at k) (does s x i) (m.step s x at i) }

-- m, but for what is done at steps j and k
abbrev pub exchanged : (m : Machine) → (j k : ℕ) → (at_j at_k : Settings → m.State → ℕ → Step m.State) → Machine
exchanged m j k at_j at_k = altered (altered m j at_j) k at_k

-- what w does to the memory, but it says this and goes on so
abbrev pub instead : {S : Type 0} → Says → Next → Step S → Step S
instead says next w = record { memory = w.memory; access = w.access; says = says; then = next }

-- a wrong machine and the right one; settings, an order of turns that shows it, and the turns with which the right one then finishes;
-- and the events of the wrong one, with all these turns
pub record Slip : Type 1 where
  pub wrong : Machine
  pub right : Machine
  pub settings : Settings
  pub order : List ℕ
  pub rest : List ℕ
  pub heard : List Event

-- events by their first letter, as they are printed
abbrev pub j : ℕ → Event
j i = event join i

abbrev pub g : ℕ → Event
g i = event grant i

abbrev pub r : ℕ → Event
r i = event release i

abbrev pub a : ℕ → Event
a i = event arrive i

abbrev pub l : ℕ → Event
l i = event leave i

-- two boards with so many passages each
abbrev pub boards : (algo ticket rounds : ℕ) → Settings
boards algo ticket rounds = record { algo = algo; procs = 2; home = 0; ticket = ticket; budget = 16384; rounds = rounds ∷ rounds ∷ []; hold = [] }

-- ---- 1: the clearing of next dropped

-- the turn stays, without an access, so that right and wrong keep step
abbrev pub not_cleared : Machine
not_cleared = altered mcs.machine 1 (λ s x i. record { memory = x; access = none; says = nothing; then = to 2 })

-- 0 hands the lock to 1, who empties the tail; 0 comes again, alone, finds 1 in its next as before and wakes it. The tail stays at 0: 1 joins behind one who has gone
abbrev pub slip1 : Slip
slip1 = record {
  wrong = not_cleared;
  right = mcs.machine;
  settings = boards 2 0 2;
  order = 0 ∷ 0 ∷ 1 ∷ 1 ∷ 1 ∷ 1 ∷ 0 ∷ 0 ∷ 0 ∷ 1 ∷ 1 ∷ 1 ∷ 0 ∷ 0 ∷ 0 ∷ 1 ∷ 1 ∷ 1 ∷ 1 ∷ [];
  rest = 0 ∷ 1 ∷ 0 ∷ 1 ∷ [];
  heard = j 0 ∷ g 0 ∷ j 1 ∷ r 0 ∷ g 1 ∷ r 1 ∷ j 0 ∷ g 0 ∷ r 0 ∷ j 1 ∷ [];
}

-- ---- 2: steps 3 and 4 exchanged

abbrev pub linked_first : Machine
linked_first = exchanged mcs.machine 3 4 (λ s x i. instead nothing (to 4) (mcs.links x i)) (λ s x i. instead nothing (to 5) (mcs.locks x i))

-- 0 finds 1 in its next and wakes it; only then 1 sets its flag
abbrev pub slip2 : Slip
slip2 = record {
  wrong = linked_first;
  right = mcs.machine;
  settings = boards 2 0 1;
  order = 0 ∷ 0 ∷ 1 ∷ 1 ∷ 1 ∷ 0 ∷ 0 ∷ 1 ∷ [];
  rest = 0 ∷ 0 ∷ 1 ∷ 1 ∷ 1 ∷ [];
  heard = j 0 ∷ g 0 ∷ j 1 ∷ r 0 ∷ [];
}

-- ---- 3: a failed compare-and-swap taken as a release

abbrev pub forgotten : Machine
forgotten = altered mcs.machine 8 (λ s x i. instead (one release) over (mcs.drains (eqb x.tail (suc i)) s x))

-- 1 joins after 0 has looked for a successor
abbrev pub slip3 : Slip
slip3 = record {
  wrong = forgotten;
  right = mcs.machine;
  settings = boards 2 0 1;
  order = 0 ∷ 0 ∷ 0 ∷ 1 ∷ 1 ∷ 0 ∷ 1 ∷ 1 ∷ [];
  rest = 0 ∷ 0 ∷ 1 ∷ 1 ∷ 1 ∷ [];
  heard = j 0 ∷ g 0 ∷ j 1 ∷ r 0 ∷ [];
}

-- ---- 4: tickets compared by less-than

-- it waits while the release counter is less than the own ticket
abbrev pub less_than : Machine
less_than = altered ticket.machine 2 (λ s x i. ticket.waits (leb (x.mine i) x.release) s x)

-- 0 has ticket 65535 and 1 has ticket 0, and is let in; its release takes the counter from 65535 to 0
abbrev pub slip4 : Slip
slip4 = record {
  wrong = less_than;
  right = ticket.machine;
  settings = boards 1 65535 1;
  order = 0 ∷ 1 ∷ 1 ∷ 1 ∷ 1 ∷ [];
  rest = 0 ∷ 0 ∷ 0 ∷ 1 ∷ 1 ∷ 1 ∷ [];
  heard = j 0 ∷ j 1 ∷ g 1 ∷ r 1 ∷ [];
}

-- ---- 5: dissemination with one parity only

-- a leaving keeps the parity; what becomes of the sense
abbrev pub leaves : (ℕ → ℕ) → Settings → dissem.State → ℕ → Step dissem.State
leaves toggle s x i =
    pick (eqb (x.flag i (dissem.variable x i (x.round i))) (x.sense i) && eqb (x.round i + 1) (dissem.doublings s.procs))
    (record {
      memory = record { flag = x.flag; sense = upd x.sense i (toggle (x.sense i)); parity = x.parity; round = upd x.round i 0 };
      access = reads i (dissem.variable x i (x.round i));
      says = one leave;
      then = over;
    })
    (dissem.step s x 2 i)

abbrev pub one_parity : (ℕ → ℕ) → Machine
one_parity toggle = altered dissem.machine 2 (leaves toggle)

-- the sense is toggled at every leaving
abbrev pub toggled : Machine
toggled = one_parity (λ v. 1 - v)

-- 0 leaves, comes again, and overwrites the flag that 1 has not read
abbrev pub slip5a : Slip
slip5a = record {
  wrong = toggled;
  right = dissem.machine;
  settings = boards 4 0 2;
  order = 0 ∷ 1 ∷ 0 ∷ 0 ∷ [];
  rest = 0 ∷ 1 ∷ 1 ∷ 0 ∷ 1 ∷ [];
  heard = a 0 ∷ a 1 ∷ l 0 ∷ a 0 ∷ [];
}

-- or never
abbrev pub untoggled : Machine
untoggled = one_parity (λ v. v)

-- 0 leaves, comes again, and finds in its flag what 1 wrote the time before
abbrev pub slip5b : Slip
slip5b = record {
  wrong = untoggled;
  right = dissem.machine;
  settings = boards 4 0 2;
  order = 0 ∷ 1 ∷ 0 ∷ 0 ∷ 0 ∷ [];
  rest = 1 ∷ 1 ∷ 0 ∷ 1 ∷ [];
  heard = a 0 ∷ a 1 ∷ l 0 ∷ a 0 ∷ l 0 ∷ l 1 ∷ a 1 ∷ l 1 ∷ [];
}

-- ---- 6: count reset after sense is written

abbrev pub reset_late : Machine
reset_late = exchanged central.machine 2 3 (λ s x i. instead nothing (to 3) (central.opens s x i)) (λ s x i. instead (one leave) over (central.resets s x))

-- 0 leaves and arrives again before 1 resets the count, and is not counted
abbrev pub slip6 : Slip
slip6 = record {
  wrong = reset_late;
  right = central.machine;
  settings = boards 3 0 2;
  order = 0 ∷ 1 ∷ 1 ∷ 0 ∷ 0 ∷ 1 ∷ 1 ∷ [];
  rest = 0 ∷ 0 ∷ 0 ∷ 0 ∷ 1 ∷ [];
  heard = a 0 ∷ a 1 ∷ l 0 ∷ a 0 ∷ l 1 ∷ a 1 ∷ [];
}
