-- The waiting line of both locks; and that two locks agree on who comes next.
use mathlib.Core.Path.{◌≡◌, sym, ap, ◌∙◌}
use mathlib.Core.Bool.{Bool, true}
use mathlib.Core.List.{List, [], ◌∷◌, ◌++◌, append_assoc}
use Prim.Native.Nat.{ℕ, ◌+◌, ◌≤◌}
use native.Mathlib.Omega.{arith}
use lib.Dec.{eqb}
use lib.ListN.{length, length-append}
use Rattle.rules.specs.Bounds.{most_ticket}
use Rattle.rules.specs.Settings.{Settings}
use Rattle.rules.specs.Step.{join, grant, Event, Machine}
use Rattle.rules.specs.Play.{whole}
use Rattle.rules.specs.Ticket as ticket
use Rattle.rules.specs.Mcs as mcs
use Rattle.rules.specs.Machines.{table, lock, barrier, known, numbered, machine}
use Rattle.rules.specs.Calls.{all_below, refusal}
use Rattle.rules.proofs.Store.{false_true}
use Rattle.rules.proofs.Known.{found}
use Rattle.rules.proofs.Accepted.{Accepted, accepted, all_below_lem, below_first}
use Rattle.laws.specs.Laws.{Prefix, of, InLine, LockRun, ticket_run, queue_run, Within, ComesNext, was_granted, is_first}
use Rattle.laws.proofs.Locks.{in_line, good}
use Rattle.laws.proofs.TicketTurns as tickets
use Rattle.laws.proofs.McsTurns.{queue}

-- ---- the line

pub line : (m : Machine) (s : Settings) (t : List ℕ) → LockRun m s t → InLine m s t
line m s t (ticket_run small first b) = in_line ticket.machine s (tickets.ticket s small first) t b
line m s t (queue_run b) = in_line mcs.machine s (queue s) t b

-- a beginning of an accepted schedule is accepted
pub begun : (s : Settings) (t u : List ℕ) → Accepted s (t ++ u) → Accepted s t
begun s t u a = record {
  algo = a.algo;
  procs_low = a.procs_low;
  procs_high = a.procs_high;
  home = a.home;
  ticket = a.ticket;
  budget = a.budget;
  rounds = a.rounds;
  hold = a.hold;
  few = omega (arith, a.few, length-append t u);
  turns_below = below_first s.procs t u a.turns_below;
}

-- the run over an accepted schedule is a lock run where the settings name a lock: by the lines of the table
pub lock_run : (s : Settings) (t : List ℕ) → Accepted s t → (numbered s.algo).sort ≡ lock → LockRun (machine s.algo) s t
lock_run s t a =
    found (λ l. known l ≡ true → l.sort ≡ lock → LockRun l.machine s t) (λ l. eqb s.algo l.number) table
    (λ k l. ticket_run (omega (arith, a.procs_high)) a.ticket b, (λ k l. queue_run b, (λ k. no_lock, (λ k. no_lock, (λ k. no_lock, λ k. absurd (false_true k)))))) a.algo
  where
    b : all_below s.procs t ≡ true
    b = all_below_lem s.procs t a.turns_below

    no_lock : {m : Machine} → barrier ≡ lock → LockRun m s t
    no_lock e = let z : ◌≡◌ {A = ℕ} 0 1 = cc in absurd (omega arith)

pub lock_run_accepted : (s : Settings) (t u : List ℕ) (roomy : Bool) → refusal s (t ++ u) roomy ≡ 0 → (numbered s.algo).sort ≡ lock
    → LockRun (machine s.algo) s t
lock_run_accepted s t u roomy e = lock_run s t (begun s t u (accepted s (t ++ u) roomy e).0)

pub line_accepted : (s : Settings) (t u : List ℕ) (roomy : Bool) → refusal s (t ++ u) roomy ≡ 0 → (numbered s.algo).sort ≡ lock
    → InLine (machine s.algo) s t
line_accepted s t u roomy e l = line (machine s.algo) s t (lock_run_accepted s t u roomy e l)

-- ---- the counters of the ticket lock

pub distance : (s : Settings) (t : List ℕ) → s.procs ≤ most_ticket + 1 → s.ticket ≤ most_ticket → all_below s.procs t ≡ true
    → Within s.procs (whole ticket.machine s t).memory
distance s t small first b = let l = (good ticket.machine s (tickets.ticket s small first) t b).line in tickets.within s small first _ _ _ _ l.inv l.below

-- ---- two locks

-- f stands at place k of the list
record Stands (k f : ℕ) (l : List ℕ) : Type 0 where
  before : List ℕ
  behind : List ℕ
  place : length before ≡ k
  is : l ≡ before ++ f ∷ behind

-- and so of a longer list
stands_on : {k f : ℕ} {a b : List ℕ} → Stands k f a → Prefix a b → Stands k f b
stands_on {f = f} x p = record {
  before = x.before;
  behind = x.behind ++ p.rest;
  place = x.place;
  is = sym p.adds ∙ ap (λ (l : List ℕ). l ++ p.rest) x.is ∙ append_assoc x.before (f ∷ x.behind) p.rest;
}

-- one only stands there
same : {k f g : ℕ} {l : List ℕ} → Stands k f l → Stands k g l → f ≡ g
same {f = f} {g = g} x y = go x.before y.before (x.place ∙ sym y.place) (sym x.is ∙ y.is)
  where
    go : (a b : List ℕ) → length a ≡ length b → a ++ f ∷ x.behind ≡ b ++ g ∷ y.behind → f ≡ g
    go [] [] l e = cc
    go [] (b ∷ bs) l e = absurd (omega arith)
    go (a ∷ as') [] l e = absurd (omega arith)
    go (a ∷ as') (b ∷ bs) l e = go as' bs (omega arith) (cc)

-- who comes next after k grants joined at place k
joined : (k f : ℕ) (es : List Event) → Prefix (of grant es) (of join es) → ComesNext k f es → Stands k f (of join es)
joined k f es p (was_granted a b l e) = stands_on (record { before = a; behind = b; place = l; is = e }) p
joined k f es p (is_first b l e) = record { before = of grant es; behind = b; place = l; is = e }

pub agree : (m n : Machine) (s w : Settings) (t u : List ℕ) → LockRun m s t → LockRun n w u
    → Prefix (of join (whole m s t).events) (of join (whole n w u).events)
    → (k f g : ℕ) → ComesNext k f (whole m s t).events → ComesNext k g (whole n w u).events → f ≡ g
agree m n s w t u a b p k f g c d =
    same (stands_on (joined k f _ (line m s t a).granted c) p) (joined k g _ (line n w u b).granted d)
