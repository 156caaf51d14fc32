-- What each of the three calls gives, for every input: its answer, and what it leaves in each lent buffer ('Numbers of refusal', 'What a run gives').
use Rattle.std.specs.Prelude.{ℕ, zero, suc, ◌+◌, ◌*◌, Bool, true, ◌&&◌, List, [], ◌∷◌, ◌++◌, map, eqb, leb, ltb, length, drop}
use Rattle.rules.specs.Memory.{pick}
use Rattle.rules.specs.Bounds.{most_procs, most_ticket, most_budget, most_rounds, most_hold, most_turns}
use Rattle.rules.specs.Settings.{Settings, no_settings}
use Rattle.rules.specs.Step.{code}
use Rattle.rules.specs.Play as play
use Rattle.rules.specs.Play.{Run}
use Rattle.rules.specs.Machines.{numbered, known, machine}
use Rattle.rules.specs.Rule.{Got, ok, fault}
use Rattle.rules.specs.File.{file, text}

-- a lent buffer with these at its front: what lies past the written part stays unchanged
abbrev pub over : {A : Type 0} → List A → List A → List A
over new old = new ++ drop (length new) old

-- ---- what write and run check

abbrev pub all : List Bool → Bool
all [] = true
all (b ∷ l) = b && all l

-- a row's entries, of processors from i on: at most the bound below procs, and zero from procs on
unfoldable pub in_row : ℕ → ℕ → ℕ → List ℕ → Bool
in_row procs most i [] = true
in_row procs most i (x ∷ row) = pick (ltb i procs) (leb x most) (eqb x 0) && in_row procs most (i + 1) row

unfoldable pub in_range : Settings → Bool
in_range s = all (
    leb 1 s.procs ∷ leb s.procs most_procs
    ∷ ltb s.home s.procs
    ∷ leb s.ticket most_ticket
    ∷ leb s.budget most_budget
    ∷ in_row s.procs most_rounds 0 s.rounds
    ∷ in_row s.procs most_hold 0 s.hold ∷ [])

-- every turn names a processor below procs
unfoldable pub all_below : ℕ → List ℕ → Bool
all_below procs [] = true
all_below procs (i ∷ t) = ltb i procs && all_below procs t

-- the number of refusal of write and of run, in the order 2, 3, 5, 4, 6; 0 for none. roomy: the lent buffers are long enough
unfoldable pub refusal : Settings → List ℕ → Bool → ℕ
refusal s turns roomy =
    pick (known (numbered s.algo)) (
    pick (in_range s) (
    pick (leb (length turns) most_turns) (
    pick (all_below s.procs turns) (
    pick roomy 0
    6) 4) 5) 3) 2

-- ---- read

pub record ReadAnswer : Type 0 where
  pub number : ℕ
  pub place : ℕ
  pub settings : Settings
  pub count : ℕ

pub record Reading : Type 0 where
  pub answer : ReadAnswer
  pub schedule : List ℕ

abbrev pub refused_read : (number place : ℕ) → List ℕ → Reading
refused_read number place schedule =
    record { answer = record { number = number; place = place; settings = no_settings; count = 0 }; schedule = schedule }

abbrev pub accepted_read : Settings → List ℕ → List ℕ → Reading
accepted_read s turns schedule =
    record { answer = record { number = 0; place = 0; settings = s; count = length turns }; schedule = over turns schedule }

-- 6 comes last, at place 0
unfoldable pub reading_of : Got (Settings × List ℕ) → List ℕ → Reading
reading_of (ok v left at) schedule = pick (leb (length v.1) (length schedule)) (accepted_read v.0 v.1 schedule) (refused_read 6 0 schedule)
reading_of (fault number place) schedule = refused_read number place schedule

abbrev pub reading : (bytes schedule : List ℕ) → Reading
reading bytes schedule = reading_of (file bytes 0) schedule

-- ---- write

pub record WriteAnswer : Type 0 where
  pub number : ℕ
  pub count : ℕ

pub record Writing : Type 0 where
  pub answer : WriteAnswer
  pub out : List ℕ

abbrev pub refused_write : (number : ℕ) → List ℕ → Writing
refused_write number out = record { answer = record { number = number; count = 0 }; out = out }

abbrev pub accepted_write : Settings → List ℕ → List ℕ → Writing
accepted_write s turns out = record { answer = record { number = 0; count = length (text s turns) }; out = over (text s turns) out }

-- write needs room for the whole file
abbrev pub write_refusal : Settings → List ℕ → (room : ℕ) → ℕ
write_refusal s turns room = refusal s turns (leb (length (text s turns)) room)

unfoldable pub writing : Settings → List ℕ → (out : List ℕ) → Writing
writing s turns out =
    let n : ℕ = write_refusal s turns (length out) in
    pick (eqb n 0) (accepted_write s turns out) (refused_write n out)

-- ---- run

-- a processor's record in the table
pub record Record : Type 0 where
  pub done : ℕ
  pub remote : ℕ
  pub most : ℕ
  pub spins : ℕ
  pub idle : ℕ

-- events: how many there are
pub record RunAnswer : Type 0 where
  pub number : ℕ
  pub turns : ℕ
  pub stop : ℕ
  pub events : ℕ
  pub total : ℕ

pub record Running : Type 0 where
  pub answer : RunAnswer
  pub events : List ℕ
  pub table : List Record

-- the records of n processors from i on
abbrev pub records : {S : Type 0} → Run S → (n i : ℕ) → List Record
records r zero i = []
records r (suc n) i = record {
  done = r.course.done i;
  remote = r.tally.far i;
  most = r.tally.most i;
  spins = r.tally.spins i;
  idle = r.tally.idle i;
} ∷ records r n (i + 1)

abbrev pub refused_run : (number : ℕ) → List ℕ → List Record → Running
refused_run number events table =
    record { answer = record { number = number; turns = 0; stop = 0; events = 0; total = 0 }; events = events; table = table }

-- stop is 0 where the schedule is used up, 1 for the budget
unfoldable pub accepted_run : {S : Type 0} → Settings → Run S → List ℕ → List Record → Running
accepted_run s r events table = record {
  answer = record { number = 0; turns = r.taken; stop = pick r.stopped 1 0; events = length r.events; total = r.tally.total };
  events = over (map code r.events) events;
  table = over (records r s.procs 0) table;
}

-- run needs a table of at least P records, and events for twice the turns in the schedule
abbrev pub run_refusal : Settings → List ℕ → (events table : ℕ) → ℕ
run_refusal s turns events table = refusal s turns (leb s.procs table && leb (2 * length turns) events)

unfoldable pub running : Settings → List ℕ → (events : List ℕ) → (table : List Record) → Running
running s turns events table =
    let n : ℕ = run_refusal s turns (length events) (length table) in
    pick (eqb n 0) (accepted_run s (play.whole (machine s.algo) s turns) events table) (refused_run n events table)
