-- All that is proved of the rules, on one page. proofs/All has the proofs.
use Prim.Native.String.{String}
use Rattle.std.specs.Prelude.{ℕ, zero, suc, ◌+◌, ◌-◌, ◌*◌, ◌^◌, ◌/◌, ◌%◌, ◌≤◌, ◌<◌, min, max, ◌≡◌, ◌≢◌, ◌⊎◌, Bool, true, false, List, [], ◌∷◌, ◌++◌, map, eqb, ltb, length, take, drop, replicate}
use Rattle.rules.specs.Memory.{pick}
use Rattle.rules.specs.Bounds.{most_procs, most_ticket, most_budget, most_rounds, most_hold, most_turns, most_digits, longest_file}
use Rattle.rules.specs.Settings.{Settings, entry, no_settings}
use Rattle.rules.specs.Step.{Access, reads, writes, atomics, remote, Kind, number, join, grant, release, arrive, leave, Event, event, code, said, Next, stay, again, to, over, Machine}
use Rattle.rules.specs.Course.{Turn, holds, idles, makes, holding, says}
use Rattle.rules.specs.Tally.{access}
use Rattle.rules.specs.Play.{Run, first, next, after, play, whole}
use Rattle.rules.specs.Ticket as ticket
use Rattle.rules.specs.Mcs as mcs
use Rattle.rules.specs.Tree as tree
use Rattle.rules.specs.Central as central
use Rattle.rules.specs.Dissem as dissem
use Rattle.rules.specs.Dissem.{doublings}
use Rattle.rules.specs.Machines as rules
use Rattle.rules.specs.Machines.{bytes, Sort, lock, barrier, table, machines, numbered, known, machine}
use Rattle.rules.specs.Rule.{comma, feed, is_digit}
use Rattle.rules.specs.File.{decimal, text}
use Rattle.rules.specs.Calls as calls
use Rattle.rules.specs.Calls.{all_below, refusal, Record, records, Reading, refused_read, reading, Writing, writing, accepted_run, running}
use Rattle.rules.specs.Cases.{All, AllLong, cases, worked, worked_more, borders, requested, requested_more}
use Rattle.laws.specs.Traces.{trial, ticket_trace, queue_trace, central_trace, dissem_trace, dissem_two, dissem_alone, tree_trace}
use Rattle.laws.specs.Slips.{Slip, not_cleared, linked_first, forgotten, less_than, toggled, untoggled, reset_late, slip1, slip2, slip3, slip4, slip5a, slip5b, slip6}

-- ---- words

-- a is a beginning of b
pub record Prefix {A : Type 0} (a b : List A) : Type 0 where
  pub rest : List A
  pub adds : a ++ rest ≡ b

-- those whom the events of this kind name, in order
abbrev pub of : Kind → List Event → List ℕ
of k [] = []
of k (e ∷ es) = pick (eqb (number k) (number e.kind)) (e.who ∷ of k es) (of k es)

-- no turn of t is f's
abbrev pub Without : ℕ → List ℕ → Type 0
Without f [] = Unit {0}
Without f (i ∷ t) = (i ≢ f) × Without f t

-- how many turns of t are i's
abbrev pub times : ℕ → List ℕ → ℕ
times i [] = 0
times i (j ∷ t) = pick (eqb j i) 1 0 + times i t

-- f 0 + .. + f (n - 1)
abbrev pub sum : (ℕ → ℕ) → ℕ → ℕ
sum f zero = 0
sum f (suc n) = sum f n + f n

-- ---- beginnings

-- r has all that r' has, or less
pub record Begins {S : Type 0} (r r' : Run S) : Type 0 where
  pub events : Prefix r.events r'.events
  pub taken : r.taken ≤ r'.taken
  pub total : r.tally.total ≤ r'.tally.total
  pub done : (i : ℕ) → r.course.done i ≤ r'.course.done i
  pub far : (i : ℕ) → r.tally.far i ≤ r'.tally.far i
  pub most : (i : ℕ) → r.tally.most i ≤ r'.tally.most i
  pub spins : (i : ℕ) → r.tally.spins i ≤ r'.tally.spins i
  pub idle : (i : ℕ) → r.tally.idle i ≤ r'.tally.idle i

-- the accesses of the turns of t that are taken from r on, each with who makes it
unfoldable pub accesses : (m : Machine) → Settings → List ℕ → Run m.State → List (ℕ × Access)
accesses m s [] r = []
accesses m s (i ∷ t) r =
    pick (eqb (after m s r i).taken r.taken) [] ((i, access (next m s r i)) ∷ []) ++ accesses m s t (after m s r i)

-- how many of them are remote
abbrev pub remotes : List (ℕ × Access) → ℕ
remotes [] = 0
remotes (a ∷ l) = remote a.0 a.1 + remotes l

-- the turns of t that are taken from r on: whose each is, and what it is
unfoldable pub turns_taken : (m : Machine) → Settings → List ℕ → Run m.State → List (ℕ × Turn m.State)
turns_taken m s [] r = []
turns_taken m s (i ∷ t) r =
    pick (eqb (after m s r i).taken r.taken) [] ((i, next m s r i) ∷ []) ++ turns_taken m s t (after m s r i)

-- the accesses made in turns, each with who makes it
abbrev pub accesses_of : {S : Type 0} → List (ℕ × Turn S) → List (ℕ × Access)
accesses_of [] = []
accesses_of (w ∷ l) = (w.0, access w.1) ∷ accesses_of l

-- the machine makes these accesses, where they who make them take the turns
abbrev pub Touches : Machine → Settings → List (ℕ × Access) → Type 0
Touches m s l = accesses_of (turns_taken m s (map (λ a. a.0) l) (first m s)) ≡ l

-- ---- counting

-- those of the turns that are i's
abbrev pub by : {S : Type 0} → ℕ → List (ℕ × Turn S) → List (ℕ × Turn S)
by i [] = []
by i (w ∷ l) = pick (eqb w.0 i) (w ∷ by i l) (by i l)

-- a spin: a read that has to be made again
abbrev pub spins : Next → Bool
spins stay = true
spins (again k) = true
spins (to k) = false
spins over = false

-- the step ends the passage
abbrev pub ends : Next → Bool
ends stay = false
ends (again k) = false
ends (to k) = false
ends over = true

abbrev pub is_idle : {S : Type 0} → Turn S → Bool
is_idle holds = false
is_idle idles = true
is_idle (makes w) = false

-- the turn is a step that passes the test
abbrev pub is_step : {S : Type 0} → (Next → Bool) → Turn S → Bool
is_step test holds = false
is_step test idles = false
is_step test (makes w) = test w.then

-- how many of the turns pass a test
abbrev pub count : {S : Type 0} → (Turn S → Bool) → List (ℕ × Turn S) → ℕ
count test [] = 0
count test (w ∷ l) = pick (test w.1) 1 0 + count test l

-- a step's access before those of the passage that it begins or goes on with
abbrev pub onto : ℕ × Access → List (List (ℕ × Access)) → List (List (ℕ × Access))
onto a [] = (a ∷ []) ∷ []
onto a (p ∷ ps) = (a ∷ p) ∷ ps

-- the accesses of one processor's turns, passage by passage: each ends with a step that ends it, and the last one may not have ended
abbrev pub passages : {S : Type 0} → List (ℕ × Turn S) → List (List (ℕ × Access))
passages [] = []
passages ((i, holds) ∷ l) = passages l
passages ((i, idles) ∷ l) = passages l
passages ((i, makes w) ∷ l) = pick (ends w.then) (((i, w.access) ∷ []) ∷ passages l) (onto (i, w.access) (passages l))

-- the remote accesses of each
abbrev pub prices : List (List (ℕ × Access)) → List ℕ
prices [] = []
prices (p ∷ ps) = remotes p ∷ prices ps

-- 0 where there is none
abbrev pub largest : List ℕ → ℕ
largest [] = 0
largest (n ∷ l) = max n (largest l)

-- the last, or n where there is none
abbrev pub last_of : ℕ → List ℕ → ℕ
last_of n [] = n
last_of n (k ∷ l) = last_of k l

-- no number is above n
abbrev pub NoneAbove : ℕ → List ℕ → Type 0
NoneAbove n [] = Unit {0}
NoneAbove n (k ∷ l) = (k ≤ n) × NoneAbove n l

-- the turns of i that are taken in the run over t
abbrev pub turns_of_one : (m : Machine) → Settings → List ℕ → (i : ℕ) → List (ℕ × Turn m.State)
turns_of_one m s t i = by i (turns_taken m s t (first m s))

-- what is counted of i in the run r, by its turns
pub record Counts {S : Type 0} (i : ℕ) (turns : List (ℕ × Turn S)) (r : Run S) : Type 0 where
  pub done : r.course.done i ≡ count (is_step ends) turns
  pub far : r.tally.far i ≡ remotes (accesses_of turns)
  pub spins : r.tally.spins i ≡ count (is_step spins) turns
  pub idle : r.tally.idle i ≡ count is_idle turns

-- and by its passages: `most` is the largest number of remote accesses in one, and `here` that of the one begun last
pub record CountsPassages {S : Type 0} (i : ℕ) (turns : List (ℕ × Turn S)) (r : Run S) : Type 0 where
  pub most : r.tally.most i ≡ largest (prices (passages turns))
  pub here : r.tally.here i ≡ last_of 0 (prices (passages turns))

-- no step but the last of a passage leads to step 1, where a passage begins
pub record Passes (m : Machine) : Type 0 where
  pub stays : (s : Settings) (x : m.State) (i : ℕ) → (m.step s x 1 i).then ≢ stay
  pub goes : (s : Settings) (x : m.State) (k i j : ℕ) → (m.step s x k i).then ≡ to j → j ≢ 1
  pub looks : (s : Settings) (x : m.State) (k i j : ℕ) → (m.step s x k i).then ≡ again j → j ≢ 1

-- ---- hold turns

-- somebody is granted the lock, or leaves the barrier
abbrev pub GrantOrLeave : List Event → Type 0
GrantOrLeave es = (of grant es ≢ []) ⊎ (of leave es ≢ [])

-- ---- the waiting line (demand 3)

-- after the turns t, played by m
pub record InLine (m : Machine) (s : Settings) (t : List ℕ) : Type 0 where
  -- grants so far are the first so many joins, releases the first so many grants, grants exceed releases by at most one
  pub granted : Prefix (of grant (whole m s t).events) (of join (whole m s t).events)
  pub released : Prefix (of release (whole m s t).events) (of grant (whole m s t).events)
  pub one_holder : length (of grant (whole m s t).events) ≤ suc (length (of release (whole m s t).events))
  -- where nobody holds and f is the first in line, whatever turns u of others come next: the next turn of f, if taken, adds f's grant and nothing else
  pub first_next : length (of grant (whole m s t).events) ≡ length (of release (whole m s t).events)
      → (f : ℕ) (rest : List ℕ) → of join (whole m s t).events ≡ of grant (whole m s t).events ++ f ∷ rest
      → (u : List ℕ) → all_below s.procs u ≡ true → Without f u
      → (whole m s (t ++ u ++ f ∷ [])).taken ≡ suc (whole m s (t ++ u)).taken
      → (whole m s (t ++ u ++ f ∷ [])).events ≡ (whole m s (t ++ u)).events ++ event grant f ∷ []

-- a run of a lock: of ticket, with no more processors than there are tickets, or of mcs
pub data LockRun : Machine → Settings → List ℕ → Type 1 where
  ticket_run : {s : Settings} {t : List ℕ} → s.procs ≤ most_ticket + 1 → s.ticket ≤ most_ticket → all_below s.procs t ≡ true → LockRun ticket.machine s t
  queue_run : {s : Settings} {t : List ℕ} → all_below s.procs t ≡ true → LockRun mcs.machine s t

-- the request counter is at most so far past the release counter, modulo 65536
pub record Within (far : ℕ) (x : ticket.State) : Type 0 where
  pub distance : ℕ
  pub at_most : distance ≤ far
  pub apart : x.request ≡ (x.release + distance) % (most_ticket + 1)

-- the ticket lock's counters, from the first ticket on. Processor i is between the read and the write of its release where its next step is step 4
pub record Counters (first : ℕ) (r : Run ticket.State) : Type 0 where
  -- no other write comes between: what i found still stands there
  pub undisturbed : (i : ℕ) → r.course.at i ≡ 4 → r.memory.found i ≡ r.memory.release
  -- so no release is lost: the one counter counts the joins and the other the releases, modulo 65536
  pub requests : r.memory.request ≡ (first + length (of join r.events)) % (most_ticket + 1)
  pub releases : r.memory.release ≡ (first + length (of release r.events)) % (most_ticket + 1)

-- who comes next after k grants is f: f had the next grant, or there was none yet and f is the first in line
pub data ComesNext (k f : ℕ) (es : List Event) : Type 0 where
  was_granted : (a b : List ℕ) → length a ≡ k → of grant es ≡ a ++ f ∷ b → ComesNext k f es
  is_first : (b : List ℕ) → length (of grant es) ≡ k → of join es ≡ of grant es ++ f ∷ b → ComesNext k f es

-- ---- going on

-- the turn is a spin or idle
abbrev pub waits : {S : Type 0} → Turn S → Bool
waits holds = false
waits idles = true
waits (makes w) = spins w.then

-- everybody's next turn is a spin or idle, and somebody has passages left
pub record Standstill (m : Machine) (s : Settings) (r : Run m.State) : Type 0 where
  pub who : ℕ
  pub one_of_them : who < s.procs
  pub passages_left : r.course.done who < entry s.rounds who
  pub all_wait : (i : ℕ) → i < s.procs → waits (next m s r i) ≡ true

-- after the turns t it is so for ever, whoever takes the turns u
abbrev pub Frozen : Machine → Settings → List ℕ → Type 0
Frozen m s t = (u : List ℕ) → all_below s.procs u ≡ true → Standstill m s (whole m s (t ++ u))

-- a spin changes no memory and starts no hold turns; where the processor goes on at another step, it spins there too
pub record Steady (m : Machine) : Type 0 where
  pub memory : (s : Settings) (x : m.State) (k i : ℕ) → spins (m.step s x k i).then ≡ true → (m.step s x k i).memory ≡ x
  pub no_hold : (s : Settings) (x : m.State) (k i : ℕ) → spins (m.step s x k i).then ≡ true → holding (m.step s x k i).says ≡ false
  pub spins_on : (s : Settings) (x : m.State) (k j i : ℕ) → (m.step s x k i).then ≡ again j → spins (m.step s x j i).then ≡ true

-- everybody has done its passages
abbrev pub AllDone : {S : Type 0} → Settings → Run S → Type 0
AllDone s r = (i : ℕ) → i < s.procs → r.course.done i ≡ entry s.rounds i

-- a sweep: each processor has a turn
pub record Sweep (procs : ℕ) (t : List ℕ) : Type 0 where
  pub each_has : (i : ℕ) → i < procs → 0 < times i t
  pub no_others : all_below procs t ≡ true

-- so many sweeps, one after the other
pub data Sweeps (procs : ℕ) : ℕ → List ℕ → Type 0 where
  none : Sweeps procs 0 []
  more : {n : ℕ} {t u : List ℕ} → Sweep procs t → Sweeps procs n u → Sweeps procs (suc n) (t ++ u)

-- a passage makes at most so many steps that are no spins
abbrev pub ticket_steps : ℕ
ticket_steps = 4

abbrev pub queue_steps : ℕ
queue_steps = 9

abbrev pub most_steps : {m : Machine} {s : Settings} {t : List ℕ} → LockRun m s t → ℕ
most_steps (ticket_run small first below) = ticket_steps
most_steps (queue_run below) = queue_steps

-- sweeps that suffice: one for each step that is no spin, and for each hold turn
abbrev pub enough : (steps : ℕ) → Settings → ℕ
enough steps s = sum (λ i. entry s.rounds i * (steps + entry s.hold i)) s.procs

-- ---- slips

-- the first in line is passed over: nobody holds, `first` waits before all others, and its next turn is taken, but is not its grant
pub record PassedOver (m : Machine) (s : Settings) (t : List ℕ) : Type 0 where
  pub nobody_holds : length (of grant (whole m s t).events) ≡ length (of release (whole m s t).events)
  pub first : ℕ
  pub behind : List ℕ
  pub in_line : of join (whole m s t).events ≡ of grant (whole m s t).events ++ first ∷ behind
  pub one_of_them : first < s.procs
  pub taken : (whole m s (t ++ first ∷ [])).taken ≡ suc (whole m s t).taken
  pub not_granted : (whole m s (t ++ first ∷ [])).events ≢ (whole m s t).events ++ event grant first ∷ []

-- the grants are not the first so many joins
abbrev pub OutOfOrder : List Event → Type 0
OutOfOrder es = ¬ (Prefix (of grant es) (of join es))

-- somebody has left the barrier more often than another has arrived
pub record Early (procs : ℕ) (es : List Event) : Type 0 where
  pub left : ℕ
  pub missing : ℕ
  pub two_of_them : (left < procs) × (missing < procs)
  pub before : times missing (of arrive es) < times left (of leave es)

-- the order freezes the wrong machine; with it, and the rest, the right one has done all passages
pub record Freezes (w : Slip) : Type 0 where
  pub frozen : Frozen w.wrong w.settings w.order
  pub heard : (whole w.wrong w.settings (w.order ++ w.rest)).events ≡ w.heard
  pub right : AllDone w.settings (whole w.right w.settings (w.order ++ w.rest))

-- ---- calls of run

-- run accepts the call
abbrev pub Accepts : Settings → List ℕ → List ℕ → List Record → Type 0
Accepts s t events table = (running s t events table).answer.number ≡ 0

-- the settings name a lock
abbrev pub NamesLock : Settings → Type 0
NamesLock s = (numbered s.algo).sort ≡ lock

-- the events of the run that the settings ask for
abbrev pub events_of : Settings → List ℕ → List Event
events_of s t = (whole (machine s.algo) s t).events

-- in each record the most remote references in any one passage are at most n
abbrev pub AtMost : ℕ → List Record → Type 0
AtMost n [] = Unit {0}
AtMost n (r ∷ l) = (r.most ≤ n) × AtMost n l

-- ---- refusals

-- 2 applies
abbrev pub Unknown : Settings → Type 0
Unknown s = (s.algo < 1) ⊎ (machines < s.algo)

-- 3 applies: a value outside its range, or an entry for a processor from P on that is not zero
pub data Outside (s : Settings) : Type 0 where
  procs_low : s.procs < 1 → Outside s
  procs_high : most_procs < s.procs → Outside s
  home_high : s.procs ≤ s.home → Outside s
  ticket_high : most_ticket < s.ticket → Outside s
  budget_high : most_budget < s.budget → Outside s
  rounds_high : (i : ℕ) → i < s.procs → most_rounds < entry s.rounds i → Outside s
  hold_high : (i : ℕ) → i < s.procs → most_hold < entry s.hold i → Outside s
  rounds_past : (i : ℕ) → s.procs ≤ i → entry s.rounds i ≢ 0 → Outside s
  hold_past : (i : ℕ) → s.procs ≤ i → entry s.hold i ≢ 0 → Outside s

-- 5 applies
abbrev pub TooMany : List ℕ → Type 0
TooMany t = most_turns < length t

-- 4 applies: a turn names a processor not below procs
pub record Stray (procs : ℕ) (t : List ℕ) : Type 0 where
  pub before : List ℕ
  pub who : ℕ
  pub behind : List ℕ
  pub is : t ≡ before ++ who ∷ behind
  pub not_below : procs ≤ who

-- the first of 2, 3, 5, 4, 6 that applies, or 0
pub data First (two three five four six : Type 0) : ℕ → Type 0 where
  gives_2 : two → First two three five four six 2
  gives_3 : ¬ two → three → First two three five four six 3
  gives_5 : ¬ two → ¬ three → five → First two three five four six 5
  gives_4 : ¬ two → ¬ three → ¬ five → four → First two three five four six 4
  gives_6 : ¬ two → ¬ three → ¬ five → ¬ four → six → First two three five four six 6
  gives_0 : ¬ two → ¬ three → ¬ five → ¬ four → ¬ six → First two three five four six 0

-- the settings record of zeros, number by number
abbrev pub all_zero : Settings
all_zero = record { algo = 0; procs = 0; home = 0; ticket = 0; budget = 0; rounds = replicate most_procs 0; hold = replicate most_procs 0 }

-- ---- refused numbers

abbrev pub Separator : ℕ → Type 0
Separator x = (x ≡ comma) ⊎ (x ≡ feed)

-- a file that read refuses at a number, once its separator has been read. What is refused in place of that number, whatever follows:
pub record Judged (bytes schedule : List ℕ) (number place : ℕ) : Type 0 where
  pub before : List ℕ
  pub value : ℕ
  pub separator : ℕ
  pub behind : List ℕ
  pub is : bytes ≡ before ++ (decimal value ++ separator ∷ behind)
  pub at_first_digit : place ≡ length before
  pub separates : Separator separator
  pub up_to_nine : value < 10 ^ 9
  -- a number of six to nine digits, with the same number at the same place
  pub too_big : (n : ℕ) (after : List ℕ) → 10 ^ 5 ≤ n → n < 10 ^ 9
      → reading (before ++ (decimal n ++ separator ∷ after)) schedule ≡ refused_read number place schedule
  -- a tenth digit, with 1 at its place
  pub tenth_digit : (n d : ℕ) (after : List ℕ) → 10 ^ 8 ≤ n → n < 10 ^ 9 → d < 10
      → reading (before ++ (decimal n ++ (48 + d) ∷ after)) schedule ≡ refused_read 1 (place + 9) schedule
  -- a digit after a leading zero, with 1 at its place
  pub leading_zero : (d : ℕ) (after : List ℕ) → d < 10 → reading (before ++ 48 ∷ (48 + d) ∷ after) schedule ≡ refused_read 1 (place + 1) schedule
  -- a number of up to nine digits that the file ends after, or that neither a digit nor a separator follows, with 1 at the end or that byte
  pub ends : (n : ℕ) → n < 10 ^ 9 → reading (before ++ decimal n) schedule ≡ refused_read 1 (place + length (decimal n)) schedule
  pub goes_wrong : (n x : ℕ) (after : List ℕ) → n < 10 ^ 9 → is_digit x ≡ false → ¬ (Separator x)
      → reading (before ++ (decimal n ++ x ∷ after)) schedule ≡ refused_read 1 (place + length (decimal n)) schedule

-- ---- files

-- the settings and the turns that read gave
abbrev pub settings_of : Reading → Settings
settings_of r = r.answer.settings

abbrev pub turns_of : Reading → List ℕ
turns_of r = take r.answer.count r.schedule

-- the file that write gave
abbrev pub file_of : Writing → List ℕ
file_of w = take w.answer.count w.out

-- ---- machines

abbrev pub line : List ℕ → ℕ → Sort → Machine → rules.Line
line name number sort machine = record { name = name; number = number; sort = sort; machine = machine }

-- ticket, mcs, central, dissem and tree: the name in bytes, the number, lock or barrier, and which machine it is
abbrev pub five_lines : List rules.Line
five_lines =
    line (116 ∷ 105 ∷ 99 ∷ 107 ∷ 101 ∷ 116 ∷ []) 1 lock ticket.machine
    ∷ line (109 ∷ 99 ∷ 115 ∷ []) 2 lock mcs.machine
    ∷ line (99 ∷ 101 ∷ 110 ∷ 116 ∷ 114 ∷ 97 ∷ 108 ∷ []) 3 barrier central.machine
    ∷ line (100 ∷ 105 ∷ 115 ∷ 115 ∷ 101 ∷ 109 ∷ []) 4 barrier dissem.machine
    ∷ line (116 ∷ 114 ∷ 101 ∷ 101 ∷ []) 5 barrier tree.machine
    ∷ []

-- the file begins with this text
abbrev pub BeginsWith : String → List ℕ → Type 0
BeginsWith text file = Prefix (bytes text) file

-- the file names a lock
abbrev pub LockFile : List ℕ → Type 0
LockFile file = BeginsWith "algo=ticket\n" file ⊎ BeginsWith "algo=mcs\n" file

-- no answer of read goes by a byte from this place on: the longest file with a comma for its last line feed, a number too many, its separator
abbrev pub farthest : ℕ
farthest = longest_file + most_digits + 1

-- a passage of the queue lock makes at most so many remote references
abbrev pub most_references : ℕ
most_references = 4

-- a passage that makes as many: processor 2 finds 1 in line before it, and 0 joins behind it while it leaves
abbrev pub three_boards : Settings
three_boards = record { algo = 2; procs = 3; home = 0; ticket = 0; budget = 16384; rounds = 1 ∷ 1 ∷ 1 ∷ []; hold = [] }

abbrev pub four_turns : List ℕ
four_turns = 1 ∷ 1 ∷ 2 ∷ 2 ∷ 2 ∷ 2 ∷ 1 ∷ 1 ∷ 2 ∷ 2 ∷ 0 ∷ 0 ∷ 2 ∷ 0 ∷ 0 ∷ 2 ∷ 2 ∷ []

-- the ticket lock's marked case: what each of its turns touches, as a bus trace shows it. Variable 0 is the request counter, 1 the release counter
abbrev pub two_boards : Settings
two_boards = record { algo = 1; procs = 2; home = 0; ticket = 65535; budget = 16384; rounds = 1 ∷ 1 ∷ []; hold = [] }

abbrev pub nine_turns : List ℕ
nine_turns = 0 ∷ 1 ∷ 1 ∷ 0 ∷ 0 ∷ 0 ∷ 1 ∷ 1 ∷ 1 ∷ []

abbrev pub nine_accesses : List (ℕ × Access)
nine_accesses =
    (0, atomics 0 0) ∷ (1, atomics 0 0) ∷ (1, reads 0 1) ∷ (0, reads 0 1) ∷ (0, reads 0 1) ∷ (0, writes 0 1) ∷ (1, reads 0 1) ∷ (1, reads 0 1) ∷ (1, writes 0 1) ∷ []

abbrev pub one_board : Settings
one_board = record { algo = 1; procs = 1; home = 0; ticket = 0; budget = 16384; rounds = 1 ∷ []; hold = 2 ∷ [] }

-- what processor i pays for a passage of the tree barrier: it tells its parent, if it has one, and wakes its children below procs
abbrev pub tree_price_of : (procs i : ℕ) → ℕ
tree_price_of procs i = pick (eqb i 0) 0 1 + pick (ltb (2 * i + 1) procs) 1 0 + pick (ltb (2 * i + 2) procs) 1 0

-- an episode of the tree barrier: 6 down to 0 arrive, 0 wakes 1 and 2, these wake the others
abbrev pub seven_boards : Settings
seven_boards =
    record { algo = 5; procs = 7; home = 0; ticket = 0; budget = 16384; rounds = 1 ∷ 1 ∷ 1 ∷ 1 ∷ 1 ∷ 1 ∷ 1 ∷ []; hold = [] }

abbrev pub seven_turns : List ℕ
seven_turns =
    6 ∷ 6 ∷ 5 ∷ 5 ∷ 4 ∷ 4 ∷ 3 ∷ 3 ∷ 2 ∷ 2 ∷ 1 ∷ 1 ∷ 1 ∷ 1 ∷ 0 ∷ 0 ∷ 0 ∷ 0 ∷ 0 ∷ 0 ∷ 0 ∷ 1 ∷ 1 ∷ 1 ∷ 2 ∷ 2 ∷ 2 ∷ 3 ∷ 4 ∷ 5 ∷ 6 ∷ []

-- ---- the statements

-- of any machine
pub record Beginnings : Type 1 where
  -- the run over t and u is the run over t, continued with u
  pub continued : (m : Machine) (s : Settings) (t u : List ℕ) → whole m s (t ++ u) ≡ play m s u (whole m s t)
  -- and has all that the run over t has
  pub contains : (m : Machine) (s : Settings) (t u : List ℕ) → Begins (whole m s t) (whole m s (t ++ u))
  -- of the turns t it takes as many with u as without
  pub taken : (m : Machine) (s : Settings) (t u : List ℕ) → (whole m s t).taken ≡ min (length t) (whole m s (t ++ u)).taken
  -- after a stop by the budget nothing more is taken
  pub stopped : (m : Machine) (s : Settings) (t u : List ℕ) → (whole m s t).stopped ≡ true → whole m s (t ++ u) ≡ whole m s t
  -- the total keeps to the budget; it is the number of remote accesses of the turns taken, and the sum of the processors' numbers
  pub budget : (m : Machine) (s : Settings) (t : List ℕ) → (whole m s t).tally.total ≤ s.budget
  pub counted : (m : Machine) (s : Settings) (t : List ℕ) → (whole m s t).tally.total ≡ remotes (accesses m s t (first m s))
  pub summed : (m : Machine) (s : Settings) (t : List ℕ) → all_below s.procs t ≡ true
      → sum (whole m s t).tally.far s.procs ≡ (whole m s t).tally.total
  -- the same by the turns taken, in which those accesses are made
  pub counted_turns : (m : Machine) (s : Settings) (t : List ℕ) → (whole m s t).tally.total ≡ remotes (accesses_of (turns_taken m s t (first m s)))
  pub made_in_turns : (m : Machine) (s : Settings) (t : List ℕ) → accesses m s t (first m s) ≡ accesses_of (turns_taken m s t (first m s))

-- the table of machines, whole; and what an accepted file names
pub record Machines : Type 1 where
  pub whole_table : table ≡ five_lines
  -- a number finds its line, and any other number none
  pub numbers : (numbered 1 ∷ numbered 2 ∷ numbered 3 ∷ numbered 4 ∷ numbered 5 ∷ []) ≡ table
  pub not_0 : known (numbered 0) ≡ false
  pub none_above : (n : ℕ) → 5 < n → known (numbered n) ≡ false
  -- an accepted file begins with the name of the machine that its settings say, and with no other machine's
  pub first_line : (file schedule : List ℕ)
      → (let r : Reading = reading file schedule in
      r.answer.number ≡ 0 → Prefix (bytes "algo=" ++ ((numbered (settings_of r).algo).name ++ feed ∷ [])) file)
  pub no_other_line : (file schedule : List ℕ) (n : ℕ)
      → (let r : Reading = reading file schedule in
      r.answer.number ≡ 0 → 1 ≤ n → n ≤ 5 → Prefix (bytes "algo=" ++ ((numbered n).name ++ feed ∷ [])) file → (settings_of r).algo ≡ n)
  -- so it names a lock where its first line is that of ticket or of mcs, and only there
  pub lock_file : (file schedule : List ℕ)
      → (let r : Reading = reading file schedule in r.answer.number ≡ 0 → LockFile file → NamesLock (settings_of r))
  pub lock_only : (file schedule : List ℕ)
      → (let r : Reading = reading file schedule in r.answer.number ≡ 0 → NamesLock (settings_of r) → LockFile file)

-- the numbers of each processor, by the turns of it that are taken
pub record Counting : Type 1 where
  pub numbers : (m : Machine) (s : Settings) (t : List ℕ) (i : ℕ) → Counts i (turns_of_one m s t i) (whole m s t)
  pub in_passages : (m : Machine) → Passes m → (s : Settings) (t : List ℕ) (i : ℕ) → CountsPassages i (turns_of_one m s t i) (whole m s t)
  -- so it is with every machine of the table
  pub passes : (algo : ℕ) → Passes (machine algo)

-- of any machine: rounds and hold turns
pub record Courses : Type 1 where
  -- nobody does more than its rounds
  pub rounds : (m : Machine) (s : Settings) (t : List ℕ) (i : ℕ) → (whole m s t).course.done i ≤ entry s.rounds i
  -- where a turn of i says a grant or a leave, the next `hold` turns of i are hold turns, whatever turns u come between, and the one after is none
  pub hold_turns : (m : Machine) (s : Settings) (t u : List ℕ) (i : ℕ)
      → GrantOrLeave (said i (says (next m s (whole m s t) i))) → (whole m s (t ++ i ∷ u)).stopped ≡ false
      → times i u < entry s.hold i → next m s (whole m s (t ++ i ∷ u)) i ≡ holds
  pub hold_over : (m : Machine) (s : Settings) (t u : List ℕ) (i : ℕ)
      → GrantOrLeave (said i (says (next m s (whole m s t) i))) → (whole m s (t ++ i ∷ u)).stopped ≡ false
      → times i u ≡ entry s.hold i → next m s (whole m s (t ++ i ∷ u)) i ≢ holds

-- who touches what in which manner: every step of every machine
pub record Traces : Type 0 where
  pub of_ticket : Touches ticket.machine (trial 1 2 65535 (1 ∷ 1 ∷ [])) ticket_trace
  pub of_mcs : Touches mcs.machine (trial 2 3 0 (1 ∷ 1 ∷ 1 ∷ [])) queue_trace
  pub of_central : Touches central.machine (trial 3 2 0 (1 ∷ 1 ∷ [])) central_trace
  pub of_dissem : Touches dissem.machine (trial 4 3 0 (2 ∷ 2 ∷ 2 ∷ [])) dissem_trace
  pub of_dissem_two : Touches dissem.machine (trial 4 2 0 (1 ∷ 1 ∷ [])) dissem_two
  pub of_dissem_alone : Touches dissem.machine (trial 4 1 0 (1 ∷ [])) dissem_alone
  pub of_tree : Touches tree.machine (trial 5 3 0 (1 ∷ 1 ∷ 1 ∷ [])) tree_trace

-- demand 3: for every lock run; and after every turn of an accepted call, and of an accepted file's schedule, that names a lock
pub record Line : Type 1 where
  pub locks : (m : Machine) (s : Settings) (t : List ℕ) → LockRun m s t → InLine m s t
  pub accepted : (s : Settings) (t u : List ℕ) (roomy : Bool) → refusal s (t ++ u) roomy ≡ 0 → (numbered s.algo).sort ≡ lock
      → InLine (machine s.algo) s t
  pub files : (bytes schedule : List ℕ)
      → (let r : Reading = reading bytes schedule in
      r.answer.number ≡ 0 → (numbered (settings_of r).algo).sort ≡ lock
      → (t u : List ℕ) → t ++ u ≡ turns_of r → InLine (machine (settings_of r).algo) (settings_of r) t)

-- demand 3 of calls of run
pub record Runs : Type 1 where
  -- an accepted call gives the run over its schedule, and every beginning of the schedule is accepted too
  pub gives : (s : Settings) (t events : List ℕ) (table : List Record) → Accepts s t events table
      → running s t events table ≡ accepted_run s (whole (machine s.algo) s t) events table
  pub beginning : (s : Settings) (t u events : List ℕ) (table : List Record) → Accepts s (t ++ u) events table → Accepts s t events table
  -- the events lie at the front of their row, each as its kind times 256 and its processor, and the P records at the front of the table; what lies past them stays
  pub run_events : (s : Settings) (t events : List ℕ) (table : List Record) → Accepts s t events table
      → (running s t events table).events ≡ map code (events_of s t) ++ drop (length (events_of s t)) events
  pub run_table : (s : Settings) (t events : List ℕ) (table : List Record) → Accepts s t events table
      → (running s t events table).table ≡ records (whole (machine s.algo) s t) s.procs 0 ++ drop s.procs table
  pub decoded : (e : Event) → e.who < 256 → (code e / 256 ≡ number e.kind) × (code e % 256 ≡ e.who)
  -- after every turn the run agrees with the waiting line
  pub run_line : (s : Settings) (t u events : List ℕ) (table : List Record) → Accepts s (t ++ u) events table → NamesLock s
      → InLine (machine s.algo) s t
  -- no record of the queue lock tells of a passage, finished or not, with more than four remote references
  pub run_four : (s : Settings) (t events : List ℕ) (table : List Record) → Accepts s t events table → s.algo ≡ 2
      → AtMost most_references (take s.procs (running s t events table).table)
  -- two calls, the joins of the one a beginning of the other's, never disagree on who comes next
  pub run_agree : (s w : Settings) (t u events events' : List ℕ) (table table' : List Record)
      → Accepts s t events table → NamesLock s → Accepts w u events' table' → NamesLock w
      → Prefix (of join (events_of s t)) (of join (events_of w u))
      → (k f g : ℕ) → ComesNext k f (events_of s t) → ComesNext k g (events_of w u) → f ≡ g

-- no lock freezes
pub record Going : Type 1 where
  -- a standstill lasts; so it does in each of the machines
  pub lasts : (m : Machine) → Steady m → (s : Settings) (t : List ℕ) → Standstill m s (whole m s t) → Frozen m s t
  pub steady : (algo : ℕ) → Steady (machine algo)
  -- after every turn of a lock run: where somebody has a passage left, somebody's next turn is neither a spin nor idle
  pub unstuck : (m : Machine) (s : Settings) (t : List ℕ) → LockRun m s t → (i : ℕ) → i < s.procs → (whole m s t).course.done i < entry s.rounds i
      → (j : ℕ) × (j < s.procs) × (waits (next m s (whole m s t) j) ≡ false)
  pub no_standstill : (m : Machine) (s : Settings) (t : List ℕ) → LockRun m s t → ¬ (Standstill m s (whole m s t))
  -- so from the state after any schedule all passages are done after enough sweeps, unless the budget stops the run
  pub finishes : (m : Machine) (s : Settings) (t u : List ℕ) (l : LockRun m s t) → Sweeps s.procs (enough (most_steps l) s) u
      → (whole m s (t ++ u)).stopped ≡ false → AllDone s (whole m s (t ++ u))
  -- and it never stops the queue lock where it has four references for each of all passages
  pub never_stopped : (s : Settings) (t : List ℕ) → all_below s.procs t ≡ true → most_references * sum (entry s.rounds) s.procs ≤ s.budget
      → (whole mcs.machine s t).stopped ≡ false
  -- with which the queue lock finishes, however many wait and however long
  pub queue_finishes : (s : Settings) (t u : List ℕ) → all_below s.procs t ≡ true → most_references * sum (entry s.rounds) s.procs ≤ s.budget
      → Sweeps s.procs (enough queue_steps s) u → AllDone s (whole mcs.machine s (t ++ u))
  -- the runs over every beginning of an accepted call's schedule, and of an accepted file's, that name a lock are lock runs
  pub of_calls : (s : Settings) (t u : List ℕ) (roomy : Bool) → refusal s (t ++ u) roomy ≡ 0 → NamesLock s → LockRun (machine s.algo) s t
  pub of_files : (bytes schedule : List ℕ)
      → (let r : Reading = reading bytes schedule in
      r.answer.number ≡ 0 → NamesLock (settings_of r)
      → (t u : List ℕ) → t ++ u ≡ turns_of r → LockRun (machine (settings_of r).algo) (settings_of r) t)

-- what a trial would have shown: document 01's slips, each by its order of turns
pub record Slips : Type 1 where
  -- who is passed over, or let in out of order, is not let in as demand 3 says
  pub passed_over : (m : Machine) (s : Settings) (t : List ℕ) → PassedOver m s t → ¬ (InLine m s t)
  pub out_of_order : (m : Machine) (s : Settings) (t : List ℕ) → OutOfOrder (whole m s t).events → ¬ (InLine m s t)
  -- 1 to 4 break demand 3 on the way
  pub one : PassedOver not_cleared slip1.settings (take 17 slip1.order) × Freezes slip1
  pub two : PassedOver linked_first slip2.settings (take 7 slip2.order) × Freezes slip2
  pub three : PassedOver forgotten slip3.settings (take 6 slip3.order) × Freezes slip3
  pub four : OutOfOrder (whole less_than slip4.settings (take 3 slip4.order)).events × Freezes slip4
  -- 5 in its first form, and 6, freeze though nobody has left early
  pub five_a : (¬ (Early 2 (whole toggled slip5a.settings slip5a.order).events)) × Freezes slip5a
  pub six : (¬ (Early 2 (whole reset_late slip6.settings slip6.order).events)) × Freezes slip6
  -- 5 in its second form: somebody leaves early; with the right barrier nobody does, and all passages can be done
  pub five_b : ((whole untoggled slip5b.settings (slip5b.order ++ slip5b.rest)).events ≡ slip5b.heard)
      × Early 2 (whole untoggled slip5b.settings slip5b.order).events
      × (¬ (Early 2 (whole dissem.machine slip5b.settings slip5b.order).events))
      × AllDone slip5b.settings (whole dissem.machine slip5b.settings (slip5b.order ++ slip5b.rest))

-- for all settings, schedules and lent buffers
pub record Refusals : Type 0 where
  pub write : (s : Settings) (t out : List ℕ)
      → First (Unknown s) (Outside s) (TooMany t) (Stray s.procs t) (length out < length (text s t)) (writing s t out).answer.number
  pub run : (s : Settings) (t events : List ℕ) (table : List Record)
      → First (Unknown s) (Outside s) (TooMany t) (Stray s.procs t) ((length table < s.procs) ⊎ (length events < 2 * length t))
      (running s t events table).answer.number
  -- a refusal answers zeros and leaves every lent buffer as it was
  pub write_leaves : (s : Settings) (t out : List ℕ) (n : ℕ)
      → (writing s t out).answer.number ≡ suc n → writing s t out ≡ record { answer = record { number = suc n; count = 0 }; out = out }
  pub run_leaves : (s : Settings) (t events : List ℕ) (table : List Record) (n : ℕ)
      → (running s t events table).answer.number ≡ suc n
      → running s t events table
      ≡ record { answer = record { number = suc n; turns = 0; stop = 0; events = 0; total = 0 }; events = events; table = table }
  pub read_leaves : (bytes schedule : List ℕ) (n : ℕ)
      → (let r : Reading = reading bytes schedule in
      r.answer.number ≡ suc n
      → r ≡ record { answer = record { number = suc n; place = r.answer.place; settings = no_settings; count = 0 }; schedule = schedule })
  -- and this settings record is zeros, number by number
  pub read_leaves_zero : (bytes schedule : List ℕ) (n : ℕ)
      → (let r : Reading = reading bytes schedule in
      r.answer.number ≡ suc n
      → r ≡ record { answer = record { number = suc n; place = r.answer.place; settings = all_zero; count = 0 }; schedule = schedule })

-- one turn more at the end of an accepted file: a comma in place of the last line feed, where there are turns, a number of up to nine digits, its separator
pub record OneMore : Type 0 where
  -- where the count is passed it is 5, whatever the number
  pub too_many : (l after schedule : List ℕ) (n x : ℕ)
      → (let r : Reading = reading (l ++ feed ∷ []) schedule in
      r.answer.number ≡ 0 → r.answer.count ≡ most_turns → n < 10 ^ 9 → Separator x
      → reading (l ++ comma ∷ (decimal n ++ x ∷ after)) schedule ≡ refused_read 5 (length l + 1) schedule)
  -- otherwise, where the number is not below procs, it is 4
  pub stray : (l after schedule : List ℕ) (n x : ℕ)
      → (let r : Reading = reading (l ++ feed ∷ []) schedule in
      r.answer.number ≡ 0 → 0 < r.answer.count → r.answer.count < most_turns → (settings_of r).procs ≤ n → n < 10 ^ 9 → Separator x
      → reading (l ++ comma ∷ (decimal n ++ x ∷ after)) schedule ≡ refused_read 4 (length l + 1) schedule)
  pub stray_first : (l after schedule : List ℕ) (n x : ℕ)
      → (let r : Reading = reading (l ++ feed ∷ []) schedule in
      r.answer.number ≡ 0 → r.answer.count ≡ 0 → (settings_of r).procs ≤ n → n < 10 ^ 9 → Separator x
      → reading (l ++ (decimal n ++ x ∷ after)) schedule ≡ refused_read 4 (length l) schedule)

-- all but the last line feed of an accepted file without turns: it ends in `turns=`
abbrev pub UpToTurns : List ℕ → Type 0
UpToTurns l = ((reading (l ++ feed ∷ []) []).answer.number ≡ 0) × ((reading (l ++ feed ∷ []) []).answer.count ≡ 0)

-- 4 and 5 are of the turns, and 3 is of what comes before
pub record Sides : Type 0 where
  pub three : (bytes schedule : List ℕ) (place : ℕ) → reading bytes schedule ≡ refused_read 3 place schedule
      → (l : List ℕ) → UpToTurns l → ¬ (Prefix l bytes)
  pub four_five : (bytes schedule : List ℕ) (number place : ℕ) → 4 ≤ number → number ≤ 5 → reading bytes schedule ≡ refused_read number place schedule
      → (l : List ℕ) × UpToTurns l × Prefix l bytes

pub record Longest : Type 0 where
  pub at_most : (bytes schedule : List ℕ) → (reading bytes schedule).answer.number ≡ 0 → length bytes ≤ longest_file
  -- no answer of read, and no number that it leaves in the schedule, goes by a byte from `farthest` on
  pub cut : (bytes more schedule : List ℕ) → farthest ≤ length bytes → reading (bytes ++ more) schedule ≡ reading bytes schedule
  pub in_buffer : farthest < 65536

-- the bounds are reached
pub record Reached : Type 0 where
  pub four : (whole mcs.machine three_boards four_turns).tally.most 2 ≡ most_references
  -- an episode of the tree barrier: all seven have done their one passage, for 2 * 7 - 2 remote references in all
  pub episode : (let r : Run tree.State = whole tree.machine seven_boards seven_turns in (sum r.course.done 7 ≡ 7) × (r.tally.total ≡ 12))
  -- one sweep fewer than enough does not finish: one board with the ticket lock, one passage, two hold turns
  pub sweeps : (enough ticket_steps one_board ≡ 6) × Sweeps 1 5 (replicate 5 0) × ((whole ticket.machine one_board (replicate 5 0)).course.done 0 ≡ 0)
  pub longest : (bytes : List ℕ) × (length bytes ≡ longest_file) × ((reading bytes (replicate most_turns 0)).answer.number ≡ 0)
  -- the last byte that read goes by
  pub last_byte : (bytes : List ℕ) × (length (bytes ++ feed ∷ []) ≡ farthest)
      × (reading (bytes ++ feed ∷ []) (replicate most_turns 0) ≢ reading bytes (replicate most_turns 0))

-- the tree barrier, with any number of processors. Processor i is in no passage where its next step is step 1
pub record TreePrice : Type 0 where
  -- the turn that finishes a passage leaves exactly so many remote references counted for it
  pub finished : (s : Settings) (t : List ℕ) (i : ℕ)
      → (whole tree.machine s (t ++ i ∷ [])).course.done i ≡ suc ((whole tree.machine s t).course.done i)
      → (whole tree.machine s (t ++ i ∷ [])).tally.here i ≡ tree_price_of s.procs i
  -- and so many of the accesses made in it are remote
  pub made : (s : Settings) (t : List ℕ) (i : ℕ)
      → (whole tree.machine s (t ++ i ∷ [])).course.done i ≡ suc ((whole tree.machine s t).course.done i)
      → last_of 0 (prices (passages (turns_of_one tree.machine s (t ++ i ∷ []) i))) ≡ tree_price_of s.procs i
  -- no passage, finished or not, makes more; and once one is finished the most is exactly this
  pub at_most : (s : Settings) (t : List ℕ) (i : ℕ) → (whole tree.machine s t).tally.most i ≤ tree_price_of s.procs i
  pub most : (s : Settings) (t : List ℕ) (i : ℕ) → 0 < (whole tree.machine s t).course.done i
      → (whole tree.machine s t).tally.most i ≡ tree_price_of s.procs i
  -- after every turn: the remote references of i are those of its finished passages, and of the one that it is in
  pub references : (s : Settings) (t : List ℕ) (i : ℕ)
      → (let r : Run tree.State = whole tree.machine s t in
      r.tally.far i ≡ r.course.done i * tree_price_of s.procs i + pick (eqb (r.course.at i) 1) 0 (r.tally.here i))
  -- an episode costs 2 P - 2: where everybody has finished n passages and is in no other, the total is n times that
  pub episodes : (s : Settings) (t : List ℕ) (n : ℕ) → all_below s.procs t ≡ true
      → (let r : Run tree.State = whole tree.machine s t in
      ((i : ℕ) → i < s.procs → (r.course.done i ≡ n) × (r.course.at i ≡ 1)) → r.tally.total ≡ n * (2 * s.procs - 2))

-- R doublings of 1 reach P, and no fewer do
pub record Doublings : Type 0 where
  pub reach : (p : ℕ) → p ≤ 2 ^ doublings p
  pub least : (p k : ℕ) → p ≤ 2 ^ k → doublings p ≤ k

pub record Laws : Type 1 where
  -- the eleven cases that document 01 marks
  pub cases : All cases
  -- cases of document 01 that it does not mark, worked out by hand
  pub worked : All worked
  -- cases of document 02's requests, worked out by hand
  pub requested : All requested
  -- more of both; and values at the ends of their ranges, and bytes that cannot follow
  pub worked_more : AllLong worked_more
  pub requested_more : AllLong requested_more
  pub borders : AllLong borders
  pub machines : Machines
  pub beginnings : Beginnings
  pub counting : Counting
  pub courses : Courses
  pub line : Line
  -- the ticket lock's counters are at most P apart
  pub distance : (s : Settings) (t : List ℕ) → s.procs ≤ most_ticket + 1 → s.ticket ≤ most_ticket → all_below s.procs t ≡ true
      → Within s.procs (whole ticket.machine s t).memory
  -- and count the joins and the releases
  pub counters : (s : Settings) (t : List ℕ) → s.procs ≤ most_ticket + 1 → s.ticket ≤ most_ticket → all_below s.procs t ≡ true
      → Counters s.ticket (whole ticket.machine s t)
  -- who touches what in which manner, in the ticket lock's marked case
  pub trace : accesses ticket.machine two_boards nine_turns (first ticket.machine two_boards) ≡ nine_accesses
  pub traces : Traces
  -- two lock runs, the joins of the one a beginning of the other's, never disagree on who comes next
  pub agree : (m n : Machine) (s w : Settings) (t u : List ℕ) → LockRun m s t → LockRun n w u
      → Prefix (of join (whole m s t).events) (of join (whole n w u).events)
      → (k f g : ℕ) → ComesNext k f (whole m s t).events → ComesNext k g (whole n w u).events → f ≡ g
  -- in the queue lock no passage, finished or not, makes more than four remote references
  pub four : (s : Settings) (t : List ℕ) (i : ℕ) → (whole mcs.machine s t).tally.most i ≤ most_references
  -- and so it is with the accesses themselves
  pub four_made : (s : Settings) (t : List ℕ) (i : ℕ) → NoneAbove most_references (prices (passages (turns_of_one mcs.machine s t i)))
  pub tree_price : TreePrice
  pub runs : Runs
  pub going : Going
  pub slips : Slips
  pub refusals : Refusals
  -- read gives 3, 4 and 5 at a number that it has read to its separator; one of six to nine digits in its place is refused alike
  pub judged : (bytes schedule : List ℕ) (number place : ℕ) → 3 ≤ number → number ≤ 5
      → reading bytes schedule ≡ refused_read number place schedule → Judged bytes schedule number place
  -- read's 4 and 5, at the end of an accepted file
  pub one_more : OneMore
  pub sides : Sides
  -- what read accepted, write gives back byte for byte where it has room
  pub read_write : (bytes schedule out : List ℕ)
      → (let r : Reading = reading bytes schedule in
      r.answer.number ≡ 0 → length bytes ≤ length out
      → writing (settings_of r) (turns_of r) out ≡ record { answer = record { number = 0; count = length bytes }; out = calls.over bytes out })
  -- what write accepted, read gives back, settings and schedule
  pub write_read : (s : Settings) (t out schedule : List ℕ)
      → length s.rounds ≡ most_procs → length s.hold ≡ most_procs
      → (let w : Writing = writing s t out in
      w.answer.number ≡ 0 → length t ≤ length schedule
      → reading (file_of w) schedule ≡ record { answer = record { number = 0; place = 0; settings = s; count = length t }; schedule = calls.over t schedule })
  -- in both, what lies past the written part stays
  pub read_write_kept : (bytes schedule out : List ℕ)
      → (let r : Reading = reading bytes schedule in
      r.answer.number ≡ 0 → length bytes ≤ length out
      → writing (settings_of r) (turns_of r) out ≡ record { answer = record { number = 0; count = length bytes }; out = bytes ++ drop (length bytes) out })
  pub write_read_kept : (s : Settings) (t out schedule : List ℕ)
      → length s.rounds ≡ most_procs → length s.hold ≡ most_procs
      → (let w : Writing = writing s t out in
      w.answer.number ≡ 0 → length t ≤ length schedule
      → reading (file_of w) schedule ≡ record { answer = record { number = 0; place = 0; settings = s; count = length t }; schedule = t ++ drop (length t) schedule })
  -- what read accepted, run accepts where it has room
  pub read_run : (bytes schedule events : List ℕ) (table : List Record)
      → (let r : Reading = reading bytes schedule in
      r.answer.number ≡ 0 → (settings_of r).procs ≤ length table → 2 * r.answer.count ≤ length events
      → Accepts (settings_of r) (turns_of r) events table)
  pub longest : Longest
  pub reached : Reached
  pub doublings : Doublings
