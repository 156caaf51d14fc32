-- What the turns of a run touch, as a bus trace shows it: of each turn whose it is and its access, worked out by hand. Every step of every machine is among them,
-- with each way that it can go.
use Rattle.std.specs.Prelude.{ℕ, List, [], ◌∷◌}
use Rattle.rules.specs.Settings.{Settings}
use Rattle.rules.specs.Step.{Access, none, reads, writes, atomics}

-- home is not processor 0; one hold turn for processor 0
abbrev pub trial : (algo procs ticket : ℕ) → List ℕ → Settings
trial algo procs ticket rounds = record { algo = algo; procs = procs; home = 1; ticket = ticket; budget = 16384; rounds = rounds; hold = 1 ∷ [] }

-- ticket: variable 0 of home is the request counter, 1 the release counter. 0 is granted while 1 spins; it holds, reads and writes the release counter, and 1 follows;
-- then 0 is idle
abbrev pub ticket_trace : List (ℕ × Access)
ticket_trace =
    (0, atomics 1 0) ∷ (1, atomics 1 0) ∷ (1, reads 1 1) ∷ (0, reads 1 1) ∷ (0, none) ∷ (0, reads 1 1) ∷ (0, writes 1 1) ∷ (1, reads 1 1) ∷ (1, reads 1 1) ∷ (1, writes 1 1)
    ∷ (0, none) ∷ []

-- mcs: variable 0 of home is the tail; next and locked are variables 1 and 2 of their processor. 0 finds the tail nil; 1 joins behind it, links itself and spins; 0 holds, finds 1 and wakes it;
-- 1 finds nobody, but 2 has joined when it swaps; it spins until 2 has linked itself, and wakes it; 2 finds nobody and swaps the tail to nil; 0 is idle
abbrev pub queue_trace : List (ℕ × Access)
queue_trace =
    (0, writes 0 1) ∷ (0, atomics 1 0) ∷ (1, writes 1 1) ∷ (1, atomics 1 0) ∷ (1, writes 1 2) ∷ (1, writes 0 1) ∷ (1, reads 1 2) ∷ (0, none) ∷ (0, reads 0 1) ∷ (0, writes 1 2)
    ∷ (1, reads 1 2) ∷ (1, reads 1 1) ∷ (2, writes 2 1) ∷ (2, atomics 1 0) ∷ (1, atomics 1 0) ∷ (1, reads 1 1) ∷ (2, writes 2 2) ∷ (2, writes 1 1) ∷ (1, reads 1 1) ∷ (1, writes 2 2)
    ∷ (2, reads 2 2) ∷ (2, reads 2 1) ∷ (2, atomics 1 0) ∷ (0, none) ∷ []

-- central: variable 0 of home is the count, 1 the sense. 0 arrives and spins; 1 arrives last, writes the count and the sense; 0 leaves and holds
abbrev pub central_trace : List (ℕ × Access)
central_trace = (0, atomics 1 0) ∷ (0, reads 1 1) ∷ (1, atomics 1 0) ∷ (1, writes 1 0) ∷ (1, writes 1 1) ∷ (0, reads 1 1) ∷ (0, none) ∷ (1, none) ∷ []

-- dissem: a flag is variable 2 k + parity of its processor. Three processors meet twice, with parity 0 and with parity 1. The first to come, 0 and then 1, spins, and has left
-- before the last to come writes in round 1, for which another spins; the first time it has not read in round 0 before. 0 has a hold turn in between
abbrev pub dissem_trace : List (ℕ × Access)
dissem_trace =
    (0, writes 1 0) ∷ (0, reads 0 0) ∷ (1, writes 2 0) ∷ (2, writes 0 0) ∷ (0, reads 0 0) ∷ (1, reads 1 0)
    ∷ (0, writes 2 2) ∷ (1, writes 0 2) ∷ (0, reads 0 2) ∷ (1, reads 1 2) ∷ (2, reads 2 0) ∷ (2, writes 1 2) ∷ (1, reads 1 2) ∷ (2, reads 2 2)
    ∷ (1, writes 2 1) ∷ (1, reads 1 1) ∷ (2, writes 0 1) ∷ (0, none) ∷ (0, writes 1 1) ∷ (1, reads 1 1) ∷ (2, reads 2 1) ∷ (0, reads 0 1)
    ∷ (1, writes 0 3) ∷ (2, writes 1 3) ∷ (1, reads 1 3) ∷ (2, reads 2 3) ∷ (0, writes 2 3) ∷ (2, reads 2 3) ∷ (0, reads 0 3) ∷ []

-- two processors, one round; and one alone
abbrev pub dissem_two : List (ℕ × Access)
dissem_two = (0, writes 1 0) ∷ (1, writes 0 0) ∷ (1, reads 1 0) ∷ (0, reads 0 0) ∷ []

abbrev pub dissem_alone : List (ℕ × Access)
dissem_alone = (0, none) ∷ []

-- tree: variable 0 of each processor is the flags of its children, 1 the sense that wakes it. 0 looks for 1 and spins; 1 and 2 set up their flags, tell 0, and 1 spins; 0 finds both flags
-- clear, sets them up again, wakes 1 and 2, and leaves; these leave
abbrev pub tree_trace : List (ℕ × Access)
tree_trace =
    (0, reads 0 0) ∷ (1, writes 1 0) ∷ (1, writes 0 0) ∷ (2, writes 2 0) ∷ (2, writes 0 0) ∷ (1, reads 1 1) ∷ (0, reads 0 0) ∷ (0, reads 0 0) ∷ (0, writes 0 0)
    ∷ (0, writes 1 1) ∷ (0, writes 2 1) ∷ (0, none) ∷ (1, reads 1 1) ∷ (2, reads 2 1) ∷ []
