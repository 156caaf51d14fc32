-- The eleven cases that document 01 marks, as one list, the ticket lock's as document 02 has it; cases of document 01 that it does not mark, as another;
-- and cases of document 02's requests. Beside these more of the last two, and document 01's borders. proofs/Cases has the proofs.
use Rattle.std.specs.Prelude.{ℕ, ◌≡◌, List, [], ◌∷◌, ◌++◌, map, eqb, take, replicate}
use Prim.Native.String.{String}
use Rattle.rules.specs.Memory.{pick}
use Rattle.rules.specs.Settings.{Settings}
use Rattle.rules.specs.Step.{remote}
use Rattle.rules.specs.Dissem.{doublings}
use Rattle.rules.specs.Machines.{bytes}
use Rattle.rules.specs.File.{turns}
use Rattle.rules.specs.Calls.{reading, Record, running}

-- what the program shows of a file: its lines turns, stop and remote, the p lines, the events; or refused and place
pub data Shown : Type 0 where
  shows : (turns stop remote : ℕ) → List Record → List ℕ → Shown
  refused : (number place : ℕ) → Shown

abbrev pub p : (done remote most spins idle : ℕ) → Record
p done remote most spins idle = record { done = done; remote = remote; most = most; spins = spins; idle = idle }

-- the lent buffers, long enough for these cases
abbrev pub played : Settings → List ℕ → Shown
played s ts =
    let r = running s ts (replicate 80 0) (replicate 8 (p 0 0 0 0 0)) in
    shows r.answer.turns r.answer.stop r.answer.total (take s.procs r.table) (take r.answer.events r.events)

abbrev pub shown : List ℕ → Shown
shown f =
    let r = reading f (replicate 40 0) in
    pick (eqb r.answer.number 0)
    (played r.answer.settings (take r.answer.count r.schedule))
    (refused r.answer.number r.answer.place)

-- a case: a file and what is shown of it, or numbers P and R for each
pub data Case : Type 0 where
  gives : List ℕ → Shown → Case
  doubles : List ℕ → List ℕ → Case

abbrev pub Holds : Case → Type 0
Holds (gives f o) = shown f ≡ o
Holds (doubles ps rs) = map doublings ps ≡ rs

abbrev pub All : List Case → Type 0
All [] = Unit {0}
All (c ∷ l) = Holds c × All l

-- the same with longer buffers, for cases of more processors, turns or events
abbrev pub played_long : Settings → List ℕ → Shown
played_long s ts =
    let r = running s ts (replicate 600 0) (replicate 22 (p 0 0 0 0 0)) in
    shows r.answer.turns r.answer.stop r.answer.total (take s.procs r.table) (take r.answer.events r.events)

abbrev pub shown_long : List ℕ → Shown
shown_long f =
    let r = reading f (replicate 300 0) in
    pick (eqb r.answer.number 0)
    (played_long r.answer.settings (take r.answer.count r.schedule))
    (refused r.answer.number r.answer.place)

abbrev pub HoldsLong : Case → Type 0
HoldsLong (gives f o) = shown_long f ≡ o
HoldsLong (doubles ps rs) = map doublings ps ≡ rs

abbrev pub AllLong : List Case → Type 0
AllLong [] = Unit {0}
AllLong (c ∷ l) = HoldsLong c × AllLong l

-- input A, with this name, ticket, budget and turns
abbrev pub input_a : (algo ticket budget turns : String) → List ℕ
input_a algo ticket budget turns =
    bytes "algo=" ++ bytes algo ++ bytes "\nprocs=2\nhome=0\nticket=" ++ bytes ticket ++ bytes "\nbudget=" ++ bytes budget
    ++ bytes "\np0=1,0\np1=1,0\nturns=" ++ bytes turns ++ bytes "\n"

unfoldable pub cases : List Case
cases =
    gives (input_a "mcs" "0" "16384" "0,0,1,1,0,0,0,1,1,1,0,0,1,1,1,0")
    (shows 16 0 4 (p 1 1 1 1 1 ∷ p 1 3 3 1 0 ∷ []) (256 ∷ 512 ∷ 257 ∷ 768 ∷ 513 ∷ 769 ∷ []))
    ∷ gives (input_a "mcs" "0" "2" "0,0,1,1,0,0,0,1,1,1,0,0,1,1,1,0")
    (shows 11 1 2 (p 0 0 0 1 0 ∷ p 0 2 2 1 0 ∷ []) (256 ∷ 512 ∷ 257 ∷ []))
    ∷ gives (input_a "ticket" "65535" "16384" "0,1,1,0,0,0,1,1,1")
    (shows 9 0 5 (p 1 0 0 0 0 ∷ p 1 5 5 1 0 ∷ []) (256 ∷ 257 ∷ 512 ∷ 768 ∷ 513 ∷ 769 ∷ []))
    ∷ gives (input_a "dissem" "0" "16384" "0,0,1,1,0")
    (shows 5 0 2 (p 1 1 1 1 0 ∷ p 1 1 1 0 0 ∷ []) (1024 ∷ 1025 ∷ 1281 ∷ 1280 ∷ []))
    ∷ gives (bytes "algo=central\nprocs=1\nhome=0\nticket=0\nbudget=16384\np0=1,0\nturns=0,0,0\n")
    (shows 3 0 0 (p 1 0 0 0 0 ∷ []) (1024 ∷ 1280 ∷ []))
    ∷ doubles (1 ∷ 2 ∷ 3 ∷ 4 ∷ 5 ∷ 64 ∷ []) (0 ∷ 1 ∷ 2 ∷ 2 ∷ 3 ∷ 6 ∷ [])
    ∷ gives [] (refused 1 0)
    ∷ gives (bytes "algo=" ++ 181 ∷ []) (refused 1 5)
    ∷ gives (bytes "algo=mcz\n") (refused 2 5)
    ∷ gives (bytes "algo=mcs\nprocs=07\n") (refused 1 16)
    ∷ gives (bytes "algo=mcs\nprocs=2\nhome=2\n") (refused 3 22)
    ∷ []

-- ---- cases of document 01 that it does not mark, worked out by hand

-- the central barrier: three processors meet twice, and the last to arrive is the home; two do, and once it is not. The dissemination barrier: one processor
-- alone, with hold turns; three that have met, and one comes again and finds no flag of the other parity set; two that have met twice, and one comes again
-- and finds the flag as it was the first time. The queue lock: each way to release
unfoldable pub worked : List Case
worked =
    gives (bytes "algo=central\nprocs=3\nhome=2\nticket=0\nbudget=16384\np0=2,0\np1=2,1\np2=2,2\nturns=0,0,1,2,1,2,0,2,0,0,0,1,1,1,2,2,2,2,2,1,0,0,1,1,2,2,2,2\n")
    (shows 28 0 12 (p 2 7 4 3 1 ∷ p 2 5 3 1 1 ∷ p 2 0 0 0 2 ∷ []) (1024 ∷ 1025 ∷ 1026 ∷ 1282 ∷ 1280 ∷ 1024 ∷ 1281 ∷ 1025 ∷ 1026 ∷ 1282 ∷ 1281 ∷ 1280 ∷ []))
    ∷ gives (bytes "algo=central\nprocs=2\nhome=0\nticket=0\nbudget=16384\np0=2,0\np1=2,0\nturns=0,1,1,0,0,1,1,0,0,0,0,1\n")
    (shows 12 0 5 (p 2 0 0 2 0 ∷ p 2 5 3 0 0 ∷ []) (1024 ∷ 1025 ∷ 1281 ∷ 1025 ∷ 1280 ∷ 1024 ∷ 1280 ∷ 1281 ∷ []))
    ∷ gives (bytes "algo=dissem\nprocs=1\nhome=0\nticket=0\nbudget=0\np0=2,1\nturns=0,0,0,0,0,0\n")
    (shows 6 0 0 (p 2 0 0 0 2 ∷ []) (1024 ∷ 1280 ∷ 1024 ∷ 1280 ∷ []))
    ∷ gives (bytes "algo=dissem\nprocs=3\nhome=0\nticket=0\nbudget=16384\np0=2,0\np1=2,0\np2=2,0\nturns=0,1,2,0,1,2,0,1,2,0,1,2,1,1\n")
    (shows 14 0 7 (p 1 2 2 0 0 ∷ p 1 3 2 1 0 ∷ p 1 2 2 0 0 ∷ []) (1024 ∷ 1025 ∷ 1026 ∷ 1280 ∷ 1281 ∷ 1282 ∷ 1025 ∷ []))
    ∷ gives (bytes "algo=dissem\nprocs=2\nhome=0\nticket=0\nbudget=16384\np0=3,0\np1=3,0\nturns=0,1,0,1,0,1,0,1,0,0\n")
    (shows 10 0 5 (p 2 3 1 1 0 ∷ p 2 2 1 0 0 ∷ []) (1024 ∷ 1025 ∷ 1280 ∷ 1281 ∷ 1024 ∷ 1025 ∷ 1280 ∷ 1281 ∷ 1024 ∷ []))
    ∷ gives (bytes "algo=mcs\nprocs=2\nhome=1\nticket=0\nbudget=16384\np0=3,1\np1=2,0\nturns=0,0,0,0,0,0,0,1,1,1,1,1,0,0,0,1,0,1,0,1,1,0,0,0,1,1,0,0,1,0,0,1,1,1,1,0,0\n")
    (shows 37 0 9 (p 3 7 3 1 2 ∷ p 2 2 2 2 1 ∷ []) (256 ∷ 512 ∷ 768 ∷ 256 ∷ 512 ∷ 257 ∷ 768 ∷ 513 ∷ 256 ∷ 769 ∷ 512 ∷ 768 ∷ 257 ∷ 513 ∷ 769 ∷ []))
    ∷ []

-- the dissemination barrier: three meet three times, each time another comes first, looks too early in both rounds and has left before the last tells in round 1;
-- then 0 tells and looks too early, 1 and 2 go as far as they can, and look again. Nine do this after they have met once, all in step; and after they have met three times, where in
-- each round another looks too early. The queue lock: processors 10 and 11 of twelve pass, and home is 10.
-- The dissemination barrier: two have met four times, and one comes again and finds the flag as it was the third time.
-- The ticket lock: one that has no passages is idle while the other is in its own. The queue lock: five in line at once, who
-- join, link themselves and look while others do, and one comes again
unfoldable pub worked_more : List Case
worked_more =
    gives (bytes "algo=dissem\nprocs=3\nhome=0\nticket=0\nbudget=16384\np0=4,0\np1=4,0\np2=4,0\nturns=1,1,2,0,1,2,0,1,1,2,1,0,2,0,0,0,1,2,0,1,2,0,0,1,0,2,1,2,2,2,0,1,2,0,1,2,2,0,2,1,0,1,0,0,1,2,1,2,1,2,1,2,0,2\n")
    (shows 54 0 23 (p 3 7 2 3 0 ∷ p 4 8 2 2 0 ∷ p 3 8 2 4 0 ∷ [])
    (1025 ∷ 1026 ∷ 1024 ∷ 1281 ∷ 1282 ∷ 1280 ∷ 1024 ∷ 1025 ∷ 1026 ∷ 1280 ∷ 1281 ∷ 1282 ∷ 1026 ∷ 1024 ∷ 1025 ∷ 1282 ∷ 1280 ∷ 1281 ∷ 1024 ∷ 1025 ∷ 1026 ∷ 1281 ∷ []))
    ∷ gives (bytes "algo=dissem\nprocs=9\nhome=0\nticket=0\nbudget=16384\np0=2,0\np1=2,0\np2=2,0\np3=2,0\np4=2,0\np5=2,0\np6=2,0\np7=2,0\np8=2,0\nturns=0,1,2,3,4,5,6,7,8,0,1,2,3,4,5,6,7,8,0,1,2,3,4,5,6,7,8,0,1,2,3,4,5,6,7,8,0,1,2,3,4,5,6,7,8,0,1,2,3,4,5,6,7,8,0,1,2,3,4,5,6,7,8,0,1,2,3,4,5,6,7,8,0,0,1,2,3,4,5,6,7,8,1,2,3,4,5,6,7,8,1,2,3,4,5,6,7,8,1,2,3,4,5,6,7,8,1,3,4,5,6,7,8,1,3,4,5,6,7,8,1,3,5,7,8,1,3,5,7,8,0,2,4,6,1,3,5,8\n")
    (shows 138 0 65 (p 1 5 4 1 0 ∷ p 1 8 4 2 0 ∷ p 1 6 4 2 0 ∷ p 1 8 4 2 0 ∷ p 1 7 4 2 0 ∷ p 1 8 4 2 0 ∷ p 1 7 4 2 0 ∷ p 2 8 4 0 0 ∷ p 1 8 4 2 0 ∷ [])
    (1024 ∷ 1025 ∷ 1026 ∷ 1027 ∷ 1028 ∷ 1029 ∷ 1030 ∷ 1031 ∷ 1032 ∷ 1280 ∷ 1281 ∷ 1282 ∷ 1283 ∷ 1284 ∷ 1285 ∷ 1286 ∷ 1287 ∷ 1288 ∷ 1024 ∷ 1025 ∷ 1026 ∷ 1027 ∷ 1028 ∷ 1029 ∷ 1030 ∷ 1031 ∷ 1032 ∷ 1287 ∷ []))
    ∷ gives (bytes "algo=dissem\nprocs=9\nhome=0\nticket=0\nbudget=16384\np0=4,0\np1=4,0\np2=4,0\np3=4,0\np4=4,0\np5=4,0\np6=4,0\np7=4,0\np8=4,0\nturns=0,0,1,2,3,4,5,6,7,8,0,1,2,3,4,5,6,7,8,1,1,0,2,3,4,5,6,7,8,0,1,2,3,4,5,6,7,8,2,2,0,1,3,4,5,6,7,8,0,1,2,3,4,5,6,7,8,3,3,0,1,2,4,5,6,7,8,0,1,2,3,4,5,6,7,8,4,4,0,1,2,3,5,6,7,8,0,1,2,3,4,5,6,7,8,5,5,0,1,2,3,4,6,7,8,0,1,2,3,4,5,6,7,8,6,6,0,1,2,3,4,5,7,8,0,1,2,3,4,5,6,7,8,7,7,0,1,2,3,4,5,6,8,0,1,2,3,4,5,6,7,8,8,8,0,1,2,3,4,5,6,7,0,1,2,3,4,5,6,7,8,0,0,1,2,3,4,5,6,7,8,0,1,2,3,4,5,6,7,8,1,1,0,2,3,4,5,6,7,8,0,1,2,3,4,5,6,7,8,2,2,0,1,3,4,5,6,7,8,0,1,2,3,4,5,6,7,8,0,0,1,2,3,4,5,6,7,8,1,2,3,4,5,6,7,8,1,2,3,4,5,6,7,8,1,2,3,4,5,6,7,8,1,3,4,5,6,7,8,1,3,4,5,6,7,8,1,3,5,7,8,1,3,5,7,8,0,2,4,6,1,3,5,8\n")
    (shows 294 0 137 (p 3 13 4 3 0 ∷ p 3 16 4 4 0 ∷ p 3 14 4 4 0 ∷ p 3 16 4 3 0 ∷ p 3 15 4 3 0 ∷ p 3 16 4 3 0 ∷ p 3 15 4 3 0 ∷ p 4 16 4 1 0 ∷ p 3 16 4 3 0 ∷ [])
    (1024 ∷ 1025 ∷ 1026 ∷ 1027 ∷ 1028 ∷ 1029 ∷ 1030 ∷ 1031 ∷ 1032 ∷ 1280 ∷ 1281 ∷ 1282 ∷ 1283 ∷ 1284 ∷ 1285 ∷ 1286 ∷ 1287 ∷ 1288 ∷ 1028 ∷ 1024 ∷ 1025 ∷ 1026 ∷ 1027 ∷ 1029 ∷ 1030 ∷ 1031 ∷ 1032 ∷ 1280 ∷ 1281 ∷ 1282 ∷ 1283 ∷ 1284 ∷ 1285 ∷ 1286 ∷ 1287 ∷ 1288 ∷ 1032 ∷ 1024 ∷ 1025 ∷ 1026 ∷ 1027 ∷ 1028 ∷ 1029 ∷ 1030 ∷ 1031 ∷ 1280 ∷ 1281 ∷ 1282 ∷ 1283 ∷ 1284 ∷ 1285 ∷ 1286 ∷ 1287 ∷ 1288 ∷ 1024 ∷ 1025 ∷ 1026 ∷ 1027 ∷ 1028 ∷ 1029 ∷ 1030 ∷ 1031 ∷ 1032 ∷ 1287 ∷ []))
    ∷ gives (bytes "algo=mcs\nprocs=12\nhome=10\nticket=0\nbudget=16384\np0=0,0\np1=0,0\np2=0,0\np3=0,0\np4=0,0\np5=0,0\np6=0,0\np7=0,0\np8=0,0\np9=0,0\np10=1,2\np11=1,0\nturns=0,10,10,11,11,11,11,10,11,10,10,10,11,11,11,9,10,11\n")
    (shows 18 0 4 (p 0 0 0 0 1 ∷ p 0 0 0 0 0 ∷ p 0 0 0 0 0 ∷ p 0 0 0 0 0 ∷ p 0 0 0 0 0 ∷ p 0 0 0 0 0 ∷ p 0 0 0 0 0 ∷ p 0 0 0 0 0 ∷ p 0 0 0 0 0 ∷ p 0 0 0 0 1 ∷ p 1 1 1 0 1 ∷ p 1 3 3 1 1 ∷ [])
    (266 ∷ 522 ∷ 267 ∷ 778 ∷ 523 ∷ 779 ∷ []))
    ∷ gives (bytes "algo=dissem\nprocs=2\nhome=0\nticket=0\nbudget=16384\np0=5,0\np1=5,0\nturns=0,1,0,1,0,1,0,1,0,1,0,1,0,1,0,1,0,0\n")
    (shows 18 0 9 (p 4 5 1 1 0 ∷ p 4 4 1 0 0 ∷ [])
    (1024 ∷ 1025 ∷ 1280 ∷ 1281 ∷ 1024 ∷ 1025 ∷ 1280 ∷ 1281 ∷ 1024 ∷ 1025 ∷ 1280 ∷ 1281 ∷ 1024 ∷ 1025 ∷ 1280 ∷ 1281 ∷ 1024 ∷ []))
    ∷ gives (bytes "algo=ticket\nprocs=2\nhome=1\nticket=0\nbudget=16384\np0=1,1\np1=0,0\nturns=0,1,0,0,1,0,0\n")
    (shows 7 0 4 (p 1 4 4 0 0 ∷ p 0 0 0 0 2 ∷ [])
    (256 ∷ 512 ∷ 768 ∷ []))
    ∷ gives (bytes "algo=mcs\nprocs=5\nhome=4\nticket=0\nbudget=16384\np0=2,0\np1=1,0\np2=1,0\np3=1,0\np4=1,0\nturns=0,0,1,2,1,3,2,3,1,3,2,3,2,1,1,2,3,4,4,1,2,3,0,1,4,4,4,0,1,2,0,1,0,0,0,2,1,2,3,2,2,3,3,3,4,0,4,4,0,0,0,1\n")
    (shows 52 0 16 (p 2 5 3 1 0 ∷ p 1 3 3 3 1 ∷ p 1 3 3 4 0 ∷ p 1 3 3 3 0 ∷ p 1 2 2 1 0 ∷ [])
    (256 ∷ 512 ∷ 257 ∷ 258 ∷ 259 ∷ 260 ∷ 768 ∷ 513 ∷ 256 ∷ 769 ∷ 514 ∷ 770 ∷ 515 ∷ 771 ∷ 516 ∷ 772 ∷ 512 ∷ 768 ∷ []))
    ∷ []

-- ---- borders: each value at the end of its range and past it, and bytes that cannot follow; worked out by hand

unfoldable pub borders : List Case
borders =
    gives (bytes "algo=mcs\nprocs=1\nhome=0\nticket=65535\nbudget=16384\np0=1000,255\nturns=\n") (shows 0 0 0 (p 0 0 0 0 0 ∷ []) [])
    ∷ gives (bytes "algo=\n") (refused 1 5)
    ∷ gives (bytes "algo=Mcs\n") (refused 1 5)
    ∷ gives (bytes "algo=az\n") (refused 2 5)
    ∷ gives (bytes "algo=a{\n") (refused 1 6)
    ∷ gives (bytes "algo=`\n") (refused 1 5)
    ∷ gives (bytes "algo=abcdefgh\n") (refused 2 5)
    ∷ gives (bytes "algo=abcdefghi\n") (refused 1 13)
    ∷ gives (bytes "algo=mcs") (refused 1 8)
    ∷ gives (bytes "algo=mcs\nprocs=0\n") (refused 3 15)
    ∷ gives (bytes "algo=mcs\nprocs=65\n") (refused 3 15)
    ∷ gives (bytes "algo=mcs\nprocs=64\n") (refused 1 18)
    ∷ gives (bytes "algo=mcs\nprocs=/\n") (refused 1 15)
    ∷ gives (bytes "algo=mcs\nprocs=1:\n") (refused 1 16)
    ∷ gives (bytes "algo=mcs\nprocs=2,\n") (refused 1 16)
    ∷ gives (bytes "algo=mcs\nhome=0\n") (refused 1 9)
    ∷ gives (bytes "algo=mcs\nprocs=2\nhome=0\nticket=65536\nbudget=16384\np0=1,0\np1=1,0\nturns=0\n") (refused 3 31)
    ∷ gives (bytes "algo=mcs\nprocs=2\nhome=0\nticket=0\nbudget=16385\np0=1,0\np1=1,0\nturns=0\n") (refused 3 40)
    ∷ gives (bytes "algo=mcs\nprocs=1\nhome=0\nticket=0\nbudget=0\np0=1001,0\n") (refused 3 45)
    ∷ gives (bytes "algo=mcs\nprocs=1\nhome=0\nticket=0\nbudget=0\np0=1000,256\n") (refused 3 50)
    ∷ gives (bytes "algo=mcs\nprocs=1\nhome=0\nticket=0\nbudget=0\np0=1\n") (refused 1 46)
    ∷ gives (bytes "algo=mcs\nprocs=1\nhome=0\nticket=0\nbudget=0\np1=1,0\n") (refused 1 43)
    ∷ gives (bytes "algo=mcs\nprocs=2\nhome=0\nticket=0\nbudget=16384\np0=1,0\np1=1,0\nturns=2\n") (refused 4 66)
    ∷ gives (bytes "algo=mcs\nprocs=2\nhome=0\nticket=0\nbudget=16384\np0=1,0\np1=1,0\nturns=0,\n") (refused 1 68)
    ∷ gives (bytes "algo=mcs\nprocs=2\nhome=0\nticket=0\nbudget=16384\np0=1,0\np1=1,0\nturns=0\n\n") (refused 1 68)
    ∷ gives (bytes "algo=mcs\nprocs=2\nhome=0\nticket=0\nbudget=16384\np0=1,0\np1=1,0\nturns=0") (refused 1 67)
    ∷ gives (bytes "algo=mcs\nprocs=2\nhome=0\nticket=0\nbudget=16384\np0=1,0\np1=1,0\nturns=") (refused 1 66)
    ∷ gives (bytes "algo=mcs\nprocs=2\nhome=0\nticket=0\nbudget=16384\np0=1,0\np1=1,0\nturns=\n\n") (refused 1 67)
    ∷ gives (bytes "algo=") (refused 1 5)
    ∷ gives (bytes "algo=mcs\nprocs=") (refused 1 15)
    ∷ []

-- ---- requests of document 02: cases that were worked out by hand

-- the tree barrier: seven processors meet once, which shows both trees; two meet twice; one is alone, with a hold turn.
-- The ticket lock: while 0 is between the read and the write of its release 1 spins and 2 joins, and the budget stops the run between those of 1.
-- The dissemination barrier's partners: of five processors 1 alone goes on to the third round and tells 0, which is 4 further on; so 0 can leave.
-- Too big a number: six and nine digits are read, and are 3 or 4 at the first digit, in every line; where the file ends it is 1, and at a tenth digit too
unfoldable pub requested : List Case
requested =
    gives (bytes "algo=tree\nprocs=7\nhome=0\nticket=0\nbudget=16384\np0=1,0\np1=1,0\np2=1,0\np3=1,0\np4=1,0\np5=1,0\np6=1,0\nturns=0,5,5,1,1,6,6,1,1,1,0,0,2,2,3,3,4,4,3,0,0,0,0,0,0,1,1,1,3,4,6,2,2,2,5,6\n")
    (shows 36 0 12 (p 1 2 2 2 0 ∷ p 1 3 3 1 0 ∷ p 1 3 3 0 0 ∷ p 1 1 1 1 0 ∷ p 1 1 1 0 0 ∷ p 1 1 1 0 0 ∷ p 1 1 1 1 0 ∷ [])
    (1024 ∷ 1029 ∷ 1025 ∷ 1030 ∷ 1026 ∷ 1027 ∷ 1028 ∷ 1280 ∷ 1281 ∷ 1283 ∷ 1284 ∷ 1282 ∷ 1285 ∷ 1286 ∷ []))
    ∷ gives (bytes "algo=tree\nprocs=2\nhome=0\nticket=0\nbudget=16384\np0=2,0\np1=2,0\nturns=0,1,1,0,0,0,0,1,0,1,0,1,1,0,0,0,1,0,1\n")
    (shows 19 0 4 (p 2 2 1 4 1 ∷ p 2 2 1 1 1 ∷ []) (1024 ∷ 1025 ∷ 1280 ∷ 1024 ∷ 1281 ∷ 1025 ∷ 1280 ∷ 1281 ∷ []))
    ∷ gives (bytes "algo=tree\nprocs=1\nhome=0\nticket=0\nbudget=0\np0=2,1\nturns=0,0,0,0,0,0\n")
    (shows 6 0 0 (p 2 0 0 0 2 ∷ []) (1024 ∷ 1280 ∷ 1024 ∷ 1280 ∷ []))
    ∷ gives (bytes "algo=ticket\nprocs=3\nhome=2\nticket=65535\nbudget=8\np0=1,1\np1=1,0\np2=1,0\nturns=0,0,1,0,0,1,2,0,2,1,1,0,2,1\n")
    (shows 13 1 8 (p 1 4 4 0 1 ∷ p 0 4 4 1 0 ∷ p 0 0 0 2 0 ∷ []) (256 ∷ 512 ∷ 257 ∷ 258 ∷ 768 ∷ 513 ∷ []))
    ∷ gives (bytes "algo=dissem\nprocs=5\nhome=0\nticket=0\nbudget=16384\np0=1,0\np1=1,0\np2=1,0\np3=1,0\np4=1,0\nturns=0,1,2,3,4,0,1,2,3,4,0,1,2,3,4,0,1,2,3,4,1,0,0\n")
    (shows 23 0 12 (p 1 3 3 0 0 ∷ p 0 3 3 0 0 ∷ p 0 2 2 0 0 ∷ p 0 2 2 0 0 ∷ p 0 2 2 0 0 ∷ []) (1024 ∷ 1025 ∷ 1026 ∷ 1027 ∷ 1028 ∷ 1280 ∷ []))
    ∷ gives (bytes "algo=mcs\nprocs=999999999\n") (refused 3 15)
    ∷ gives (bytes "algo=mcs\nprocs=1000000000\n") (refused 1 24)
    ∷ gives (bytes "algo=mcs\nprocs=2\nhome=100000\n") (refused 3 22)
    ∷ gives (input_a "mcs" "655360" "0" "0") (refused 3 31)
    ∷ gives (input_a "mcs" "0" "100000" "0") (refused 3 40)
    ∷ gives (bytes "algo=mcs\nprocs=2\nhome=0\nticket=0\nbudget=100000") (refused 1 46)
    ∷ gives (bytes "algo=mcs\nprocs=1\nhome=0\nticket=0\nbudget=0\np0=100000,0\n") (refused 3 45)
    ∷ gives (bytes "algo=mcs\nprocs=1\nhome=0\nticket=0\nbudget=0\np0=1,100000\n") (refused 3 47)
    ∷ gives (input_a "mcs" "0" "16384" "0,999999999") (refused 4 68)
    ∷ []

-- the tree barrier: seven meet three times, where each flag and each sense is looked at too early, and come again, but 6 does not tell;
-- 22 meet once, where the arrival tree has four levels; four meet twice, where 1 has a left child to wake and no right one
unfoldable pub requested_more : List Case
requested_more =
    gives (bytes "algo=tree\nprocs=7\nhome=0\nticket=0\nbudget=16384\np0=4,0\np1=4,0\np2=4,0\np3=4,0\np4=4,0\np5=4,0\np6=4,0\nturns=5,6,1,5,1,1,6,1,1,0,1,0,0,2,2,0,0,3,3,0,0,4,4,0,0,1,2,3,4,5,6,0,1,0,1,1,3,4,2,2,2,5,6,5,6,1,5,1,1,6,1,1,0,1,0,0,2,2,0,0,3,3,0,0,4,4,0,0,1,2,3,4,5,6,0,1,0,1,1,3,4,2,2,2,5,6,5,6,1,5,1,1,6,1,1,0,1,0,0,2,2,0,0,3,3,0,0,4,4,0,0,1,2,3,4,5,6,0,1,0,1,1,3,4,2,2,2,5,6,5,5,1,1,0,2,2,2,3,3,3,4,4,4,5,6,1,0,2,3,4,5\n")
    (shows 151 0 40 (p 3 6 2 14 0 ∷ p 3 9 3 11 0 ∷ p 3 10 3 5 0 ∷ p 3 4 1 5 0 ∷ p 3 4 1 5 0 ∷ p 3 4 1 5 0 ∷ p 3 3 1 3 0 ∷ [])
    (1029 ∷ 1030 ∷ 1025 ∷ 1024 ∷ 1026 ∷ 1027 ∷ 1028 ∷ 1280 ∷ 1281 ∷ 1283 ∷ 1284 ∷ 1282 ∷ 1285 ∷ 1286 ∷ 1029 ∷ 1030 ∷ 1025 ∷ 1024 ∷ 1026 ∷ 1027 ∷ 1028 ∷ 1280 ∷ 1281 ∷ 1283 ∷ 1284 ∷ 1282 ∷ 1285 ∷ 1286 ∷ 1029 ∷ 1030 ∷ 1025 ∷ 1024 ∷ 1026 ∷ 1027 ∷ 1028 ∷ 1280 ∷ 1281 ∷ 1283 ∷ 1284 ∷ 1282 ∷ 1285 ∷ 1286 ∷ 1029 ∷ 1025 ∷ 1024 ∷ 1026 ∷ 1027 ∷ 1028 ∷ 1030 ∷ []))
    ∷ gives (bytes "algo=tree\nprocs=22\nhome=0\nticket=0\nbudget=16384\np0=1,0\np1=1,0\np2=1,0\np3=1,0\np4=1,0\np5=1,0\np6=1,0\np7=1,0\np8=1,0\np9=1,0\np10=1,0\np11=1,0\np12=1,0\np13=1,0\np14=1,0\np15=1,0\np16=1,0\np17=1,0\np18=1,0\np19=1,0\np20=1,0\np21=1,0\nturns=21,21,20,20,19,19,18,18,17,17,16,16,15,15,14,14,13,13,12,12,11,11,10,10,9,9,8,8,7,7,6,6,5,5,5,4,4,4,4,4,4,3,3,3,3,3,3,2,2,2,2,2,2,1,1,1,1,1,1,0,0,0,0,0,0,0,1,1,1,2,2,2,3,3,3,4,4,4,5,5,5,6,6,6,7,7,7,8,8,8,9,9,9,10,10,11,12,13,14,15,16,17,18,19,20,21\n")
    (shows 106 0 42 (p 1 2 2 0 0 ∷ p 1 3 3 0 0 ∷ p 1 3 3 0 0 ∷ p 1 3 3 0 0 ∷ p 1 3 3 0 0 ∷ p 1 3 3 0 0 ∷ p 1 3 3 0 0 ∷ p 1 3 3 0 0 ∷ p 1 3 3 0 0 ∷ p 1 3 3 0 0 ∷ p 1 2 2 0 0 ∷ p 1 1 1 0 0 ∷ p 1 1 1 0 0 ∷ p 1 1 1 0 0 ∷ p 1 1 1 0 0 ∷ p 1 1 1 0 0 ∷ p 1 1 1 0 0 ∷ p 1 1 1 0 0 ∷ p 1 1 1 0 0 ∷ p 1 1 1 0 0 ∷ p 1 1 1 0 0 ∷ p 1 1 1 0 0 ∷ [])
    (1045 ∷ 1044 ∷ 1043 ∷ 1042 ∷ 1041 ∷ 1040 ∷ 1039 ∷ 1038 ∷ 1037 ∷ 1036 ∷ 1035 ∷ 1034 ∷ 1033 ∷ 1032 ∷ 1031 ∷ 1030 ∷ 1029 ∷ 1028 ∷ 1027 ∷ 1026 ∷ 1025 ∷ 1024 ∷ 1280 ∷ 1281 ∷ 1282 ∷ 1283 ∷ 1284 ∷ 1285 ∷ 1286 ∷ 1287 ∷ 1288 ∷ 1289 ∷ 1290 ∷ 1291 ∷ 1292 ∷ 1293 ∷ 1294 ∷ 1295 ∷ 1296 ∷ 1297 ∷ 1298 ∷ 1299 ∷ 1300 ∷ 1301 ∷ []))
    ∷ gives (bytes "algo=tree\nprocs=4\nhome=3\nticket=0\nbudget=16384\np0=2,0\np1=2,0\np2=2,0\np3=2,0\nturns=1,1,2,2,3,3,0,0,0,0,0,0,1,1,2,3,1,1,1,2,2,2,3,3,3,0,0,0,0,0,0,1,1,2,3\n")
    (shows 35 0 12 (p 2 4 2 0 0 ∷ p 2 4 2 1 0 ∷ p 2 2 1 1 0 ∷ p 2 2 1 1 0 ∷ [])
    (1025 ∷ 1026 ∷ 1027 ∷ 1024 ∷ 1280 ∷ 1281 ∷ 1282 ∷ 1283 ∷ 1025 ∷ 1026 ∷ 1027 ∷ 1024 ∷ 1280 ∷ 1281 ∷ 1282 ∷ 1283 ∷ []))
    ∷ []
