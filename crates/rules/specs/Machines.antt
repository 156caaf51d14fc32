-- The table of machines: a line each.
use Rattle.std.specs.Prelude.{ℕ, Bool, true, false, ◌&&◌, List, [], ◌∷◌, eqb, ltb}
use Prim.Native.Char as char
use Prim.Native.String.{String}
use Rattle.rules.specs.Memory.{pick}
use Rattle.rules.specs.Step.{Machine}
use Rattle.rules.specs.Ticket as ticket
use Rattle.rules.specs.Mcs as mcs
use Rattle.rules.specs.Central as central
use Rattle.rules.specs.Dissem as dissem
use Rattle.rules.specs.Tree as tree

-- a text as its bytes
abbrev pub bytes : String → List ℕ
bytes String.[] = []
bytes (String.◌∷◌ c s) = char.code c ∷ bytes s

abbrev pub same : List ℕ → List ℕ → Bool
same [] [] = true
same [] (y ∷ ys) = false
same (x ∷ xs) [] = false
same (x ∷ xs) (y ∷ ys) = eqb x y && same xs ys

pub data Sort : Type 0 where
  lock barrier : Sort

pub record Line : Type 1 where
  pub name : List ℕ
  pub number : ℕ
  pub sort : Sort
  pub machine : Machine

abbrev pub line : String → ℕ → Sort → Machine → Line
line name number sort machine = record { name = bytes name; number = number; sort = sort; machine = machine }

abbrev pub table : List Line
table =
    line "ticket" 1 lock ticket.machine
    ∷ line "mcs" 2 lock mcs.machine
    ∷ line "central" 3 barrier central.machine
    ∷ line "dissem" 4 barrier dissem.machine
    ∷ line "tree" 5 barrier tree.machine
    ∷ []

-- the machines' numbers are 1 to this
abbrev pub machines : ℕ
machines = 5

-- the line of a number or name that is not known: its number is 0, and no call goes on to its machine
abbrev pub no_line : Line
no_line = line "" 0 lock ticket.machine

-- the first line that passes the test
abbrev pub find : (Line → Bool) → List Line → Line
find test [] = no_line
find test (l ∷ ls) = pick (test l) l (find test ls)

abbrev pub numbered : ℕ → Line
numbered algo = find (λ l. eqb algo l.number) table

abbrev pub named : List ℕ → Line
named name = find (λ l. same name l.name) table

abbrev pub known : Line → Bool
known l = ltb 0 l.number

-- what the settings ask for
abbrev pub machine : ℕ → Machine
machine algo = (numbered algo).machine
