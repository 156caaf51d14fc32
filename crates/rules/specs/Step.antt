-- What one step of a machine is: the access it makes, what it says, and where the processor goes on ('Turns').
use Rattle.std.specs.Prelude.{ℕ, ◌+◌, ◌*◌, List, [], ◌∷◌, eqb}
use Rattle.rules.specs.Memory.{pick}
use Rattle.rules.specs.Settings.{Settings}

-- ---- the access

pub data Manner : Type 0 where
  read write atomic : Manner

-- one shared access, or none. The variable lives with its owner, who has it under this number
pub data Access : Type 0 where
  none : Access
  made : Manner → (owner variable : ℕ) → Access

abbrev pub reads : ℕ → ℕ → Access
reads owner variable = made read owner variable

abbrev pub writes : ℕ → ℕ → Access
writes owner variable = made write owner variable

abbrev pub atomics : ℕ → ℕ → Access
atomics owner variable = made atomic owner variable

-- 1 if the access of processor i is remote, else 0: an access is remote when the variable's home is not the processor
unfoldable pub remote : ℕ → Access → ℕ
remote i none = 0
remote i (made manner owner variable) = pick (eqb owner i) 0 1

-- ---- the events

pub data Kind : Type 0 where
  join grant release arrive leave : Kind

abbrev pub number : Kind → ℕ
number join = 1
number grant = 2
number release = 3
number arrive = 4
number leave = 5

-- what a turn says: nothing, one event, or two in this order
pub data Says : Type 0 where
  nothing : Says
  one : Kind → Says
  two : Kind → Kind → Says

pub record Event : Type 0 where
  pub kind : Kind
  pub who : ℕ

abbrev pub event : Kind → ℕ → Event
event kind who = record { kind = kind; who = who }

-- the events of processor i's turn
abbrev pub said : ℕ → Says → List Event
said i nothing = []
said i (one k) = event k i ∷ []
said i (two k l) = event k i ∷ event l i ∷ []

-- an event as a number of the lent row
abbrev pub code : Event → ℕ
code e = number e.kind * 256 + e.who

-- ---- the step

-- where a processor goes on: the same step again, which is a spin; a spin too, but it goes on at another step; another step;
-- or nowhere, the passage is done
pub data Next : Type 0 where
  stay : Next
  again : ℕ → Next
  to : ℕ → Next
  over : Next

pub record Step (S : Type 0) : Type 0 where
  pub memory : S
  pub access : Access
  pub says : Says
  pub then : Next

-- a machine: its variables, their first values, and the step that processor i makes at a place of its program.
-- Every passage starts at step 1
pub record Machine : Type 1 where
  pub State : Type 0
  pub start : Settings → State
  pub step : Settings → State → (at : ℕ) → (i : ℕ) → Step State
