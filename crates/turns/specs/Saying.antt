-- What the code's events and says stand for in the rules.
use Rattle.std.specs.Prelude.{ℕ, ◌≡◌, ◌<◌, Result, Ok, Err}
use Rattle.rules.specs.Step as rules
use Rattle.turns.specs.declared.says.Kind.{Kind}
use Rattle.turns.specs.declared.says.Kind.TheVariants.{Join, Grant, Release, Arrive, Leave}
use Rattle.turns.specs.declared.says.UnknownKind.{UnknownKind}
use Rattle.turns.specs.declared.says.Says.{Says}
use Rattle.turns.specs.declared.says.Says.TheVariants.{Nothing, One, Two}

abbrev pub kind_of : Kind → rules.Kind
kind_of Join = rules.join
kind_of Grant = rules.grant
kind_of Release = rules.release
kind_of Arrive = rules.arrive
kind_of Leave = rules.leave

abbrev pub says_of : Says → rules.Says
says_of Nothing = rules.nothing
says_of (One k) = rules.one (kind_of k)
says_of (Two k l) = rules.two (kind_of k) (kind_of l)

-- the kind with this number; or there is none
abbrev pub Numbered : ℕ → Result Kind UnknownKind → Type 0
Numbered n (Ok k) = n ≡ rules.number (kind_of k)
Numbered n (Err e) = (e.0 ≡ n) × (0 < n → 5 < n)
