-- What one step does: where its processor stands after it, what it costs, how much it says.
use mathlib.Core.Path.{◌≡◌, refl}
use mathlib.Core.Logic.{◌≢◌}
use Prim.Native.Nat.{ℕ, ◌+◌, ◌≤◌}
use native.Mathlib.Omega.{arith}
use borrow.Author.Tests.{eq-eqb, ne_eqb}
use lib.Dec.{eqb}
use lib.ListN.{length}
use Rattle.rules.specs.Step.{Manner, Access, none, made, remote, Says, nothing, one, two, said, Next, stay, again, to, over}
use Rattle.rules.specs.Course.{goes, ends}
use Rattle.rules.proofs.Store.{upd_same, upd_other, either}

-- ---- places

-- the step that follows step k
abbrev pub place : Next → ℕ → ℕ
place stay k = k
place (again j) k = j
place (to j) k = j
place over k = 1

pub goes_same : (n : Next) (i : ℕ) (at : ℕ → ℕ) → goes n i at i ≡ place n (at i)
goes_same stay i at = refl
goes_same (again k) i at = upd_same at i k
goes_same (to k) i at = upd_same at i k
goes_same over i at = upd_same at i 1

-- the others stay where they are
pub goes_other : (n : Next) (i : ℕ) (at : ℕ → ℕ) (j : ℕ) → j ≢ i → goes n i at j ≡ at j
goes_other stay i at j h = refl
goes_other (again k) i at j h = upd_other at i k j h
goes_other (to k) i at j h = upd_other at i k j h
goes_other over i at j h = upd_other at i 1 j h

-- ---- passages

-- the passages done after it, of so many before
abbrev pub passed : Next → ℕ → ℕ
passed stay n = n
passed (again j) n = n
passed (to j) n = n
passed over n = n + 1

pub ends_same : (n : Next) (i : ℕ) (done : ℕ → ℕ) → ends n i done i ≡ passed n (done i)
ends_same stay i done = refl
ends_same (again k) i done = refl
ends_same (to k) i done = refl
ends_same over i done = upd_same done i (done i + 1)

pub ends_other : (n : Next) (i : ℕ) (done : ℕ → ℕ) (j : ℕ) → j ≢ i → ends n i done j ≡ done j
ends_other stay i done j h = refl
ends_other (again k) i done j h = refl
ends_other (to k) i done j h = refl
ends_other over i done j h = upd_other done i (done i + 1) j h

-- ---- costs

-- an access is one reference at most
pub remote≤ : (i : ℕ) (a : Access) → remote i a ≤ 1
unfolding remote
remote≤ i none = omega arith
remote≤ i (made manner owner variable) = either (λ n. n ≤ 1) (eqb owner i) 0 1 (omega arith) (omega arith)

-- an access to an own variable is not remote
pub own : (i : ℕ) (manner : Manner) (variable : ℕ) → remote i (made manner i variable) ≡ 0
unfolding remote
own i manner variable = rw (eq-eqb i i refl) refl

-- an access to another's is one reference
pub others : (i : ℕ) (manner : Manner) (owner variable : ℕ) → owner ≢ i → remote i (made manner owner variable) ≡ 1
unfolding remote
others i manner owner variable h = rw (ne_eqb owner i h) refl

-- ---- events

-- a turn says two events at most
pub said≤ : (i : ℕ) (says : Says) → length (said i says) ≤ 2
said≤ i nothing = omega arith
said≤ i (one k) = omega arith
said≤ i (two k l) = omega arith
