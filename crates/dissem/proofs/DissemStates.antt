-- Equal states of the dissemination barrier, and what the code reads of one.
use Rattle.std.proofs.Common.{◌≡◌, ℕ, ◌+◌, ◌*◌, List, get_or, refl, sym, ◌∙◌}
use Rattle.rules.specs.Settings.{Settings}
use Rattle.rules.specs.Step.{Says}
use Rattle.rules.specs.Dissem.{State, partner, tells}
use Rattle.rules.proofs.Turned.{same_upd}
use Rattle.rules.proofs.Views.{view, Place, view_at}
use Rattle.turns.specs.BitView.{bits}
use Rattle.dissem.specs.DissemView.{sense_of, parity_of, round_of, told}

pub same_state : (a b : State) → a.flag ≡ b.flag → a.sense ≡ b.sense → a.parity ≡ b.parity → a.round ≡ b.round → a ≡ b
same_state a b p q r s = λ j. record { flag = p j; sense = q j; parity = r j; round = s j }

-- a processor tells its partner in the round that it is in
pub told_is : (s : Settings) (x : State) (i : ℕ) (says : Says) {j : ℕ} → j ≡ partner s i (x.round i) → told i j x ≡ (tells (x.round i) says s x i).memory
told_is s x i says e = rw (e, same_upd x.round i (x.round i) refl) refl

-- v is a processor's variable, b its own flag and t its sense, as the code reads them
module _ {words own : List ℕ} {i v b t : ℕ} (q : Place words i) (p : Place own i) (variable_is : v ≡ 2 * round_of (get_or own i 0) + parity_of (get_or own i 0))
    (bit_is : b ≡ bits (get_or words i 0) v) (sense_is : t ≡ sense_of (get_or own i 0)) where
  abbrev Equal : Type 0
  Equal = bits (view 0 words i) (2 * round_of (view 1 own i) + parity_of (view 1 own i)) ≡ sense_of (view 1 own i)

  pub equal : b ≡ t → Equal
  equal e = rw (view_at 0 q, view_at 1 p, ← variable_is, ← bit_is, ← sense_is) e

  pub unequal : (b ≡ t → ⊥) → Equal → ⊥
  unequal n e = n (bit_is ∙ (rw (view_at 0 q, view_at 1 p, ← variable_is) at e) ∙ sym sense_is)
