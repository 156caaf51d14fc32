-- The dissemination barrier's `start` meets its contract.
use Rattle.std.proofs.Common.{◌≡◌, ℕ, replicate, refl, ap, ◌∙◌}
use Rattle.rules.specs.Memory.{each}
use Rattle.rules.proofs.Views.{view, view_blank}
use Rattle.turns.specs.BitView.{bits}
use Rattle.turns.proofs.Words.{bits_zero}
use Rattle.dissem.specs.DissemView.{sense_of, parity_of, round_of}
use Rattle.dissem.proofs.DissemStates.{same_state}
use Rattle.dissem.proofs.barrier.DissemMachine.start.Goals as goal

-- a part of each byte, where every byte is 1
blank : (part : ℕ → ℕ) → ◌≡◌ {A = ℕ → ℕ} (λ i. part (view 1 (replicate 64 1) i)) (each (part 1))
blank part = ap {B = ℕ → ℕ} (λ (f : ℕ → ℕ) (i : ℕ). part (f i)) (view_blank 64 1)

pub returns-clause-memory : goal.returns-clause-memory
returns-clause-memory c =
    same_state _ _ (ap {B = ℕ → ℕ → ℕ} (λ (f : ℕ → ℕ) (i : ℕ). bits (f i)) (view_blank 64 0) ∙ ap {B = ℕ → ℕ → ℕ} (λ (b : ℕ → ℕ) (i : ℕ). b) bits_zero)
    (blank sense_of) (blank parity_of) (blank round_of)

pub returns-clause-sound : goal.returns-clause-sound
returns-clause-sound c =
    record { levels = c.levels.ensures; rounds = record { between = λ j e. ap (λ (f : ℕ → ℕ). f j) (blank round_of); within = λ j n. absurd (n refl) } }
