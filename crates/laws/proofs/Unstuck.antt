-- No lock freezes: while somebody has a passage left, somebody goes on.
use mathlib.Core.Path.{◌≡◌, refl}
use mathlib.Core.Logic.{inl, inr}
use mathlib.Core.Bool.{false}
use mathlib.Core.List.{List, [], ◌∷◌}
use Prim.Native.Nat.{ℕ, ◌<◌}
use native.Mathlib.Omega.{arith}
use Rattle.rules.specs.Settings.{Settings, entry}
use Rattle.rules.specs.Step.{Machine}
use Rattle.rules.specs.Play.{Run, next}
use Rattle.rules.proofs.Accepted.{Below}
use Rattle.rules.proofs.Plays.{by_turn}
use Rattle.laws.specs.Laws.{waits}
use Rattle.laws.proofs.Lists.{Mem}
use Rattle.laws.proofs.Locks.{Lock, Good}

mem_below : (p i : ℕ) (q : List ℕ) → Below p q → Mem i q → i < p
mem_below p i (a ∷ q) b (inl e) = rw e at b.0
mem_below p i (a ∷ q) b (inr m) = mem_below p i q b.1 m
mem_below p i [] b m = absurd m

module _ (m : Machine) (s : Settings) (k : Lock m s) (r : Run m.State) where
  -- somebody whose next turn is neither a spin nor idle
  abbrev pub Goer : Type 0
  Goer = (j : ℕ) × (j < s.procs) × (waits (next m s r j) ≡ false)

  -- one in line, where there is one; else whoever has a passage left
  pub goer : Good m s k r → (i : ℕ) → i < s.procs → r.course.done i < entry s.rounds i → Goer
  goer w i b h = go w.q w.line.below w.line.inv
    where
      go : (q : List ℕ) → Below s.procs q → k.Inv r.memory r.course.at q w.g → Goer
      go [] c v = (
        i,
        b,
        by_turn m s r.memory r.course i (λ t. waits t ≡ false) (λ p. refl) (λ e d. absurd (omega arith))
            (λ z. k.out_goes r.memory r.course.at i [] w.g v tt),
      )
      go (a ∷ q) c v =
          let n = k.line_goes r.memory r.course.at a q w.g v in (
            n.who,
            mem_below s.procs n.who (a ∷ q) c n.in_line,
            by_turn m s r.memory r.course n.who (λ t. waits t ≡ false) (λ p. refl) (λ e d. absurd (n.inside e)) (λ z. n.goes),
          )
