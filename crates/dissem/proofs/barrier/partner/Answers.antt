-- `dissem::barrier::partner` meets its contract.
use Rattle.std.proofs.Common.{◌≡◌, ℕ, ◌*◌, ◌%◌, ◌^◌, ◌≤◌, ◌<◌, arith, sym}
use native.Mathlib.Nat.{mod-eq_of_lt}
use Rattle.rules.specs.Dissem.{doublings}
use Rattle.rules.proofs.Levels.{doublings≤}
use Rattle.turns.proofs.Words.{power}
use Rattle.dissem.proofs.DissemFlags.{below_twice, once_off}
use Rattle.dissem.proofs.barrier.partner.Goals as goal

-- in each of the R rounds the power is below 2 ^ 64
module _ {k procs : ℕ} (most : procs ≤ 64) (round : k < doublings procs) where
  shift< : k < 64
  shift< = omega (arith, doublings≤ procs most)

  shifted : (1 * 2 ^ k) % 2 ^ 64 ≡ 2 ^ k
  shifted = power 64 k shift<

pub overflow_shl-j : goal.overflow_shl-j
overflow_shl-j c = shift< c.requires.procs c.requires.round

pub overflow_add-j : goal.overflow_add-j
overflow_add-j c =
    omega (arith, shifted c.requires.procs c.requires.round, below_twice c.args.w.number c.args.k c.args.procs c.requires.below c.requires.round)

pub invariant_of-result : goal.invariant_of-result
invariant_of-result c =
    record { below = omega (arith, shifted c.requires.procs c.requires.round, below_twice c.args.w.number c.args.k c.args.procs c.requires.below c.requires.round) }

pub returns-then-procs-j : goal.returns-then-procs-j
returns-then-procs-j c =
    let p = shifted c.requires.procs c.requires.round in
    rw p (once_off _ _ (omega (arith, p)) (below_twice c.args.w.number c.args.k c.args.procs c.requires.below c.requires.round))

pub returns : goal.returns
returns c =
    let p = shifted c.requires.procs c.requires.round in
    rw p (sym (mod-eq_of_lt (omega (arith, p))))
