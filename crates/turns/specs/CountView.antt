-- The row in which a run is counted, six numbers for each processor, and what one turn does to it.
use Rattle.std.specs.Prelude.{ℕ, ◌+◌, ◌*◌, ◌<◌, ◌≤◌, max, ◌≡◌, Bool, List, length, get_or, set}
use Rattle.std.proofs.lemmas.List.Edits.{sets}
use Rattle.rules.specs.Memory.{pick, upd}
use Rattle.rules.specs.Tally.{Tally}
use Rattle.rules.proofs.Views.{column}
use Rattle.rules.proofs.Turned.{Told, one_if, counted}
use Rattle.turns.specs.declared.made.Went.{Went}
use Rattle.turns.specs.declared.made.Went.TheVariants.{Spun, Idled, Over, On}

-- passages done, remote references, the most in a passage, those of the passage begun last, spins, idle turns
abbrev pub numbers : ℕ
numbers = 6

abbrev pub done_of : List ℕ → ℕ → ℕ
done_of sums = column numbers 0 sums

abbrev pub tally_of : List ℕ → ℕ → Tally
tally_of sums total = record {
  far = column numbers 1 sums;
  most = column numbers 2 sums;
  here = column numbers 3 sums;
  spins = column numbers 4 sums;
  idle = column numbers 5 sums;
  total = total;
}

-- there is a place for processor w, its numbers can grow by one, and no passage had more remote references than the most
pub record Room (w : ℕ) (sums : List ℕ) : Type 0 where
  pub place : w * numbers + 5 < length sums
  pub few : (j : ℕ) → j < numbers → get_or sums (w * numbers + j) 0 < 65535
  pub low : get_or sums (w * numbers + 3) 0 ≤ get_or sums (w * numbers + 2) 0

-- d was told of processor w's turn, which led from a to b
pub record Counted (w : ℕ) (d : Told) (a b : List ℕ) : Type 0 where
  pub done : done_of b ≡ upd (done_of a) w (done_of a w + one_if d.done)
  pub tally : (total : ℕ) → tally_of b (total + d.far) ≡ counted w d (tally_of a total)

-- ---- the parts of it, on the numbers from a place on

abbrev pub begun : Bool → ℕ → List ℕ → List ℕ
begun b at row = pick b (set row (at + 3) 0) row

abbrev pub one_more : ℕ → List ℕ → List ℕ
one_more i row = set row i (get_or row i 0 + 1)

-- a remote reference: one more of them, one more in this passage, and so for the most
abbrev pub farther : ℕ → List ℕ → List ℕ
farther at row =
    let here : ℕ = get_or row (at + 3) 0 + 1 in
    set (set (one_more (at + 1) row) (at + 2) (max (get_or row (at + 2) 0) here)) (at + 3) here

-- what else a turn is counted as
abbrev pub by_went : Went → ℕ → List ℕ → List ℕ
by_went Spun at row = one_more (at + 4) row
by_went Idled at row = one_more (at + 5) row
by_went Over at row = one_more at row
by_went On at row = row

-- these numbers are written into the row from n on, and r is the place after them
pub record Noted (before : List ℕ) (n : ℕ) (es : List ℕ) (after : List ℕ) (r : ℕ) : Type 0 where
  pub place : r ≡ n + length es
  pub row : after ≡ sets before n es
