-- A byte at its place, and a number's digits, the last after the others.
use Rattle.std.proofs.Common.{◌≡◌, ℕ, ◌+◌, ◌/◌, ◌%◌, ◌≤◌, ◌<◌, List, [], ◌∷◌, length, set, refl, ap, sym, ◌∙◌, add-one, arith, length-append}
use Rattle.std.proofs.lemmas.List.{set_split, length-take, length-drop}
use Rattle.std.proofs.Math.Seq.{drop-drop}
use Rattle.rules.specs.File.{decimal}
use Rattle.laws.proofs.Decimal.{decimal_one, decimal_long}
use Rattle.writer.specs.SinkView.{over, pen_room, pen_put}
use Rattle.writer.specs.Kept.{both}
use Rattle.writer.specs.declared.pen.Pen.{Pen}

one_over : (d : List ℕ) (at b : ℕ) → at < length d → set d at b ≡ over d at (b ∷ [])
one_over d at b h = rw (set_split d at b h, drop-drop 1 at d, add-one at) refl

pub byte_put : (p : Pen) (b : ℕ) → 1 < pen_room p → ◌≡◌ {A = Pen} (record { out = record p.out { now = set p.out.now p.at b }; at = p.at + 1 }) (pen_put p (b ∷ []))
byte_put p b h = rw (one_over p.out.now p.at b (omega arith)) refl

over_length : (d : List ℕ) (at : ℕ) (t : List ℕ) → at + length t ≤ length d → length (over d at t) ≡ length d
over_length d at t h = simp (length-append, length-take, length-drop) (omega arith)

module _ (d : List ℕ) (at n : ℕ) (long : 10 ≤ n) where
  pub one_more : length (decimal n) ≡ length (decimal (n / 10)) + 1
  one_more = ap length (decimal_long n long) ∙ length-append (decimal (n / 10)) _

  module _ (room : at + length (decimal n) ≤ length d) where
    -- all but the last digit stand in d', and last is the place after them
    module _ (d' : List ℕ) (last : ℕ) (bytes : d' ≡ over d at (decimal (n / 10))) (place : last ≡ at + length (decimal (n / 10))) where
      pub last_fits : last < length d'
      last_fits = rw bytes (omega (arith, one_more, over_length d at (decimal (n / 10)) (omega (arith, one_more))))

      pub last_done : set d' last (48 + n % 10) ≡ over d at (decimal n)
      last_done = one_over d' last _ last_fits ∙ rw (bytes, place, decimal_long n long) (both d at (decimal (n / 10)) _)

      pub last_place : last + 1 ≡ at + length (decimal n)
      last_place = omega (arith, one_more)

    module _ (short : n < 100) where
      one : decimal (n / 10) ≡ (48 + n / 10) ∷ []
      one = decimal_one (n / 10) (omega arith)

      pub first_fits : at < length d
      first_fits = omega (arith, one_more)

      pub first_done : set d at (48 + n / 10) ≡ over d at (decimal (n / 10))
      first_done = one_over d at _ first_fits ∙ ap (over d at) (sym one)

      pub first_place : at + 1 ≡ at + length (decimal (n / 10))
      first_place = ap (λ m. at + m) (sym (ap length one))
