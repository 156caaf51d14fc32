-- The two sinks keep the laws.
use Rattle.std.proofs.Common.{◌≡◌, ℕ, ◌+◌, ◌≤◌, List, [], ◌++◌, length, take, drop, inl, inr, ap, ap₂, sym, ◌∙◌, arith, length-append, append_assoc, add_assoc}
use Rattle.std.proofs.lemmas.Bool.{cases_lt}
use Rattle.std.proofs.lemmas.List.{append-nil, take_all, drop_all, take_at, drop_at, length-take, length-drop, take-append-drop}
use Rattle.std.proofs.Math.Seq.{drop-drop}
use Rattle.writer.specs.SinkView.{SinkLaws, count_room, count_put, over, pen_room, pen_put}
use Rattle.writer.specs.declared.count.Count.{Count}
use Rattle.writer.specs.declared.pen.Pen.{Pen}

abbrev counted : ℕ → Count
counted n = record { bytes = n }

-- the pen at a place, over these bytes
abbrev moved : Pen → ℕ → List ℕ → Pen
moved p at d = record { out = record p.out { now = d }; at = at }

pub count_laws : SinkLaws count_room count_put
count_laws = record {
  left = λ s t. omega arith;
  both = λ s t u. ap counted (omega (arith, length-append t u));
  nothing = λ s. ap counted (omega arith);
}

module _ (d : List ℕ) (at : ℕ) (t : List ℕ) where
  -- what stands before t
  abbrev before : List ℕ
  before = take at d

  -- what stands after t
  abbrev after : List ℕ
  after = drop (length t) (drop at d)

  -- of a place past the end too
  parts : (take (at + length t) (over d at t) ≡ before ++ t) × (drop (at + length t) (over d at t) ≡ after)
  parts = elim (cases_lt (length d) at) [
    | inl l ↦
        let none : after ≡ [] = rw (drop_all at d (omega arith)) (drop_all (length t) [] (omega arith)) in
        let h : length (over d at t) ≤ at + length t = simp (length-append, length-take, length-drop) (omega arith) in
        (take_all _ _ h ∙ rw (none, append-nil t), drop_all _ _ h ∙ sym none)
    | inr l ↦
        let e : length (before ++ t) ≡ at + length t = simp (length-append, length-take) (omega arith) in
        let g = append_assoc before t after in
        (rw (← g) (take_at (before ++ t) after _ e), rw (← g) (drop_at (before ++ t) after _ e))
  ]

  pub both : (u : List ℕ) → over (over d at t) (at + length t) u ≡ over d at (t ++ u)
  both u = rw (parts.0, parts.1) (simp (append_assoc, drop-drop, length-append, add_assoc))

pub pen_laws : SinkLaws pen_room pen_put
pen_laws = record {
  left = λ s t. simp (length-append, length-take, length-drop) (omega arith);
  both = λ s t u. ap₂ (moved s) (omega (arith, length-append t u)) (both s.out.now s.at t u);
  nothing = λ s. ap₂ (moved s) (omega arith) (take-append-drop s.at s.out.now);
}
