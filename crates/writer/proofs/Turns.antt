-- Putting the turns: each but the last has a comma after it.
use Rattle.std.proofs.Common.{◌≡◌, ℕ, ◌+◌, ◌≤◌, ◌<◌, List, [], ◌∷◌, ◌++◌, length, get_or, drop, refl, ap, subst, sym, ◌∙◌, arith}
use Rattle.std.proofs.lemmas.List.{at_drop_more, at_drop_all}
use Rattle.rules.specs.Rule.{feed, comma}
use Rattle.rules.specs.File.{decimal, turns_text}
use Rattle.writer.specs.SinkView.{SinkLaws}
use Rattle.writer.proofs.Left.{Left, left_first, left_next}

pub no_turns : (ts : List ℕ) → length ts ≡ 0 → turns_text ts ≡ feed ∷ []
unfolding turns_text
no_turns [] e = refl
no_turns (t ∷ ts) e = absurd (omega arith)

another : (x y : ℕ) (ts : List ℕ) → turns_text (x ∷ (ts ++ y ∷ [])) ≡ (decimal x ++ comma ∷ []) ++ turns_text (ts ++ y ∷ [])
unfolding turns_text
another x y [] = refl
another x y (t ∷ ts) = refl

only : (y : ℕ) → turns_text (y ∷ []) ≡ decimal y ++ feed ∷ []
unfolding turns_text
only y = refl

-- the turns from i on, of those before the last and the last
abbrev pub from : List ℕ → ℕ → ℕ → List ℕ
from before last i = turns_text (drop i before ++ last ∷ [])

module _ (before : List ℕ) (last i : ℕ) where
  next_text : i < length before → from before last i ≡ (decimal (get_or before i 0) ++ comma ∷ []) ++ from before last (i + 1)
  next_text h = at_drop_more (λ ts. turns_text (ts ++ last ∷ [])) before i 0 h ∙ another _ last _

  last_text : length before ≤ i → from before last i ≡ decimal last ++ feed ∷ []
  last_text h = at_drop_all (λ ts. turns_text (ts ++ last ∷ [])) before i h ∙ only last

  module _ {S : Type 0} {room : S → ℕ} {put : S → List ℕ → S} (laws : SinkLaws room put) (t : List ℕ) (s₀ s : S) (l : Left room put t s₀ (from before last i) s) where
    module _ (h : i < length before) where
      opened : Left room put t s₀ ((decimal (get_or before i 0) ++ comma ∷ []) ++ from before last (i + 1)) s
      opened = subst (λ u. Left room put t s₀ u s) (next_text h) l

      pub turn_fits : length (decimal (get_or before i 0) ++ comma ∷ []) < room s
      turn_fits = left_first laws t s₀ _ _ s opened

      pub turn_next : (s' : S) → s' ≡ put s (decimal (get_or before i 0) ++ comma ∷ []) → Left room put t s₀ (from before last (i + 1)) s'
      turn_next = left_next laws t s₀ _ _ s opened

    module _ (h : length before ≤ i) where
      pub last_fits : length (decimal last ++ feed ∷ []) < room s
      last_fits = rw (last_text h) at l.fits

      pub last_done : (s' : S) → s' ≡ put s (decimal last ++ feed ∷ []) → s' ≡ put s₀ t
      last_done s' e = e ∙ ap (put s) (sym (last_text h)) ∙ l.same
