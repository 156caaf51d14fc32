-- Putting one text after another: what is left to put.
use Rattle.std.proofs.Common.{◌≡◌, ℕ, ◌<◌, List, [], ◌++◌, length, ◌∙◌, sym, arith, length-append}
use Rattle.writer.specs.SinkView.{SinkLaws}

-- of t, which is put into s₀, u is left, and goes to s
pub record Left {S : Type 0} (room : S → ℕ) (put : S → List ℕ → S) (t : List ℕ) (s₀ : S) (u : List ℕ) (s : S) : Type 0 where
  pub fits : length u < room s
  pub same : put s u ≡ put s₀ t

module _ {S : Type 0} {room : S → ℕ} {put : S → List ℕ → S} (laws : SinkLaws room put) (t : List ℕ) (s₀ : S) where
  pub left_none : (s : S) → Left room put t s₀ [] s → s ≡ put s₀ t
  left_none s l = sym (laws.nothing s) ∙ l.same

  module _ (u v : List ℕ) (s : S) (l : Left room put t s₀ (u ++ v) s) where
    pub left_first : length u < room s
    left_first = omega (arith, length-append u v, l.fits)

    pub left_next : (s' : S) → s' ≡ put s u → Left room put t s₀ v s'
    left_next s' e = rw e (record { fits = omega (arith, length-append u v, l.fits, laws.left s u); same = laws.both s u v ∙ l.same })
