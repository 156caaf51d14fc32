-- The lines of a file, each read exactly where it is written.
use Prim.Native.Nat.{ℕ, zero, suc, ◌+◌, ◌^◌, ◌≤◌, ◌<◌}
use mathlib.Core.Path.{◌≡◌, refl, ap, ap₂, sym, ◌∙◌}
use mathlib.Core.List.{List, [], ◌∷◌, ◌++◌, append-nil}
use mathlib.Core.Bool.{Bool, true, false, ◌&&◌}
use mathlib.Core.Logic.{◌⊎◌, inl, inr}
use lib.ListN.{length, set, length-set}
use lib.Seq.{get_or-set_same, get_or-set_other, ext_get_or}
use lib.Dec.{ltb, leb, eqb}
use borrow.Author.Tests.{le-leb, leb-true, eqb-true, eqb-false, ltb-true, ltb-false}
use native.Mathlib.Omega.{arith}
use Rattle.rules.specs.Bounds.{most_rounds, most_hold, most_digits}
use Rattle.rules.specs.Settings.{entry}
use Rattle.rules.specs.Rule.{feed, comma, is_digit}
use Rattle.rules.specs.File.{decimal, label, ranged, field, entries, rows, field_text, entries_text, rows_text}
use Rattle.rules.proofs.Store.{both}
use Rattle.laws.proofs.Exact.{Exact, exact_then, exact_check, exact_give, exact_as, exact_lit}
use Rattle.laws.proofs.Numbers.{IsSep, exact_number}

-- ---- a number in its range

abbrev pub Between : ℕ → ℕ → ℕ → Type 0
Between lo hi n = (lo ≤ n) × (n ≤ hi)

pub exact_ranged : (x lo hi : ℕ) → is_digit x ≡ false → hi < 10 ^ most_digits → Exact (ranged x lo hi) (λ n. decimal n ++ x ∷ []) (Between lo hi)
exact_ranged x lo hi nx h =
    exact_as
    (exact_then (exact_check 3 (λ v. leb lo v.0 && leb v.0 hi) (omega arith) (exact_number x x nx nx)) (λ v p. exact_give v.0) (λ n. (n, x))
    (λ v n p e. ap₂ (λ (i j : ℕ). (i, j)) e (sym (one v.1 p.0.1))))
    (λ n p. let b = both (leb lo n) (leb n hi) p.0.1 in (leb-true lo n b.0, leb-true n hi b.1))
    (λ n p. (((omega (arith, p.1), inl refl), rw (le-leb lo n p.0, le-leb n hi p.1)), refl))
    (λ n p. append-nil (decimal n ++ x ∷ []))
  where
    one : (y : ℕ) → IsSep x x y → y ≡ x
    one y (inl e) = e
    one y (inr e) = e

pub exact_field : (l : List ℕ) (lo hi : ℕ) → hi < 10 ^ most_digits → Exact (field l lo hi) (field_text l) (Between lo hi)
exact_field l lo hi h =
    exact_as (exact_then (exact_lit l) (λ u p. exact_ranged feed lo hi refl h) (λ n. tt) (λ u n p q. refl)) (λ n p. p.1) (λ n p. (tt, p)) (λ n p. refl)

-- ---- a processor's line

abbrev pub Entries : ℕ × ℕ → Type 0
Entries v = (v.0 ≤ most_rounds) × (v.1 ≤ most_hold)

pub exact_entries : (i : ℕ) → Exact (entries i) (λ v. entries_text i v.0 v.1) Entries
exact_entries i =
    exact_as
    (exact_then (exact_lit (label i))
    (λ u p. exact_then (exact_ranged comma 0 most_rounds refl (omega arith))
    (λ r p. exact_then (exact_ranged feed 0 most_hold refl (omega arith)) (λ h p. exact_give (r, h)) (λ v. v.1) (λ h v p e. ap (λ (w : ℕ × ℕ). w.1) e))
    (λ v. v.0) (λ r v p q. ap (λ (w : ℕ × ℕ). w.0) q.1))
    (λ v. tt) (λ u v p q. refl))
    (λ v p. (p.1.0.1, p.1.1.0.1))
    (λ v p. (tt, ((omega arith, p.0), ((omega arith, p.1), refl))))
    (λ v p. rw (append-nil (decimal v.1 ++ feed ∷ [])))

-- ---- all the processors' lines

-- row' is row but for k entries from i on, each at most m
pub record Agree (k i m : ℕ) (row row' : List ℕ) : Type 0 where
  pub long : length row' ≡ length row
  pub other : (j : ℕ) → (j < i) ⊎ (i + k ≤ j) → entry row' j ≡ entry row j
  pub most : (j : ℕ) → i ≤ j → j < i + k → entry row' j ≤ m

agree_none : (i m : ℕ) (row : List ℕ) → Agree 0 i m row row
agree_none i m row = record { long = refl; other = λ j h. refl; most = λ j h l. absurd (omega arith) }

agree_same : (i m : ℕ) (row row' : List ℕ) → Agree 0 i m row row' → row' ≡ row
agree_same i m row row' a = ext_get_or 0 row' row a.long (λ j h. a.other j (split j (ltb j i) refl))
  where
    split : (j : ℕ) (b : Bool) → ltb j i ≡ b → (j < i) ⊎ (i + 0 ≤ j)
    split j true e = inl (ltb-true j i e)
    split j false e = inr (omega (arith, ltb-false j i e))

module _ (k i m : ℕ) (row row' : List ℕ) (h : i + suc k ≤ length row) where
  -- the entry that was set first is in the end what it was set to
  agree_first : (v : ℕ) → Agree k (i + 1) m (set row i v) row' → entry row' i ≡ v
  agree_first v a = a.other i (inl (omega arith)) ∙ get_or-set_same row i v 0 (omega arith)

  -- from the entries after the first to all of them
  agree_down : entry row' i ≤ m → Agree k (i + 1) m (set row i (entry row' i)) row' → Agree (suc k) i m row row'
  agree_down le a = record {
    long = a.long ∙ length-set row i (entry row' i);
    other = λ j o. a.other j (wider j o) ∙ get_or-set_other row i j (entry row' i) 0 (apart j o);
    most = λ j l u. here j l u (eqb j i) refl;
  }
    where
      wider : (j : ℕ) → (j < i) ⊎ (i + suc k ≤ j) → (j < i + 1) ⊎ (i + 1 + k ≤ j)
      wider j (inl l) = inl (omega arith)
      wider j (inr l) = inr (omega arith)

      apart : (j : ℕ) → (j < i) ⊎ (i + suc k ≤ j) → j ≡ i → ⊥
      apart j (inl l) e = omega arith
      apart j (inr l) e = omega arith

      here : (j : ℕ) → i ≤ j → j < i + suc k → (b : Bool) → eqb j i ≡ b → entry row' j ≤ m
      here j l u true e = rw (eqb-true j i e) le
      here j l u false e = a.most j (omega (arith, eqb-false j i e)) (omega arith)

  -- and back
  agree_up : Agree (suc k) i m row row' → (entry row' i ≤ m) × Agree k (i + 1) m (set row i (entry row' i)) row'
  agree_up a = (
    a.most i (omega arith) (omega arith),
    record {
      long = a.long ∙ sym (length-set row i (entry row' i));
      other = λ j o. there j o (eqb j i) refl;
      most = λ j l u. a.most j (omega arith) (omega arith);
    },
  )
    where
      narrow : (j : ℕ) → (j < i + 1) ⊎ (i + 1 + k ≤ j) → (j ≡ i → ⊥) → (j < i) ⊎ (i + suc k ≤ j)
      narrow j (inl l) n = inl (omega arith)
      narrow j (inr l) n = inr (omega arith)

      there : (j : ℕ) → (j < i + 1) ⊎ (i + 1 + k ≤ j) → (b : Bool) → eqb j i ≡ b → entry row' j ≡ entry (set row i (entry row' i)) j
      there j o true f = rw (eqb-true j i f, get_or-set_same row i (entry row' i) 0 (omega arith))
      there j o false f = a.other j (narrow j o (eqb-false j i f)) ∙ sym (get_or-set_other row i j (entry row' i) 0 (eqb-false j i f))

-- the rows after the lines of k processors from i on, before which they were rounds and hold
pub record Rows (k i : ℕ) (rounds hold : List ℕ) (v : List ℕ × List ℕ) : Type 0 where
  pub of_rounds : Agree k i most_rounds rounds v.0
  pub of_hold : Agree k i most_hold hold v.1

pub exact_rows : (k i : ℕ) (rounds hold : List ℕ) → i + k ≤ length rounds → i + k ≤ length hold
    → Exact (rows k i rounds hold) (λ v. rows_text k i v.0 v.1) (Rows k i rounds hold)
unfolding rows rows_text
exact_rows zero i rounds hold a b =
    exact_as (exact_give (rounds, hold))
    (λ v p. rw p (record { of_rounds = agree_none i most_rounds rounds; of_hold = agree_none i most_hold hold }))
    (λ v p. ap₂ (λ (x y : List ℕ). (x, y)) (agree_same i most_rounds rounds v.0 p.of_rounds) (agree_same i most_hold hold v.1 p.of_hold))
    (λ v p. refl)
exact_rows (suc k) i rounds hold a b =
    exact_as
    (exact_then (exact_entries i)
    (λ v p. exact_rows k (i + 1) (set rounds i v.0) (set hold i v.1) (simp length-set (omega arith)) (simp length-set (omega arith)))
    (λ w. (entry w.0 i, entry w.1 i))
    (λ v w p q.
    ap₂ (λ (x y : ℕ). (x, y)) (agree_first k i most_rounds rounds w.0 a v.0 q.of_rounds) (agree_first k i most_hold hold w.1 b v.1 q.of_hold)))
    (λ w p. record {
      of_rounds = agree_down k i most_rounds rounds w.0 a p.0.0 p.1.of_rounds;
      of_hold = agree_down k i most_hold hold w.1 b p.0.1 p.1.of_hold;
    })
    (λ w p.
    let r = agree_up k i most_rounds rounds w.0 a p.of_rounds in
    let h = agree_up k i most_hold hold w.1 b p.of_hold in
    ((r.0, h.0), record { of_rounds = r.1; of_hold = h.1 }))
    (λ w p. refl)
