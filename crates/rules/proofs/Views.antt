-- Rows of numbers as memory, for a program: a store into the row is an update of the memory.
use mathlib.Core.Path.{◌≡◌, refl, ap, ◌∙◌, fun_ext}
use mathlib.Core.List.{List, [], ◌∷◌, ◌++◌, append_assoc}
use Prim.Native.Nat.{ℕ, zero, suc, ◌+◌, ◌*◌, ◌≤◌, ◌<◌}
use mathlib.Core.Logic.{◌≢◌}
use native.Mathlib.Decide.{ℕ_discrete}
use native.Mathlib.Omega.{arith}
use lib.ListN.{length, get_or, set, replicate, length-append, length-drop}
use lib.Seq.{get_or-set_same, get_or-set_other, sets, sets-eq, take-append_seam, drop-append-add, drop-drop}
use Rattle.rules.specs.Memory.{upd, each}
use Rattle.rules.specs.Calls.{over}
use Rattle.rules.proofs.Store.{upd_same, upd_other}

-- past its end a row holds the first value of its variable, as 1 for a sense that starts true
unfoldable pub view : ℕ → List ℕ → ℕ → ℕ
view start row j = get_or row j start

pub view_set : (start : ℕ) (row : List ℕ) (i v : ℕ) → i < length row → view start (set row i v) ≡ upd (view start row) i v
unfolding view
view_set start row i v h = fun_ext (λ j. go j (ℕ_discrete j i))
  where
    go : (j : ℕ) → Dec (j ≡ i) → get_or (set row i v) j start ≡ upd (view start row) i v j
    go j (yes e) = rw (e, upd_same (view start row) i v) (get_or-set_same row i v start h)
    go j (no n) = rw (upd_other (view start row) i v j n) (get_or-set_other row i j v start n)

-- the row has a place for i
pub record Place (row : List ℕ) (i : ℕ) : Type 0 where
  pub below : i < length row

pub view_at : {row : List ℕ} {i : ℕ} (start : ℕ) → Place row i → view start row i ≡ get_or row i 0
unfolding view
view_at {row} {i} start p = go row i p.below
  where
    go : (row : List ℕ) (i : ℕ) → i < length row → get_or row i start ≡ get_or row i 0
    go [] i h = absurd (omega arith)
    go (x ∷ row) zero h = refl
    go (x ∷ row) (suc i) h = go row i (omega arith)

pub view_put : {row : List ℕ} {i : ℕ} (start : ℕ) → Place row i → {v u : ℕ} → v ≡ u → view start (set row i v) ≡ upd (view start row) i u
view_put {row} {i} start p {v} e = view_set start row i v p.below ∙ ap (upd (view start row) i) e

-- a row that holds its first value everywhere
pub view_blank : (n start : ℕ) → view start (replicate n start) ≡ each start
unfolding view
view_blank n start = fun_ext (go n)
  where
    go : (n j : ℕ) → get_or (replicate n start) j start ≡ start
    go zero j = refl
    go (suc n) zero = refl
    go (suc n) (suc j) = go n j

-- ---- a row of several numbers for each processor

-- the j-th of `width` numbers of each
unfoldable pub column : ℕ → ℕ → List ℕ → ℕ → ℕ
column width j row o = get_or row (o * width + j) 0

pub column_blank : (width j n : ℕ) → column width j (replicate n 0) ≡ each 0
unfolding column
column_blank width j n = fun_ext (λ o. go n (o * width + j))
  where
    go : (n i : ℕ) → ◌≡◌ {A = ℕ} (get_or (replicate n 0) i 0) 0
    go zero i = refl
    go (suc n) zero = refl
    go (suc n) (suc i) = go n i

-- a store into a column, and into another. In a row of six, so that the place tells whose it is
module _ (row : List ℕ) (i j v : ℕ) (u : j < 6) where
  pub column_set : i * 6 + j < length row → column 6 j (set row (i * 6 + j) v) ≡ upd (column 6 j row) i v
  unfolding column
  column_set h = fun_ext (λ o. go o (ℕ_discrete o i))
    where
      go : (o : ℕ) → Dec (o ≡ i) → get_or (set row (i * 6 + j) v) (o * 6 + j) 0 ≡ upd (column 6 j row) i v o
      go o (yes e) = rw (e, upd_same (column 6 j row) i v) (get_or-set_same row (i * 6 + j) v 0 h)
      go o (no n) = rw (upd_other (column 6 j row) i v o n) (get_or-set_other row (i * 6 + j) (o * 6 + j) v 0 (λ e. n (omega arith)))

  pub column_other : (k : ℕ) → k < 6 → k ≢ j → column 6 k (set row (i * 6 + j) v) ≡ column 6 k row
  unfolding column
  column_other k l n = fun_ext (λ o. get_or-set_other row (i * 6 + j) (o * 6 + k) v 0 (λ e. n (omega arith)))

-- ---- a lent row that holds es from its start, and past them what it held

pub over_next : (es new l : List ℕ) {row : List ℕ} {n : ℕ} → row ≡ over es l → n ≡ length es → length es + length new ≤ length l → sets row n new ≡ over (es ++ new) l
over_next es new l e f h = rw (e, f) (more es new l h)
  where
    more : (es new l : List ℕ) → length es + length new ≤ length l → sets (over es l) (length es) new ≡ over (es ++ new) l
    more es new l h =
        let k : length es + length new ≤ length (over es l) = simp (length-append, length-drop) (omega arith) in
        rw (sets-eq new (over es l) (length es) k) (simp (take-append_seam, drop-append-add, drop-drop, append_assoc, length-append))

-- ---- a part of each number of a row, as a bit of it

module _ {B : Type 0} (part : ℕ → B) {row : List ℕ} {i : ℕ} (start : ℕ) (p : Place row i) {v : ℕ} where
  -- the part of the number that is stored
  pub view_part : {u : B} → part v ≡ u → ◌≡◌ {A = ℕ → B} (λ j. part (view start (set row i v) j)) (upd (λ j. part (view start row j)) i u)
  view_part {u} e = fun_ext (λ j. go j (ℕ_discrete j i))
    where
      go : (j : ℕ) → Dec (j ≡ i) → part (view start (set row i v) j) ≡ upd (λ j. part (view start row j)) i u j
      go j (yes d) = rw (view_set start row i v p.below, d, upd_same (view start row) i v, upd_same (λ j. part (view start row j)) i u) e
      go j (no n) = rw (view_set start row i v p.below, upd_other (view start row) i v j n, upd_other (λ j. part (view start row j)) i u j n)

  -- a part that the store leaves as it was
  pub view_rest : part v ≡ part (view start row i) → ◌≡◌ {A = ℕ → B} (λ j. part (view start (set row i v) j)) (λ j. part (view start row j))
  view_rest e = fun_ext (λ j. go j (ℕ_discrete j i))
    where
      go : (j : ℕ) → Dec (j ≡ i) → part (view start (set row i v) j) ≡ part (view start row j)
      go j (yes d) = rw (view_set start row i v p.below, d, upd_same (view start row) i v) e
      go j (no n) = rw (view_set start row i v p.below, upd_other (view start row) i v j n)
