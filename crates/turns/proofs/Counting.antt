-- Laws for the function `count`: its stores into a processor's numbers are updates of their columns.
use Rattle.std.proofs.Common.{◌≡◌, refl, sym, ap, subst, ◌∙◌, Bool, true, false, List, ℕ, ◌+◌, ◌*◌, ◌<◌, ◌≤◌, max, add-zero, arith, lt-ltb, le-ltb, eqb, ltb, length, get_or, set, length-set, lt-length-set}
use mathlib.Core.Path.{fun_ext}
use native.Mathlib.Decide.{ℕ_discrete, dec_lt}
use Rattle.rules.specs.Memory.{pick, upd}
use Rattle.rules.proofs.Store.{upd_same, upd_other, either}
use Rattle.rules.proofs.Views.{column, column_set, column_other}
use Rattle.rules.proofs.Turned.{one_if, counted, same_tally, same_upd, kept}
use Rattle.turns.specs.declared.made.Made.{Made}
use Rattle.turns.specs.declared.made.Went.{Went}
use Rattle.turns.specs.declared.made.Went.TheVariants.{Spun, Idled, Over, On}
use Rattle.turns.specs.View.{told_of, is_spun, is_idled, is_over}
use Rattle.turns.specs.CountView.{Room, Counted, begun, farther, one_more, by_went}

-- six columns, each with a number for every processor
abbrev Table : Type 0
Table = ℕ → ℕ → ℕ

unfoldable table : List ℕ → Table
table row k = pick (ltb k 6) (column 6 k row) (λ o. 0)

upd_upd : (f : ℕ → ℕ) (i u v : ℕ) → upd (upd f i u) i v ≡ upd f i v
upd_upd f i u v = fun_ext (λ j. go j (ℕ_discrete j i))
  where
    go : (j : ℕ) → Dec (j ≡ i) → upd (upd f i u) i v j ≡ upd f i v j
    go j (yes e) = rw (e, upd_same (upd f i u) i v, upd_same f i v) refl
    go j (no n) = rw (upd_other (upd f i u) i v j n, upd_other f i u j n, upd_other f i v j n) refl

module _ (w : ℕ) where
  -- v in column j of the processor
  unfoldable put : ℕ → ℕ → Table → Table
  put j v t = upd t j (upd (t j) w v)

  table_set : (row : List ℕ) (j v : ℕ) → j < 6 → w * 6 + 5 < length row → table (set row (w * 6 + j) v) ≡ put j v (table row)
  unfolding put table
  table_set row j v u p = fun_ext (λ k. go k (ℕ_discrete k j))
    where
      other : (k : ℕ) → Dec (k < 6) → (k ≡ j → ⊥) → table (set row (w * 6 + j) v) k ≡ table row k
      other k (yes l) n = rw (lt-ltb k 6 l) (column_other row w j v u k l n)
      other k (no g) n = rw (le-ltb k 6 (omega arith)) refl

      go : (k : ℕ) → Dec (k ≡ j) → table (set row (w * 6 + j) v) k ≡ upd (table row) j (upd (table row j) w v) k
      go k (yes e) = rw (e, upd_same (table row) j (upd (table row j) w v), lt-ltb j 6 u) (column_set row w j v u (omega arith))
      go k (no n) = rw (upd_other (table row) j (upd (table row j) w v) k n) (other k (dec_lt k 6) n)

  -- ---- the parts of `count`, on the table

  unfoldable begins_in : Bool → Table → Table
  begins_in b t = pick b (put 3 0 t) t

  unfoldable reaches_in : Bool → Table → Table
  reaches_in near t =
      let here : ℕ = t 3 w + 1 in
      pick near t (put 3 here (put 2 (max (t 2 w) here) (put 1 (t 1 w + 1) t)))

  unfoldable counts_in : Went → Table → Table
  counts_in Spun t = put 4 (t 4 w + 1) t
  counts_in Idled t = put 5 (t 5 w + 1) t
  counts_in Over t = put 0 (t 0 w + 1) t
  counts_in On t = t

  module _ (row : List ℕ) (p : w * 6 + 5 < length row) where
    begun_table : (b : Bool) → table (begun b (w * 6) row) ≡ begins_in b (table row)
    unfolding begins_in
    begun_table true = table_set row 3 0 (omega arith) p
    begun_table false = refl

    far_table : (near : Bool) → table (pick near row (farther (w * 6) row)) ≡ reaches_in near (table row)
    unfolding reaches_in table column
    far_table true = refl
    far_table false =
        let here : ℕ = get_or row (w * 6 + 3) 0 + 1 in
        let most : ℕ = max (get_or row (w * 6 + 2) 0) here in
        let one : List ℕ = one_more (w * 6 + 1) row in
        let q : w * 6 + 5 < length one = lt-length-set row (w * 6 + 1) _ p in
        table_set (set one (w * 6 + 2) most) 3 here (omega arith) (lt-length-set one (w * 6 + 2) most q)
        ∙ ap (put 3 here) (table_set one 2 most (omega arith) q ∙ ap (put 2 most) (table_set row 1 _ (omega arith) p))

    went_table : (went : Went) → table (by_went went (w * 6) row) ≡ counts_in went (table row)
    unfolding counts_in table column
    went_table Spun = table_set row 4 _ (omega arith) p
    went_table Idled = table_set row 5 _ (omega arith) p
    went_table Over = ap (λ (i : ℕ). table (one_more i row)) (sym (add-zero (w * 6))) ∙ table_set row 0 _ (omega arith) p
    went_table On = refl

  module _ (t : Table) where
    begins_few : (b : Bool) → t 1 w < 65535 → t 3 w < 65535 → (begins_in b t 1 w < 65535) × (begins_in b t 3 w < 65535)
    unfolding begins_in put upd
    begins_few true l m = (l, rw (upd_same (t 3) w 0) (omega arith))
    begins_few false l m = (l, m)

    -- what becomes of each column before it is counted what kind of turn it was
    record Front (began near : Bool) (u : Table) : Type 0 where
      of_done : u 0 ≡ t 0
      of_far : u 1 ≡ upd (t 1) w (t 1 w + pick near 0 1)
      of_most : u 2 ≡ upd (t 2) w (max (t 2 w) (pick began 0 (t 3 w) + pick near 0 1))
      of_here : u 3 ≡ upd (t 3) w (pick began 0 (t 3 w) + pick near 0 1)
      of_spins : u 4 ≡ t 4
      of_idle : u 5 ≡ t 5

    front : (began near : Bool) → t 3 w ≤ t 2 w → Front began near (reaches_in near (begins_in began t))
    unfolding reaches_in begins_in put upd
    front true true l = record { of_done = refl; of_far = kept (t 1) w; of_most = sym (same_upd (t 2) w _ (omega arith)); of_here = refl; of_spins = refl; of_idle = refl }
    front true false l = record { of_done = refl; of_far = refl; of_most = ap (λ (n : ℕ). upd (t 2) w (max (t 2 w) (n + 1))) (upd_same (t 3) w 0); of_here = upd_upd (t 3) w 0 _ ∙ ap (λ (n : ℕ). upd (t 3) w (n + 1)) (upd_same (t 3) w 0); of_spins = refl; of_idle = refl }
    front false true l = record { of_done = refl; of_far = kept (t 1) w; of_most = sym (same_upd (t 2) w _ (omega arith)); of_here = kept (t 3) w; of_spins = refl; of_idle = refl }
    front false false l = record { of_done = refl; of_far = refl; of_most = refl; of_here = refl; of_spins = refl; of_idle = refl }

    -- and where it is counted
    record Back (went : Went) (u : Table) : Type 0 where
      of_done : u 0 ≡ upd (t 0) w (t 0 w + one_if (is_over went))
      of_far : u 1 ≡ t 1
      of_most : u 2 ≡ t 2
      of_here : u 3 ≡ t 3
      of_spins : u 4 ≡ upd (t 4) w (t 4 w + one_if (is_spun went))
      of_idle : u 5 ≡ upd (t 5) w (t 5 w + one_if (is_idled went))

    back : (went : Went) → Back went (counts_in went t)
    unfolding counts_in put upd
    back Spun = record { of_done = kept (t 0) w; of_far = refl; of_most = refl; of_here = refl; of_spins = refl; of_idle = kept (t 5) w }
    back Idled = record { of_done = kept (t 0) w; of_far = refl; of_most = refl; of_here = refl; of_spins = kept (t 4) w; of_idle = refl }
    back Over = record { of_done = refl; of_far = refl; of_most = refl; of_here = refl; of_spins = kept (t 4) w; of_idle = kept (t 5) w }
    back On = record { of_done = kept (t 0) w; of_far = refl; of_most = refl; of_here = refl; of_spins = kept (t 4) w; of_idle = kept (t 5) w }

  -- ---- the numbers of the processor before each part, and after all

  module _ (made : Made) (a b : List ℕ) (room : Room w a) (eb : b ≡ begun made.began (w * 6) a) where
    place_b : w * 6 + 5 < length b
    place_b = rw eb (either (λ (l : List ℕ). w * 6 + 5 < length l) made.began (set a (w * 6 + 3) 0) a (lt-length-set a (w * 6 + 3) 0 room.place) room.place)

    table_b : table b ≡ begins_in made.began (table a)
    table_b = rw eb (begun_table a room.place made.began)

    pub room_far : (w * 6 + 5 < length b) × (get_or b (w * 6 + 1) 0 < 65535) × (get_or b (w * 6 + 3) 0 < 65535)
    unfolding column table
    room_far =
        let z = begins_few (table a) made.began (room.few 1 (omega arith)) (room.few 3 (omega arith)) in
        (place_b, subst (λ (t : Table). t 1 w < 65535) (sym table_b) z.0, subst (λ (t : Table). t 3 w < 65535) (sym table_b) z.1)

    module _ (c : List ℕ) (ec : c ≡ pick (eqb made.owner.number w) b (farther (w * 6) b)) where
      place_c : w * 6 + 5 < length c
      place_c = rw ec (either (λ (l : List ℕ). w * 6 + 5 < length l) (eqb made.owner.number w) b (farther (w * 6) b) place_b (simp length-set place_b))

      table_c : Front (table a) made.began (eqb made.owner.number w) (table c)
      unfolding column table
      table_c = rw (ec, far_table b place_b (eqb made.owner.number w), table_b) (front (table a) made.began (eqb made.owner.number w) room.low)

      pub room_went : (w * 6 + 5 < length c) × (get_or c (w * 6) 0 < 65535) × (get_or c (w * 6 + 4) 0 < 65535) × (get_or c (w * 6 + 5) 0 < 65535)
      unfolding column table
      room_went =
          let few : (f g : ℕ → ℕ) → f ≡ g → g w < 65535 → f w < 65535 = λ f g e l. rw e l in (
            place_c,
            rw (add-zero (w * 6)) at (few (table c 0) (table a 0) table_c.of_done (room.few 0 (omega arith))),
            few (table c 4) (table a 4) table_c.of_spins (room.few 4 (omega arith)),
            few (table c 5) (table a 5) table_c.of_idle (room.few 5 (omega arith)),
          )

      pub counted_all : (e : List ℕ) → e ≡ by_went made.went (w * 6) c → Counted w (told_of w made) a e
      unfolding column table counted
      counted_all e ee =
          let te : table e ≡ counts_in made.went (table c) = rw ee (went_table c place_c made.went) in
          let z = back (table c) made.went in
          let plus : ℕ → (ℕ → ℕ) → ℕ → ℕ = λ n f. upd f w (f w + n) in
          record {
            done = ap (λ (t : Table). t 0) te ∙ z.of_done ∙ ap (plus (one_if (is_over made.went))) table_c.of_done;
            tally = λ total.
                same_tally _ _ (ap (λ (t : Table). t 1) te ∙ z.of_far ∙ table_c.of_far) (ap (λ (t : Table). t 2) te ∙ z.of_most ∙ table_c.of_most)
                (ap (λ (t : Table). t 3) te ∙ z.of_here ∙ table_c.of_here) (ap (λ (t : Table). t 4) te ∙ z.of_spins ∙ ap (plus (one_if (is_spun made.went))) table_c.of_spins)
                (ap (λ (t : Table). t 5) te ∙ z.of_idle ∙ ap (plus (one_if (is_idled made.went))) table_c.of_idle) refl;
          }
