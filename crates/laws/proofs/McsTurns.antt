-- Every step keeps the line of the MCS lock.
use mathlib.Core.Path.{◌≡◌, refl, sym, ap, ◌∙◌}
use mathlib.Core.Logic.{◌≢◌, Ne-symm}
use mathlib.Core.Bool.{Bool, true, false}
use mathlib.Core.List.{List, [], ◌∷◌, ◌++◌}
use Prim.Native.Nat.{ℕ, zero, suc}
use native.Mathlib.Nat.{suc_inj}
use native.Mathlib.Decide.{ℕ_discrete}
use native.Mathlib.Omega.{arith}
use borrow.Author.Tests.{eqb-false}
use lib.Dec.{eqb, eqb→eq}
use lib.ListN.{length}
use Rattle.rules.specs.Memory.{upd}
use Rattle.rules.specs.Settings.{Settings}
use Rattle.rules.specs.Step.{grant, one, Step}
use Rattle.rules.specs.Mcs.{State, set_tail, set_next, set_locked, set_pred, set_succ, clears, swaps, waits, looks, drains, rereads, wakes, step, machine}
use Rattle.rules.proofs.Store.{upd_same, upd_other, zero_suc}
use Rattle.laws.specs.Laws.{Without, spins}
use Rattle.laws.proofs.Lists.{Mem, Place, outside, first, behind, find, without_init, nodup_snoc}
use Rattle.laws.proofs.Locks as locks
use Rattle.laws.proofs.Locks.{joins, enters, gets, frees, After, resting}
use Rattle.laws.proofs.Passages.{mcs_passage}
use Rattle.laws.proofs.McsLine.{View, view, Wait, w3, w4, w5, Head, h5, h7, h8, h9, h10, Out, o1, o2, Chain, Inv, wait_keep, head_keep, out_keep, Apart, chain_keep, head_moves, out_moves, Focus, focus, mid_moves}

abbrev Kept : State → (ℕ → ℕ) → List ℕ → List ℕ → Type 0
Kept x at q g = Inv (view x at) q g

abbrev Next : Step State → (ℕ → ℕ) → ℕ → List ℕ → List ℕ → Type 0
Next t at i q g = After Kept t at i q g

module _ (s : Settings) (x : State) (at : ℕ → ℕ) where
  -- ---- one who waits: 3, 4, 5

  wait_turn : (a i : ℕ) (r g : List ℕ) → Kept x at (a ∷ r) g → Mem i r → Next (step s x (at i) i) at i (a ∷ r) g
  unfolding step
  wait_turn a i r g v m = go f.wait
    where
      f : Focus (view x at) a r i
      f = focus (view x at) a r i v.nodup m v.line.1

      -- the link changes only where next was nil
      link : x.next f.p ≡ 0 → (v : ℕ) → Dec (a ≡ f.p) → x.next a ≢ 0 → upd x.next f.p v a ≡ x.next a
      link n v (yes e) h = absurd (h (ap x.next e ∙ n))
      link n v (no h') h = upd_other x.next f.p v a h'

      go : Wait (view x at) f.p i → Next (step s x (at i) i) at i (a ∷ r) g
      go (w3 e p n) = rw e (resting refl (mid_moves (view x at) (view (set_locked i 1 x) (upd at i 4)) a i r g v m f
          (search upd_other)
          (λ h. refl)
          (w4 (upd_same at i 4) p n (upd_same x.locked i 1))))
      go (w4 e p n l) = rw (e, p) (resting refl (mid_moves (view x at) (view (set_next f.p (suc i) x) (upd at i 5)) a i r g v m f
          (search upd_other)
          (link n (suc i) (ℕ_discrete a f.p))
          (w5 (upd_same at i 5) (upd_same x.next f.p (suc i)) l)))
      go (w5 e n l) = rw (e, l) (resting refl v)

  -- ---- the first of the line: 5 to 10

  -- a step of a, and no other store but to tail
  goto_apart : (a k v : ℕ) → Apart (view x at) (view (set_tail v x) (upd at a k)) a a
  goto_apart a k v y h h' = search upd_other

  module _ (a : ℕ) (r g : List ℕ) (v : Kept x at (a ∷ r) g) where
    -- a goes to step k, and nothing else happens
    goes_to : (k : ℕ) (g' : List ℕ) → Head (view x (upd at a k)) a g' → Kept x (upd at a k) (a ∷ r) g'
    goes_to k g' = head_moves (view x at) (view x (upd at a k)) a r g g' v refl refl (goto_apart a k x.tail)

    -- 7 and 9 with a successor
    linked : (j : ℕ) → x.next a ≡ suc j → g ≡ a ∷ [] → Kept (set_succ a j x) (upd at a 10) (a ∷ r) g
    linked j e z =
        head_moves (view x at) (view (set_succ a j x) (upd at a 10)) a r g g v refl refl
        (λ y h h'. search upd_other)
        (h10 (upd_same at a 10) (e ∙ ap suc (sym (upd_same x.succ a j))) z)

    turn5 : g ≡ [] → Next (waits 0 x a) at a (a ∷ r) g
    turn5 z = record { q' = a ∷ r; g' = a ∷ []; moves = rw z gets; inv = goes_to 7 (a ∷ []) (h7 (upd_same at a 7) refl) }

    turn7 : (n : ℕ) → x.next a ≡ n → g ≡ a ∷ [] → Next (looks n x a) at a (a ∷ r) g
    turn7 zero e z = resting refl (goes_to 8 g (h8 (upd_same at a 8) z))
    turn7 (suc j) e z = resting refl (linked j e z)

    turn9 : (n : ℕ) → x.next a ≡ n → g ≡ a ∷ [] → Next (rereads n x a) at a (a ∷ r) g
    turn9 zero e z = resting refl v
    turn9 (suc j) e z = resting refl (linked j e z)

  -- tail is the last of the line
  not_tail : (a b : ℕ) (r : List ℕ) → b ≢ a → Without a r → Chain (view x at) b r → x.tail ≢ suc a
  not_tail a b [] n f k h = n (suc_inj (sym k.1 ∙ h))
  not_tail a b (y ∷ r) n f k h = not_tail a y r f.0 f.1 k.1 h

  -- after its release a is outside, and so is whoever was
  leave : (t : View) (a p : ℕ) (r g : List ℕ) → Kept x at (a ∷ r) g → Apart (view x at) t a p → t.at a ≡ 1 → (j : ℕ) → Without j r → (j ≢ a → j ≢ p) → Out t j
  leave t a p r g v k e j f n = go (ℕ_discrete j a)
    where
      go : Dec (j ≡ a) → Out t j
      go (yes h) = o1 (ap t.at h ∙ e)
      go (no h) = out_keep (view x at) t j (k j h (n h)) (v.out j (Ne-symm h, f))

  turn8 : (a : ℕ) (r g : List ℕ) → Kept x at (a ∷ r) g → g ≡ a ∷ [] → (d : Bool) → eqb x.tail (suc a) ≡ d → Next (drains d s x) at a (a ∷ r) g
  turn8 a r g v z false e = resting refl (goes_to a r g v 9 g (h9 (upd_same at a 9) (eqb-false x.tail (suc a) e) z))
  turn8 a [] g v z true e = record {
    q' = [];
    g' = [];
    moves = rw z frees;
    inv = record {
      nodup = tt;
      line = (refl, refl);
      out = λ j f. leave (view (set_tail 0 x) (upd at a 1)) a a [] g v (goto_apart a 1 0) (upd_same at a 1) j f (λ h. h);
    };
  }
  turn8 a (y ∷ r) g v z true e =
      absurd (not_tail a y r v.nodup.0.0 v.nodup.0.1 v.line.1.1 (eqb→eq x.tail (suc a) (rw e tt)))

  turn10 : (a : ℕ) (r g : List ℕ) → Kept x at (a ∷ r) g → g ≡ a ∷ [] → x.next a ≡ suc (x.succ a) → Next (wakes x a) at a (a ∷ r) g
  turn10 a [] g v z e = absurd (zero_suc (sym v.line.1.0 ∙ e))
  turn10 a (y ∷ r) g v z e = go v.line.1.0
    where
      woken : View
      woken = view (set_locked (x.succ a) 0 x) (upd at a 1)

      apart : x.succ a ≡ y → Apart (view x at) woken a y
      apart h u n n' = let n'' : u ≢ x.succ a = λ e'. n' (e' ∙ h) in search upd_other

      go : Wait (view x at) a y → Next (wakes x a) at a (a ∷ y ∷ r) g
      go (w3 _ _ n) = absurd (zero_suc (sym n ∙ e))
      go (w4 _ _ n _) = absurd (zero_suc (sym n ∙ e))
      go (w5 k n l) =
          let h : x.succ a ≡ y = suc_inj (sym e ∙ n) in
          record {
            q' = y ∷ r;
            g' = [];
            moves = rw z frees;
            inv = record {
              nodup = v.nodup.1;
              line = (
                h5 (upd_other at a 1 y v.nodup.0.0 ∙ k) (rw h (upd_same x.locked y 0)) refl,
                chain_keep (view x at) woken a y y r refl refl (apart h) v.nodup.0.1 v.nodup.1.0 v.line.1.1,
              );
              out = λ j f. leave woken a y (y ∷ r) g v (apart h) (upd_same at a 1) j f (λ _. Ne-symm f.0);
            };
          }

  head_turn : (a : ℕ) (r g : List ℕ) → Kept x at (a ∷ r) g → Next (step s x (at a) a) at a (a ∷ r) g
  unfolding step
  head_turn a r g v = go v.line.0
    where
      go : Head (view x at) a g → Next (step s x (at a) a) at a (a ∷ r) g
      go (h5 e l z) = rw (e, l) (turn5 a r g v z)
      go (h7 e z) = rw e (turn7 a r g v (x.next a) refl z)
      go (h8 e z) = rw e (turn8 a r g v z (eqb x.tail (suc a)) refl)
      go (h9 e n z) = rw e (turn9 a r g v (x.next a) refl z)
      go (h10 e n z) = rw e (turn10 a r g v z n)

  -- ---- one outside: 1 and 2

  -- the last of the line is followed by i
  chain_snoc : (t : View) (a i p : ℕ) (r : List ℕ) → x.tail ≡ suc p → t.tail ≡ suc i → t.next i ≡ 0 → t.at i ≡ 3 → t.pred i ≡ p
      → Apart (view x at) t i i → a ≢ i → Without i r → Chain (view x at) a r → Chain t a (r ++ i ∷ [])
  chain_snoc t a i p [] e et en ea ep k n f h = (w3 ea (ep ∙ suc_inj (sym e ∙ h.1)) ((k a n n).next_is ∙ h.0), (en, et))
  chain_snoc t a i p (b ∷ r) e et en ea ep k n f h =
      let m = k b f.0 f.0 in
      (wait_keep (view x at) t a b (k a n n).next_is m.at_is m.pred_is m.locked_is h.0, chain_snoc t b i p r e et en ea ep k f.0 f.1 h.1)

  -- tail is nil only where nobody is in line
  tail_some : (a : ℕ) (r : List ℕ) → Chain (view x at) a r → x.tail ≢ 0
  tail_some a [] k h = zero_suc (sym h ∙ k.1)
  tail_some a (b ∷ r) k h = tail_some b r k.1 h

  -- all but i, who is in the new line, are outside if they were
  still_out : (t : View) (i : ℕ) (q g : List ℕ) → Kept x at q g → Apart (view x at) t i i → (j : ℕ) → Without j (q ++ i ∷ []) → Out t j
  still_out t i q g v k j f = let h = without_init j i q f in out_keep (view x at) t j (k j h.1 h.1) (v.out j h.0)

  turn2 : (i : ℕ) (q g : List ℕ) → Kept x at q g → Without i q → x.next i ≡ 0 → (n : ℕ) → x.tail ≡ n → Next (swaps n s x i) at i q g
  turn2 i [] g v f en zero e = record {
    q' = i ∷ [];
    g' = i ∷ [];
    moves = rw v.line.1 enters;
    inv = record {
      nodup = (tt, tt);
      line = (h7 (upd_same at i 7) refl, (en, refl));
      out = still_out (view (set_tail (suc i) x) (upd at i 7)) i [] g v (goto_apart i 7 (suc i));
    };
  }
  turn2 i (a ∷ r) g v f en zero e = absurd (tail_some a r v.line.1 e)
  turn2 i [] g v f en (suc p) e = absurd (zero_suc (sym v.line.0 ∙ e))
  turn2 i (a ∷ r) g v f en (suc p) e = record {
    q' = a ∷ (r ++ i ∷ []);
    g' = g;
    moves = joins;
    inv = record {
      nodup = nodup_snoc i (a ∷ r) f v.nodup;
      line = (
        head_keep (view x at) t a g (k a f.0 f.0).at_is refl refl (λ _. refl) (λ _ e. f.0 (sym (suc_inj e))) v.line.0,
        chain_snoc t a i p r e refl en (upd_same at i 3) (upd_same x.pred i p) k f.0 f.1 v.line.1,
      );
      out = still_out t i (a ∷ r) g v k;
    };
  }
    where
      t : View
      t = view (set_pred i p (set_tail (suc i) x)) (upd at i 3)

      k : Apart (view x at) t i i
      k y h h' = search upd_other

  turn1 : (i : ℕ) (q g : List ℕ) → Kept x at q g → Without i q → Next (clears x i) at i q g
  turn1 i q g v f = resting refl (out_moves (view x at) (view (set_next i 0 x) (upd at i 2)) i q g v f refl
      (λ y h h'. search upd_other)
      (o2 (upd_same at i 2) (upd_same x.next i 0)))

  out_turn : (i : ℕ) (q g : List ℕ) → Kept x at q g → Without i q → Next (step s x (at i) i) at i q g
  unfolding step
  out_turn i q g v f = go (v.out i f)
    where
      go : Out (view x at) i → Next (step s x (at i) i) at i q g
      go (o1 e) = rw e (turn1 i q g v f)
      go (o2 e n) = rw e (turn2 i q g v f n x.tail refl)

  -- ---- any turn

  one_turn : (i : ℕ) (q g : List ℕ) → Kept x at q g → Next (step s x (at i) i) at i q g
  one_turn i q g v = go q v (find i q)
    where
      go : (q : List ℕ) → Kept x at q g → Place i q → Next (step s x (at i) i) at i q g
      go q v (outside f) = out_turn i q g v f
      go q v (first {r = r}) = head_turn i r g v
      go q v (behind {a = a} {r = r} m) = wait_turn a i r g v m

  -- the first of the line, where nobody holds
  first_waits : (f : ℕ) (r : List ℕ) → Kept x at (f ∷ r) [] → (at f ≢ 1) × (at f ≢ 7) × ((step s x (at f) f).says ≡ one grant)
  unfolding step
  first_waits f r v = go v.line.0
    where
      go : Head (view x at) f [] → (at f ≢ 1) × (at f ≢ 7) × ((step s x (at f) f).says ≡ one grant)
      go (h5 e l z) = (omega arith, omega arith, rw (e, l) refl)
      go (h7 e z) = absurd (zero_suc (ap length z))
      go (h8 e z) = absurd (zero_suc (ap length z))
      go (h9 e n z) = absurd (zero_suc (ap length z))
      go (h10 e n z) = absurd (zero_suc (ap length z))

-- ---- who goes on

module _ (s : Settings) (x : State) (at : ℕ → ℕ) where
  out_goes : (i : ℕ) (q g : List ℕ) → Kept x at q g → Without i q → spins (step s x (at i) i).then ≡ false
  unfolding step
  out_goes i q g v f = go (v.out i f)
    where
      swap : (n : ℕ) → spins (swaps n s x i).then ≡ false
      swap zero = refl
      swap (suc n) = refl

      go : Out (view x at) i → spins (step s x (at i) i).then ≡ false
      go (o1 e) = rw e refl
      go (o2 e n) = rw e (swap x.tail)

  -- where the first has to wait for its successor's link, the successor goes on
  line_goes : (a : ℕ) (r g : List ℕ) → Kept x at (a ∷ r) g → locks.Goes machine s x at (a ∷ r)
  unfolding step
  line_goes a r g v = head v.line.0
    where
      look : (n : ℕ) → spins (looks n x a).then ≡ false
      look zero = refl
      look (suc n) = refl

      drain : (b : Bool) → spins (drains b s x).then ≡ false
      drain true = refl
      drain false = refl

      reread : (n : ℕ) → x.next a ≡ n → at a ≡ 9 → x.tail ≢ suc a → (r : List ℕ) → Chain (view x at) a r → locks.Goes machine s x at (a ∷ r)
      reread (suc n) h e d r c = locks.first_goes (omega arith) (rw (e, h) refl)
      reread zero h e d [] c = absurd (d c.1)
      reread zero h e d (b ∷ r) c = linking c.0
        where
          linking : Wait (view x at) a b → locks.Goes machine s x at (a ∷ b ∷ r)
          linking (w3 f p n) = locks.second_goes (omega arith) (rw f refl)
          linking (w4 f p n l) = locks.second_goes (omega arith) (rw f refl)
          linking (w5 f n l) = absurd (zero_suc (sym h ∙ n))

      head : Head (view x at) a g → locks.Goes machine s x at (a ∷ r)
      head (h5 e l z) = locks.first_goes (omega arith) (rw (e, l) refl)
      head (h7 e z) = locks.first_goes (omega arith) (rw e (look (x.next a)))
      head (h8 e z) = locks.first_goes (omega arith) (rw e (drain (eqb x.tail (suc a))))
      head (h9 e n z) = reread (x.next a) refl e n r v.line.1
      head (h10 e n z) = locks.first_goes (omega arith) (rw e refl)

pub queue : (s : Settings) → locks.Lock machine s
queue s = record {
  Inv = Kept;
  in_it = 7;
  start = record { nodup = tt; line = (refl, refl); out = λ j f. o1 refl };
  step = λ x at i q g b. one_turn s x at i q g;
  waits = λ x at f r v. first_waits s x at f r v;
  enters_it = locks.enters_by (mcs_passage s);
  out_goes = out_goes s;
  line_goes = line_goes s;
}
