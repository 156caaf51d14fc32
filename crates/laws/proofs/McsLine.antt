-- The waiting line of the MCS lock: a list q of processors, the head of which holds or is about to.
use mathlib.Core.Path.{◌≡◌, refl, sym, ap, ◌∙◌, subst}
use mathlib.Core.Logic.{◌≢◌, inl, inr, Ne-symm}
use mathlib.Core.List.{List, [], ◌∷◌}
use Prim.Native.Nat.{ℕ, suc}
use native.Mathlib.Decide.{ℕ_discrete}
use Rattle.rules.specs.Mcs.{State}
use Rattle.rules.proofs.Store.{zero_suc}
use Rattle.laws.specs.Laws.{Without}
use Rattle.laws.proofs.Lists.{Mem, NoDup, without_mem}

-- the variables, and the step of each processor
pub record View : Type 0 where
  pub tail : ℕ
  pub next : ℕ → ℕ
  pub locked : ℕ → ℕ
  pub at : ℕ → ℕ
  pub pred : ℕ → ℕ
  pub succ : ℕ → ℕ

abbrev pub view : State → (ℕ → ℕ) → View
view x at = record { tail = x.tail; next = x.next; locked = x.locked; at = at; pred = x.pred; succ = x.succ }

-- ---- the line

-- b waits behind a
pub data Wait (s : View) (a b : ℕ) : Type 0 where
  w3 : s.at b ≡ 3 → s.pred b ≡ a → s.next a ≡ 0 → Wait s a b
  w4 : s.at b ≡ 4 → s.pred b ≡ a → s.next a ≡ 0 → s.locked b ≡ 1 → Wait s a b
  w5 : s.at b ≡ 5 → s.next a ≡ suc b → s.locked b ≡ 1 → Wait s a b

-- a is the first of the line, and g is a alone if a holds the lock, else nobody
pub data Head (s : View) (a : ℕ) (g : List ℕ) : Type 0 where
  h5 : s.at a ≡ 5 → s.locked a ≡ 0 → g ≡ [] → Head s a g
  h7 : s.at a ≡ 7 → g ≡ a ∷ [] → Head s a g
  h8 : s.at a ≡ 8 → g ≡ a ∷ [] → Head s a g
  h9 : s.at a ≡ 9 → s.tail ≢ suc a → g ≡ a ∷ [] → Head s a g
  h10 : s.at a ≡ 10 → s.next a ≡ suc (s.succ a) → g ≡ a ∷ [] → Head s a g

-- i is not in the line
pub data Out (s : View) (i : ℕ) : Type 0 where
  o1 : s.at i ≡ 1 → Out s i
  o2 : s.at i ≡ 2 → s.next i ≡ 0 → Out s i

-- those of the list wait one behind the other, the first of them behind a; the last is in tail
abbrev pub Chain : View → ℕ → List ℕ → Type 0
Chain s a [] = (s.next a ≡ 0) × (s.tail ≡ suc a)
Chain s a (b ∷ r) = Wait s a b × Chain s b r

abbrev pub Line : View → List ℕ → List ℕ → Type 0
Line s [] g = (s.tail ≡ 0) × (g ≡ [])
Line s (a ∷ r) g = Head s a g × Chain s a r

pub record Inv (s : View) (q g : List ℕ) : Type 0 where
  pub nodup : NoDup q
  pub line : Line s q g
  pub out : (j : ℕ) → Without j q → Out s j

-- ---- what a turn leaves alone

-- x has in t what it has in s
pub record Same (s t : View) (x : ℕ) : Type 0 where
  pub at_is : t.at x ≡ s.at x
  pub next_is : t.next x ≡ s.next x
  pub pred_is : t.pred x ≡ s.pred x
  pub locked_is : t.locked x ≡ s.locked x
  pub succ_is : t.succ x ≡ s.succ x

pub wait_keep : (s t : View) (a b : ℕ) → t.next a ≡ s.next a → t.at b ≡ s.at b → t.pred b ≡ s.pred b → t.locked b ≡ s.locked b
    → Wait s a b → Wait t a b
wait_keep s t a b n e p l (w3 x y z) = w3 (e ∙ x) (p ∙ y) (n ∙ z)
wait_keep s t a b n e p l (w4 x y z u) = w4 (e ∙ x) (p ∙ y) (n ∙ z) (l ∙ u)
wait_keep s t a b n e p l (w5 x y z) = w5 (e ∙ x) (n ∙ y) (l ∙ z)

pub head_keep : (s t : View) (a : ℕ) (g : List ℕ) → t.at a ≡ s.at a → t.locked a ≡ s.locked a → t.succ a ≡ s.succ a
    → (s.next a ≢ 0 → t.next a ≡ s.next a) → (s.tail ≢ suc a → t.tail ≢ suc a) → Head s a g → Head t a g
head_keep s t a g e l c n d (h5 x y z) = h5 (e ∙ x) (l ∙ y) z
head_keep s t a g e l c n d (h7 x z) = h7 (e ∙ x) z
head_keep s t a g e l c n d (h8 x z) = h8 (e ∙ x) z
head_keep s t a g e l c n d (h9 x y z) = h9 (e ∙ x) (d y) z
head_keep s t a g e l c n d (h10 x y z) = h10 (e ∙ x) (n (λ h. absurd (zero_suc (sym h ∙ y))) ∙ y ∙ ap suc (sym c)) z

pub out_keep : (s t : View) (i : ℕ) → Same s t i → Out s i → Out t i
out_keep s t i k (o1 e) = o1 (k.at_is ∙ e)
out_keep s t i k (o2 e n) = o2 (k.at_is ∙ e) (k.next_is ∙ n)

-- t is s but for what i and p have
abbrev pub Apart : View → View → ℕ → ℕ → Type 0
Apart s t i p = (x : ℕ) → x ≢ i → x ≢ p → Same s t x

pub chain_keep : (s t : View) (i p a : ℕ) (r : List ℕ) → t.tail ≡ s.tail → t.next a ≡ s.next a → Apart s t i p
    → Without i r → Without p r → Chain s a r → Chain t a r
chain_keep s t i p a [] et en k fi fp c = (en ∙ c.0, et ∙ c.1)
chain_keep s t i p a (b ∷ r) et en k fi fp c =
    let m = k b fi.0 fp.0 in
    (wait_keep s t a b en m.at_is m.pred_is m.locked_is c.0, chain_keep s t i p b r et m.next_is k fi.1 fp.1 c.1)

line_keep : (s t : View) (i : ℕ) (q g : List ℕ) → t.tail ≡ s.tail → Apart s t i i → Without i q → Line s q g → Line t q g
line_keep s t i [] g et k f l = (et ∙ l.0, l.1)
line_keep s t i (a ∷ r) g et k f l =
    let m = k a f.0 f.0 in
    (head_keep s t a g m.at_is m.locked_is m.succ_is (λ _. m.next_is) (λ n e. n (sym et ∙ e)) l.0, chain_keep s t i i a r et m.next_is k f.1 f.1 l.1)

-- ---- a turn that does not change the line: of the head, of one who waits, of one outside

-- the first of the line does something with its own step and succ
pub head_moves : (s t : View) (a : ℕ) (r g g' : List ℕ) → Inv s (a ∷ r) g
    → t.tail ≡ s.tail → t.next a ≡ s.next a → Apart s t a a → Head t a g' → Inv t (a ∷ r) g'
head_moves s t a r g g' v et en k h = record {
  nodup = v.nodup;
  line = (h, chain_keep s t a a a r et en k v.nodup.0 v.nodup.0 v.line.1);
  out = λ j f. out_keep s t j (k j (Ne-symm f.0) (Ne-symm f.0)) (v.out j f);
}

-- one outside does something with its own record
pub out_moves : (s t : View) (i : ℕ) (q g : List ℕ) → Inv s q g → Without i q → t.tail ≡ s.tail → Apart s t i i → Out t i → Inv t q g
out_moves s t i q g v f et k o = record {
  nodup = v.nodup;
  line = line_keep s t i q g et k f v.line;
  out = λ j fj. go j fj (ℕ_discrete j i);
}
  where
    go : (j : ℕ) → Without j q → Dec (j ≡ i) → Out t j
    go j fj (yes e) = subst (λ (x : ℕ). Out t x) (sym e) o
    go j fj (no n) = out_keep s t j (k j n n) (v.out j fj)

-- t is s but for what i has, and for p's next
pub record Mid (s t : View) (i p : ℕ) : Type 0 where
  pub tail_is : t.tail ≡ s.tail
  pub at_is : (x : ℕ) → x ≢ i → t.at x ≡ s.at x
  pub pred_is : (x : ℕ) → x ≢ i → t.pred x ≡ s.pred x
  pub locked_is : (x : ℕ) → x ≢ i → t.locked x ≡ s.locked x
  pub next_is : (x : ℕ) → x ≢ p → t.next x ≡ s.next x
  pub succ_is : (x : ℕ) → t.succ x ≡ s.succ x

pub mid_same : (s t : View) (i p x : ℕ) → Mid s t i p → x ≢ i → x ≢ p → Same s t x
mid_same s t i p x m n n' =
    record { at_is = m.at_is x n; next_is = m.next_is x n'; pred_is = m.pred_is x n; locked_is = m.locked_is x n; succ_is = m.succ_is x }

-- one who waits, the one before, and how the chain is put together again after its turn
pub record Focus (s : View) (a : ℕ) (r : List ℕ) (i : ℕ) : Type 0 where
  pub p : ℕ
  pub mem : Mem p (a ∷ r)
  pub wait : Wait s p i
  pub back : (t : View) → Mid s t i p → Wait t p i → Chain t a r

pub focus : (s : View) (a : ℕ) (r : List ℕ) (i : ℕ) → NoDup (a ∷ r) → Mem i r → Chain s a r → Focus s a r i
focus s a [] i d m c = absurd m
focus s a (b ∷ r) i d (inl e) c = subst (λ (x : ℕ). Focus s a (b ∷ r) x) e record {
  p = a;
  mem = inl refl;
  wait = c.0;
  back = λ t k w. (w, chain_keep s t b a b r k.tail_is (k.next_is b d.0.0) (λ x n n'. mid_same s t b a x k n n') d.1.0 d.0.1 c.1);
}
focus s a (b ∷ r) i d (inr m) c =
    let f = focus s b r i d.1 m c.1 in
    let ap : a ≢ f.p = Ne-symm (without_mem f.p a (b ∷ r) d.0 f.mem) in
    let bi : b ≢ i = Ne-symm (without_mem i b r d.1.0 m) in
    record {
      p = f.p;
      mem = inr f.mem;
      wait = f.wait;
      back = λ t k w. (wait_keep s t a b (k.next_is a ap) (k.at_is b bi) (k.pred_is b bi) (k.locked_is b bi) c.0, f.back t k w);
    }

-- one who waits does something with its own record and with the next of the one before
pub mid_moves : (s t : View) (a i : ℕ) (r g : List ℕ) → Inv s (a ∷ r) g → Mem i r → (f : Focus s a r i)
    → Mid s t i f.p → (s.next a ≢ 0 → t.next a ≡ s.next a) → Wait t f.p i → Inv t (a ∷ r) g
mid_moves s t a i r g v m f k en w =
    let ai : a ≢ i = Ne-symm (without_mem i a r v.nodup.0 m) in
    record {
      nodup = v.nodup;
      line = (head_keep s t a g (k.at_is a ai) (k.locked_is a ai) (k.succ_is a) en (λ n e. n (sym k.tail_is ∙ e)) v.line.0, f.back t k w);
      out = λ j fj.
          out_keep s t j (mid_same s t i f.p j k (Ne-symm (without_mem i j r fj.1 m)) (Ne-symm (without_mem f.p j (a ∷ r) fj f.mem))) (v.out j fj);
    }
