-- Laws for the words in which the code keeps each processor's variables.
use mathlib.Core.Path.{fun_ext}
use native.Mathlib.Decide.{ℕ_discrete}
use native.Mathlib.Nat.{div-eq_of_lt}
use Rattle.std.proofs.Common.{◌≡◌, ◌≢◌, ℕ, ◌+◌, ◌-◌, ◌%◌, ◌^◌, ◌≤◌, ◌<◌, List, get_or, set, replicate, ap, ◌∙◌, arith, pow_mono}
use Rattle.rules.specs.Memory.{upd, each}
use Rattle.rules.specs.Settings.{Settings}
use Rattle.rules.specs.Tree.{State, start}
use Rattle.rules.proofs.Store.{upd_same, upd_other}
use Rattle.rules.proofs.Views.{view, Place, view_at, view_part, view_rest, view_blank}
use Rattle.turns.specs.BitView.{bits}
use Rattle.tree.specs.TreeView.{wake_of, sense_of, flag_of, memory_of}

pub same_state : (a b : State) → a.flag ≡ b.flag → a.wake ≡ b.wake → a.sense ≡ b.sense → a ≡ b
same_state a b p q r = λ j. record { flag = p j; wake = q j; sense = r j }

-- what the words stand for
abbrev pub memory : List ℕ → State
memory words = memory_of (record { words = words })

-- a word below 4 has no bit from 2 on
no_flag : (word slot : ℕ) → word < 4 → bits word (2 + slot) ≡ 0
unfolding bits
no_flag word slot h =
    let large : 2 ^ 2 ≤ 2 ^ (2 + slot) = pow_mono {i = 2} {j = 2 + slot} (omega arith) in
    let less : word < 2 ^ (2 + slot) = omega arith in
    rw (div-eq_of_lt less)

pub first_words : (s : Settings) → memory (replicate 64 2) ≡ start s
unfolding bits
first_words s =
    same_state _ _ (ap {B = ℕ → ℕ → ℕ} (λ (f : ℕ → ℕ) (i : ℕ). flag_of (f i)) (view_blank 64 2) ∙ ap {B = ℕ → ℕ → ℕ} (λ (f : ℕ → ℕ) (i : ℕ). f) (fun_ext (λ slot. ap (λ (n : ℕ). 1 - n) (no_flag 2 slot (omega arith)))))
    (ap {B = ℕ → ℕ} (λ (f : ℕ → ℕ) (i : ℕ). wake_of (f i)) (view_blank 64 2)) (ap {B = ℕ → ℕ} (λ (f : ℕ → ℕ) (i : ℕ). sense_of (f i)) (view_blank 64 2))

-- ---- a word v is stored

module _ {words : List ℕ} {i : ℕ} (p : Place words i) (v : ℕ) where
  -- the flags are set, the senses kept
  pub flags_set : v ≡ get_or words i 0 % 4 → memory (set words i v) ≡ record { flag = upd (memory words).flag i (each 1); wake = (memory words).wake; sense = (memory words).sense }
  unfolding bits
  flags_set e =
      same_state _ _ (view_part flag_of 2 p (fun_ext (λ slot. ap (λ (n : ℕ). 1 - n) (no_flag v slot (omega arith)))))
      (view_rest wake_of 2 p (rw (view_at 2 p) (omega arith))) (view_rest sense_of 2 p (rw (view_at 2 p) (omega arith)))

  -- its bits are those that were there but for bit u
  module _ (u value : ℕ) (e : bits v ≡ upd (bits (get_or words i 0)) u value) where
    same : bits v u ≡ value
    same = rw e (upd_same (bits (get_or words i 0)) u value)

    other : (b : ℕ) → b ≢ u → bits v b ≡ bits (view 2 words i) b
    other b n = rw (e, view_at 2 p) (upd_other (bits (get_or words i 0)) u value b n)

    flags_kept : u < 2 → flag_of v ≡ flag_of (view 2 words i)
    flags_kept h = fun_ext (λ slot. ap (λ (n : ℕ). 1 - n) (other (2 + slot) (λ q. omega arith)))

  pub wake_stored : (value : ℕ) → bits v ≡ upd (bits (get_or words i 0)) 0 value → memory (set words i v) ≡ record { flag = (memory words).flag; wake = upd (memory words).wake i value; sense = (memory words).sense }
  wake_stored n e = same_state _ _ (view_rest flag_of 2 p (flags_kept 0 n e (omega arith))) (view_part wake_of 2 p (same 0 n e)) (view_rest sense_of 2 p (other 0 n e 1 (λ q. omega arith)))

  pub sense_stored : (value : ℕ) → bits v ≡ upd (bits (get_or words i 0)) 1 value → memory (set words i v) ≡ record { flag = (memory words).flag; wake = (memory words).wake; sense = upd (memory words).sense i value }
  sense_stored n e = same_state _ _ (view_rest flag_of 2 p (flags_kept 1 n e (omega arith))) (view_rest wake_of 2 p (other 1 n e 0 (λ q. omega arith))) (view_part sense_of 2 p (same 1 n e))

  -- a child has told: the flag in its slot is clear
  pub flag_cleared : (slot : ℕ) → bits v ≡ upd (bits (get_or words i 0)) (2 + slot) 1
      → memory (set words i v) ≡ record { flag = upd (memory words).flag i (upd ((memory words).flag i) slot 0); wake = (memory words).wake; sense = (memory words).sense }
  flag_cleared slot e =
      same_state _ _ (view_part flag_of 2 p (fun_ext (λ j. go j (ℕ_discrete j slot))))
      (view_rest wake_of 2 p (other (2 + slot) 1 e 0 (λ q. omega arith))) (view_rest sense_of 2 p (other (2 + slot) 1 e 1 (λ q. omega arith)))
    where
      go : (j : ℕ) → Dec (j ≡ slot) → flag_of v j ≡ upd ((memory words).flag i) slot 0 j
      go j (yes d) = rw (d, upd_same ((memory words).flag i) slot 0, same (2 + slot) 1 e)
      go j (no n) = rw (upd_other ((memory words).flag i) slot 0 j n) (ap (λ (b : ℕ). 1 - b) (other (2 + slot) 1 e (2 + j) (λ q. n (omega arith))))

-- ---- a word as the code reads it

module _ {words : List ℕ} {i : ℕ} (p : Place words i) where
  -- the flag that step k reads is set where its bit is 0
  module _ (k b : ℕ) (h : 2 ≤ k) (e : b ≡ bits (get_or words i 0) k) where
    flag_is : (memory words).flag i (k - 2) ≡ 1 - b
    flag_is = let t : 2 + (k - 2) ≡ k = omega arith in rw (t, view_at 2 p, e)

    pub flag_set : b ≡ 0 → (memory words).flag i (k - 2) ≡ 1
    flag_set z = flag_is ∙ rw z

    pub flag_clear : (b ≡ 0 → ⊥) → (memory words).flag i (k - 2) ≢ 1
    flag_clear n f = n (omega (arith, flag_is, f))

  pub wake_is : (b : ℕ) → b ≡ bits (get_or words i 0) 0 → (memory words).wake i ≡ b
  wake_is b e = rw (view_at 2 p, e)

  pub sense_is : (b : ℕ) → b ≡ bits (get_or words i 0) 1 → (memory words).sense i ≡ b
  sense_is b e = rw (view_at 2 p, e)
