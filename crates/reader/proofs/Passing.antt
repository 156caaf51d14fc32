-- The turns: one law for each way out.
use Rattle.std.proofs.Common.{◌≡◌, ℕ, zero, suc, ◌+◌, ◌-◌, ◌≤◌, ◌<◌, Bool, true, false, List, [], ◌∷◌, ◌++◌, length, take, set, eqb, refl, arith, add-one, eq-eqb, ne_eqb, lt-ltb, le-ltb, take-suc-set}
use Rattle.rules.specs.Memory.{pick}
use Rattle.rules.specs.Bounds.{most_turns}
use Rattle.rules.specs.Rule.{Got, ok, fault, comma, feed, lit, number}
use Rattle.rules.specs.File.{items, turns}

-- ---- whether there are turns

module _ (procs : ℕ) where
  pub turns_none : (s : List ℕ) (at : ℕ) (s' : List ℕ) (p : ℕ) → ok tt s' p ≡ lit (feed ∷ []) s at → ok [] s' p ≡ turns procs s at
  unfolding lit turns
  turns_none [] at s' p e = cc
  turns_none (x ∷ s) at s' p e = go (eqb x feed) e
    where
      go : (t : Bool) → ok (tt {0}) s' p ≡ pick t (ok tt s (at + 1)) (fault 1 at) → ok [] s' p ≡ pick t (ok [] s (at + 1)) (items most_turns procs [] (x ∷ s) at)
      go true e = cc
      go false e = cc

  pub turns_some : (s : List ℕ) (at n p : ℕ) → ◌≡◌ {A = Got (Unit {0})} (fault n p) (lit (feed ∷ []) s at) → turns procs s at ≡ items (most_turns - 0) procs [] s at
  unfolding lit turns items number
  turns_some [] at n p e = refl
  turns_some (x ∷ s) at n p e = go (eqb x feed) e
    where
      go : (t : Bool) → ◌≡◌ {A = Got (Unit {0})} (fault n p) (pick t (ok tt s (at + 1)) (fault 1 at))
          → pick t (ok [] s (at + 1)) (items most_turns procs [] (x ∷ s) at) ≡ items (most_turns - 0) procs [] (x ∷ s) at
      go true e = cc
      go false e = refl

-- ---- one turn

module _ (procs i : ℕ) (row s : List ℕ) (p : ℕ) (g : Got (List ℕ)) (e : g ≡ items (most_turns - i) procs (take i row) s p) where
  pub turn_bad : (n q : ℕ) → fault n q ≡ number comma feed s p → fault n q ≡ g
  unfolding items
  turn_bad n q f = rw e (go (most_turns - i))
    where
      go : (k : ℕ) → fault n q ≡ items k procs (take i row) s p
      go zero = rw (← f)
      go (suc k) = rw (← f)

  module _ (v x : ℕ) (s' : List ℕ) (q : ℕ) (f : ok (v, x) s' q ≡ number comma feed s p) where
    pub turn_many : most_turns ≤ i → (k q : ℕ) → k ≡ 5 → q ≡ p → fault k q ≡ g
    unfolding items
    turn_many h k q y z = let n : most_turns - i ≡ 0 = omega arith in rw (y, z, e, n) (rw (← f))

    module _ (h : i < most_turns) where
      next : most_turns - i ≡ suc (most_turns - (i + 1))
      next = omega arith

      pub turn_stray : procs ≤ v → (k q : ℕ) → k ≡ 4 → q ≡ p → fault k q ≡ g
      unfolding items
      turn_stray l k q y z = rw (y, z, e, next) (rw (← f, le-ltb _ _ l))

      module _ (m : length row ≡ most_turns) (l : v < procs) where
        takes : take (i + 1) (set row i v) ≡ take i row ++ v ∷ []
        takes = rw (add-one i, take-suc-set row i v (omega arith))

        pub turn_last : x ≡ feed → ok (take (i + 1) (set row i v)) s' q ≡ g
        unfolding items
        turn_last t = rw (e, next, takes) (rw (← f, lt-ltb _ _ l, eq-eqb _ _ t))

        pub turn_next : (x ≡ feed → ⊥) → g ≡ items (most_turns - (i + 1)) procs (take (i + 1) (set row i v)) s' q
        unfolding items
        turn_next t = rw (e, next, takes) (rw (← f, lt-ltb _ _ l, ne_eqb _ _ t))

-- what `gather` keeps and returns
pub ruleset gathers = (turns_none, turns_some, turn_bad, turn_many, turn_stray, turn_last, turn_next)
