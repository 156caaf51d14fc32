-- Where processors can be in the tree barrier, and the rules' steps by what is done.
use native.Mathlib.Decide.{ℕ_discrete}
use Rattle.std.proofs.Common.{◌≡◌, ℕ, ◌+◌, ◌-◌, ◌≤◌, ◌<◌, Bool, true, false, eqb, ltb, Option, Some, None, IfSome, refl, ◌∙◌, arith, rules, eq-eqb, ne_eqb, ltb-true}
use Rattle.rules.specs.Memory.{pick, upd, each}
use Rattle.rules.specs.Settings.{Settings}
use Rattle.rules.specs.Step.{Access, writes, to, Step}
use Rattle.rules.specs.Course.{goes}
use Rattle.rules.specs.Tree.{State, child, left, goes_on, leaves, wakes_next, reading, looks, sets, does, step}
use Rattle.rules.proofs.Store.{upd_same, upd_other, either, by_test}
use Rattle.tree.specs.TreeView.{memory_next, says_next, to_next, Stands, Sound}

-- ---- where processors can be

-- the step after one that reads a flag
pub stands_next : (procs w c n : ℕ) → n ≤ 4 → Stands procs w (pick (ltb c procs) (2 + n) 6)
stands_next procs w c n h = either (Stands procs w) (ltb c procs) (2 + n) 6 (search (rules, arith)) (search (rules, arith))

module _ {procs : ℕ} {f : ℕ → ℕ} (w : ℕ) (sound : Sound procs f) where
  -- processor w goes to step k
  pub sound_at : (k : ℕ) → Stands procs w k → Sound procs (upd f w k)
  sound_at k h = record { stands = λ j. go j (ℕ_discrete j w) }
    where
      go : (j : ℕ) → Dec (j ≡ w) → Stands procs j (upd f w k j)
      go j (yes d) = rw (d, upd_same f w k) h
      go j (no n) = rw (upd_other f w k j n) (sound.stands j)

  -- a step that ends so
  pub sound_next : (next : Option ℕ) → IfSome next (Stands procs w) → Sound procs (goes (to_next next) w f)
  sound_next None h = sound_at 1 (search (rules, arith))
  sound_next (Some k) h = sound_at k h

-- ---- the rules' steps, by what is done

-- processor w is at step `at`, where it does what is done at step k
pub record Here (s : Settings) (w at k : ℕ) : Type 0 where
  pub does : k ≡ pick (eqb at 1) (pick (ltb (child w 0) s.procs) 2 6) at
  pub stands : Stands s.procs w k
  pub past : 2 ≤ k

pub here : (s : Settings) {w at k : ℕ} {f : ℕ → ℕ} → Sound s.procs f → f w ≡ at → k ≡ pick (eqb at 1) (pick (ltb (child w 0) s.procs) 2 6) at → Here s w at k
here s {w} {at} {k} {f} sound is e = record { does = e; stands = (go (ℕ_discrete at 1)).0; past = (go (ℕ_discrete at 1)).1 }
  where
    go : Dec (at ≡ 1) → Stands s.procs w k × (2 ≤ k)
    go (yes d) =
        rw (e, eq-eqb at 1 d)
        (either (λ (n : ℕ). Stands s.procs w n × (2 ≤ n)) (ltb (child w 0) s.procs) 2 6
        (search (rules, arith), omega arith) (search (rules, arith), omega arith))
    go (no n) =
        let h : Stands s.procs w at = rw is at (sound.stands w) in
        rw (e, ne_eqb at 1 n) (h, omega (arith, h.low))

module _ {s : Settings} {w at k : ℕ} (o : Here s w at k) (x : State) where
  -- the step that the rules make
  pub step_is : step s x at w ≡ does (eqb at 1) s x k w
  unfolding step
  step_is = go (ℕ_discrete at 1)
    where
      go : Dec (at ≡ 1) → pick (eqb at 1) (does true s x (reading s w 0) w) (does false s x at w) ≡ does (eqb at 1) s x k w
      go (yes e) = rw (o.does, eq-eqb at 1 e) refl
      go (no n) = rw (o.does, ne_eqb at 1 n) refl

  -- a step past 6 is not the first
  pub later : 7 ≤ k → eqb at 1 ≡ false
  later h = go (ℕ_discrete at 1)
    where
      first : (b : Bool) → k ≡ pick b 2 6 → ⊥
      first true e = omega arith
      first false e = omega arith

      go : Dec (at ≡ 1) → eqb at 1 ≡ false
      go (yes e) = absurd (first (ltb (child w 0) s.procs) (rw (eq-eqb at 1 e) at o.does))
      go (no n) = ne_eqb at 1 n

  -- a step that reads a flag
  pub looks_is : k ≤ 5 → step s x at w ≡ looks (eqb (x.flag w (k - 2)) 1) (eqb at 1) (k - 2) s x w
  looks_is h =
      step_is ∙ rw (ne_eqb k 6 (λ e. omega arith), ne_eqb k 7 (λ e. omega arith), ne_eqb k 8 (λ e. omega arith), ne_eqb k 9 (λ e. omega arith), ne_eqb k 10 (λ e. omega arith)) refl

-- ---- the steps that end by the step that comes next

abbrev pub ends : Option ℕ → (first : Bool) → Access → State → ℕ → Step State
ends next first access x i = record { memory = memory_next next x i; access = access; says = says_next next first; then = to_next next }

pub wakes_ends : (c k : ℕ) (first : Bool) (access : Access) (s : Settings) (y : State) (i : ℕ)
    → wakes_next c k first access s y i ≡ ends (pick (ltb c s.procs) (Some k) None) first access y i
wakes_ends c k first access s y i = go (ltb c s.procs)
  where
    go : (b : Bool) → pick b (goes_on first access (to k) y) (leaves first access y i) ≡ ends (pick b (Some k) None) first access y i
    go true = refl
    go false = refl

pub sets_ends : (first : Bool) (s : Settings) (x y : State) (w : ℕ) → y ≡ record { flag = upd x.flag w (each 1); wake = x.wake; sense = x.sense }
    → sets first s x w ≡ ends (pick (eqb w 0) (pick (ltb 1 s.procs) (Some 9) None) (Some 7)) first (writes w 0) y w
sets_ends first s x y w e = go (ℕ_discrete w 0)
  where
    go : Dec (w ≡ 0) → sets first s x w ≡ ends (pick (eqb w 0) (pick (ltb 1 s.procs) (Some 9) None) (Some 7)) first (writes w 0) y w
    go (yes z) = rw (e, z) (wakes_ends (left 0) 9 first (writes 0 0) s _ 0)
    go (no n) = rw (e, ne_eqb w 0 n) refl

-- where child c is woken at step k, if it is present
pub can_wake : (procs w c k : ℕ) → (c < procs → Stands procs w k) → IfSome (pick (ltb c procs) (Some k) None) (Stands procs w)
can_wake procs w c k h = by_test (λ (n : Option ℕ). IfSome n (Stands procs w)) (ltb c procs) (Some k) None (λ e. h (ltb-true c procs e)) (λ e. tt)

pub can_set : (procs w : ℕ) → IfSome (pick (eqb w 0) (pick (ltb 1 procs) (Some 9) None) (Some 7)) (Stands procs w)
can_set procs w = go (ℕ_discrete w 0)
  where
    go : Dec (w ≡ 0) → IfSome (pick (eqb w 0) (pick (ltb 1 procs) (Some 9) None) (Some 7)) (Stands procs w)
    go (yes z) = rw z (can_wake procs 0 (left 0) 9 (λ h. search (rules, arith)))
    go (no n) = rw (ne_eqb w 0 n) (search (rules, arith))
