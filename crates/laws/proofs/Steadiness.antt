-- In every machine, and in every slip, a spin changes no memory.
use mathlib.Core.Path.{◌≡◌, refl, sym, ap, ◌∙◌}
use mathlib.Core.Logic.{◌≢◌}
use mathlib.Core.Bool.{Bool, true, false}
use Prim.Native.Nat.{ℕ, ◌+◌, ◌-◌}
use native.Mathlib.Omega.{arith}
use borrow.Author.Tests.{ne_eqb, eqb-false}
use lib.Dec.{eqb, ltb}
use Rattle.rules.specs.Memory.{pick}
use Rattle.rules.specs.Settings.{Settings}
use Rattle.rules.specs.Step.{Access, nothing, one, arrive, stay, again, Step, Machine}
use Rattle.rules.specs.Course.{holding}
use Rattle.rules.specs.Ticket as ticket
use Rattle.rules.specs.Mcs as mcs
use Rattle.rules.specs.Central as central
use Rattle.rules.specs.Dissem as dissem
use Rattle.rules.specs.Tree as tree
use Rattle.rules.specs.Machines.{table, machine}
use Rattle.rules.proofs.Known.{found}
use Rattle.rules.proofs.Store.{either, by_test, false_true}
use Rattle.laws.specs.Laws.{spins, Steady}
use Rattle.laws.specs.Slips.{altered, exchanged}
use Rattle.laws.proofs.Passages as passages
use Rattle.laws.proofs.Passages.{Ahead, Walks, goes_to, goes_in, ends_it, ticket_waits, ticket_passage, mcs_passage}

-- the step goes on, or it stays and changes nothing
pub data Calm {S : Type 0} (x : S) (w : Step S) : Type 0 where
  goes_on : spins w.then ≡ false → Calm x w
  stays : w.memory ≡ x → holding w.says ≡ false → w.then ≡ stay → Calm x w

pub calm_or : {S : Type 0} {x : S} (b : Bool) {t u : Step S} → Calm x t → Calm x u → Calm x (pick b t u)
calm_or {x = x} b {t} {u} = either (Calm x) b t u

abbrev pub AllCalm : Machine → Type 0
AllCalm m = (s : Settings) (x : m.State) (k i : ℕ) → Calm x (m.step s x k i)

-- or it goes on looking, at a step that is a spin too
data Still (m : Machine) (s : Settings) (x : m.State) (i : ℕ) (w : Step m.State) : Type 0 where
  calm : Calm x w → Still m s x i w
  looks_on : (k : ℕ) → w.memory ≡ x → holding w.says ≡ false → w.then ≡ again k → spins (m.step s x k i).then ≡ true → Still m s x i w

module _ (m : Machine) (s : Settings) (x : m.State) (i : ℕ) {w : Step m.State} where
  same_memory : Still m s x i w → spins w.then ≡ true → w.memory ≡ x
  same_memory (calm (goes_on f)) e = absurd (false_true (sym f ∙ e))
  same_memory (calm (stays h l f)) e = h
  same_memory (looks_on k h l f z) e = h

  no_hold : Still m s x i w → spins w.then ≡ true → holding w.says ≡ false
  no_hold (calm (goes_on f)) e = absurd (false_true (sym f ∙ e))
  no_hold (calm (stays h l f)) e = l
  no_hold (looks_on k h l f z) e = l

  spins_on : (j : ℕ) → Still m s x i w → w.then ≡ again j → spins (m.step s x j i).then ≡ true
  spins_on j (calm (goes_on f)) e = absurd (false_true (sym f ∙ ap spins e))
  spins_on j (calm (stays h l f)) e = let z : ◌≡◌ {A = ℕ} 0 1 = cc in absurd (omega arith)
  spins_on j (looks_on k h l f z) e = let y : k ≡ j = cc in rw (sym y) z

steady_by : (m : Machine) → ((s : Settings) (x : m.State) (k i : ℕ) → Still m s x i (m.step s x k i)) → Steady m
steady_by m c = record {
  memory = λ s x k i. same_memory m s x i (c s x k i);
  no_hold = λ s x k i. no_hold m s x i (c s x k i);
  spins_on = λ s x k j i. spins_on m s x i j (c s x k i);
}

pub steady : (m : Machine) → AllCalm m → Steady m
steady m c = steady_by m (λ s x k i. calm (c s x k i))

-- ---- machines

-- every step of a lock's passage is calm
calm_by : {S : Type 0} {ahead : Ahead} {in_it h : ℕ} {x : S} {w : Step S} {v : ℕ} → Walks ahead in_it h x w v → Calm x w
calm_by (passages.stays e f n) = stays e n f
calm_by (goes_to j f n l) = goes_on (ap spins f)
calm_by (goes_in f n l) = goes_on (ap spins f)
calm_by (ends_it f n) = goes_on (ap spins f)

pub ticket_calm : AllCalm ticket.machine
ticket_calm s x k i = calm_by ((ticket_passage s).walks x k i 0)

pub ticket_waits_calm : (s : Settings) (x : ticket.State) (b : Bool) → Calm x (ticket.waits b s x)
ticket_waits_calm s x b = calm_by (ticket_waits s x 0 b)

pub mcs_calm : AllCalm mcs.machine
mcs_calm s x k i = calm_by ((mcs_passage s).walks x k i 0)

pub central_calm : AllCalm central.machine
unfolding central.step
central_calm s x k i = calm_or (eqb k 1) (goes_on refl) (calm_or (eqb k 2) (goes_on refl) (calm_or (eqb k 3) (goes_on refl) (wait (eqb x.sense (x.local i)))))
  where
    wait : (b : Bool) → Calm x (central.waits b s x)
    wait true = goes_on refl
    wait false = stays refl refl refl

pub dissem_calm : AllCalm dissem.machine
unfolding dissem.step
dissem_calm s x k i =
    calm_or (eqb k 1) (calm_or (eqb s.procs 1) (goes_on refl) (goes_on refl)) (
    calm_or (eqb k 2)
    (wait (eqb (x.flag i (dissem.variable x i (x.round i))) (x.sense i)) (eqb (x.round i + 1) (dissem.doublings s.procs))) (
    goes_on refl))
  where
    wait : (b last : Bool) → Calm x (dissem.waits b last x i)
    wait false last = stays refl refl refl
    wait true false = goes_on refl
    wait true true = goes_on refl

-- the tree barrier's first look, which may be a spin, is its arrival too: then it goes on at step 2 and looks for the same
abbrev Looks : Settings → tree.State → ℕ → Step tree.State → Type 0
Looks s x i w = Still tree.machine s x i w

-- the step at which flag k - 2 is looked at again
look_at : (k n : ℕ) → k ≢ 6 + n → 2 + (k - 2) ≢ 6 + n
look_at k n d = λ z. omega arith

looks_same : (k : ℕ) → (2 + (k - 2) ≢ 1) × (2 + (k - 2) - 2 ≡ k - 2)
looks_same k = (λ z. omega arith, omega arith)

module _ (s : Settings) (x : tree.State) (i : ℕ) where
  -- at a step that looks, a flag that is set makes a spin
  spins_at : (k : ℕ) → k ≢ 1 → k ≢ 6 → k ≢ 7 → k ≢ 8 → k ≢ 9 → k ≢ 10 → eqb (x.flag i (k - 2)) 1 ≡ true → spins (tree.step s x k i).then ≡ true
  unfolding tree.step
  spins_at k a b c d e f h = rw (ne_eqb k 1 a, ne_eqb k 6 b, ne_eqb k 7 c, ne_eqb k 8 d, ne_eqb k 9 e, ne_eqb k 10 f, h) refl

  look : (first : Bool) (k : ℕ) → k ≢ 6 → k ≢ 7 → k ≢ 8 → k ≢ 9 → k ≢ 10
      → (b : Bool) → eqb (x.flag i (k - 2)) 1 ≡ b → Looks s x i (tree.looks b first (k - 2) s x i)
  look first k b c d e f false h = calm (goes_on refl)
  look first k b c d e f true h =
      let w = looks_same k in
      looks_on (2 + (k - 2)) refl (either (λ w. holding w ≡ false) first (one arrive) nothing refl refl) refl
      (spins_at (2 + (k - 2)) w.0 (look_at k 0 b) (look_at k 1 c) (look_at k 2 d) (look_at k 3 e) (look_at k 4 f)
      (rw w.1 h))

  does : (first : Bool) (k : ℕ) → Looks s x i (tree.does first s x k i)
  does first k =
      by_test (Looks s x i) (eqb k 6) _ _ (λ e. sets) (λ a.
      by_test (Looks s x i) (eqb k 7) _ _ (λ e. calm (goes_on refl)) (λ b.
      by_test (Looks s x i) (eqb k 8) _ _ (λ e. waits (eqb (x.wake i) (x.sense i))) (λ c.
      by_test (Looks s x i) (eqb k 9) _ _ (λ e. wakes (tree.right i) 10 false _ _) (λ d.
      by_test (Looks s x i) (eqb k 10) _ _ (λ e. calm (goes_on refl)) (λ e.
      look first k (eqb-false k 6 a) (eqb-false k 7 b) (eqb-false k 8 c) (eqb-false k 9 d) (eqb-false k 10 e) (eqb (x.flag i (k - 2)) 1) refl)))))
    where
      wakes : (c k : ℕ) (first : Bool) (a : Access) (y : tree.State) → Looks s x i (tree.wakes_next c k first a s y i)
      wakes c k first a y = either (Looks s x i) (ltb c s.procs) _ _ (calm (goes_on refl)) (calm (goes_on refl))

      sets : Looks s x i (tree.sets first s x i)
      sets = either (Looks s x i) (eqb i 0) _ _ (wakes (tree.left i) 9 first _ _) (calm (goes_on refl))

      waits : (b : Bool) → Looks s x i (tree.waits b s x i)
      waits true = wakes (tree.left i) 9 false _ _
      waits false = calm (stays refl refl refl)

  looks : (k : ℕ) → Looks s x i (tree.step s x k i)
  unfolding tree.step
  looks k = either (Looks s x i) (eqb k 1) _ _ (does true (tree.reading s i 0)) (does false k)

tree_steady : Steady tree.machine
tree_steady = steady_by tree.machine (λ s x k i. looks s x i k)

pub machine_steady : (algo : ℕ) → Steady (machine algo)
machine_steady algo =
    found (λ l. Steady l.machine) (λ l. eqb algo l.number) table
    (steady _ ticket_calm, (steady _ mcs_calm, (steady _ central_calm, (steady _ dissem_calm, (tree_steady, steady _ ticket_calm)))))

-- ---- slips

pub altered_calm : (m : Machine) (n : ℕ) (does : Settings → m.State → ℕ → Step m.State)
    → ((s : Settings) (x : m.State) (i : ℕ) → Calm x (does s x i)) → AllCalm m → AllCalm (altered m n does)
altered_calm m n does f c s x k i = calm_or (eqb k n) (f s x i) (c s x k i)

pub exchanged_calm : (m : Machine) (j k : ℕ) (at_j at_k : Settings → m.State → ℕ → Step m.State)
    → ((s : Settings) (x : m.State) (i : ℕ) → Calm x (at_j s x i)) → ((s : Settings) (x : m.State) (i : ℕ) → Calm x (at_k s x i))
    → AllCalm m → AllCalm (exchanged m j k at_j at_k)
exchanged_calm m j k at_j at_k f g c = altered_calm (altered m j at_j) k at_k g (altered_calm m j at_j f c)
