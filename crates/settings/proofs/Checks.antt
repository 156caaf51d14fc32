-- One law for each way out of the checks, and for each function the set of its laws.
-- le_of_lt, lt_trans and lit< are in a set so that a test that says more than a law asks serves it too.
use Rattle.std.proofs.Common.{◌≡◌, ℕ, ◌+◌, ◌≤◌, ◌<◌, Bool, true, false, ◌&&◌, List, [], ◌∷◌, ◌++◌, length, eqb, leb, ltb, refl, sym, ap, ◌∙◌, arith, add-zero, Result, Ok, Err, eq-eqb, ne_eqb, le-leb, lt-ltb, le-ltb}
use Rattle.std.proofs.lemmas.Bool.{lt-leb, not-true, not-false}
use native.Mathlib.Nat.{le_of_lt, lt_trans}
use lib.Dec.{lit<}
use Rattle.std.specs.List.{list_all}
use Rattle.rules.specs.Bounds.{most_turns}
use Rattle.rules.specs.Settings as rules
use Rattle.rules.specs.Machines.{numbered, known}
use Rattle.rules.specs.Calls.{in_row, in_range, all_below, refusal}
use Rattle.settings.specs.Numbers.{algo_number, refusal_number}
use Rattle.settings.specs.View.{settings_of}
use Rattle.settings.specs.declared.algo.Algo.{Algo}
use Rattle.settings.specs.declared.algo.Algo.TheVariants as algo
use Rattle.settings.specs.declared.refusal.Refusal.{Refusal}
use Rattle.settings.specs.Check.{Checked}
use Rattle.settings.specs.declared.trial.Trial.{Trial}
use Rattle.settings.specs.declared.record.Settings.{Settings}

-- the machine of a number
named_known : (a : Algo) → known (numbered (algo_number a)) ≡ true
named_known algo.Ticket = refl
named_known algo.Mcs = refl
named_known algo.Central = refl
named_known algo.Dissem = refl
named_known algo.Tree = refl

pub known_one : {n : ℕ} (a : Algo) → n ≡ algo_number a → known (numbered n) ≡ true
known_one a e = ap (λ n. known (numbered n)) e ∙ named_known a

-- ---- a row: the entries below procs, and those past them

past_in_row : (procs most i : ℕ) → procs ≤ i → (past : List ℕ) → list_all (λ x. eqb x 0) past ≡ in_row procs most i past
unfolding in_row
past_in_row procs most i h [] = refl
past_in_row procs most i h (x ∷ past) = rw (le-ltb _ _ h) (ap (λ r. eqb x 0 && r) (past_in_row procs most (i + 1) (omega arith) past))

and_then : (a b c : Bool) → ((a && b) && c) ≡ (a && (b && c))
and_then true b c = refl
and_then false b c = refl

parts_in_row : (procs most i : ℕ) (below past : List ℕ) → i + length below ≤ procs → (0 < length past → procs ≤ i + length below)
    → (list_all (λ x. leb x most) below && list_all (λ x. eqb x 0) past) ≡ in_row procs most i (below ++ past)
unfolding in_row
parts_in_row procs most i [] [] h k = refl
parts_in_row procs most i [] (x ∷ past) h k = let q : procs ≤ i = simp add-zero at (k (omega arith)) in past_in_row procs most i q (x ∷ past)
parts_in_row procs most i (x ∷ below) past h k =
    and_then (leb x most) _ _
    ∙ rw (lt-ltb i procs (omega arith)) (ap (λ r. leb x most && r) (parts_in_row procs most (i + 1) below past (omega arith) (λ p. omega arith)))

pub row_parts : (procs most : ℕ) (row below past : List ℕ) → row ≡ below ++ past → length below ≤ procs → (0 < length past → procs ≤ length below)
    → (list_all (λ x. leb x most) below && list_all (λ x. eqb x 0) past) ≡ in_row procs most 0 row
row_parts procs most row below past e h k = rw e (parts_in_row procs most 0 below past (omega arith) (λ p. omega arith))

-- ---- the number of refusal

module _ (s : rules.Settings) (t : List ℕ) where
  pub by_2 : known (numbered s.algo) ≡ false → 2 ≡ refusal s t true
  unfolding refusal
  by_2 e = rw e refl

  module _ (k : known (numbered s.algo) ≡ true) where
    pub by_3 : (r : Bool) → r ≡ in_range s → r ≡ false → 3 ≡ refusal s t true
    unfolding refusal
    by_3 r e f = rw (k, sym e ∙ f) refl

    module _ (r : Bool) (er : r ≡ in_range s) (fr : r ≡ true) where
      pub by_5 : most_turns < length t → 5 ≡ refusal s t true
      unfolding refusal
      by_5 h = rw (k, sym er ∙ fr, lt-leb _ _ h) refl

      module _ (few : length t ≤ most_turns) (b : Bool) (eb : b ≡ all_below s.procs t) where
        pub by_4 : b ≡ false → 4 ≡ refusal s t true
        unfolding refusal
        by_4 f = rw (k, sym er ∙ fr, le-leb _ _ few, sym eb ∙ f) refl

        pub by_0 : b ≡ true → refusal s t true ≡ 0
        unfolding refusal
        by_0 f = rw (k, sym er ∙ fr, le-leb _ _ few, sym eb ∙ f) refl

pub ruleset numbers = (by_2, by_3, by_5, by_4, by_0, not-true, not-false, lt_trans, lit<)

-- ---- what the check gives

pub refuses : {s : Settings} {t : List ℕ} (r : Refusal) → refusal_number r ≡ refusal (settings_of s) t true → Checked s t (Err r)
refuses r e = record { number = e; settings = λ a f. absurd (cc); schedule = λ a f. absurd (cc) }

pub passes : {s : Settings} {t : List ℕ} (a : Trial) → a.settings ≡ s → a.schedule.now ≡ t → Checked s t (Ok a)
passes a e f = record { number = sym (rw (e, f) at a.in_order); settings = λ b g. cc; schedule = λ b g. cc }
