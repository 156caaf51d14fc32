-- The number that write and run give is the first of 2, 3, 5, 4, 6 that applies; and a refusal touches nothing.
use mathlib.Core.Path.{◌≡◌, refl, sym, ap, ◌∙◌}
use mathlib.Core.Logic.{◌≢◌, ◌⊎◌, inl, inr}
use mathlib.Core.Bool.{Bool, true, false, ◌&&◌}
use mathlib.Core.List.{List, [], ◌∷◌, ◌++◌}
use Prim.Native.Nat.{ℕ, suc, ◌+◌, ◌*◌, ◌≤◌, ◌<◌}
use native.Mathlib.Decide.{dec_lt}
use native.Mathlib.Omega.{arith}
use borrow.Author.Tests.{leb-true, leb-false, ltb-true, ltb-false, eqb-true, eqb-false}
use lib.Dec.{eqb, leb, ltb}
use lib.ListN.{length}
use Rattle.rules.specs.Memory.{pick}
use Rattle.rules.specs.Bounds.{most_procs, most_ticket, most_budget, most_rounds, most_hold, most_turns}
use Rattle.rules.specs.Settings.{Settings, entry}
use Rattle.rules.specs.Play.{whole}
use Rattle.rules.specs.Machines.{machines, numbered, known, machine}
use Rattle.rules.specs.Rule.{Got, ok, fault}
use Rattle.rules.specs.File.{file, text}
use Rattle.rules.specs.Calls.{all, in_row, in_range, all_below, refusal, accepted_read, refused_read, reading_of, reading, accepted_write, refused_write, write_refusal, writing, Record, accepted_run, refused_run, run_refusal, Running, running}
use Rattle.rules.proofs.Store.{by_test, all_true, false_true, zero_suc}
use Rattle.rules.proofs.Accepted.{Row, row_holds, Below, below, tests}
use Rattle.rules.proofs.Known.{known_number, unknown_number}
use Rattle.laws.specs.Laws.{Unknown, Outside, procs_low, procs_high, home_high, ticket_high, budget_high, rounds_high, hold_high, rounds_past, hold_past, TooMany, Stray, First, gives_0, gives_2, gives_3, gives_4, gives_5, gives_6}

-- a test that holds exactly where a refusal does not apply
data Settled (P : Type 0) : Bool → Type 0 where
  not : ¬ P → Settled P true
  so : P → Settled P false

settled : (P : Type 0) (b : Bool) → (b ≡ true → ¬ P) → (b ≡ false → P) → Settled P b
settled P true f g = not (f refl)
settled P false f g = so (g refl)

-- five such tests, one after the other
first_of : {two three five four six : Type 0} {a b c d e : Bool} → Settled two a → Settled three b → Settled five c → Settled four d → Settled six e
    → First two three five four six (pick a (pick b (pick c (pick d (pick e 0 6) 4) 5) 3) 2)
first_of (so p) b c d e = search gives_2
first_of (not p) (so q) c d e = search gives_3
first_of (not p) (not q) (so r) d e = search gives_5
first_of (not p) (not q) (not r) (so u) e = search gives_4
first_of (not p) (not q) (not r) (not u) (so v) = search gives_6
first_of (not p) (not q) (not r) (not u) (not v) = search gives_0

-- ---- 2

settles_2 : (s : Settings) → Settled (Unknown s) (known (numbered s.algo))
settles_2 s = settled (Unknown s) _ named nameless
  where
    named : known (numbered s.algo) ≡ true → ¬ Unknown s
    named e u = false_true (sym (unknown_number s.algo u) ∙ e)

    nameless : known (numbered s.algo) ≡ false → Unknown s
    nameless e = go (dec_lt s.algo 1) (dec_lt machines s.algo)
      where
        go : Dec (s.algo < 1) → Dec (machines < s.algo) → Unknown s
        go (yes h) b = inl h
        go (no a) (yes h) = inr h
        go (no a) (no b) = absurd (false_true (sym e ∙ known_number s.algo (omega arith) (omega arith)))

-- ---- 3

-- some test of a list fails
abbrev Fails : List Bool → Type 0
Fails [] = ⊥
Fails (b ∷ l) = (b ≡ false) ⊎ Fails l

one_fails : (l : List Bool) → all l ≡ false → Fails l
one_fails [] e = absurd (false_true (sym e))
one_fails (true ∷ l) e = inr (one_fails l e)
one_fails (false ∷ l) e = inl refl

-- an entry of a row, of the processors from k on, that is not what it must be
abbrev Misfit : ℕ → ℕ → ℕ → List ℕ → Type 0
Misfit procs most k row = (i : ℕ) × (((k + i < procs) × (most < entry row i)) ⊎ ((procs ≤ k + i) × (entry row i ≢ 0)))

misfit : (procs most k : ℕ) (row : List ℕ) → in_row procs most k row ≡ false → Misfit procs most k row
unfolding in_row
misfit procs most k [] e = absurd (false_true (sym e))
misfit procs most k (x ∷ row) e = go (ltb k procs) refl (leb x most) refl (eqb x 0) refl e (misfit procs most (k + 1) row)
  where
    later : Misfit procs most (k + 1) row → Misfit procs most k (x ∷ row)
    later (i, inl h) = (suc i, inl (omega arith, h.1))
    later (i, inr h) = (suc i, inr (omega arith, h.1))

    go : (b : Bool) → ltb k procs ≡ b → (c : Bool) → leb x most ≡ c → (d : Bool) → eqb x 0 ≡ d → (pick b c d && in_row procs most (k + 1) row) ≡ false
        → (in_row procs most (k + 1) row ≡ false → Misfit procs most (k + 1) row) → Misfit procs most k (x ∷ row)
    go true f true g d h e rest = later (rest e)
    go true f false g d h e rest = let l = ltb-true k procs f in (0, inl (omega arith, leb-false x most g))
    go false f c g true h e rest = later (rest e)
    go false f c g false h e rest = let l = ltb-false k procs f in (0, inr (omega arith, eqb-false x 0 h))

settles_3 : (s : Settings) → Settled (Outside s) (in_range s)
unfolding in_range
settles_3 s = settled (Outside s) _ within without
  where
    within : in_range s ≡ true → ¬ Outside s
    within e =
        let r = all_true (tests s) e in
        out (leb-true _ _ r.0) (leb-true _ _ r.1.0) (ltb-true _ _ r.1.1.0) (leb-true _ _ r.1.1.1.0) (leb-true _ _ r.1.1.1.1.0)
        (row_holds _ _ _ r.1.1.1.1.1.0) (row_holds _ _ _ r.1.1.1.1.1.1.0)
      where
        out : 1 ≤ s.procs → s.procs ≤ most_procs → s.home < s.procs → s.ticket ≤ most_ticket → s.budget ≤ most_budget
            → Row s.procs most_rounds s.rounds → Row s.procs most_hold s.hold → ¬ Outside s
        out a b c d f g h (procs_low x) = omega arith
        out a b c d f g h (procs_high x) = omega arith
        out a b c d f g h (home_high x) = omega arith
        out a b c d f g h (ticket_high x) = omega arith
        out a b c d f g h (budget_high x) = omega arith
        out a b c d f g h (rounds_high i l x) = omega (arith, g.fits i l)
        out a b c d f g h (hold_high i l x) = omega (arith, h.fits i l)
        out a b c d f g h (rounds_past i l x) = x (g.past i l)
        out a b c d f g h (hold_past i l x) = x (h.past i l)

    without : in_range s ≡ false → Outside s
    without e = go (one_fails (tests s) e)
      where
        rounds : Misfit s.procs most_rounds 0 s.rounds → Outside s
        rounds (i, inl h) = rounds_high i (omega arith) h.1
        rounds (i, inr h) = rounds_past i (omega arith) h.1

        hold : Misfit s.procs most_hold 0 s.hold → Outside s
        hold (i, inl h) = hold_high i (omega arith) h.1
        hold (i, inr h) = hold_past i (omega arith) h.1

        go : Fails (tests s) → Outside s
        go (inl f) = procs_low (leb-false _ _ f)
        go (inr (inl f)) = procs_high (leb-false _ _ f)
        go (inr (inr (inl f))) = home_high (ltb-false _ _ f)
        go (inr (inr (inr (inl f)))) = ticket_high (leb-false _ _ f)
        go (inr (inr (inr (inr (inl f))))) = budget_high (leb-false _ _ f)
        go (inr (inr (inr (inr (inr (inl f)))))) = rounds (misfit _ _ 0 _ f)
        go (inr (inr (inr (inr (inr (inr (inl f))))))) = hold (misfit _ _ 0 _ f)
        go (inr (inr (inr (inr (inr (inr (inr f))))))) = absurd f

-- ---- 5, 4, 6

settles_leb : (a b : ℕ) → Settled (b < a) (leb a b)
settles_leb a b = settled (b < a) _ (λ e h. let l = leb-true a b e in omega arith) (leb-false a b)

no_stray : (p : ℕ) (before : List ℕ) (i : ℕ) (behind : List ℕ) → Below p (before ++ i ∷ behind) → i < p
no_stray p [] i behind b = b.0
no_stray p (j ∷ before) i behind b = no_stray p before i behind b.1

stray : (p : ℕ) (t : List ℕ) → all_below p t ≡ false → Stray p t
unfolding all_below
stray p [] e = absurd (false_true (sym e))
stray p (i ∷ t) e = go (ltb i p) refl e (stray p t)
  where
    go : (b : Bool) → ltb i p ≡ b → (b && all_below p t) ≡ false → (all_below p t ≡ false → Stray p t) → Stray p (i ∷ t)
    go false f e rest = record { before = []; who = i; behind = t; is = refl; not_below = ltb-false i p f }
    go true f e rest =
        let w = rest e in
        record { before = i ∷ w.before; who = w.who; behind = w.behind; is = ap (λ (l : List ℕ). i ∷ l) w.is; not_below = w.not_below }

settles_4 : (p : ℕ) (t : List ℕ) → Settled (Stray p t) (all_below p t)
settles_4 p t =
    settled (Stray p t) _
    (λ e h. let l = no_stray p h.before h.who h.behind (rw h.is at (below p t e)) in omega (arith, h.not_below)) (stray p t)

settles_and : (a b : Bool) (P Q : Type 0) → Settled P a → Settled Q b → Settled (P ⊎ Q) (a && b)
settles_and false b P Q (so p) h = so (inl p)
settles_and true false P Q (not p) (so q) = so (inr q)
settles_and true true P Q (not p) (not q) = not neither
  where
    neither : ¬ (P ⊎ Q)
    neither (inl x) = p x
    neither (inr x) = q x

refused_by : (s : Settings) (t : List ℕ) (roomy : Bool) (Short : Type 0) → Settled Short roomy
    → First (Unknown s) (Outside s) (TooMany t) (Stray s.procs t) Short (refusal s t roomy)
unfolding refusal
refused_by s t roomy Short h = first_of (settles_2 s) (settles_3 s) (settles_leb (length t) most_turns) (settles_4 s.procs t) h

-- ---- the calls

-- a call that goes by its number of refusal answers it
module _ {A : Type 0} (number : A → ℕ) (accepted refused : A) (n : ℕ) (za : number accepted ≡ 0) (zr : number refused ≡ n) where
  answers : number (pick (eqb n 0) accepted refused) ≡ n
  answers = by_test (λ a. number a ≡ n) (eqb n 0) accepted refused (λ e. za ∙ sym (eqb-true n 0 e)) (λ e. zr)

  refuses : (k : ℕ) → number (pick (eqb n 0) accepted refused) ≡ suc k → (n ≡ suc k) × (pick (eqb n 0) accepted refused ≡ refused)
  refuses k =
      by_test (λ a. number a ≡ suc k → (n ≡ suc k) × (a ≡ refused)) (eqb n 0) accepted refused
      (λ e f. absurd (zero_suc (sym za ∙ f))) (λ e f. (sym zr ∙ f, refl))

module _ (s : Settings) (t out : List ℕ) where
  pub refusals_write : First (Unknown s) (Outside s) (TooMany t) (Stray s.procs t) (length out < length (text s t)) (writing s t out).answer.number
  unfolding writing
  refusals_write =
      rw (answers (λ w. w.answer.number) (accepted_write s t out) (refused_write (write_refusal s t (length out)) out) (write_refusal s t (length out)) refl refl)
      (refused_by s t _ _ (settles_leb (length (text s t)) (length out)))

  pub untouched_write : (n : ℕ) → (writing s t out).answer.number ≡ suc n → writing s t out ≡ refused_write (suc n) out
  unfolding writing
  untouched_write n e =
      let w = refuses (λ w. w.answer.number) (accepted_write s t out) (refused_write (write_refusal s t (length out)) out) (write_refusal s t (length out)) refl refl n e in
      w.1 ∙ ap (λ (k : ℕ). refused_write k out) w.0

module _ (s : Settings) (t events : List ℕ) (table : List Record) where
  abbrev accepts : Running
  accepts = accepted_run s (whole (machine s.algo) s t) events table

  abbrev n₀ : ℕ
  n₀ = run_refusal s t (length events) (length table)

  pub run_number : (running s t events table).answer.number ≡ n₀
  unfolding running accepted_run
  run_number = answers (λ w. w.answer.number) accepts (refused_run n₀ events table) n₀ refl refl

  pub refusals_run : First (Unknown s) (Outside s) (TooMany t) (Stray s.procs t) ((length table < s.procs) ⊎ (length events < 2 * length t))
      (running s t events table).answer.number
  refusals_run =
      rw run_number
      (refused_by s t _ _ (settles_and _ _ _ _ (settles_leb s.procs (length table)) (settles_leb (2 * length t) (length events))))

  pub untouched_run : (n : ℕ) → (running s t events table).answer.number ≡ suc n → running s t events table ≡ refused_run (suc n) events table
  unfolding running accepted_run
  untouched_run n e =
      let w = refuses (λ w. w.answer.number) accepts (refused_run n₀ events table) n₀ refl refl n e in
      w.1 ∙ ap (λ (k : ℕ). refused_run k events table) w.0

pub untouched_read : (bytes schedule : List ℕ) (n : ℕ) → (reading bytes schedule).answer.number ≡ suc n
    → reading bytes schedule ≡ refused_read (suc n) (reading bytes schedule).answer.place schedule
unfolding reading_of
untouched_read bytes schedule n = go (file bytes 0)
  where
    go : (g : Got (Settings × List ℕ)) → (reading_of g schedule).answer.number ≡ suc n → reading_of g schedule ≡ refused_read (suc n) (reading_of g schedule).answer.place schedule
    go (fault m p) e = rw e
    go (ok v left at) f =
        by_test (λ r. r.answer.number ≡ suc n → r ≡ refused_read (suc n) r.answer.place schedule)
        (leb (length v.1) (length schedule)) (accepted_read v.0 v.1 schedule) (refused_read 6 0 schedule)
        (λ l e. absurd (zero_suc e)) (λ l e. rw (← e)) f
