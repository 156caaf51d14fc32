-- Putting the processors' lines.
use Rattle.std.proofs.Common.{◌≡◌, Iter, ℕ, suc, ◌+◌, ◌-◌, ◌≤◌, ◌<◌, List, ◌++◌, length, get_or, take, ap₂, subst, sym, ◌∙◌, arith}
use Rattle.std.specs.List.{enumerate_from, zip}
use Rattle.std.proofs.lemmas.List.{get_or-take, get_or_default, length-take}
use Rattle.std.proofs.lemmas.List.FromFn.{get_or-enumerate_from, length-enumerate_from}
use Rattle.std.proofs.lemmas.Slice.Zip.{get_or-zip, length-zip}
use Rattle.std.proofs.lemmas.Iterator.{YieldsList, zips, YieldsList-from_slice, YieldsList-from_take, YieldsList-from_zip}
use Rattle.std.proofs.lemmas.Iterator.Consumers.{YieldsList-from_enumerate}
use Rattle.std.proofs.iter.Yields.{fronts}
use Rattle.std.specs.Iterator.Adapters.{take_source, take_count, take_steps, enumerate_source, enumerate_count, enumerate_steps, zip_first, zip_second}
use Rattle.std.specs.Slice.Iter.{iter_rest}
use Rattle.std.specs.declared.iter.Take.{Take}
use Rattle.std.specs.declared.iter.Enumerate.{Enumerate}
use Rattle.std.specs.declared.iter.Zip.{Zip}
use Rattle.rules.specs.Bounds.{most_procs}
use Rattle.rules.specs.Settings.{entry}
use Rattle.rules.specs.File.{entries_text, rows_text}
use Rattle.writer.specs.SinkView.{SinkLaws}
use Rattle.writer.proofs.Left.{Left, left_none, left_first, left_next}

module _ (procs : ℕ) (rounds hold : List ℕ) where
  -- each processor with its entries
  abbrev pub entered : List (ℕ × (ℕ × ℕ))
  entered = take procs (enumerate_from 0 (zip rounds hold))

  -- what the loop goes over
  pub road : {s : Take (Enumerate (Zip (Iter ℕ) (Iter ℕ)))} → iter_rest (zip_first (enumerate_source (take_source s))) ≡ rounds
      → iter_rest (zip_second (enumerate_source (take_source s))) ≡ hold → enumerate_count (take_source s) ≡ 0 → take_count s ≡ procs
      → YieldsList (take_steps (enumerate_steps (zips fronts fronts))) (λ p. (p.0, (p.1.0.now, p.1.1.now))) s entered
  road a b c d = YieldsList-from_take procs (YieldsList-from_enumerate (YieldsList-from_zip (YieldsList-from_slice rounds a) (YieldsList-from_slice hold b)) c) d

  module _ (h : procs ≤ most_procs) (r : length rounds ≡ most_procs) (l : length hold ≡ most_procs) where
    entered_length : length entered ≡ procs
    entered_length = simp (length-take, length-enumerate_from, length-zip) (omega arith)

    entered_at : (n : ℕ) (p : ℕ × (ℕ × ℕ)) → n < procs → p ≡ get_or entered n p → (n, (entry rounds n, entry hold n)) ≡ p
    entered_at n p k e =
        let x : n < length rounds = omega arith in
        let y : n < length hold = omega arith in
        let z : 0 + n ≡ n = omega arith in
        sym (
        e ∙ get_or-take procs _ n p k ∙ get_or-enumerate_from 0 (zip rounds hold) n p (simp length-zip (omega arith))
        ∙ ap₂ (λ i q. (i, q)) z (
        get_or-zip rounds hold n p.1 x y ∙ ap₂ (λ a b. (a, b)) (get_or_default rounds n _ 0 x) (get_or_default hold n _ 0 y)))

    -- of t, which is put into s₀, the lines from n on are left
    module _ {S : Type 0} {room : S → ℕ} {put : S → List ℕ → S} (laws : SinkLaws room put) (t : List ℕ) (s₀ s : S) (n : ℕ)
        (u : Left room put t s₀ (rows_text (procs - n) n rounds hold) s) where
      pub rows_done : n ≡ length entered → s ≡ put s₀ t
      unfolding rows_text
      rows_done e =
          let z : procs - n ≡ 0 = omega (arith, entered_length) in
          left_none laws t s₀ s (subst (λ k. Left room put t s₀ (rows_text k n rounds hold) s) z u)

      module _ (p : ℕ × (ℕ × ℕ)) (m : n < length entered) (e : p ≡ get_or entered n p) where
        within : n < procs
        within = omega (arith, entered_length)

        opened : Left room put t s₀ (entries_text p.0 p.1.0 p.1.1 ++ rows_text (procs - (n + 1)) (n + 1) rounds hold) s
        unfolding rows_text
        opened =
            let z : procs - n ≡ suc (procs - (n + 1)) = omega (arith, within) in
            subst (λ q. Left room put t s₀ (entries_text q.0 q.1.0 q.1.1 ++ rows_text (procs - (n + 1)) (n + 1) rounds hold) s)
            (entered_at n p within e)
            (subst (λ k. Left room put t s₀ (rows_text k n rounds hold) s) z u)

        pub row_fits : length (entries_text p.0 p.1.0 p.1.1) < room s
        row_fits = left_first laws t s₀ (entries_text p.0 p.1.0 p.1.1) _ s opened

        pub row_next : (s' : S) → s' ≡ put s (entries_text p.0 p.1.0 p.1.1) → Left room put t s₀ (rows_text (procs - (n + 1)) (n + 1) rounds hold) s'
        row_next = left_next laws t s₀ (entries_text p.0 p.1.0 p.1.1) _ s opened
