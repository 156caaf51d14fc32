-- The turns that end a file, and the whole file: one law for each way out.
use Rattle.std.proofs.Common.{◌≡◌, ℕ, ◌≤◌, ◌<◌, List, ◌++◌, length, take, drop, Result, Ok, Err, true, false, leb, refl, sym, ap, ◌∙◌, length-take-le}
use Rattle.std.proofs.lemmas.Bool.{le-leb, lt-leb}
use Rattle.rules.specs.Bounds.{most_procs}
use Rattle.rules.specs.Settings.{zeros}
use Rattle.rules.specs.Settings as rules
use Rattle.rules.specs.Machines.{bytes}
use Rattle.rules.specs.Rule.{Got, Rule, ok, fault, after, give, lit, end}
use Rattle.rules.specs.File.{Front, front, rows, turns, settings, rest, whole, file}
use Rattle.rules.specs.Calls.{reading_of}
use Rattle.laws.proofs.RoundTrip.{exact_front}
use Rattle.settings.specs.Numbers.{refusal_number}
use Rattle.settings.specs.View.{settings_of}
use Rattle.settings.specs.declared.record.Settings.{Settings}
use Rattle.settings.specs.declared.refusal.Refusal.TheVariants.{TooShort}
use Rattle.tokens.specs.declared.fault.Fault.{Fault}
use Rattle.reader.specs.declared.head.Head.{Head}
use Rattle.reader.specs.declared.reading.Reading.{Reading}
use Rattle.reader.specs.LineView.{head_of, lined, ending}
use Rattle.reader.specs.ReadView.{GotIs, ReadIs}

-- a fault as the rules have it
abbrev faulty : {A : Type 0} → Fault → Got A
faulty f = fault (refusal_number f.refusal) f.place

-- ---- the turns of these settings, and nothing after them

module _ (t : Settings) (l : List ℕ) (p : ℕ) (d : List ℕ) where
  pub turns_bad : (f : Fault) → faulty f ≡ turns t.procs l p → GotIs (ending (settings_of t) l p) d d (Err f)
  unfolding reading_of ending whole
  turns_bad f e = record { is = rw (← e) }

  module _ (row : List ℕ) (n : ℕ) (l₁ : List ℕ) (p₁ : ℕ) (e₁ : ok (take n row) l₁ p₁ ≡ turns t.procs l p) where
    pub end_bad : (f : Fault) → faulty f ≡ end l₁ p₁ → GotIs (ending (settings_of t) l p) d d (Err f)
    unfolding reading_of ending whole
    end_bad f e = record { is = rw (← e₁) (rw (← e)) }

    module _ (l₂ : List ℕ) (p₂ : ℕ) (e₂ : ok tt l₂ p₂ ≡ end l₁ p₁) (w : n ≤ length row) where
      all : ending (settings_of t) l p ≡ ok (settings_of t, take n row) l₂ p₂
      unfolding ending whole
      all = rw (← e₁) (rw (← e₂))

      pub too_short : length d < n → GotIs (ending (settings_of t) l p) d d (Err (record { refusal = TooShort; place = 0 }))
      unfolding reading_of
      too_short h =
          let b : leb (length (take n row)) (length d) ≡ false = rw (length-take-le n row w) (lt-leb n (length d) h) in
          record { is = rw (all, b) }

      pub accepted : n ≤ length d → (x : List ℕ) → x ≡ take n row → GotIs (ending (settings_of t) l p) d (x ++ drop n d) (Ok (record { settings = t; count = n }))
      unfolding reading_of
      accepted h x e =
          let b : leb (length (take n row)) (length d) ≡ true = rw (length-take-le n row w) (le-leb n (length d) h) in
          record { is = rw (all, b, length-take-le n row w, e) }

-- what `closing` returns
pub ruleset closings = (turns_bad, end_bad, too_short, accepted)

-- ---- the whole file

-- the turns of these settings, after the processors' lines
abbrev listed : rules.Settings → Rule (rules.Settings × List ℕ)
listed t left at = after (lit (bytes "turns=") left at) (λ _ left at. after (turns t.procs left at) (λ ts. give (t, ts)))

after_rows : (g : Got (List ℕ × List ℕ)) (f : Front)
    → after g (λ v left at. listed (settings f v.0 v.1) left at) ≡ after (after g (λ v. give (settings f v.0 v.1))) listed
after_rows (ok v s p) f = refl
after_rows (fault n p) f = refl

rest_lined : (f : Front) (s : List ℕ) (p : ℕ) → rest f s p ≡ after (lined f s p) listed
unfolding rest
rest_lined f s p = after_rows (rows f.procs 0 zeros zeros s p) f

-- the lines leave procs as it is
lined_procs : (g : Got (List ℕ × List ℕ)) (f : Front) (t : rules.Settings) (s : List ℕ) (p : ℕ)
    → ok t s p ≡ after g (λ v. give (settings f v.0 v.1)) → t.procs ≡ f.procs
lined_procs (ok v s' p') f t s p e = let h : t ≡ settings f v.0 v.1 = cc in ap (λ (x : rules.Settings). x.procs) h
lined_procs (fault n q) f t s p e = absurd (cc)

module _ (s d : List ℕ) where
  refuses : (f : Fault) → file s 0 ≡ faulty f → ReadIs s d d (Err f)
  unfolding reading_of
  refuses f e = record { is = rw e }

  module _ (l : List ℕ) (at : ℕ) (el : l ≡ s) (ea : at ≡ 0) where
    first : file s 0 ≡ after (after (front l at) (λ f. rest f)) (λ v left at. after (end left at) (λ _. give v))
    unfolding file whole
    first = rw (el, ea)

    pub front_bad : (f : Fault) → faulty f ≡ front l at → ReadIs s d d (Err f)
    front_bad f e = refuses f (first ∙ rw (← e))

    module _ (h : Head) (l₁ : List ℕ) (p₁ : ℕ) (e₁ : ok (head_of h) l₁ p₁ ≡ front l at) where
      second : file s 0 ≡ after (after (lined (head_of h) l₁ p₁) listed) (λ v left at. after (end left at) (λ _. give v))
      second = first ∙ rw (← e₁) (rw (rest_lined (head_of h) l₁ p₁))

      pub lines_bad : (f : Fault) → faulty f ≡ lined (head_of h) l₁ p₁ → ReadIs s d d (Err f)
      lines_bad f e = refuses f (second ∙ rw (← e))

      module _ (t : Settings) (l₂ : List ℕ) (p₂ : ℕ) (e₂ : ok (settings_of t) l₂ p₂ ≡ lined (head_of h) l₁ p₁) where
        pub procs_most : t.procs ≤ most_procs
        procs_most =
            rw (lined_procs (rows h.procs 0 zeros zeros l₁ p₁) (head_of h) (settings_of t) l₂ p₂ e₂)
            ((exact_front.was l at (head_of h) l₁ p₁ (sym e₁)).1.procs_high)

        pub label_bad : (f : Fault) → faulty f ≡ lit (bytes "turns=") l₂ p₂ → ReadIs s d d (Err f)
        label_bad f e = refuses f (second ∙ rw (← e₂) (rw (← e)))

        module _ (l₃ : List ℕ) (p₃ : ℕ) (e₃ : ok tt l₃ p₃ ≡ lit (bytes "turns=") l₂ p₂) where
          third : file s 0 ≡ ending (settings_of t) l₃ p₃
          unfolding ending whole
          third = second ∙ rw (← e₂) (rw (← e₃))

          pub ends : (d' : List ℕ) (a : Result Reading Fault) → GotIs (ending (settings_of t) l₃ p₃) d d' a → ReadIs s d d' a
          ends d' a g = record { is = rw third g.is }

-- what `read` asks, and returns of a fault before the turns
pub ruleset ways = (front_bad, procs_most, lines_bad, label_bad)
