-- Laws for the function `write`: one for each way out.
use Rattle.std.proofs.Common.{◌≡◌, ℕ, ◌+◌, zero-add, ◌≤◌, ◌<◌, Bool, true, false, List, length, eqb, leb, refl, ap, ap₂, sym, ◌∙◌, Ok, Err, ne_eqb, le-leb}
use Rattle.std.proofs.lemmas.Bool.{lt-leb}
use Rattle.rules.specs.Memory.{pick}
use Rattle.rules.specs.Calls.{refusal, writing}
use Rattle.rules.specs.File.{text}
use Rattle.rules.proofs.Accepted.{Accepted, accepted, accepts, refusal_room}
use Rattle.settings.specs.Numbers.{refusal_number}
use Rattle.settings.specs.View.{settings_of}
use Rattle.settings.specs.Check.{Checked}
use Rattle.settings.specs.declared.trial.Trial.{Trial}
use Rattle.settings.specs.declared.refusal.Refusal.{Refusal}
use Rattle.settings.specs.declared.refusal.Refusal.TheVariants.{TooShort}
use Rattle.settings.specs.declared.record.Settings.{Settings}
use Rattle.settings.proofs.Outcome.{refused}
use Rattle.writer.specs.SinkView.{over}
use Rattle.writer.specs.WriteView.{WriteIs}

module _ (s : Settings) (turns out : List ℕ) where
  abbrev whole : List ℕ
  whole = text (settings_of s) turns

  -- whether there is room for the whole file
  abbrev roomy : Bool
  roomy = leb (length whole) (length out)

  -- the number that is given
  given : (number : ℕ) → number ≡ refusal (settings_of s) turns true → pick (eqb number 0) (pick roomy 0 6) number ≡ refusal (settings_of s) turns roomy
  given number e = rw (e, refusal_room (settings_of s) turns roomy)

  refuses : (r : Refusal) → refusal_number r ≡ refusal (settings_of s) turns roomy → WriteIs (settings_of s) turns out out (Err r)
  unfolding writing
  refuses r e = record { is = rw (← e, ne_eqb (refusal_number r) 0 (refused r)) }

  -- 2, 3, 5 or 4
  pub write_refused : (r : Refusal) → Checked s turns (Err r) → WriteIs (settings_of s) turns out out (Err r)
  write_refused r k = refuses r (rw (ne_eqb (refusal_number r) 0 (refused r)) at (given (refusal_number r) k.number))

  module _ (t : Trial) (k : Checked s turns (Ok t)) where
    -- the trial's text is that of the settings and the turns
    abbrev its : List ℕ
    its = text (settings_of t.settings) t.schedule.now

    its_whole : its ≡ whole
    its_whole = ap₂ (λ (s : Settings) (ts : List ℕ). text (settings_of s) ts) (k.settings t refl) (k.schedule t refl)

    -- 6
    pub write_short : length out < length its → WriteIs (settings_of s) turns out out (Err TooShort)
    write_short h =
        let f : roomy ≡ false = lt-leb _ (length out) (rw its_whole at h) in
        refuses TooShort (ap (λ b. pick b 0 6) (sym f) ∙ given 0 k.number)

    module _ (h : length its ≤ length out) where
      pub write_done : (d out' : List ℕ) (r : ℕ) → d ≡ over out 0 its → out' ≡ d → r ≡ 0 + length its → WriteIs (settings_of s) turns out out' (Ok r)
      unfolding writing
      write_done d out' r o e n =
          let a : Accepted (settings_of s) turns = (accepted (settings_of s) turns true (sym k.number)).0 in
          let f : refusal (settings_of s) turns roomy ≡ 0 = accepts (settings_of s) turns roomy a (le-leb _ (length out) (rw its_whole at h)) in
          record { is = rw (f, n, e, o, its_whole, zero-add (length whole)) }

pub ruleset ways = (write_refused, write_short)
