-- Reading has one outcome: what `read` says of the answer and the schedule leaves no choice.
use Rattle.std.proofs.Common.{◌≡◌, ℕ, List, Result, Ok, Err, sym, ap, ◌∙◌}
use Rattle.rules.specs.Settings as rules
use Rattle.rules.specs.Calls as calls
use Rattle.settings.proofs.Outcome.{same_refusal, refused}
use Rattle.settings.specs.declared.record.Settings.{Settings}
use Rattle.tokens.specs.declared.fault.Fault.{Fault}
use Rattle.reader.specs.declared.reading.Reading.{Reading}
use Rattle.reader.specs.ReadView.{answer_of, ReadIs}

-- the code's settings of the rules' settings, and the code's reading of the rules' answer
abbrev settings_back : rules.Settings → Settings
settings_back s = record { algo = s.algo; procs = s.procs; home = s.home; ticket = s.ticket; budget = s.budget; rounds = s.rounds; hold = s.hold }

abbrev reading_back : calls.ReadAnswer → Reading
reading_back a = record { settings = settings_back a.settings; count = a.count }

-- no two answers are the same to the rules
one_answer : (a a' : Result Reading Fault) → answer_of a ≡ answer_of a' → a ≡ a'
one_answer (Ok r) (Ok q) e = ap Ok (ap reading_back e)
one_answer (Ok r) (Err f) e = absurd (refused f.refusal (sym (ap (λ (x : calls.ReadAnswer). x.number) e)))
one_answer (Err f) (Ok r) e = absurd (refused f.refusal (ap (λ (x : calls.ReadAnswer). x.number) e))
one_answer (Err f) (Err g) e =
    let r = same_refusal f.refusal g.refusal (ap (λ (x : calls.ReadAnswer). x.number) e) in
    let p : f.place ≡ g.place = ap (λ (x : calls.ReadAnswer). x.place) e in
    λ i. Err (record { refusal = r i; place = p i })

pub one_outcome : (file schedule after₁ after₂ : List ℕ) (a a' : Result Reading Fault) → ReadIs file schedule after₁ a → ReadIs file schedule after₂ a'
    → (a ≡ a') × (after₁ ≡ after₂)
one_outcome file schedule after₁ after₂ a a' r r' = (one_answer a a' (ap (λ x. x.answer) same), ap (λ x. x.schedule) same)
  where
    left : calls.Reading
    left = record { answer = answer_of a; schedule = after₁ }

    right : calls.Reading
    right = record { answer = answer_of a'; schedule = after₂ }

    same : left ≡ right
    same = sym r.is ∙ r'.is
