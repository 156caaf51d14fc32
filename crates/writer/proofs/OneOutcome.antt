-- A write has one outcome: what `write` says of the answer and the buffer leaves no choice.
use Rattle.std.proofs.Common.{◌≡◌, ℕ, List, Result, Ok, Err, sym, ap, ◌∙◌}
use Rattle.rules.specs.Settings.{Settings}
use Rattle.rules.specs.Calls.{Writing}
use Rattle.settings.specs.View.{number_of}
use Rattle.settings.specs.declared.refusal.Refusal.{Refusal}
use Rattle.settings.proofs.Outcome.{same_refusal, refused}
use Rattle.writer.specs.WriteView.{count_of, answer_of, WriteIs}

same_answer : (r r' : Result ℕ Refusal) → number_of r ≡ number_of r' → count_of r ≡ count_of r' → r ≡ r'
same_answer (Ok n) (Ok m) e f = ap Ok f
same_answer (Ok n) (Err q) e f = absurd (refused q (sym e))
same_answer (Err p) (Ok m) e f = absurd (refused p e)
same_answer (Err p) (Err q) e f = ap Err (same_refusal p q e)

pub one_outcome : (s : Settings) (turns out out₁ out₂ : List ℕ) (r r' : Result ℕ Refusal)
    → WriteIs s turns out out₁ r → WriteIs s turns out out₂ r' → (r ≡ r') × (out₁ ≡ out₂)
one_outcome s turns out out₁ out₂ r r' w w' =
    let same : ◌≡◌ {A = Writing} (record { answer = answer_of r; out = out₁ }) (record { answer = answer_of r'; out = out₂ }) = sym w.is ∙ w'.is in
    (same_answer r r' (ap (λ (x : Writing). x.answer.number) same) (ap (λ (x : Writing). x.answer.count) same), ap (λ (x : Writing). x.out) same)
