-- A run has one outcome: what `run` says of the answer, the events row and the table leaves no choice, and so with `tallies`.
use Rattle.std.proofs.Common.{◌≡◌, ℕ, min, List, [], ◌∷◌, ◌++◌, map, take, refl, sym, ap, ◌∙◌, Result, Ok, Err}
use Rattle.std.proofs.lemmas.List.{take-append-drop}
use Rattle.rules.specs.Settings.{Settings}
use Rattle.rules.specs.Calls as rules
use Rattle.settings.specs.declared.refusal.Refusal.{Refusal}
use Rattle.settings.proofs.Outcome.{same_refusal, refused}
use Rattle.machine.specs.declared.table.Record.{Record}
use Rattle.turns.specs.Stopping.{stop_number}
use Rattle.turns.specs.declared.played.Stop.{Stop}
use Rattle.turns.specs.declared.played.Stop.TheVariants.{UsedUp, Budget}
use Rattle.machine.specs.declared.running.Answer.{Answer}
use Rattle.machine.specs.declared.running.Tallied.{Tallied}
use Rattle.machine.specs.RunView.{record_of, answer_of, Ran, Tallies}

-- the code's record of the rules' record
abbrev pub record_back : rules.Record → Record
record_back r = record { done = r.done; remote = r.remote; most = r.most; spins = r.spins; idle = r.idle }

table_back : (table : List Record) → map record_back (map record_of table) ≡ table
table_back [] = refl
table_back (r ∷ table) = ap (λ l. r ∷ l) (table_back table)

-- no two stops have the same number, and no two answers are one to the rules
pub same_stop : (a b : Stop) → stop_number a ≡ stop_number b → a ≡ b
same_stop UsedUp UsedUp e = refl
same_stop UsedUp Budget e = absurd (cc)
same_stop Budget UsedUp e = absurd (cc)
same_stop Budget Budget e = refl

pub same_answer : (a b : Result Answer Refusal) → answer_of a ≡ answer_of b → a ≡ b
same_answer (Ok a) (Ok b) e = λ i. Ok (record { turns = (e i).turns; stop = same_stop a.stop b.stop (λ j. (e j).stop) i; events = (e i).events; total = (e i).total })
same_answer (Ok a) (Err q) e = absurd (refused q (λ i. (sym e i).number))
same_answer (Err p) (Ok b) e = absurd (refused p (λ i. (e i).number))
same_answer (Err p) (Err q) e = ap Err (same_refusal p q (λ i. (e i).number))

module _ (s : Settings) (turns events : List ℕ) where
  pub one_outcome : (events₁ events₂ : List ℕ) (table table₁ table₂ : List Record) (a a' : Result Answer Refusal)
      → Ran s turns events events₁ table table₁ a → Ran s turns events events₂ table table₂ a' → (a ≡ a') × (events₁ ≡ events₂) × (table₁ ≡ table₂)
  one_outcome events₁ events₂ table table₁ table₂ a a' ran ran' = (same_answer a a' (ap (λ r. r.answer) same), ap (λ r. r.events) same, tables)
    where
      left : rules.Running
      left = record { answer = answer_of a; events = events₁; table = map record_of table₁ }

      right : rules.Running
      right = record { answer = answer_of a'; events = events₂; table = map record_of table₂ }

      same : left ≡ right
      same = sym ran.is ∙ ran'.is

      tables : table₁ ≡ table₂
      tables = sym (table_back table₁) ∙ ap (λ r. map record_back r.table) same ∙ table_back table₂

  pub one_tally : (events₁ events₂ : List ℕ) (table : List Record) (room : ℕ) (r r' : Tallied)
      → Tallies s turns events events₁ table room r → Tallies s turns events events₂ table room r' → (r ≡ r') × (events₁ ≡ events₂)
  one_tally events₁ events₂ table room r r' tallied tallied' = ((λ i. record { answer = one.0 i; table = tables i }), one.1)
    where
      n : ℕ
      n = min room 64

      one : (r.answer ≡ r'.answer) × (events₁ ≡ events₂) × (take n r.table ≡ take n r'.table)
      one = one_outcome events₁ events₂ (take n table) (take n r.table) (take n r'.table) r.answer r'.answer tallied.lent tallied'.lent

      tables : r.table ≡ r'.table
      tables = sym (take-append-drop n r.table) ∙ (λ i. one.2 i ++ (tallied.past ∙ sym tallied'.past) i) ∙ take-append-drop n r'.table
