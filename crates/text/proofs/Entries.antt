-- The entries keep what the laws say of the rules: each follows from a promise, which is an equation with the rules, and a law.
use Rattle.std.proofs.Common.{◌≡◌, ℕ, List, map, length, take, refl, sym, ap, ◌∙◌, subst, arith, Result, Ok, Err, IsOk}
use Rattle.std.proofs.lemmas.List.{length-map}
use Rattle.std.proofs.Math.Seq.{take-append_seam}
use Rattle.rules.specs.Settings as rules
use Rattle.rules.specs.Step.{code}
use Rattle.rules.specs.Calls as calls
use Rattle.rules.specs.Calls.{over, accepted_run}
use Rattle.laws.specs.Laws.{Accepts}
use Rattle.laws.proofs.All.{all_laws}
use Rattle.settings.specs.View.{settings_of}
use Rattle.settings.specs.declared.refusal.Refusal.{Refusal}
use Rattle.settings.proofs.Outcome.{refused}
use Rattle.machine.specs.declared.running.Answer.{Answer}
use Rattle.machine.specs.RunView.{record_of, answer_of}
use Rattle.reader.proofs.OneOutcome as reader
use Rattle.writer.proofs.OneOutcome as writer
use Rattle.text.specs.Entries.{FileRun, said, Demand, Entries}

-- a run of a file that names a lock
module _ (f : FileRun) where
  abbrev s : rules.Settings
  s = settings_of f.answer.settings

  abbrev turns : List ℕ
  turns = take f.answer.count f.after

  accepts : Accepts s turns f.before (map record_of f.blank)
  accepts = ap (λ (x : calls.Running). x.answer.number) f.ran.is

  demand : Demand f s turns
  unfolding accepted_run
  demand =
      let gives = sym f.ran.is ∙ all_laws.runs.gives s turns f.before (map record_of f.blank) accepts in
      let count : f.given.events ≡ length (map code (said f)) = ap (λ (x : calls.Running). x.answer.events) gives ∙ sym (length-map (said f) code) in
      let is : f.events ≡ over (map code (said f)) f.before = ap (λ (x : calls.Running). x.events) gives in
      let seam : take (length (map code (said f))) (over (map code (said f)) f.before) ≡ map code (said f) = take-append_seam (map code (said f)) _ in
      record {
        row = subst (λ (n : ℕ). take n f.events ≡ map code (said f)) (sym count) (rw is seam);
        line = λ t u e. all_laws.runs.run_line s t u f.before (map record_of f.blank) (rw e accepts) f.lock;
        four = λ two. rw f.ran.is at (all_laws.runs.run_four s turns f.before (map record_of f.blank) accepts two);
      }

-- an answer that the rules accept
accepted_run_is : (given : Result Answer Refusal) → (answer_of given).number ≡ 0 → IsOk given
accepted_run_is (Ok a) e = refl
accepted_run_is (Err q) e = absurd (refused q e)

pub entries : Entries
entries = record {
  read_write = λ file schedule after out out' r w e room v.
      let law = rw e.is at (all_laws.read_write file schedule out) in
      writer.one_outcome _ _ _ _ _ w (Ok (length file)) v (record { is = law refl (omega (arith, room)) });
  write_read = λ s turns out out' schedule after count r lr lh v room e.
      let law = rw v.is at (all_laws.write_read (settings_of s) turns out schedule lr lh) in
      reader.one_outcome _ _ _ _ r (Ok (record { settings = s; count = length turns })) e (record { is = law refl room });
  files_line = demand;
  files_agree = λ f g p. all_laws.runs.run_agree (s f) (s g) (turns f) (turns g) f.before g.before (map record_of f.blank) (map record_of g.blank)
      (accepts f) f.lock (accepts g) g.lock p;
  named_lock = λ file schedule after r e. rw e.is at (all_laws.machines.lock_file file schedule) refl;
  named_mcs = λ file schedule after r e. rw e.is at (all_laws.machines.no_other_line file schedule 2) refl (omega arith) (omega arith);
  read_run = λ file schedule after before events blank table r given e procs twice ran.
      let law = rw e.is at (all_laws.read_run file schedule before (map record_of blank)) in
      accepted_run_is given (sym (ap (λ (x : calls.Running). x.answer.number) ran.is) ∙ law refl (rw (length-map blank record_of) procs) (omega (arith, twice)));
}
