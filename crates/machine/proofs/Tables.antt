-- A table filled with the records of a run is the rules' table, and so a run gives what the rules say.
use Rattle.std.proofs.Common.{◌≡◌, ℕ, zero, suc, ◌+◌, ◌*◌, ◌<◌, List, [], ◌∷◌, ◌++◌, map, length, take, drop, set, refl, sym, ap, ap₂, ◌∙◌, arith, Ok, Err, ne_eqb}
use Rattle.std.proofs.lemmas.List.{take_more_set, map-append, length-map, length-take-le, drop-map}
use native.Mathlib.Nat.{add-zero}
use Rattle.std.specs.List.{range_with_len}
use Rattle.std.proofs.lemmas.List.FromFn.{map-range_with_len_more, length-map-range_with_len}
use Rattle.rules.specs.Tally.{Tally}
use Rattle.rules.specs.Machines.{machine}
use Rattle.rules.specs.Play.{Run, whole}
use Rattle.rules.specs.Calls as rules
use Rattle.rules.specs.Calls.{over, records, running, accepted_run}
use Rattle.rules.proofs.Views.{column}
use Rattle.settings.specs.View.{settings_of}
use Rattle.settings.specs.declared.refusal.Refusal.{Refusal}
use Rattle.settings.specs.declared.record.Settings.{Settings}
use Rattle.settings.proofs.Outcome.{refused}
use Rattle.turns.specs.declared.played.Played.{Played}
use Rattle.turns.specs.CountView.{numbers, done_of, tally_of}
use Rattle.machine.specs.declared.table.Record.{Record}
use Rattle.machine.specs.RunView.{record_of, record_at, records_at, Refuses, Plays, Ran}

-- ---- the table

-- one record more is written
pub one_more : (sums : List ℕ) (table : List Record) (i : ℕ) (r : Record)
    → i < length table → map record_of (take i table) ≡ records_at sums i → record_of r ≡ record_at sums i
    → map record_of (take (i + 1) (set table i r)) ≡ records_at sums (i + 1)
one_more sums table i r l e f =
    ap (map record_of) (take_more_set table i r l)
    ∙ map-append record_of (take i table) (r ∷ [])
    ∙ ap₂ (λ (a : List rules.Record) (b : rules.Record). a ++ b ∷ []) e f
    ∙ sym (map-range_with_len_more (record_at sums) 0 i i (omega arith))

-- the records of a run are those of its numbers
records_are : {S : Type 0} (r : Run S) (p : Played) → done_of p.sums ≡ r.course.done → tally_of p.sums p.total ≡ r.tally
    → (n i : ℕ) → records r n i ≡ map (record_at p.sums) (range_with_len i n)
unfolding column
records_are r p d t zero i = refl
records_are r p d t (suc n) i =
    let f : (g : Tally → ℕ) → g r.tally ≡ g (tally_of p.sums p.total) = λ g. ap g (sym t) in
    let one : r.course.done i ≡ done_of p.sums i = ap (λ (g : ℕ → ℕ). g i) (sym d) in
    ap₂ (λ (a : rules.Record) (l : List rules.Record). a ∷ l)
    (λ z. record {
      done = (rw (add-zero (i * numbers)) at one) z;
      remote = f (λ t. t.far i) z;
      most = f (λ t. t.most i) z;
      spins = f (λ t. t.spins i) z;
      idle = f (λ t. t.idle i) z;
    })
    (records_are r p d t n (i + 1))

-- ---- the call

same_run : {a b c d e f g h : ℕ} {k l : List ℕ} {m n : List rules.Record} → a ≡ b → c ≡ d → e ≡ f → g ≡ h → k ≡ l → m ≡ n
    → ◌≡◌ {A = rules.Running} (record { answer = record { number = 0; turns = a; stop = c; events = e; total = g }; events = k; table = m })
    (record { answer = record { number = 0; turns = b; stop = d; events = f; total = h }; events = l; table = n })
same_run p q r s t u = λ z. record { answer = record { number = 0; turns = p z; stop = q z; events = r z; total = s z }; events = t z; table = u z }

module _ (s : Settings) (t events : List ℕ) (table : List Record) where
  pub refused_is : (after : List ℕ) (r : Refusal) → Refuses s t events after (length table) r → Ran (settings_of s) t events after table table (Err r)
  unfolding running
  refused_is after r q = record { is = rw (length-map table record_of, q.number, ne_eqb _ 0 (refused r), q.same) refl }

  tables : (sums : List ℕ) (new : List Record) → map record_of new ≡ records_at sums s.procs
      → over (records_at sums s.procs) (map record_of table) ≡ map record_of (new ++ drop s.procs table)
  tables sums new e =
      rw (length-map-range_with_len (record_at sums) 0 s.procs, drop-map record_of s.procs table, ← e) (sym (map-append record_of new (drop s.procs table)))

  pub played_is : (after : List ℕ) (p : Played) → Plays s t events after (length table) p
      → (new : List Record) → map record_of new ≡ records_at p.sums (length (take s.procs table))
      → Ran (settings_of s) t events after table (new ++ drop s.procs table) (Ok (record { turns = p.taken; stop = p.stop; events = p.events; total = p.total }))
  unfolding running accepted_run
  played_is after p q new e =
      let r = whole (machine s.algo) (settings_of s) t in
      record {
        is = rw (length-map table record_of, q.number) (same_run (sym q.played.taken) (sym q.played.stop) (sym q.played.events)
            (ap (λ (t : Tally). t.total) (sym q.played.tally)) (sym q.played.row)
            (ap (λ (l : List rules.Record). over l (map record_of table)) (records_are r p q.played.done q.played.tally s.procs 0) ∙ tables p.sums new (rw (length-take-le s.procs table q.in_room) at e)));
      }
