-- What an accepted call of run gives: demand 3, of its answer and its table.
use mathlib.Core.Path.{◌≡◌, refl, sym, ap, ◌∙◌, subst}
use mathlib.Core.List.{List, [], ◌∷◌, ◌++◌, map}
use Prim.Native.Nat.{ℕ, zero, suc, ◌+◌, ◌*◌, ◌≤◌}
use native.Mathlib.Omega.{arith}
use borrow.Author.Tests.{leb-true, le-leb}
use lib.Dec.{leb}
use lib.ListN.{length, length-append, length-map, take, drop}
use lib.Seq.{take-append_seam}
use Rattle.rules.specs.Settings.{Settings}
use Rattle.rules.specs.Step.{code}
use Rattle.rules.specs.Play.{Run, whole}
use Rattle.rules.specs.Machines.{machine}
use Rattle.rules.specs.Calls.{over, Reading, reading, Record, records, accepted_run, Running, running}
use Rattle.rules.proofs.Store.{both}
use Rattle.rules.proofs.Accepted.{Accepted, accepted, accepts}
use Rattle.laws.specs.Laws.{LockRun, Runs, settings_of, turns_of, Accepts, NamesLock, events_of, AtMost, most_references}
use Rattle.laws.proofs.Lines.{line, begun, lock_run, agree}
use Rattle.laws.proofs.McsCost.{four}
use Rattle.laws.proofs.Refusals.{run_number}
use Rattle.laws.proofs.Files.{read_accepts}

-- ---- what is known of an accepted call

pub record Known (s : Settings) (t events : List ℕ) (table : List Record) : Type 0 where
  pub call : Accepted s t
  pub table_room : s.procs ≤ length table
  pub events_room : 2 * length t ≤ length events

module _ (s : Settings) (t events : List ℕ) (table : List Record) where
  known : Accepts s t events table → Known s t events table
  known e =
      let a = accepted s t _ (sym (run_number s t events table) ∙ e) in
      let w = both (leb s.procs (length table)) (leb (2 * length t) (length events)) a.1 in
      record { call = a.0; table_room = leb-true _ _ w.0; events_room = leb-true _ _ w.1 }

  pub accepting : Known s t events table → Accepts s t events table
  accepting k =
      run_number s t events table
      ∙ accepts s t _ k.call (rw (le-leb s.procs (length table) k.table_room, le-leb (2 * length t) (length events) k.events_room))

  gives : Accepts s t events table → running s t events table ≡ accepted_run s (whole (machine s.algo) s t) events table
  unfolding running
  gives e = rw (sym (run_number s t events table) ∙ e)

-- ---- beginnings

beginning : (s : Settings) (t u events : List ℕ) (table : List Record) → Accepts s (t ++ u) events table → Accepts s t events table
beginning s t u events table e =
    let k = known s (t ++ u) events table e in
    accepting s t events table (record {
      call = begun s t u k.call;
      table_room = k.table_room;
      events_room = omega (arith, k.events_room, length-append t u);
    })

-- what read accepted
take_few : (n : ℕ) (l : List ℕ) → length (take n l) ≤ n
take_few zero l = omega arith
take_few (suc n) [] = omega arith
take_few (suc n) (x ∷ l) = omega (arith, take_few n l)

pub read_run : (bytes schedule events : List ℕ) (table : List Record)
    → (let r : Reading = reading bytes schedule in
    r.answer.number ≡ 0 → (settings_of r).procs ≤ length table → 2 * r.answer.count ≤ length events → Accepts (settings_of r) (turns_of r) events table)
read_run bytes schedule events table h p e =
    let r = reading bytes schedule in
    accepting (settings_of r) (turns_of r) events table (record {
      call = (read_accepts bytes schedule h).0;
      table_room = p;
      events_room = omega (arith, e, take_few r.answer.count r.schedule);
    })

-- ---- the table

length_records : {S : Type 0} (r : Run S) (n i : ℕ) → length (records r n i) ≡ n
length_records r zero i = refl
length_records r (suc n) i = ap suc (length_records r n (i + 1))

at_most : {S : Type 0} (r : Run S) (k : ℕ) → ((i : ℕ) → r.tally.most i ≤ k) → (n i : ℕ) → AtMost k (records r n i)
at_most r k h zero i = tt
at_most r k h (suc n) i = (h i, at_most r k h n (i + 1))

run_events : (s : Settings) (t events : List ℕ) (table : List Record) → Accepts s t events table
    → (running s t events table).events ≡ map code (events_of s t) ++ drop (length (events_of s t)) events
unfolding accepted_run
run_events s t events table e =
    ap (λ (x : Running). x.events) (gives s t events table e)
    ∙ ap (λ (n : ℕ). map code (events_of s t) ++ drop n events) (length-map (events_of s t) code)

run_table : (s : Settings) (t events : List ℕ) (table : List Record) → Accepts s t events table
    → (running s t events table).table ≡ records (whole (machine s.algo) s t) s.procs 0 ++ drop s.procs table
unfolding accepted_run
run_table s t events table e =
    let r = whole (machine s.algo) s t in
    ap (λ (x : Running). x.table) (gives s t events table e)
    ∙ ap (λ (n : ℕ). records r s.procs 0 ++ drop n table) (length_records r s.procs 0)

-- the records that an accepted call writes
written : {S : Type 0} (s : Settings) (r : Run S) (events : List ℕ) (table : List Record)
    → take s.procs (accepted_run s r events table).table ≡ records r s.procs 0
unfolding accepted_run
written s r events table =
    ap (λ (n : ℕ). take n (over (records r s.procs 0) table)) (sym (length_records r s.procs 0)) ∙ take-append_seam (records r s.procs 0) _

run_four : (s : Settings) (t events : List ℕ) (table : List Record) → Accepts s t events table → s.algo ≡ 2
    → AtMost most_references (take s.procs (running s t events table).table)
run_four s t events table e two =
    rw (gives s t events table e, written s (whole (machine s.algo) s t) events table)
    (at_most (whole (machine s.algo) s t) most_references four_of s.procs 0)
  where
    four_of : (i : ℕ) → (whole (machine s.algo) s t).tally.most i ≤ most_references
    four_of i = subst (λ (a : ℕ). (whole (machine a) s t).tally.most i ≤ most_references) (sym two) (four s t i)

-- ---- all of it

pub runs : Runs
runs = record {
  gives = gives;
  beginning = beginning;
  run_events = run_events;
  run_table = run_table;
  decoded = λ e l. (omega arith, omega arith);
  run_line = λ s t u events table e l. line (machine s.algo) s t (lock_run s t (begun s t u (known s (t ++ u) events table e).call) l);
  run_four = run_four;
  run_agree = λ s w t u events events' table table' e l f m. agree _ _ s w t u (lock_of s t events table e l) (lock_of w u events' table' f m);
}
  where
    lock_of : (s : Settings) (t events : List ℕ) (table : List Record) → Accepts s t events table → NamesLock s → LockRun (machine s.algo) s t
    lock_of s t events table e = lock_run s t (known s t events table e).call
