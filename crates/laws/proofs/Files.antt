-- The laws of files: round trips, the longest file, and how far read looks.
use Prim.Native.Nat.{ℕ, ◌≤◌}
use mathlib.Core.Path.{◌≡◌, refl, ap, sym, ◌∙◌, subst}
use mathlib.Core.List.{List, [], ◌∷◌, ◌++◌}
use lib.ListN.{length, length-append, replicate, length-replicate}
use lib.Seq.{take-append_seam}
use lib.Dec.{leb, eqb}
use borrow.Author.Tests.{le-leb, eqb-true, eqb-false}
use native.Mathlib.Omega.{arith}
use Rattle.rules.specs.Bounds.{most_procs, most_turns, longest_file}
use Rattle.rules.specs.Settings.{Settings}
use Rattle.rules.specs.Machines.{lock, numbered, machine}
use Rattle.rules.specs.Rule.{Got, ok, fault, after}
use Rattle.rules.specs.File.{whole, file, text}
use Rattle.rules.specs.Calls.{over, Reading, accepted_read, reading_of, reading, write_refusal, Writing, writing}
use Rattle.rules.proofs.Store.{by_test}
use Rattle.rules.proofs.Accepted.{Accepted, accepted, accepts}
use Rattle.laws.specs.Laws.{InLine, LockRun, Longest, settings_of, turns_of, file_of, farthest}
use Rattle.laws.proofs.Lines.{line, begun, lock_run}
use Rattle.laws.proofs.RoundTrip.{body, written, Full, exact_body, ending, file_was, file_reads, file_refuses}
use Rattle.laws.proofs.Near.{extend}
use Rattle.laws.proofs.Longest.{near_body, fullest, last_turns, fullest_full, fullest_length}

-- ---- read

-- what is known of it
pub record Read (bytes schedule : List ℕ) : Type 0 where
  pub value : Settings × List ℕ
  pub is : reading bytes schedule ≡ accepted_read value.0 value.1 schedule
  pub full : Full value
  pub as_text : bytes ≡ written value

pub was_read : (bytes schedule : List ℕ) → (reading bytes schedule).answer.number ≡ 0 → Read bytes schedule
unfolding reading_of
was_read bytes schedule = go (file bytes 0) refl
  where
    go : (g : Got (Settings × List ℕ)) → file bytes 0 ≡ g → (reading_of g schedule).answer.number ≡ 0 → Read bytes schedule
    go (ok v s at) e =
        by_test (λ (r : Reading). reading bytes schedule ≡ r → r.answer.number ≡ 0 → Read bytes schedule) (leb (length v.1) (length schedule)) _ _
        (λ t q h. let w = file_was bytes v s at e in record { value = v; is = q; full = w.1; as_text = w.0 })
        (λ t q h. absurd (omega arith))
        (ap (λ (g : Got (Settings × List ℕ)). reading_of g schedule) e)
    go (fault n p) e = λ h. absurd (omega (arith, file_refuses bytes n p e))

-- what read accepted: an accepted call, and the text of it
pub read_accepts : (bytes schedule : List ℕ)
    → (let r : Reading = reading bytes schedule in
    r.answer.number ≡ 0 → Accepted (settings_of r) (turns_of r) × (bytes ≡ text (settings_of r) (turns_of r)))
read_accepts bytes schedule h = go (was_read bytes schedule h)
  where
    go : Read bytes schedule → Accepted (settings_of (reading bytes schedule)) (turns_of (reading bytes schedule))
        × (bytes ≡ text (settings_of (reading bytes schedule)) (turns_of (reading bytes schedule)))
    go x =
        subst (λ (r : Reading). Accepted (settings_of r) (turns_of r) × (bytes ≡ text (settings_of r) (turns_of r))) (sym x.is)
        (rw (take-append_seam x.value.1) (x.full.accepted, x.as_text))

-- ---- write

-- the answer of an accepted call of write
abbrev written_as : List ℕ → List ℕ → Writing
written_as bytes out = record { answer = record { number = 0; count = length bytes }; out = over bytes out }

writes : (s : Settings) (t out : List ℕ) → Accepted s t → length (text s t) ≤ length out → writing s t out ≡ written_as (text s t) out
unfolding writing
writes s t out a h = rw (accepts s t _ a (le-leb (length (text s t)) (length out) h))

was_written : (s : Settings) (t out : List ℕ) → (writing s t out).answer.number ≡ 0 → Accepted s t × (writing s t out ≡ written_as (text s t) out)
unfolding writing
was_written s t out =
    by_test (λ (w : Writing). w.answer.number ≡ 0 → Accepted s t × (w ≡ written_as (text s t) out)) (eqb (write_refusal s t (length out)) 0) _ _
    (λ e h. ((accepted s t _ (eqb-true _ 0 e)).0, refl))
    (λ e h. absurd (eqb-false _ 0 e h))

-- ---- the round trips

pub read_write : (bytes schedule out : List ℕ)
    → (let r : Reading = reading bytes schedule in
    r.answer.number ≡ 0 → length bytes ≤ length out
    → writing (settings_of r) (turns_of r) out ≡ record { answer = record { number = 0; count = length bytes }; out = over bytes out })
read_write bytes schedule out h l =
    let r = reading bytes schedule in
    let a = read_accepts bytes schedule h in
    let room : length (text (settings_of r) (turns_of r)) ≤ length out = subst (λ (b : List ℕ). length b ≤ length out) a.1 l in
    subst (λ (b : List ℕ). writing (settings_of r) (turns_of r) out ≡ written_as b out) (sym a.1) (writes (settings_of r) (turns_of r) out a.0 room)

pub read_text : (v : Settings × List ℕ) (schedule : List ℕ) → Full v → length v.1 ≤ length schedule → reading (written v) schedule ≡ accepted_read v.0 v.1 schedule
unfolding reading_of
read_text v schedule f h = rw (file_reads v f, le-leb (length v.1) (length schedule) h)

pub write_read : (s : Settings) (t out schedule : List ℕ)
    → length s.rounds ≡ most_procs → length s.hold ≡ most_procs
    → (let w : Writing = writing s t out in
    w.answer.number ≡ 0 → length t ≤ length schedule
    → reading (file_of w) schedule ≡ record { answer = record { number = 0; place = 0; settings = s; count = length t }; schedule = over t schedule })
write_read s t out schedule rs hs h l =
    let a = was_written s t out h in
    let back : file_of (writing s t out) ≡ text s t = ap file_of a.1 ∙ take-append_seam (text s t) _ in
    ap (λ (b : List ℕ). reading b schedule) back ∙ read_text (s, t) schedule (record { accepted = a.0; rounds_long = rs; hold_long = hs }) l

-- ---- the longest file

text_most : (v : Settings × List ℕ) → Full v → length (written v) ≤ longest_file
text_most v f =
    let h = near_body.spends (written v ++ []) 0 v [] _ (exact_body.reads v f [] 0) in
    omega (arith, length-append (written v) [])

pub longest_reached : (bytes : List ℕ) × (length bytes ≡ longest_file) × ((reading bytes (replicate most_turns 0)).answer.number ≡ 0)
longest_reached = (
  written (fullest, last_turns),
  fullest_length,
  ap (λ (r : Reading). r.answer.number)
      (read_text (fullest, last_turns) (replicate most_turns 0) fullest_full (omega (arith, fullest_full.accepted.few, length-replicate {A = ℕ} most_turns 0))),
)

-- ---- how far read looks

file_cut : (bytes more : List ℕ) → farthest ≤ length bytes → file (bytes ++ more) 0 ≡ file bytes 0
unfolding file whole
file_cut bytes more h = rw (near_body.cuts.same bytes more 0 (omega arith)) (go (body bytes 0) refl)
  where
    go : (g : Got (Settings × List ℕ)) → body bytes 0 ≡ g → after (extend more g) ending ≡ after g ending
    go (ok v [] at) e = absurd (omega (arith, near_body.spends bytes 0 v [] at e))
    go (ok v (x ∷ left) at) e = refl
    go (fault n p) e = refl

pub longest : Longest
longest = record {
  at_most = λ bytes schedule h. let x = was_read bytes schedule h in omega (arith, ap length x.as_text, text_most x.value x.full);
  cut = λ bytes more schedule h. ap (λ (g : Got (Settings × List ℕ)). reading_of g schedule) (file_cut bytes more h);
  in_buffer = omega arith;
}

-- ---- the waiting line

-- the run over a beginning of an accepted file's schedule is a lock run, where the file names a lock
pub lock_run_file : (bytes schedule : List ℕ)
    → (let r : Reading = reading bytes schedule in
    r.answer.number ≡ 0 → (numbered (settings_of r).algo).sort ≡ lock
    → (t u : List ℕ) → t ++ u ≡ turns_of r → LockRun (machine (settings_of r).algo) (settings_of r) t)
lock_run_file bytes schedule h l t u e =
    let s : Settings = settings_of (reading bytes schedule) in lock_run s t (begun s t u (rw (← e) at (read_accepts bytes schedule h).0)) l

-- so it keeps the line
pub line_file : (bytes schedule : List ℕ)
    → (let r : Reading = reading bytes schedule in
    r.answer.number ≡ 0 → (numbered (settings_of r).algo).sort ≡ lock
    → (t u : List ℕ) → t ++ u ≡ turns_of r → InLine (machine (settings_of r).algo) (settings_of r) t)
line_file bytes schedule h l t u e =
    let s : Settings = settings_of (reading bytes schedule) in line (machine s.algo) s t (lock_run_file bytes schedule h l t u e)
