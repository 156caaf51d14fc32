-- How long a file is at most.
use Rattle.std.proofs.Common.{◌≡◌, ℕ, zero, suc, ◌+◌, ◌*◌, ◌≤◌, ◌<◌, ◌^◌, List, [], ◌∷◌, length, arith, length-append}
use Rattle.rules.specs.Bounds.{most_procs, most_rounds, most_hold}
use Rattle.rules.specs.Settings as rules
use Rattle.rules.specs.Settings.{entry}
use Rattle.rules.specs.Machines.{numbered}
use Rattle.rules.specs.File.{decimal, rows_text, turns_text, text}
use Rattle.rules.proofs.Accepted.{Row, Below, Accepted}
use Rattle.laws.proofs.Decimal.{decimal_length}
use Rattle.settings.specs.Numbers.{algo_number}
use Rattle.settings.specs.View.{settings_of}
use Rattle.settings.specs.declared.algo.Algo.{Algo}
use Rattle.settings.specs.declared.algo.Algo.TheVariants.{Ticket, Mcs, Central, Dissem, Tree}
use Rattle.settings.specs.declared.trial.Trial.{Trial}
use Rattle.settings.proofs.Trials.{trial_accepted}

name_short : (a : Algo) → length (numbered (algo_number a)).name ≤ 7
name_short Ticket = omega arith
name_short Mcs = omega arith
name_short Central = omega arith
name_short Dissem = omega arith
name_short Tree = omega arith

number_short : (n : ℕ) → n < 100000 → length (decimal n) ≤ 5
number_short n h = decimal_length 4 n (omega arith)

module _ (procs : ℕ) (rounds hold : List ℕ) (p : procs ≤ most_procs) (r : Row procs most_rounds rounds) (h : Row procs most_hold hold) where
  rows_short : (k i : ℕ) → i + k ≤ procs → length (rows_text k i rounds hold) ≤ k * 20
  unfolding rows_text
  rows_short zero i l = omega arith
  rows_short (suc k) i l =
      let a = r.fits i (omega arith) in
      let b = h.fits i (omega arith) in
      let x = number_short i (omega arith) in
      let y = number_short (entry rounds i) (omega arith) in
      let z = number_short (entry hold i) (omega arith) in
      let n = rows_short k (i + 1) (omega arith) in
      simp length-append (omega arith)

turns_short : (p : ℕ) (ts : List ℕ) → p ≤ most_procs → Below p ts → length (turns_text ts) ≤ 1 + length ts * 6
unfolding turns_text
turns_short p [] h b = omega arith
turns_short p (t ∷ []) h b = let n = number_short t (omega (arith, b.0)) in simp length-append (omega arith)
turns_short p (t ∷ u ∷ ts) h b =
    let n = number_short t (omega (arith, b.0)) in
    let m = turns_short p (u ∷ ts) h b.1 in
    simp length-append (omega arith)

short : (a : Algo) (s : rules.Settings) (ts : List ℕ) → s.algo ≡ algo_number a → Accepted s ts → length (text s ts) < 100000
unfolding text
short a s ts e k =
    let n : length (numbered s.algo).name ≤ 7 = rw e (name_short a) in
    let w = number_short s.procs (omega (arith, k.procs_high)) in
    let x = number_short s.home (omega (arith, k.procs_high, k.home)) in
    let y = number_short s.ticket (omega (arith, k.ticket)) in
    let z = number_short s.budget (omega (arith, k.budget)) in
    let r = rows_short s.procs s.rounds s.hold k.procs_high k.rounds k.hold s.procs 0 (omega arith) in
    let t = turns_short s.procs ts k.procs_high k.turns_below in
    simp length-append (omega (arith, k.procs_high, k.few))

pub few_procs : (t : Trial) → t.settings.procs ≤ most_procs
few_procs t = (trial_accepted t).procs_high

pub length_fits : (t : Trial) → length (text (settings_of t.settings) t.schedule.now) < 2 ^ 64
length_fits t = let h = short t.algo (settings_of t.settings) t.schedule.now t.named (trial_accepted t) in omega arith
