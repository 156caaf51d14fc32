-- The ticket lock's counters count the joins and the releases; and a trace of them.
use mathlib.Core.Path.{◌≡◌, refl}
use mathlib.Core.Bool.{true}
use mathlib.Core.List.{List, ◌++◌, append-nil}
use Prim.Native.Nat.{ℕ, ◌+◌, ◌%◌, ◌≤◌, ◌<◌}
use native.Mathlib.Omega.{arith}
use lib.ListN.{length, length-append}
use Rattle.rules.specs.Bounds.{most_ticket}
use Rattle.rules.specs.Settings.{Settings}
use Rattle.rules.specs.Memory.{upd}
use Rattle.rules.specs.Step.{remote, release, Event, said, Step}
use Rattle.rules.specs.Course.{turn, memory, says}
use Rattle.rules.specs.Play.{Run, first, within, taking, after, whole}
use Rattle.rules.specs.Ticket.{State, step, machine}
use Rattle.rules.specs.Calls.{all_below}
use Rattle.rules.proofs.Plays.{by_after, by_turn}
use Rattle.laws.specs.Laws.{of, accesses, Counters, two_boards, nine_turns, nine_accesses}
use Rattle.laws.proofs.Locks.{Lock, Good, of_append, good, by_good}
use Rattle.laws.proofs.TicketTurns.{ticket, apart, undisturbed, raised}

module _ (s : Settings) (small : s.procs ≤ most_ticket + 1) (first : s.ticket ≤ most_ticket) where
  abbrev lock : Lock machine s
  lock = ticket s small first

  -- so many were served, after these events
  abbrev Served : State → List Event → Type 0
  Served x es = x.release ≡ (s.ticket + length (of release es)) % (most_ticket + 1)

  one_turn : (r : Run State) (i : ℕ) → i < s.procs → Good machine s lock r → Served r.memory r.events
      → Served (after machine s r i).memory (after machine s r i).events
  unfolding taking
  one_turn r i b w c =
      by_after machine s r i (λ r. Served r.memory r.events) c c
      (λ l. by_turn machine s r.memory r.course i (λ t. Served (memory t r.memory) (r.events ++ said i (says t)))
      (λ p. rw (append-nil r.events) c) (λ e d. rw (append-nil r.events) c) (λ z. stepped))
    where
      t : Step State
      t = step s r.memory (r.course.at i) i

      stepped : Served t.memory (r.events ++ said i t.says)
      stepped =
          let e = raised s small first r.memory r.course.at w.q w.g w.line.inv i in
          rw (of_append release r.events (said i t.says), length-append) (omega (arith, e, c))

  pub counters : (t : List ℕ) → all_below s.procs t ≡ true → Counters s.ticket (whole machine s t)
  counters t b = record {
    undisturbed = undisturbed s small first _ _ _ _ w.line.inv;
    requests = let e = apart s small first _ _ _ _ w.line.inv in rw (w.line.joined, length-append) (omega (arith, e, served));
    releases = served;
  }
    where
      w : Good machine s lock (whole machine s t)
      w = good machine s lock t b

      served : Served (whole machine s t).memory (whole machine s t).events
      served = by_good machine s lock (λ r. Served r.memory r.events) one_turn (omega (arith, first)) t b

pub trace : accesses machine two_boards nine_turns (first machine two_boards) ≡ nine_accesses
unfolding accesses upd remote turn within taking after step
trace = refl
