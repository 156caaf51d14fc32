-- No lock freezes: the laws of it, by their proofs.
use mathlib.Core.Path.{◌≡◌, refl, sym, ◌∙◌}
use mathlib.Core.Bool.{true, false}
use mathlib.Core.List.{List, [], ◌∷◌, ◌++◌}
use Prim.Native.Nat.{ℕ, zero, suc, ◌*◌, ◌≤◌, ◌<◌}
use native.Mathlib.Nat.{mul_comm}
use native.Mathlib.Omega.{arith}
use lib.ListN.{replicate}
use Rattle.rules.specs.Memory.{upd}
use Rattle.rules.specs.Settings.{Settings, entry}
use Rattle.rules.specs.Step.{remote, Machine}
use Rattle.rules.specs.Course.{turn}
use Rattle.rules.specs.Play.{next, taking, within, after, play, whole}
use Rattle.rules.specs.Calls.{all_below}
use Rattle.rules.specs.Ticket as ticket
use Rattle.rules.specs.Mcs as mcs
use Rattle.laws.specs.Laws.{sum, times, LockRun, ticket_run, queue_run, waits, AllDone, Sweep, Sweeps, none, more, ticket_steps, queue_steps, most_steps, enough, most_references, one_board, Going}
use Rattle.rules.proofs.Store.{false_true}
use Rattle.rules.proofs.Accepted.{below, all_below_lem}
use Rattle.laws.proofs.Lists.{below_append}
use Rattle.laws.proofs.Totals.{sum_times}
use Rattle.laws.proofs.Locks.{good}
use Rattle.laws.proofs.TicketTurns as tickets
use Rattle.laws.proofs.McsTurns.{queue}
use Rattle.laws.proofs.McsCost.{four_suffice}
use Rattle.laws.proofs.Waiting.{lasts}
use Rattle.laws.proofs.Steadiness.{steady, ticket_calm, mcs_calm, machine_steady}
use Rattle.laws.proofs.Unstuck.{goer}
use Rattle.laws.proofs.Finishing.{sweeps_below, finish}
use Rattle.laws.proofs.Passages.{ticket_passage, mcs_passage}
use Rattle.laws.proofs.Lines.{lock_run_accepted}
use Rattle.laws.proofs.Files.{lock_run_file}

unstuck : (m : Machine) (s : Settings) (t : List ℕ) → LockRun m s t → (i : ℕ) → i < s.procs → (whole m s t).course.done i < entry s.rounds i
    → (j : ℕ) × (j < s.procs) × (waits (next m s (whole m s t) j) ≡ false)
unstuck m s t (ticket_run small first b) =
    let k = tickets.ticket s small first in goer ticket.machine s k (whole ticket.machine s t) (good ticket.machine s k t b)
unstuck m s t (queue_run b) = goer mcs.machine s (queue s) (whole mcs.machine s t) (good mcs.machine s (queue s) t b)

finishes : (m : Machine) (s : Settings) (t u : List ℕ) (l : LockRun m s t) → Sweeps s.procs (enough (most_steps l) s) u
    → (whole m s (t ++ u)).stopped ≡ false → AllDone s (whole m s (t ++ u))
finishes m s t u (ticket_run small first b) =
    finish ticket.machine s ticket_steps 3 (ticket_passage s) (steady ticket.machine ticket_calm) (tickets.ticket s small first) t u b
finishes m s t u (queue_run b) = finish mcs.machine s queue_steps 7 (mcs_passage s) (steady mcs.machine mcs_calm) (queue s) t u b

-- four for each passage
priced : (s : Settings) → sum (λ i. entry s.rounds i * most_references) s.procs ≡ most_references * sum (entry s.rounds) s.procs
priced s = sum_times _ (entry s.rounds) most_references s.procs (λ i l. mul_comm (entry s.rounds i) most_references)

queue_finishes : (s : Settings) (t u : List ℕ) → all_below s.procs t ≡ true → most_references * sum (entry s.rounds) s.procs ≤ s.budget
    → Sweeps s.procs (enough queue_steps s) u → AllDone s (whole mcs.machine s (t ++ u))
queue_finishes s t u b h a =
    let all = all_below_lem s.procs (t ++ u) (below_append s.procs t u (below s.procs t b) (sweeps_below a)) in
    finishes mcs.machine s t u (queue_run b) a (four_suffice s (omega (arith, h, priced s)) (t ++ u) all)

-- one board takes six turns for a passage of four steps and two hold turns
pub sweeps_reached : (enough ticket_steps one_board ≡ 6) × Sweeps 1 5 (replicate 5 0) × ((whole ticket.machine one_board (replicate 5 0)).course.done 0 ≡ 0)
unfolding all_below whole play after within taking turn remote upd ticket.step
sweeps_reached = (refl, more one (more one (more one (more one (more one none)))), refl)
  where
    has : (i : ℕ) → i < 1 → 0 < times i (0 ∷ [])
    has zero l = omega arith
    has (suc i) l = absurd (omega arith)

    one : Sweep 1 (0 ∷ [])
    one = record { each_has = has; no_others = refl }

pub going : Going
going = record {
  lasts = lasts;
  steady = machine_steady;
  unstuck = unstuck;
  no_standstill = λ m s t l z. let g = unstuck m s t l z.who z.one_of_them z.passages_left in false_true (sym g.2 ∙ z.all_wait g.0 g.1);
  finishes = finishes;
  never_stopped = λ s t b h. four_suffice s (omega (arith, h, priced s)) t b;
  queue_finishes = queue_finishes;
  of_calls = lock_run_accepted;
  of_files = lock_run_file;
}
