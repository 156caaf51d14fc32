-- The ticket lock's `step` meets its contract: each return is one of the rules' steps.
use Rattle.std.proofs.Common.{true, false, refl, rules}
use Rattle.rules.specs.Step.{remote}
use Rattle.rules.specs.Ticket.{asks, waits, finds, frees, step}
use Rattle.rules.proofs.Views.{view}
use Rattle.settings.specs.View.{settings_of}
use Rattle.turns.proofs.Turning.{stepped}
use Rattle.ticket.specs.TicketView.{memory_of}
use Rattle.ticket.proofs.lock.TicketMachine.step.Goals as goal

pub returns-in-1-clause-stepped : goal.returns-in-1-clause-stepped
unfolding step remote
returns-in-1-clause-stepped c =
    stepped (asks (settings_of c.args.s.now) (memory_of c.args.self) c.args.step.w.number) c.args.s.now.home (search rules)
    (search rules) refl c.requires.asked.hold (search rules) (search rules)

pub returns-in-3-clause-stepped : goal.returns-in-3-clause-stepped
unfolding step remote
returns-in-3-clause-stepped c =
    stepped (finds (settings_of c.args.s.now) (memory_of c.args.self) c.args.step.w.number) c.args.s.now.home (search rules)
    (search rules) refl c.requires.asked.hold (search rules) (search rules)

pub returns-then-self-mine-clause-stepped : goal.returns-then-self-mine-clause-stepped
unfolding step remote view
returns-then-self-mine-clause-stepped c =
    stepped (waits true (settings_of c.args.s.now) (memory_of c.args.self)) c.args.s.now.home (search rules)
    (search rules) refl c.requires.asked.hold (search rules) (search rules)

pub returns-in-2-clause-stepped : goal.returns-in-2-clause-stepped
unfolding step remote view
returns-in-2-clause-stepped c =
    stepped (waits false (settings_of c.args.s.now) (memory_of c.args.self)) c.args.s.now.home (search rules)
    (search rules) refl c.requires.asked.hold (search rules) (search rules)

pub returns-in_default-clause-stepped : goal.returns-in_default-clause-stepped
unfolding step remote
returns-in_default-clause-stepped c =
    stepped (frees (settings_of c.args.s.now) (memory_of c.args.self) c.args.step.w.number) c.args.s.now.home
    (search rules)
    (search rules) refl c.requires.asked.hold (search rules) (search rules)
