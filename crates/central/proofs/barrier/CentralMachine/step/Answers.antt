-- The central barrier's `step` meets its contract: each return is one of the rules' steps.
use Rattle.std.proofs.Common.{true, false, ◌≡◌, eqb, refl, eq-eqb, ne_eqb, rules}
use Rattle.rules.specs.Memory.{pick}
use Rattle.rules.specs.Step.{remote, to}
use Rattle.rules.specs.Central.{counts, resets, opens, waits, step}
use Rattle.rules.proofs.Views.{Place, view_at}
use Rattle.settings.specs.View.{settings_of}
use Rattle.turns.proofs.Turning.{stepped}
use Rattle.central.specs.CentralView.{memory_of}
use Rattle.central.proofs.barrier.CentralMachine.step.Goals as goal
use Rattle.central.proofs.barrier.CentralMachine.step.Goals.{then-self-eq1, else-self-eq1}

pub returns-in-1-clause-stepped : goal.returns-in-1-clause-stepped
unfolding step remote
returns-in-1-clause-stepped c =
    let next : c.if-self-eq1.next ≡ pick (eqb c.args.self.count 1) 2 4 =
    elim c.if-self-eq1.branch [ then-self-eq1 w ↦ rw (w.next-is, eq-eqb c.args.self.count 1 w.if-self-eq1.true) refl | else-self-eq1 w ↦ rw (w.next-is, ne_eqb c.args.self.count 1 w.if-self-eq1.false) refl ] in
    let did = counts (settings_of c.args.s.now) (memory_of c.args.self) c.args.step.w.number in
    stepped (record { memory = did.memory; access = did.access; says = did.says; then = to c.if-self-eq1.next }) c.args.s.now.home (rw (c.in-1.is, next) refl)
    (search rules) refl c.requires.asked.hold (search rules) (search rules)

pub returns-in-2-clause-stepped : goal.returns-in-2-clause-stepped
unfolding step remote
returns-in-2-clause-stepped c =
    stepped (resets (settings_of c.args.s.now) (memory_of c.args.self)) c.args.s.now.home (search rules)
    (search rules) refl c.requires.asked.hold (search rules) (search rules)

pub returns-in-3-clause-stepped : goal.returns-in-3-clause-stepped
unfolding step remote
returns-in-3-clause-stepped c =
    stepped (opens (settings_of c.args.s.now) (memory_of c.args.self) c.args.step.w.number) c.args.s.now.home (search rules)
    (search rules) refl c.requires.asked.hold (search rules) (search rules)

pub returns-then-self-local-clause-stepped : goal.returns-then-self-local-clause-stepped
unfolding step remote
returns-then-self-local-clause-stepped c =
    let p : Place c.args.self.local c.args.step.w.number = search rules in
    stepped (waits true (settings_of c.args.s.now) (memory_of c.args.self)) c.args.s.now.home (rw (view_at 1 p) (search rules))
    (search rules) refl c.requires.asked.hold (search rules) (search rules)

pub returns-in_default-clause-stepped : goal.returns-in_default-clause-stepped
unfolding step remote
returns-in_default-clause-stepped c =
    let p : Place c.args.self.local c.args.step.w.number = search rules in
    stepped (waits false (settings_of c.args.s.now) (memory_of c.args.self)) c.args.s.now.home (rw (view_at 1 p) (search rules))
    (search rules) refl c.requires.asked.hold (search rules) (search rules)
