-- The tree barrier's `step` meets its contract: each return is one of the rules' steps, and leaves everybody where it can be.
use Rattle.std.proofs.Common.{false, ◌≡◌, ◌≤◌, ◌+◌, ◌-◌, None, eqb, refl, sym, ap, ◌∙◌, eq-eqb, ne_eqb, rules, arith}
use Rattle.rules.specs.Step.{reads, writes, remote, again, to}
use Rattle.rules.specs.Course.{Course}
use Rattle.rules.specs.Tree.{State, child, left, right, parent, leaves, tells, waits, woken}
use Rattle.rules.proofs.Views.{Place}
use Rattle.settings.specs.View.{settings_of}
use Rattle.turns.proofs.Turning.{stepped}
use Rattle.tree.specs.TreeView.{memory_of}
use Rattle.turns.specs.Saying.{says_of}
use Rattle.tree.proofs.TreeWords.{flag_set, flag_clear, wake_is, sense_is}
use Rattle.tree.proofs.TreeStates.{here, step_is, later, looks_is, sets_ends, wakes_ends, can_set, can_wake, stands_next, ends, sound_at, sound_next}
use Rattle.tree.proofs.barrier.TreeMachine.step.Goals as goal

pub returns-in-6-clause-stepped : goal.returns-in-6-clause-stepped
unfolding remote
returns-in-6-clause-stepped c =
    let o = here (settings_of c.args.s.now) c.requires.sound c.args.step.here c.doing-k.ensures in
    let x = memory_of c.args.self in
    stepped (ends c.after_sets.result (eqb c.args.step.at 1) (writes c.args.step.w.number 0) (memory_of c.sets.result) c.args.step.w.number) c.args.step.w.number
    (step_is o x ∙ rw (c.in-6.is, c.after_sets.ensures) (sets_ends (eqb c.args.step.at 1) (settings_of c.args.s.now) x (memory_of c.sets.result) c.args.step.w.number c.sets.ensures))
    c.ends.ensures.memory refl c.requires.asked.hold c.ends.ensures.course c.ends.ensures.tells

pub returns-in-6-clause-sound : goal.returns-in-6-clause-sound
returns-in-6-clause-sound c =
    rw (ap (λ (z : Course). z.at) c.ends.ensures.course)
    (sound_next c.args.step.w.number c.requires.sound c.after_sets.result (rw c.after_sets.ensures (can_set c.args.s.now.procs c.args.step.w.number)))

pub returns-in-7-clause-stepped : goal.returns-in-7-clause-stepped
unfolding remote
returns-in-7-clause-stepped c =
    let o = here (settings_of c.args.s.now) c.requires.sound c.args.step.here c.doing-k.ensures in
    let x = memory_of c.args.self in
    stepped (tells x c.args.step.w.number) (parent c.args.step.w.number) (step_is o x ∙ rw (later o x (omega (arith, c.in-7.is)), c.in-7.is) refl)
    (ap memory_of c.to.ensures.memory ∙ c.clears.ensures) refl c.requires.asked.hold c.to.ensures.course c.to.ensures.tells

pub returns-in-7-clause-sound : goal.returns-in-7-clause-sound
returns-in-7-clause-sound c =
    rw (ap (λ (z : Course). z.at) c.to.ensures.course)
    (sound_at c.args.step.w.number c.requires.sound 8 (search (rules, arith)))

pub returns-then-bit-clause-stepped : goal.returns-then-bit-clause-stepped
unfolding remote
returns-then-bit-clause-stepped c =
    let o = here (settings_of c.args.s.now) c.requires.sound c.args.step.here c.doing-k.ensures in
    let x = memory_of c.args.self in
    let p : Place c.args.self.words c.args.step.w.number = search rules in
    stepped (waits false (settings_of c.args.s.now) x c.args.step.w.number) c.args.step.w.number
    (step_is o x ∙ rw (later o x (omega (arith, c.in-8.is)), c.in-8.is, wake_is p _ c.bit.ensures, sense_is p _ c.bit-in-8.ensures, ne_eqb _ _ c.if-bit.true) refl)
    (ap memory_of c.stay.ensures.memory) refl c.requires.asked.hold c.stay.ensures.course c.stay.ensures.tells

pub returns-else-bit-clause-stepped : goal.returns-else-bit-clause-stepped
unfolding remote
returns-else-bit-clause-stepped c =
    let o = here (settings_of c.args.s.now) c.requires.sound c.args.step.here c.doing-k.ensures in
    let x = memory_of c.args.self in
    let p : Place c.args.self.words c.args.step.w.number = search rules in
    let f : eqb c.args.step.at 1 ≡ false = later o x (omega (arith, c.in-8.is)) in
    stepped (ends c.waking.result (eqb c.args.step.at 1) (reads c.args.step.w.number 1) x c.args.step.w.number) c.args.step.w.number
    (step_is o x ∙ rw (f, c.in-8.is, wake_is p _ c.bit.ensures, sense_is p _ c.bit-in-8.ensures, eq-eqb _ _ c.if-bit.false, c.waking.ensures) (wakes_ends (left c.args.step.w.number) 9 false (reads c.args.step.w.number 1) (settings_of c.args.s.now) x c.args.step.w.number))
    c.ends-in-8.ensures.memory refl c.requires.asked.hold c.ends-in-8.ensures.course c.ends-in-8.ensures.tells

pub returns-else-bit-clause-sound : goal.returns-else-bit-clause-sound
returns-else-bit-clause-sound c =
    rw (ap (λ (z : Course). z.at) c.ends-in-8.ensures.course)
    (sound_next c.args.step.w.number c.requires.sound c.waking.result
    (rw c.waking.ensures (can_wake c.args.s.now.procs c.args.step.w.number (left c.args.step.w.number) 9 (λ h. search (rules, arith)))))

pub returns-in-9-clause-stepped : goal.returns-in-9-clause-stepped
unfolding remote
returns-in-9-clause-stepped c =
    let o = here (settings_of c.args.s.now) c.requires.sound c.args.step.here c.doing-k.ensures in
    let x = memory_of c.args.self in
    let f : eqb c.args.step.at 1 ≡ false = later o x (omega (arith, c.in-9.is)) in
    let same : left c.args.step.w.number + 1 ≡ right c.args.step.w.number = omega arith in
    stepped (ends c.waking-in-9.result (eqb c.args.step.at 1) (writes (left c.args.step.w.number) 1) (memory_of c.wakes.result) c.args.step.w.number) (left c.args.step.w.number)
    (step_is o x ∙ rw (f, c.in-9.is, c.wakes.ensures, c.waking-in-9.ensures, same) (wakes_ends (right c.args.step.w.number) 10 false (writes (left c.args.step.w.number) 1) (settings_of c.args.s.now) (woken (left c.args.step.w.number) x c.args.step.w.number) c.args.step.w.number))
    c.ends-in-9.ensures.memory refl c.requires.asked.hold c.ends-in-9.ensures.course c.ends-in-9.ensures.tells

pub returns-in-9-clause-sound : goal.returns-in-9-clause-sound
returns-in-9-clause-sound c =
    let same : left c.args.step.w.number + 1 ≡ right c.args.step.w.number = omega arith in
    rw (ap (λ (z : Course). z.at) c.ends-in-9.ensures.course)
    (sound_next c.args.step.w.number c.requires.sound c.waking-in-9.result
    (rw (c.waking-in-9.ensures, same) (can_wake c.args.s.now.procs c.args.step.w.number (right c.args.step.w.number) 10 (λ h. search (rules, arith)))))

pub returns-in-10-clause-stepped : goal.returns-in-10-clause-stepped
unfolding remote
returns-in-10-clause-stepped c =
    let o = here (settings_of c.args.s.now) c.requires.sound c.args.step.here c.doing-k.ensures in
    let x = memory_of c.args.self in
    let f : eqb c.args.step.at 1 ≡ false = later o x (omega (arith, c.in-10.is)) in
    stepped (ends None (eqb c.args.step.at 1) (writes (right c.args.step.w.number) 1) (memory_of c.wakes-in-10.result) c.args.step.w.number) (right c.args.step.w.number)
    (step_is o x ∙ rw (f, c.in-10.is) (ap (λ (y : State). leaves false (writes (right c.args.step.w.number) 1) y c.args.step.w.number) (sym c.wakes-in-10.ensures)))
    c.ends-in-10.ensures.memory refl c.requires.asked.hold c.ends-in-10.ensures.course c.ends-in-10.ensures.tells

pub returns-in-10-clause-sound : goal.returns-in-10-clause-sound
returns-in-10-clause-sound c =
    rw (ap (λ (z : Course). z.at) c.ends-in-10.ensures.course)
    (sound_next c.args.step.w.number c.requires.sound None tt)

pub returns-then-bit-eq0-clause-stepped : goal.returns-then-bit-eq0-clause-stepped
unfolding remote
returns-then-bit-eq0-clause-stepped c =
    let o = here (settings_of c.args.s.now) c.requires.sound c.args.step.here c.doing-k.ensures in
    let x = memory_of c.args.self in
    let p : Place c.args.self.words c.args.step.w.number = search rules in
    let early : c.doing-k.result ≤ 5 = omega (arith, o.stands.high, c.in_default) in
    let same : 2 + (c.doing-k.result - 2) ≡ c.doing-k.result = omega (arith, o.past) in
    stepped (record { memory = x; access = reads c.args.step.w.number 0; says = says_of c.arrival.result; then = again c.doing-k.result }) c.args.step.w.number
    (looks_is o x early ∙ rw (eq-eqb _ _ (flag_set p _ _ o.past c.bit-in_default.ensures c.if-bit-eq0.true), same, c.arrival.ensures) refl)
    (ap memory_of c.again.ensures.memory) refl c.requires.asked.hold c.again.ensures.course c.again.ensures.tells

pub returns-then-bit-eq0-clause-sound : goal.returns-then-bit-eq0-clause-sound
returns-then-bit-eq0-clause-sound c =
    let o = here (settings_of c.args.s.now) c.requires.sound c.args.step.here c.doing-k.ensures in
    rw (ap (λ (z : Course). z.at) c.again.ensures.course) (sound_at c.args.step.w.number c.requires.sound c.doing-k.result o.stands)

pub returns-else-bit-eq0-clause-stepped : goal.returns-else-bit-eq0-clause-stepped
unfolding remote
returns-else-bit-eq0-clause-stepped c =
    let o = here (settings_of c.args.s.now) c.requires.sound c.args.step.here c.doing-k.ensures in
    let x = memory_of c.args.self in
    let p : Place c.args.self.words c.args.step.w.number = search rules in
    let early : c.doing-k.result ≤ 5 = omega (arith, o.stands.high, c.in_default) in
    let same : c.doing-k.result - 2 + 1 ≡ c.doing-k.result - 1 = omega (arith, o.past) in
    stepped (record { memory = x; access = reads c.args.step.w.number 0; says = says_of c.arrival-in_default.result; then = to c.reading.result }) c.args.step.w.number
    (looks_is o x early ∙ rw (ne_eqb _ _ (flag_clear p _ _ o.past c.bit-in_default.ensures c.if-bit-eq0.false), same, c.arrival-in_default.ensures, c.reading.ensures) refl)
    (ap memory_of c.to-in_default.ensures.memory) refl c.requires.asked.hold c.to-in_default.ensures.course c.to-in_default.ensures.tells

pub returns-else-bit-eq0-clause-sound : goal.returns-else-bit-eq0-clause-sound
returns-else-bit-eq0-clause-sound c =
    let o = here (settings_of c.args.s.now) c.requires.sound c.args.step.here c.doing-k.ensures in
    let early : c.doing-k.result ≤ 5 = omega (arith, o.stands.high, c.in_default) in
    rw (ap (λ (z : Course). z.at) c.to-in_default.ensures.course)
    (sound_at c.args.step.w.number c.requires.sound c.reading.result (rw c.reading.ensures (stands_next c.args.s.now.procs c.args.step.w.number (child c.args.step.w.number (c.doing-k.result - 1)) (c.doing-k.result - 1) (omega (arith, early)))))
