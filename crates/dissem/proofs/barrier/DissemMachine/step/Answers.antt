-- The dissemination barrier's `step` meets its contract: each return is one of the rules' steps.
use Rattle.std.proofs.Common.{◌≡◌, ◌+◌, true, false, refl, sym, ap, ◌∙◌, eqb, eq-eqb, ne_eqb, arith, rules}
use Rattle.rules.specs.Step.{remote}
use Rattle.rules.specs.Course.{Course}
use Rattle.rules.specs.Dissem.{doublings, alone, partner, tells, waits, step}
use Rattle.rules.proofs.Turned.{same_upd}
use Rattle.rules.proofs.Views.{Place, view_at}
use Rattle.settings.specs.View.{settings_of}
use Rattle.turns.specs.Saying.{says_of}
use Rattle.turns.proofs.Turning.{stepped}
use Rattle.dissem.specs.DissemView.{memory_of}
use Rattle.dissem.proofs.DissemRounds.{sound_at, round_first, round_within, round<6, round<R, only_first}
use Rattle.dissem.proofs.DissemStates.{told_is, equal, unequal}
use Rattle.dissem.proofs.barrier.DissemMachine.step.Goals as goal
use Rattle.dissem.proofs.barrier.DissemMachine.step.Goals.{then-at-eq1, else-at-eq1}

pub bit-requires : goal.bit-requires
bit-requires c =
    let p : Place c.args.self.own c.args.step.w.number = search rules in
    omega (arith, round<6 c.requires.sound c.args.step.here c.requires.asked, c.variable.ensures, view_at 1 p)

pub returns-then-bit-sense-clause-stepped : goal.returns-then-bit-sense-clause-stepped
unfolding step remote
returns-then-bit-sense-clause-stepped c =
    let p : Place c.args.self.own c.args.step.w.number = search rules in
    let q : Place c.args.self.flags c.args.step.w.number = search rules in
    let differs = unequal q p c.variable.ensures c.bit.ensures c.sense.ensures c.if-bit-sense.true in
    let x = memory_of c.args.self in
    let i = c.args.step.w.number in
    stepped (waits false (eqb (x.round i + 1) (doublings c.args.s.now.procs)) x i) i (rw (c.if-at-eq2.true, ne_eqb _ _ differs) refl)
    (ap memory_of c.stay.ensures.memory) refl c.requires.asked.hold c.stay.ensures.course c.stay.ensures.tells

pub returns-then-round-self-clause-stepped : goal.returns-then-round-self-clause-stepped
unfolding step remote
returns-then-round-self-clause-stepped c =
    let p : Place c.args.self.own c.args.step.w.number = search rules in
    let q : Place c.args.self.flags c.args.step.w.number = search rules in
    let equals = equal q p c.variable.ensures c.bit.ensures c.sense.ensures c.if-bit-sense.false in
    let last : (memory_of c.args.self).round c.args.step.w.number + 1 ≡ doublings c.args.s.now.procs = rw (view_at 1 p) (search rules) in
    stepped (waits true true (memory_of c.args.self) c.args.step.w.number) c.args.step.w.number (rw (c.if-at-eq2.true, eq-eqb _ _ equals, eq-eqb _ _ last) refl)
    (ap memory_of c.over.ensures.memory ∙ c.leaves.ensures.memory) refl c.requires.asked.hold c.over.ensures.course c.over.ensures.tells

pub returns-then-round-self-clause-sound : goal.returns-then-round-self-clause-sound
returns-then-round-self-clause-sound c =
    sound_at c.requires.sound c.over.ensures.memory c.leaves.ensures.levels c.args.step.w.number 1 0 (ap (λ (z : Course). z.at) c.over.ensures.course)
    (ap (λ z. z.round) c.leaves.ensures.memory) (λ e. refl) (λ n. absurd (n refl))

pub goes_on-requires : goal.goes_on-requires
goes_on-requires c = round<6 c.requires.sound c.args.step.here c.requires.asked

pub returns-then-at-eq2-clause-stepped : goal.returns-then-at-eq2-clause-stepped
unfolding step remote
returns-then-at-eq2-clause-stepped c =
    let p : Place c.args.self.own c.args.step.w.number = search rules in
    let q : Place c.args.self.flags c.args.step.w.number = search rules in
    let equals = equal q p c.variable.ensures c.bit.ensures c.sense.ensures c.if-bit-sense.false in
    let more : (memory_of c.args.self).round c.args.step.w.number + 1 ≡ doublings c.args.s.now.procs → ⊥ = rw (view_at 1 p) (search rules) in
    stepped (waits true false (memory_of c.args.self) c.args.step.w.number) c.args.step.w.number (rw (c.if-at-eq2.true, eq-eqb _ _ equals, ne_eqb _ _ more) refl)
    (ap memory_of c.to.ensures.memory ∙ c.goes_on.ensures.memory) refl c.requires.asked.hold c.to.ensures.course c.to.ensures.tells

pub returns-then-at-eq2-clause-sound : goal.returns-then-at-eq2-clause-sound
returns-then-at-eq2-clause-sound c =
    let p : Place c.args.self.own c.args.step.w.number = search rules in
    let more : (memory_of c.args.self).round c.args.step.w.number + 1 ≡ doublings c.args.s.now.procs → ⊥ = rw (view_at 1 p) (search rules) in
    let within = round_within c.requires.sound c.args.step.here c.requires.asked (λ e. absurd (omega (arith, e, c.if-at-eq2.true))) in
    sound_at c.requires.sound c.to.ensures.memory c.goes_on.ensures.levels c.args.step.w.number 3 ((memory_of c.args.self).round c.args.step.w.number + 1) (ap (λ (z : Course). z.at) c.to.ensures.course)
    (ap (λ z. z.round) c.goes_on.ensures.memory) (λ e. absurd (omega (arith, e))) (λ n. omega (arith, more, within))

pub returns-then-s-eq1-clause-stepped : goal.returns-then-s-eq1-clause-stepped
unfolding step remote
returns-then-s-eq1-clause-stepped c =
    let first = only_first c.requires.sound c.args.step.here c.requires.asked c.if-s-eq1.true in
    stepped (alone (memory_of c.args.self)) c.args.step.w.number (rw (first, c.if-s-eq1.true) refl)
    (ap memory_of c.over-then-s-eq1.ensures.memory) (rw (eq-eqb c.args.step.w.number c.args.step.w.number refl) refl) c.requires.asked.hold c.over-then-s-eq1.ensures.course c.over-then-s-eq1.ensures.tells

pub returns-then-s-eq1-clause-sound : goal.returns-then-s-eq1-clause-sound
returns-then-s-eq1-clause-sound c =
    let x = memory_of c.args.self in
    let first = only_first c.requires.sound c.args.step.here c.requires.asked c.if-s-eq1.true in
    let round = round_first c.requires.sound c.args.step.here c.requires.asked first in
    sound_at c.requires.sound c.over-then-s-eq1.ensures.memory refl c.args.step.w.number 1 0 (ap (λ (z : Course). z.at) c.over-then-s-eq1.ensures.course)
    (sym (same_upd x.round c.args.step.w.number 0 (sym round))) (λ e. refl) (λ n. absurd (n refl))

pub partner-j-requires-clause-round : goal.partner-j-requires-clause-round
partner-j-requires-clause-round c =
    let p : Place c.args.self.own c.args.step.w.number = search rules in
    rw (c.round-2.ensures, ← view_at 1 p) (round<R c.requires.sound c.args.step.here c.requires.asked (search rules))

pub tells-requires : goal.tells-requires
tells-requires c = round<6 c.requires.sound c.args.step.here c.requires.asked

pub returns-clause-stepped : goal.returns-clause-stepped
unfolding step remote
returns-clause-stepped c =
    let s = settings_of c.args.s.now in
    let x = memory_of c.args.self in
    let i = c.args.step.w.number in
    let p : Place c.args.self.own c.args.step.w.number = search rules in
    let j : c.partner-j.result.number ≡ partner s i (x.round i) = rw (view_at 1 p, ← c.round-2.ensures) c.partner-j.ensures in
    let is : step s x c.args.step.at i ≡ tells (x.round i) (says_of c.if-at-eq1.says) s x i =
    elim c.if-at-eq1.branch [
      | then-at-eq1 w ↦ rw (w.if-at-eq1.true, ne_eqb _ _ c.if-s-eq1.false, w.says-is, round_first c.requires.sound c.args.step.here c.requires.asked w.if-at-eq1.true) refl
      | else-at-eq1 w ↦ rw (ne_eqb _ _ w.if-at-eq1.false, ne_eqb _ _ c.if-at-eq2.false, w.says-is) refl
    ] in
    stepped (tells (x.round i) (says_of c.if-at-eq1.says) s x i) c.partner-j.result.number is
    (ap memory_of c.to-2.ensures.memory ∙ c.tells.ensures.memory ∙ told_is s x i (says_of c.if-at-eq1.says) j) (rw j refl) c.requires.asked.hold c.to-2.ensures.course c.to-2.ensures.tells

pub returns-clause-sound : goal.returns-clause-sound
returns-clause-sound c =
    let x = memory_of c.args.self in
    sound_at c.requires.sound c.to-2.ensures.memory c.tells.ensures.levels c.args.step.w.number 2 (x.round c.args.step.w.number) (ap (λ (z : Course). z.at) c.to-2.ensures.course)
    (ap (λ z. z.round) c.tells.ensures.memory ∙ sym (same_upd x.round c.args.step.w.number (x.round c.args.step.w.number) refl)) (λ e. absurd (omega (arith, e)))
    (λ n. round<R c.requires.sound c.args.step.here c.requires.asked (search rules))
