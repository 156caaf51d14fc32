-- The MCS lock's `step` meets its contract: each return is one of the rules' steps, and leaves a sound state.
use Rattle.std.proofs.Common.{true, false, suc, ◌-◌, ◌≡◌, inl, inr, refl, rules, arith}
use Rattle.rules.specs.Step.{remote}
use Rattle.rules.specs.Mcs.{clears, swaps, locks, links, waits, looks, drains, rereads, wakes, step}
use Rattle.rules.proofs.Views.{view}
use Rattle.settings.specs.View.{settings_of}
use Rattle.turns.proofs.Turning.{stepped}
use Rattle.mcs.specs.McsView.{memory_of, Sound}
use Rattle.mcs.proofs.McsStates.{sound_tail, sound_next, sound_pred, sound_succ}
use Rattle.mcs.proofs.lock.McsMachine.step.Goals as goal

pub returns-in-1-clause-stepped : goal.returns-in-1-clause-stepped
unfolding step remote
returns-in-1-clause-stepped c =
    stepped (clears (memory_of c.args.self) c.args.step.w.number) c.args.step.w.number (search rules)
    (search rules) refl c.requires.asked.hold (search rules) (search rules)

pub returns-in-1-clause-sound : goal.returns-in-1-clause-sound
returns-in-1-clause-sound c =
    rw (c.to.ensures.memory, c.with_next.ensures) (sound_next c.requires.sound _ (omega arith))

pub returns-then-self-eq0-clause-stepped : goal.returns-then-self-eq0-clause-stepped
unfolding step remote
returns-then-self-eq0-clause-stepped c =
    stepped (swaps 0 (settings_of c.args.s.now) (memory_of c.args.self) c.args.step.w.number) c.args.s.now.home (search rules)
    (search rules) refl c.requires.asked.hold (search rules) (search rules)

pub returns-in-2-clause-stepped : goal.returns-in-2-clause-stepped
unfolding step remote
returns-in-2-clause-stepped c =
    let q : c.args.self.tail ≡ suc (c.args.self.tail - 1) = omega (arith, c.if-self-eq0.false) in
    stepped (swaps (suc (c.args.self.tail - 1)) (settings_of c.args.s.now) (memory_of c.args.self) c.args.step.w.number) c.args.s.now.home (search (q, rules))
    (search rules) refl c.requires.asked.hold (search rules) (search rules)

pub returns-in-2-clause-sound : goal.returns-in-2-clause-sound
returns-in-2-clause-sound c =
    let p : Sound (memory_of c.with_pred.result) =
    rw c.with_pred.ensures (sound_pred c.requires.sound _ (omega (arith, c.requires.sound.tail))) in
    rw (c.to-in-2.ensures.memory, c.with_tail-in-2.ensures) (sound_tail p (omega (arith, c.requires.asked.below, c.requires.asked.procs)))

pub returns-in-3-clause-stepped : goal.returns-in-3-clause-stepped
unfolding step remote
returns-in-3-clause-stepped c =
    stepped (locks (memory_of c.args.self) c.args.step.w.number) c.args.step.w.number (search rules)
    (search rules) refl c.requires.asked.hold (search rules) (search rules)

pub invariant_of-p : goal.invariant_of-p
unfolding view
invariant_of-p c = record { below = c.requires.sound.pred c.args.step.w.number }

pub returns-in-4-clause-stepped : goal.returns-in-4-clause-stepped
unfolding step remote view
returns-in-4-clause-stepped c =
    stepped (links (memory_of c.args.self) c.args.step.w.number) (view 0 c.args.self.pred c.args.step.w.number) (search rules)
    (search rules) refl c.requires.asked.hold (search rules) (search rules)

pub returns-in-4-clause-sound : goal.returns-in-4-clause-sound
returns-in-4-clause-sound c =
    rw (c.to-in-4.ensures.memory, c.with_next-in-4.ensures) (sound_next c.requires.sound _ (omega (arith, c.requires.asked.below, c.requires.asked.procs)))

pub returns-then-locked-w-eq0-clause-stepped : goal.returns-then-locked-w-eq0-clause-stepped
unfolding step remote view
returns-then-locked-w-eq0-clause-stepped c =
    stepped (waits 0 (memory_of c.args.self) c.args.step.w.number) c.args.step.w.number (search rules)
    (search rules) refl c.requires.asked.hold (search rules) (search rules)

pub returns-in-5-clause-stepped : goal.returns-in-5-clause-stepped
unfolding step remote view
returns-in-5-clause-stepped c =
    let q : view 0 c.args.self.locked c.args.step.w.number ≡ suc (view 0 c.args.self.locked c.args.step.w.number - 1) = omega (arith, c.if-locked-w-eq0.false) in
    stepped (waits (suc (view 0 c.args.self.locked c.args.step.w.number - 1)) (memory_of c.args.self) c.args.step.w.number) c.args.step.w.number (search (q, rules))
    (search rules) refl c.requires.asked.hold (search rules) (search rules)

pub returns-then-n-ne0-clause-stepped : goal.returns-then-n-ne0-clause-stepped
unfolding step remote view
returns-then-n-ne0-clause-stepped c =
    let q : view 0 c.args.self.next c.args.step.w.number ≡ suc (view 0 c.args.self.next c.args.step.w.number - 1) = omega (arith, c.if-n-ne0.true) in
    stepped (looks (suc (view 0 c.args.self.next c.args.step.w.number - 1)) (memory_of c.args.self) c.args.step.w.number) c.args.step.w.number (elim c.in-7.is [ inl e ↦ search (e, q, rules) | inr e ↦ search (e, q, rules) ])
    (search rules) refl c.requires.asked.hold (search rules) (search rules)

pub returns-then-n-ne0-clause-sound : goal.returns-then-n-ne0-clause-sound
unfolding view
returns-then-n-ne0-clause-sound c =
    rw (c.to-then-n-ne0.ensures.memory, c.with_succ.ensures) (sound_succ c.requires.sound _ (omega (arith, c.requires.sound.next c.args.step.w.number, c.if-n-ne0.true)))

pub returns-then-step-eq7-clause-stepped : goal.returns-then-step-eq7-clause-stepped
unfolding step remote view
returns-then-step-eq7-clause-stepped c =
    stepped (looks 0 (memory_of c.args.self) c.args.step.w.number) c.args.step.w.number (search rules)
    (search rules) refl c.requires.asked.hold (search rules) (search rules)

pub returns-in-7-clause-stepped : goal.returns-in-7-clause-stepped
unfolding step remote view
returns-in-7-clause-stepped c =
    stepped (rereads 0 (memory_of c.args.self) c.args.step.w.number) c.args.step.w.number (search rules)
    (search rules) refl c.requires.asked.hold (search rules) (search rules)

pub returns-then-self-w-clause-stepped : goal.returns-then-self-w-clause-stepped
unfolding step remote
returns-then-self-w-clause-stepped c =
    stepped (drains true (settings_of c.args.s.now) (memory_of c.args.self)) c.args.s.now.home (search rules)
    (search rules) refl c.requires.asked.hold (search rules) (search rules)

pub returns-in-8-clause-stepped : goal.returns-in-8-clause-stepped
unfolding step remote
returns-in-8-clause-stepped c =
    stepped (drains false (settings_of c.args.s.now) (memory_of c.args.self)) c.args.s.now.home (search rules)
    (search rules) refl c.requires.asked.hold (search rules) (search rules)

pub invariant_of-q : goal.invariant_of-q
unfolding view
invariant_of-q c = record { below = c.requires.sound.succ c.args.step.w.number }

pub returns-in_default-clause-stepped : goal.returns-in_default-clause-stepped
unfolding step remote view
returns-in_default-clause-stepped c =
    stepped (wakes (memory_of c.args.self) c.args.step.w.number) (view 0 c.args.self.succ c.args.step.w.number) (search rules)
    (search rules) refl c.requires.asked.hold (search rules) (search rules)
