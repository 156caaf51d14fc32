-- The rounds stay below R.
use Rattle.std.proofs.Common.{◌≡◌, ℕ, ◌<◌, ◌≤◌, arith, sym, ap, ◌∙◌}
use native.Mathlib.Decide.{ℕ_discrete}
use Rattle.rules.specs.Memory.{upd}
use Rattle.rules.specs.Settings.{Settings}
use Rattle.rules.specs.Dissem.{State, doublings}
use Rattle.rules.proofs.Store.{upd_same, upd_other}
use Rattle.rules.proofs.Levels.{doublings_least, doublings≤, some_rounds}
use Rattle.turns.specs.Stepping.{Asked}
use Rattle.dissem.specs.declared.barrier.Dissem.{Dissem}
use Rattle.dissem.specs.DissemView.{memory_of, Rounds, Sound}

-- ---- after a step

module _ {levels : ℕ} {x x' : State} {at at' : ℕ → ℕ} (rounds : Rounds levels x at) where
  -- processor w goes to step k, and is in round r
  rounds_at : (w k r : ℕ) → at' ≡ upd at w k → x'.round ≡ upd x.round w r → (k ≡ 1 → r ≡ 0) → ((k ≡ 1 → ⊥) → r < levels) → Rounds levels x' at'
  rounds_at w k r a b first within = record { between = λ j. rw (a, b) (go_between j (ℕ_discrete j w)); within = λ j. rw (a, b) (go_within j (ℕ_discrete j w)) }
    where
      go_between : (j : ℕ) → Dec (j ≡ w) → upd at w k j ≡ 1 → upd x.round w r j ≡ 0
      go_between j (yes e) = rw (e, upd_same at w k, upd_same x.round w r) first
      go_between j (no n) = rw (upd_other at w k j n, upd_other x.round w r j n) (rounds.between j)

      go_within : (j : ℕ) → Dec (j ≡ w) → (upd at w k j ≡ 1 → ⊥) → upd x.round w r j < levels
      go_within j (yes e) = rw (e, upd_same at w k, upd_same x.round w r) within
      go_within j (no n) = rw (upd_other at w k j n, upd_other x.round w r j n) (rounds.within j)

-- the code's step leads to e, where processor w is in round r
pub sound_at : {s : Settings} {d e d' : Dissem} {at at' : ℕ → ℕ} → Sound s d at → d' ≡ e → e.levels ≡ d.levels → (w k r : ℕ) → at' ≡ upd at w k
    → (memory_of e).round ≡ upd (memory_of d).round w r → (k ≡ 1 → r ≡ 0) → ((k ≡ 1 → ⊥) → r < doublings s.procs) → Sound s d' at'
sound_at sound is same w k r a b first within = record {
  levels = ap (λ z. z.levels) is ∙ same ∙ sound.levels;
  rounds = rounds_at sound.rounds w k r a (ap (λ z. (memory_of z).round) is ∙ b) first within;
}

-- ---- the round that a step finds

module _ {s : Settings} {d : Dissem} {at : ℕ → ℕ} {w k hold : ℕ} (sound : Sound s d at) (here : at w ≡ k) (asked : Asked s w hold) where
  pub round_first : k ≡ 1 → (memory_of d).round w ≡ 0
  round_first e = sound.rounds.between w (here ∙ e)

  pub round_within : (k ≡ 1 → ⊥) → (memory_of d).round w < doublings s.procs
  round_within n = sound.rounds.within w (λ e. n (sym here ∙ e))

  round_under : (m : ℕ) → 0 < m → doublings s.procs ≤ m → (memory_of d).round w < m
  round_under m some all = go (ℕ_discrete k 1)
    where
      go : Dec (k ≡ 1) → (memory_of d).round w < m
      go (yes e) = omega (arith, round_first e)
      go (no n) = omega (arith, round_within n)

  pub round<6 : (memory_of d).round w < 6
  round<6 = round_under 6 (omega arith) (doublings≤ s.procs asked.procs)

  -- where there are others to tell, it is one of the R
  pub round<R : (s.procs ≡ 1 → ⊥) → (memory_of d).round w < doublings s.procs
  round<R n = round_under (doublings s.procs) (some_rounds s.procs (omega (arith, asked.below))) (omega arith)

  -- where there is one processor, there are no rounds
  pub only_first : s.procs ≡ 1 → k ≡ 1
  only_first e = go (ℕ_discrete k 1)
    where
      go : Dec (k ≡ 1) → k ≡ 1
      go (yes z) = z
      go (no n) = absurd (omega (arith, round_within n, rw (← e) at (doublings_least 1 0 (omega arith))))
