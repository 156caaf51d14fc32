-- Laws for a turn of any machine.
use Rattle.std.proofs.Common.{◌≡◌, ℕ, true, false, ◌&&◌, eqb, refl, sym, ap}
use Rattle.rules.specs.Memory.{pick}
use Rattle.rules.specs.Settings.{Settings, entry}
use Rattle.rules.specs.Step.{remote, nothing, stay, Step, Machine}
use Rattle.rules.specs.Course.{Course}
use Rattle.rules.proofs.Turned.{Told, Turned, by_hold, by_idle, by_step, same_upd}
use Rattle.turns.specs.declared.course.Due.{Due}
use Rattle.turns.specs.declared.course.Due.TheVariants as due
use Rattle.turns.specs.View.{held, Dues, untold}
use Rattle.turns.specs.Stepping.{Stepped, goes_on, told_so}

-- ---- how a step ends

-- where no hold turns are left, a step that has to be made again leaves the course as it was
pub stays_there : (c : Course) (i hold : ℕ) → c.left i ≡ 0 → c ≡ goes_on c i nothing stay hold
stays_there c i hold l = ap (λ (f : ℕ → ℕ). record { at = c.at; left = f; done = c.done }) (sym (same_upd c.left i 0 (sym l)))

-- st is the rules' step, and the code's ends so
module _ {m : Machine} {s : Settings} {x : m.State} {c : Course} {k w : ℕ} (st : Step m.State) where
  pub stepped : {x' : m.State} {c' : Course} {d : Told} (owner : ℕ) {hold : ℕ} → m.step s x k w ≡ st → x' ≡ st.memory → remote w st.access ≡ pick (eqb owner w) 0 1
      → hold ≡ entry s.hold w → c' ≡ goes_on c w st.says st.then hold → d ≡ told_so w k owner st.says st.then → Stepped m s x c k w x' c' d
  stepped owner is e r h f g = record { memory = rw is e; course = rw (is, ← h) f; tells = rw (is, r) g }

-- ---- a turn, by what is due

-- a turn of processor w, by code whose memory stands for `of memory`; what steps keep holds after it
pub record Turns {M : Type 0} (m : Machine) (of : M → m.State) (sound : Settings → M → (ℕ → ℕ) → Type 0) (s : Settings) (x : M) (c : Course) (w : ℕ) (x' : M) (c' : Course) (d : Told)
    : Type 0 where
  pub turned : Turned m s (of x) c w (of x') c' d
  pub keeps : sound s x' c'.at

module _ {M : Type 0} {m : Machine} {of : M → m.State} {sound : Settings → M → (ℕ → ℕ) → Type 0} {s : Settings} {x : M} {c : Course} {w : ℕ} {what : Due}
    (e : Dues c w (entry s.rounds w) what) {x' : M} {c' : Course} {d : Told} where
  pub turns_hold : what ≡ due.Hold → x' ≡ x → c' ≡ held c w → d ≡ untold false → sound s x c.at → Turns m of sound s x c w x' c' d
  turns_hold f a b g h = record { turned = by_hold m s (of x) c w (of x') c' d (rw f at e) (ap of a) b g; keeps = rw (a, b) h }

  pub turns_idle : what ≡ due.Idle → x' ≡ x → c' ≡ c → d ≡ untold true → sound s x c.at → Turns m of sound s x c w x' c' d
  turns_idle f a b g h =
      let i = rw f at e in
      record { turned = by_idle m s (of x) c w (of x') c' d i.0 i.1 i.2 (ap of a) b g; keeps = rw (a, b) h }

  pub turns_step : (k : ℕ) → what ≡ due.Step k → Stepped m s (of x) c k w (of x') c' d → sound s x' c'.at → Turns m of sound s x c w x' c' d
  turns_step k f t h =
      let i : (c.left w ≡ 0) × (c.at w ≡ k) × ((eqb k 1 && eqb (c.done w) (entry s.rounds w)) ≡ false) = rw f at e in
      record {
        turned = by_step m s (of x) c w (of x') c' d (m.step s (of x) k w) i.0 (rw i.1 i.2) (rw i.1 refl) t.memory t.course (rw i.1 t.tells);
        keeps = h;
      }
