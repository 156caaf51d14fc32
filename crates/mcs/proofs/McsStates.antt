-- A store keeps a state of the MCS lock sound.
use Rattle.std.proofs.Common.{ℕ, ◌≤◌, ◌<◌, eqb}
use Rattle.rules.specs.Memory.{upd}
use Rattle.rules.specs.Mcs.{State, set_tail, set_next, set_pred, set_succ}
use Rattle.rules.proofs.Store.{either}
use Rattle.mcs.specs.McsView.{Sound}

-- what every place has, and the new value, every place has after the store
upd_keeps : (P : ℕ → Type 0) (f : ℕ → ℕ) (i v : ℕ) → ((j : ℕ) → P (f j)) → P v → (j : ℕ) → P (upd f i v j)
unfolding upd
upd_keeps P f i v h p j = either P (eqb j i) v (f j) p (h j)

module _ {x : State} (z : Sound x) {v : ℕ} where
  pub sound_tail : v ≤ 64 → Sound (set_tail v x)
  sound_tail h = record { tail = h; next = z.next; pred = z.pred; succ = z.succ }

  module _ (i : ℕ) where
    pub sound_next : v ≤ 64 → Sound (set_next i v x)
    sound_next h = record { tail = z.tail; next = upd_keeps (λ n. n ≤ 64) x.next i v z.next h; pred = z.pred; succ = z.succ }

    pub sound_pred : v < 64 → Sound (set_pred i v x)
    sound_pred h = record { tail = z.tail; next = z.next; pred = upd_keeps (λ n. n < 64) x.pred i v z.pred h; succ = z.succ }

    pub sound_succ : v < 64 → Sound (set_succ i v x)
    sound_succ h = record { tail = z.tail; next = z.next; pred = z.pred; succ = upd_keeps (λ n. n < 64) x.succ i v z.succ h }
