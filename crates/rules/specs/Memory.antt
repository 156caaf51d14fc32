-- Memory as a function: what stands at each place. It has no end, so every rule over it is one for any P.
use Rattle.std.specs.Prelude.{ℕ, Bool, true, false, eqb}

-- a if the test holds, else b
abbrev pub pick {ℓ} : {A : Type ℓ} → Bool → A → A → A
pick true a b = a
pick false a b = b

-- f, but v at i
unfoldable pub upd : {A : Type 0} → (ℕ → A) → ℕ → A → ℕ → A
upd f i v j = pick (eqb j i) v (f j)

-- every place holds v
abbrev pub each : {A : Type 0} → A → ℕ → A
each v j = v
