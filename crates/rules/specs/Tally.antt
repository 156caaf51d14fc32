-- What is counted ('What a run gives'): the same for all machines.
use Rattle.std.specs.Prelude.{ℕ, ◌+◌, max, eqb}
use Rattle.rules.specs.Memory.{pick, upd, each}
use Rattle.rules.specs.Step.{Access, none, remote, Next, stay, again, to, over}
use Rattle.rules.specs.Course.{Turn, holds, idles, makes}

-- of each processor: remote references, the most in any one passage begun, those of the passage begun last, spins, idle turns;
-- and the total of remote references
pub record Tally : Type 0 where
  pub far : ℕ → ℕ
  pub most : ℕ → ℕ
  pub here : ℕ → ℕ
  pub spins : ℕ → ℕ
  pub idle : ℕ → ℕ
  pub total : ℕ

abbrev pub blank : Tally
blank = record { far = each 0; most = each 0; here = each 0; spins = each 0; idle = each 0; total = 0 }

-- the access that a turn makes
abbrev pub access : {S : Type 0} → Turn S → Access
access holds = none
access idles = none
access (makes w) = w.access

abbrev pub spun : Next → ℕ → (ℕ → ℕ) → ℕ → ℕ
spun stay i spins = upd spins i (spins i + 1)
spun (again k) i spins = upd spins i (spins i + 1)
spun (to k) i spins = spins
spun over i spins = spins

-- a passage begins with the step that is made at step 1
abbrev pub begun : ℕ → ℕ → ℕ
begun at here = pick (eqb at 1) 0 here

-- the tally after a turn of processor i, who was at this step
abbrev pub tally : {S : Type 0} → ℕ → ℕ → Turn S → Tally → Tally
tally i at holds t = t
tally i at idles t =
    record { far = t.far; most = t.most; here = t.here; spins = t.spins; idle = upd t.idle i (t.idle i + 1); total = t.total }
tally i at (makes w) t =
    let r : ℕ = remote i w.access in
    let h : ℕ = begun at (t.here i) + r in
    record {
      far = upd t.far i (t.far i + r);
      most = upd t.most i (max (t.most i) h);
      here = upd t.here i h;
      spins = spun w.then i t.spins;
      idle = t.idle;
      total = t.total + r;
    }
