-- The course of each processor through its passages, hold turns and idle turns ('Turns'): the same for all machines.
use Rattle.std.specs.Prelude.{ℕ, ◌+◌, ◌-◌, Bool, true, false, ◌&&◌, ◌||◌, eqb, ltb}
use Rattle.rules.specs.Memory.{pick, upd, each}
use Rattle.rules.specs.Settings.{Settings, entry}
use Rattle.rules.specs.Step.{Kind, join, grant, release, arrive, leave, Says, nothing, one, two, Next, stay, again, to, over, Step, Machine}

-- of each processor: its next step, the hold turns left, the passages done
pub record Course : Type 0 where
  pub at : ℕ → ℕ
  pub left : ℕ → ℕ
  pub done : ℕ → ℕ

abbrev pub outset : Course
outset = record { at = each 1; left = each 0; done = each 0 }

-- a turn is a hold turn, an idle turn, or a step of the machine
pub data Turn (S : Type 0) : Type 0 where
  holds idles : Turn S
  makes : Step S → Turn S

-- idle are the turns after all passages are done, and their hold turns over
unfoldable pub turn : (m : Machine) → Settings → m.State → Course → ℕ → Turn m.State
turn m s x c i =
    pick (ltb 0 (c.left i)) holds (
    pick (eqb (c.at i) 1 && eqb (c.done i) (entry s.rounds i)) idles (
    makes (m.step s x (c.at i) i)))

-- hold turns follow the grant of a lock and the leaving of a barrier
abbrev pub begins : Kind → Bool
begins join = false
begins grant = true
begins release = false
begins arrive = false
begins leave = true

abbrev pub holding : Says → Bool
holding nothing = false
holding (one k) = begins k
holding (two k l) = begins k || begins l

abbrev pub goes : Next → ℕ → (ℕ → ℕ) → ℕ → ℕ
goes stay i at = at
goes (again k) i at = upd at i k
goes (to k) i at = upd at i k
goes over i at = upd at i 1

abbrev pub ends : Next → ℕ → (ℕ → ℕ) → ℕ → ℕ
ends stay i done = done
ends (again k) i done = done
ends (to k) i done = done
ends over i done = upd done i (done i + 1)

-- ---- after a turn of processor i

abbrev pub memory : {S : Type 0} → Turn S → S → S
memory holds x = x
memory idles x = x
memory (makes w) x = w.memory

abbrev pub says : {S : Type 0} → Turn S → Says
says holds = nothing
says idles = nothing
says (makes w) = w.says

abbrev pub course : {S : Type 0} → Settings → ℕ → Turn S → Course → Course
course s i holds c = record { at = c.at; left = upd c.left i (c.left i - 1); done = c.done }
course s i idles c = c
course s i (makes w) c = record {
  at = goes w.then i c.at;
  left = upd c.left i (pick (holding w.says) (entry s.hold i) 0);
  done = ends w.then i c.done;
}
