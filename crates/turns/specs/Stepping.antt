-- What a machine's step has to give.
use Rattle.std.specs.Prelude.{ℕ, ◌<◌, ◌≤◌, ◌≡◌, false, map, eqb}
use Rattle.rules.specs.Memory.{pick, upd}
use Rattle.rules.specs.Bounds.{most_procs, most_ticket}
use Rattle.rules.specs.Settings.{Settings, entry}
use Rattle.rules.specs.Step.{Next, Says, said, code, Machine}
use Rattle.rules.specs.Course as course
use Rattle.rules.specs.Course.{makes, holding}
use Rattle.rules.proofs.Turned.{Told, told_step, ends, stays}

-- what a machine asks of the settings that it starts with
pub record Fits (s : Settings) : Type 0 where
  pub procs_low : 1 ≤ s.procs
  pub procs_high : s.procs ≤ most_procs
  pub ticket : s.ticket ≤ most_ticket

-- a step with these settings: its processor and home are two of theirs, and it has so many hold turns
pub record Asked (s : Settings) (w h : ℕ) : Type 0 where
  pub below : w < s.procs
  pub home : s.home < s.procs
  pub procs : s.procs ≤ most_procs
  pub hold : h ≡ entry s.hold w

-- processor w's step k leads from x and c to x' and c', and d is told of it
pub record Stepped (m : Machine) (s : Settings) (x : m.State) (c : course.Course) (k w : ℕ) (x' : m.State) (c' : course.Course) (d : Told) : Type 0 where
  pub memory : x' ≡ (m.step s x k w).memory
  pub course : c' ≡ course.course s w (makes (m.step s x k w)) c
  pub tells : d ≡ told_step w k (m.step s x k w)

-- ---- how a step is made of what it does

-- processor i goes on so and says so, and so many hold turns follow a grant or a leaving
abbrev pub goes_on : course.Course → ℕ → Says → Next → ℕ → course.Course
goes_on c i says then hold = record {
  at = course.goes then i c.at;
  left = upd c.left i (pick (holding says) hold 0);
  done = course.ends then i c.done;
}

-- what is told of processor i's step at this place, which touches a variable of this owner
abbrev pub told_so : (i at owner : ℕ) → Says → Next → Told
told_so i at owner says then = record {
  far = pick (eqb owner i) 0 1;
  codes = map code (said i says);
  began = eqb at 1;
  done = ends then;
  spin = stays then;
  idle = false;
}
