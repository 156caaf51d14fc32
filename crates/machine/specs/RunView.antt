-- What `run` and `tallies` are to give, for every input: one equation with the rules' definition of the call.
use Rattle.std.specs.Prelude.{◌≡◌, ℕ, ◌+◌, ◌*◌, ◌≤◌, min, List, map, length, take, drop, slice_index, Result, Ok, Err}
use Rattle.std.specs.List.{range_with_len}
use Rattle.rules.specs.Settings as settings
use Rattle.rules.specs.Machines.{machine}
use Rattle.rules.specs.Calls as rules
use Rattle.rules.specs.Calls.{run_refusal, running}
use Rattle.settings.specs.declared.refusal.Refusal.{Refusal}
use Rattle.settings.specs.declared.record.Settings.{Settings}
use Rattle.settings.specs.Numbers.{refusal_number}
use Rattle.settings.specs.View.{settings_of}
use Rattle.turns.specs.declared.played.Played.{Played}
use Rattle.turns.specs.CountView.{numbers}
use Rattle.turns.specs.PlayView.{PlayedIs}
use Rattle.turns.specs.Stopping.{stop_number}
use Rattle.machine.specs.declared.running.Answer.{Answer}
use Rattle.machine.specs.declared.running.Tallied.{Tallied}
use Rattle.machine.specs.declared.table.Record.{Record}

-- ---- what the core decides

-- a call that is refused leaves the events as they were
pub record Refuses (s : Settings) (turns before after : List ℕ) (room : ℕ) (r : Refusal) : Type 0 where
  pub number : run_refusal (settings_of s) turns (length before) room ≡ refusal_number r
  pub same : after ≡ before

-- else the run is that of the machine named, and there is room for its records
pub record Plays (s : Settings) (turns before after : List ℕ) (room : ℕ) (p : Played) : Type 0 where
  pub number : run_refusal (settings_of s) turns (length before) room ≡ 0
  pub in_room : s.procs ≤ room
  pub in_sums : s.procs ≤ 64
  pub played : PlayedIs (machine s.algo) (settings_of s) turns before after p

abbrev pub Decided : Settings → (turns before after : List ℕ) → ℕ → Result Played Refusal → Type 0
Decided s turns before after room (Ok p) = Plays s turns before after room p
Decided s turns before after room (Err r) = Refuses s turns before after room r

-- ---- the table

abbrev pub record_of : Record → rules.Record
record_of r = record { done = r.done; remote = r.remote; most = r.most; spins = r.spins; idle = r.idle }

-- processor i's record, of its six numbers
abbrev pub record_at : List ℕ → ℕ → rules.Record
record_at sums i = record {
  done = slice_index sums (i * numbers);
  remote = slice_index sums (i * numbers + 1);
  most = slice_index sums (i * numbers + 2);
  spins = slice_index sums (i * numbers + 4);
  idle = slice_index sums (i * numbers + 5);
}

-- the records of the first n processors
abbrev pub records_at : List ℕ → ℕ → List rules.Record
records_at sums n = map (record_at sums) (range_with_len 0 n)

-- ---- the call

abbrev pub answer_of : Result Answer Refusal → rules.RunAnswer
answer_of (Ok a) = record { number = 0; turns = a.turns; stop = stop_number a.stop; events = a.events; total = a.total }
answer_of (Err r) = record { number = refusal_number r; turns = 0; stop = 0; events = 0; total = 0 }

-- the answer, the events row and the table, whole, are those of the rules
pub record Ran (s : settings.Settings) (turns events events' : List ℕ) (table table' : List Record) (a : Result Answer Refusal) : Type 0 where
  pub is : running s turns events (map record_of table) ≡ record { answer = answer_of a; events = events'; table = map record_of table' }

-- of a table that is handed over, the first records are lent, as many as the room says and at most 64, and what lies past them is as it was
pub record Tallies (s : settings.Settings) (turns events events' : List ℕ) (table : List Record) (room : ℕ) (r : Tallied) : Type 0 where
  pub lent : Ran s turns events events' (take (min room 64) table) (take (min room 64) r.table) r.answer
  pub past : drop (min room 64) r.table ≡ drop (min room 64) table
