-- What is proved of the three entries themselves, by their promises alone. proofs/Entries has the proofs.
use Rattle.std.specs.Prelude.{ℕ, ◌*◌, ◌≤◌, ◌≡◌, List, ◌++◌, map, length, take, Result, Ok, IsOk}
use Rattle.rules.specs.Bounds.{most_procs}
use Rattle.rules.specs.Settings as rules
use Rattle.rules.specs.Step.{code, join, Event}
use Rattle.rules.specs.Machines.{machine}
use Rattle.rules.specs.Calls.{over}
use Rattle.laws.specs.Laws.{Prefix, of, InLine, NamesLock, BeginsWith, LockFile, events_of, ComesNext, AtMost, most_references}
use Rattle.settings.specs.View.{settings_of}
use Rattle.settings.specs.declared.record.Settings.{Settings}
use Rattle.settings.specs.declared.refusal.Refusal.{Refusal}
use Rattle.machine.specs.RunView.{record_of, Ran}
use Rattle.machine.specs.declared.table.Record.{Record}
use Rattle.machine.specs.declared.running.Answer.{Answer}
use Rattle.tokens.specs.declared.fault.Fault.{Fault}
use Rattle.reader.specs.declared.reading.Reading.{Reading}
use Rattle.reader.specs.ReadView.{ReadIs}
use Rattle.writer.specs.WriteView.{WriteIs}

-- a file that read accepts and that names a lock, and an accepted run of what it says
pub record FileRun : Type 0 where
  pub file : List ℕ
  pub schedule : List ℕ
  pub after : List ℕ
  pub answer : Reading
  pub read : ReadIs file schedule after (Ok answer)
  pub lock : NamesLock (settings_of answer.settings)
  pub before : List ℕ
  pub events : List ℕ
  pub blank : List Record
  pub table : List Record
  pub given : Answer
  pub ran : Ran (settings_of answer.settings) (take answer.count after) before events blank table (Ok given)

abbrev pub said : FileRun → List Event
said f = events_of (settings_of f.answer.settings) (take f.answer.count f.after)

-- demand 3: the events row says what the run said; the waiting line after every turn; in the queue lock the bound of four
pub record Demand (f : FileRun) (s : rules.Settings) (turns : List ℕ) : Type 0 where
  pub row : take f.given.events f.events ≡ map code (said f)
  pub line : (t u : List ℕ) → t ++ u ≡ turns → InLine (machine s.algo) s t
  pub four : s.algo ≡ 2 → AtMost most_references (take s.procs (map record_of f.table))

pub record Entries : Type 0 where
  -- what read accepted, write with enough room gives back byte for byte
  pub read_write : (file schedule after out out' : List ℕ) (r : Reading) (w : Result ℕ Refusal) → ReadIs file schedule after (Ok r)
      → length file ≤ length out → WriteIs (settings_of r.settings) (take r.count after) out out' w
      → (w ≡ Ok (length file)) × (out' ≡ over file out)
  -- what write accepted, read gives back, settings and schedule
  pub write_read : (s : Settings) (turns out out' schedule after : List ℕ) (count : ℕ) (r : Result Reading Fault) → length s.rounds ≡ most_procs
      → length s.hold ≡ most_procs → WriteIs (settings_of s) turns out out' (Ok count) → length turns ≤ length schedule
      → ReadIs (take count out') schedule after r
      → (r ≡ Ok (record { settings = s; count = length turns })) × (after ≡ over turns schedule)
  -- for every file that read accepts and that names a lock, the run that run promises keeps demand 3
  pub files_line : (f : FileRun) → Demand f (settings_of f.answer.settings) (take f.answer.count f.after)
  -- two such runs, the joins of the one a beginning of the other's, never disagree on who comes next
  pub files_agree : (f g : FileRun) → Prefix (of join (said f)) (of join (said g)) → (k x y : ℕ) → ComesNext k x (said f) → ComesNext k y (said g) → x ≡ y
  -- a file that read accepts names a lock where its first line is that of ticket or of mcs, and the queue lock where it is that of mcs
  pub named_lock : (file schedule after : List ℕ) (r : Reading) → ReadIs file schedule after (Ok r) → LockFile file → NamesLock (settings_of r.settings)
  pub named_mcs : (file schedule after : List ℕ) (r : Reading) → ReadIs file schedule after (Ok r) → BeginsWith "algo=mcs\n" file
      → r.settings.algo ≡ 2
  -- what read accepted, run with enough room accepts
  pub read_run : (file schedule after before events : List ℕ) (blank table : List Record) (r : Reading) (given : Result Answer Refusal) → ReadIs file schedule after (Ok r)
      → r.settings.procs ≤ length blank → 2 * r.count ≤ length before
      → Ran (settings_of r.settings) (take r.count after) before events blank table given → IsOk given
