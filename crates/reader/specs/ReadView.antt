-- What `read` is to give, for every input: one equation with the rules' definition of the call.
use Rattle.std.specs.Prelude.{ℕ, ◌≡◌, List, [], Result, Ok, Err}
use Rattle.rules.specs.Settings.{Settings}
use Rattle.rules.specs.Rule.{Got}
use Rattle.rules.specs.Calls as rules
use Rattle.rules.specs.Calls.{reading, reading_of, refused_read}
use Rattle.settings.specs.Numbers.{refusal_number}
use Rattle.settings.specs.View.{settings_of}
use Rattle.tokens.specs.declared.fault.Fault.{Fault}
use Rattle.reader.specs.declared.reading.Reading.{Reading}

-- a refusal's number and place, with a settings record of zeros; or 0 for both, the settings and the count of turns
abbrev pub answer_of : Result Reading Fault → rules.ReadAnswer
answer_of (Ok r) = record { number = 0; place = 0; settings = settings_of r.settings; count = r.count }
answer_of (Err f) = (refused_read (refusal_number f.refusal) f.place []).answer

-- the answer and the schedule, whole, are those of what was got
pub record GotIs (g : Got (Settings × List ℕ)) (schedule schedule' : List ℕ) (a : Result Reading Fault) : Type 0 where
  pub is : reading_of g schedule ≡ record { answer = answer_of a; schedule = schedule' }

-- the answer and the schedule, whole, are those of the rules
pub record ReadIs (file schedule schedule' : List ℕ) (a : Result Reading Fault) : Type 0 where
  pub is : reading file schedule ≡ record { answer = answer_of a; schedule = schedule' }
