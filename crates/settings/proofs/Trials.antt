-- What is known of a trial.
use Rattle.rules.proofs.Accepted.{Accepted, accepted}
use Rattle.settings.specs.View.{settings_of}
use Rattle.settings.specs.declared.trial.Trial.{Trial}

pub trial_accepted : (t : Trial) → Accepted (settings_of t.settings) t.schedule.now
trial_accepted t = (accepted (settings_of t.settings) t.schedule.now _ t.in_order).0
