-- What is read line by line, as the rules have it.
use Rattle.std.specs.Prelude.{List, ℕ}
use Rattle.rules.specs.Settings.{Settings, zeros}
use Rattle.rules.specs.Rule.{Rule, ◌>>=◌, give}
use Rattle.rules.specs.File.{Front, rows, settings, turns, whole}
use Rattle.settings.specs.Numbers.{algo_number}
use Rattle.reader.specs.declared.head.Head.{Head}

abbrev pub head_of : Head → Front
head_of h = record { algo = algo_number h.algo; procs = h.procs; home = h.home; ticket = h.ticket; budget = h.budget }

-- the settings, after the processors' lines
abbrev pub lined : Front → Rule Settings
lined f = do
  v ← rows f.procs 0 zeros zeros
  give (settings f v.0 v.1)

-- the turns of these settings, and nothing after them
unfoldable pub ending : Settings → Rule (Settings × List ℕ)
ending s = whole (do
  ts ← turns s.procs
  give (s, ts))
