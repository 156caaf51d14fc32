-- `reader::schedule::gather` meets its contract. The loop keeps: the turns are what is left of them after those in the row.
use Rattle.std.proofs.Common.{◌≡◌, ◌-◌, take}
use Rattle.rules.specs.Bounds.{most_turns}
use Rattle.rules.specs.File.{turns, items}
use Rattle.reader.proofs.schedule.gather.Given as goal

abbrev pub invariant-loop-i : goal.invariant-loop-i
invariant-loop-i l = turns l.procs l.first.rest.now l.first.at ≡ items (most_turns - l.i) l.procs (take l.i l.kept) l.p.rest.now l.p.at
