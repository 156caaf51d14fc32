-- `writer::file::put_turns` meets its contract.
use Rattle.std.proofs.Common.{[], ◌∷◌, ◌++◌, drop}
use Rattle.rules.specs.File.{turns_text}
use Rattle.writer.proofs.Left.{Left}
use Rattle.writer.proofs.file.put_turns.Given as goal

abbrev pub invariant-loop-turn : goal.invariant-loop-turn
invariant-loop-turn g l =
    let s = g.S.Sink in
    Left s.room s.put (turns_text l.turns) l.initial.sink (turns_text (drop l.turn-index l.before ++ l.last ∷ [])) l.sink
