-- The tree barrier's `start` meets its contract.
use Rattle.settings.specs.View.{settings_of}
use Rattle.tree.proofs.TreeWords.{first_words}
use Rattle.tree.proofs.barrier.TreeMachine.start.Goals as goal

pub returns-clause-memory : goal.returns-clause-memory
returns-clause-memory c = first_words (settings_of c.args._s.now)
