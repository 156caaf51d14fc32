-- The traces, by playing them.
use mathlib.Core.Path.{refl}
use Rattle.rules.specs.Memory.{upd}
use Rattle.rules.specs.Step.{remote}
use Rattle.rules.specs.Course.{turn}
use Rattle.rules.specs.Play.{taking, within, after}
use Rattle.rules.specs.Ticket as ticket
use Rattle.rules.specs.Mcs as mcs
use Rattle.rules.specs.Central as central
use Rattle.rules.specs.Dissem as dissem
use Rattle.rules.specs.Tree as tree
use Rattle.laws.specs.Laws.{turns_taken, Traces}

pub traces : Traces
unfolding turns_taken upd remote turn within taking after ticket.step mcs.step central.step dissem.step dissem.doublings dissem.doubled tree.step
traces = record { of_ticket = refl; of_mcs = refl; of_central = refl; of_dissem = refl; of_dissem_two = refl; of_dissem_alone = refl; of_tree = refl }
