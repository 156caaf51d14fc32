-- The cases hold, each by playing it.
use Rattle.std.specs.Prelude.{refl}
use Rattle.rules.specs.Memory.{upd}
use Rattle.rules.specs.Step.{remote}
use Rattle.rules.specs.Course.{turn}
use Rattle.rules.specs.Play.{whole, play, after, within, taking}
use Rattle.rules.specs.Ticket as ticket
use Rattle.rules.specs.Mcs as mcs
use Rattle.rules.specs.Central as central
use Rattle.rules.specs.Dissem as dissem
use Rattle.rules.specs.Dissem.{doublings, doubled}
use Rattle.rules.specs.Tree as tree
use Rattle.rules.specs.Rule.{lit, letters, word, digits, number}
use Rattle.rules.specs.File as file
use Rattle.rules.specs.File.{decimal_in, decimal, rows, items, turns, front, rest}
use Rattle.rules.specs.Calls.{in_row, in_range, all_below, refusal, reading_of, accepted_run, running}
use Rattle.rules.specs.Cases.{All, AllLong, cases, worked, worked_more, borders, requested, requested_more}

pub all_hold : All cases
unfolding cases upd remote turn whole play after within taking ticket.step mcs.step central.step dissem.step doublings doubled lit letters word digits number decimal_in decimal rows items turns front rest file.whole file.file in_row in_range all_below refusal reading_of accepted_run running
all_hold = (refl, (refl, (refl, (refl, (refl, (refl, (refl, (refl, (refl, (refl, (refl, tt)))))))))))

pub worked_hold : All worked
unfolding worked upd remote turn whole play after within taking ticket.step mcs.step central.step dissem.step doublings doubled lit letters word digits number decimal_in decimal rows items turns front rest file.whole file.file in_row in_range all_below refusal reading_of accepted_run running
worked_hold = (refl, (refl, (refl, (refl, (refl, (refl, tt))))))

pub worked_more_hold : AllLong worked_more
unfolding worked_more upd remote turn whole play after within taking ticket.step mcs.step central.step dissem.step doublings doubled lit letters word digits number decimal_in decimal rows items turns front rest file.whole file.file in_row in_range all_below refusal reading_of accepted_run running
worked_more_hold = (refl, (refl, (refl, (refl, (refl, (refl, (refl, tt)))))))

pub borders_hold : AllLong borders
unfolding borders whole play lit letters word digits number decimal_in decimal rows items turns front rest file.whole file.file in_row in_range all_below refusal reading_of accepted_run running
borders_hold = (refl, (refl, (refl, (refl, (refl, (refl, (refl, (refl, (refl, (refl, (refl, (refl, (refl, (refl, (refl, (refl, (refl, (refl, (refl, (refl, (refl, (refl, (refl, (refl, (refl, (refl, (refl, (refl, (refl, (refl, tt))))))))))))))))))))))))))))))

pub requested_hold : All requested
unfolding requested upd remote turn whole play after within taking ticket.step dissem.step doublings doubled tree.step lit letters word digits number decimal_in decimal rows items turns front rest file.whole file.file in_row in_range all_below refusal reading_of accepted_run running
requested_hold = (refl, (refl, (refl, (refl, (refl, (refl, (refl, (refl, (refl, (refl, (refl, (refl, (refl, (refl, tt))))))))))))))

pub requested_more_hold : AllLong requested_more
unfolding requested_more upd remote turn whole play after within taking ticket.step dissem.step doublings doubled tree.step lit letters word digits number decimal_in decimal rows items turns front rest file.whole file.file in_row in_range all_below refusal reading_of accepted_run running
requested_more_hold = (refl, (refl, (refl, tt)))
