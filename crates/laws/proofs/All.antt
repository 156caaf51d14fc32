-- The laws, each by its proof.
use native.Mathlib.Omega.{arith}
use Rattle.rules.proofs.Cases.{all_hold, worked_hold, worked_more_hold, borders_hold, requested_hold, requested_more_hold}
use Rattle.rules.proofs.Plays.{continued}
use Rattle.rules.proofs.Counts.{within_budget}
use Rattle.laws.specs.Laws.{Laws}
use Rattle.laws.proofs.Beginnings as beginnings
use Rattle.laws.proofs.Totals.{total_counted, total_summed}
use Rattle.laws.proofs.Counting.{total_counted_turns, made_in_turns, counts, counts_passages}
use Rattle.laws.proofs.Ways.{machine_passes}
use Rattle.laws.proofs.Naming.{machines_law}
use Rattle.laws.proofs.Courses.{courses}
use Rattle.laws.proofs.Lines as lines
use Rattle.laws.proofs.Counters.{counters, trace}
use Rattle.laws.proofs.Traces.{traces}
use Rattle.laws.proofs.McsCost.{four, four_made, four_reached}
use Rattle.laws.proofs.TreeCost.{tree_price, episode_reached}
use Rattle.laws.proofs.Going.{going, sweeps_reached}
use Rattle.laws.proofs.Slips.{slips}
use Rattle.laws.proofs.Refusals as refusals
use Rattle.laws.proofs.Judging.{judged}
use Rattle.laws.proofs.Runs.{runs, read_run}
use Rattle.laws.proofs.Files as files
use Rattle.laws.proofs.OneMore.{one_more, sides, last_byte}
use Rattle.laws.proofs.Doubling.{doublings_hold}

pub all_laws : Laws
all_laws = record {
  cases = all_hold;
  worked = worked_hold;
  requested = requested_hold;
  worked_more = worked_more_hold;
  requested_more = requested_more_hold;
  borders = borders_hold;
  machines = machines_law;
  beginnings = record {
    continued = continued;
    contains = beginnings.beginnings;
    taken = beginnings.taken;
    stopped = beginnings.stopped;
    budget = within_budget;
    counted = total_counted;
    summed = total_summed;
    counted_turns = total_counted_turns;
    made_in_turns = made_in_turns;
  };
  counting = record { numbers = counts; in_passages = counts_passages; passes = machine_passes };
  courses = courses;
  line = record { locks = lines.line; accepted = lines.line_accepted; files = files.line_file };
  distance = lines.distance;
  counters = λ s t small first. counters s small first t;
  trace = trace;
  traces = traces;
  agree = lines.agree;
  four = four;
  four_made = four_made;
  tree_price = tree_price;
  runs = runs;
  going = going;
  slips = slips;
  refusals = record {
    write = refusals.refusals_write;
    run = refusals.refusals_run;
    write_leaves = refusals.untouched_write;
    run_leaves = refusals.untouched_run;
    read_leaves = refusals.untouched_read;
    read_leaves_zero = refusals.untouched_read;
  };
  judged = judged;
  one_more = one_more;
  sides = sides;
  read_write = files.read_write;
  write_read = files.write_read;
  read_write_kept = files.read_write;
  write_read_kept = files.write_read;
  read_run = λ bytes schedule events table h p e. read_run bytes schedule events table h p (omega arith);
  longest = files.longest;
  reached = record { four = four_reached; episode = episode_reached; sweeps = sweeps_reached; longest = files.longest_reached; last_byte = last_byte };
  doublings = doublings_hold;
}
