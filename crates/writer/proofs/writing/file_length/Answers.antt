-- `writer::writing::file_length` meets its contract.
use Rattle.writer.proofs.Short.{few_procs, length_fits}
use Rattle.writer.proofs.writing.file_length.Goals as goal

pub put_file-requires-clause-procs : goal.put_file-requires-clause-procs
put_file-requires-clause-procs c = few_procs c.args.trial.now

pub put_file-requires-clause-room : goal.put_file-requires-clause-room
put_file-requires-clause-room c = length_fits c.args.trial.now
