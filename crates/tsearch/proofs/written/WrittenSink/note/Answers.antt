use denote.Param.Send.{param_sync, arg_sync, given_sync}
use Rattle.tsearch.proofs.written.WrittenSink.note.Goals as goal

pub show-requires-sync-R : goal.show-requires-sync-R
show-requires-sync-R g c κs within = param_sync 0 _ (arg_sync _ _ _ (given_sync 2 g.row.R c.requires.sync))

pub show-requires-in-Answer-sync-R : goal.show-requires-in-Answer-sync-R
show-requires-in-Answer-sync-R g c κs within = param_sync 0 _ (arg_sync _ _ _ (given_sync 2 g.row.R c.requires.sync))
