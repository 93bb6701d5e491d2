use Rattle.desk.proofs.Beginnings.{begins_by}
use Rattle.desk.proofs.batches.Front.begins.Goals as goal

pub returns : goal.returns
returns c =
    rw (← c.self.view_is, ← c.other.view_is)
    (begins_by c.self.inside.batches.entries c.other.inside.batches.entries c.begins.result c.begins.ensures)
