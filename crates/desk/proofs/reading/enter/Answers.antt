use Rattle.desk.proofs.Turns.{turns}
use Rattle.desk.proofs.reading.enter.Goals as goal

pub enter_as-requires : goal.enter_as-requires
enter_as-requires c x = turns _ _ x
