use Rattle.ere.proofs.EdgeLemmas.{whole_lines}
use Rattle.ere.proofs.laws.whole_lines.Goals as goal

pub returns : goal.returns
returns c = whole_lines
