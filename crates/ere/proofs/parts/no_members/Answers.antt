use Rattle.std.proofs.Common.{ap, map, arith}
use Rattle.ere.specs.Tree.{trees_of, form}
use Rattle.ere.proofs.PartLemmas.{highest_none}
use Rattle.ere.proofs.parts.no_members.Goals as goal

pub returns : goal.returns
returns c = (ap (λ xs. trees_of (map form xs)) c.new.ensures.items, highest_none, omega arith)
