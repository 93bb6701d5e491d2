use Rattle.std.proofs.Common.{refl}
use Rattle.simulation.specs.Nodes.{shape}
use Rattle.simulation.proofs.Lines as lines
use Rattle.simulation.proofs.ends.has_word.Goals as goal

pub next_end-requires-clause-read : goal.next_end-requires-clause-read
next_end-requires-clause-read g c =
    lines.read_none c.args.line.now c.args.wanted.first (shape c.args.node.now) c.args.wanted c.clear.new.cells refl c.clear.ensures

pub returns-clause-found : goal.returns-clause-found
returns-clause-found g c =
    rw c.is_some.ensures
    (lines.found_at_all c.args.line.now (shape c.args.node.now) c.args.wanted c.next_end.new.cells c.in_ok-end.end c.in_ok-end.ensures.found)
