use Rattle.std.proofs.Common.{refl}
use Rattle.simulation.specs.Nodes.{shape}
use Rattle.simulation.proofs.Lines as lines
use Rattle.simulation.proofs.ends.last_end.Goals as goal

pub next_end-requires-clause-read : goal.next_end-requires-clause-read
next_end-requires-clause-read g c =
    lines.read_none c.args.line.now c.args.wanted.first (shape c.args.node.now) c.args.wanted c.clear.new.cells refl c.clear.ensures

pub returns-in_default-clause-found : goal.returns-in_default-clause-found
returns-in_default-clause-found g c =
    lines.none_at_all c.args.line.now (shape c.args.node.now) c.args.wanted
    (lines.found_none c.args.line.now (shape c.args.node.now) c.args.wanted c.args.wanted.first c.next_end.new.cells c.in_ok-first.field-0 c.in_default.is
    c.in_ok-first.ensures.found)

pub loop-end-init : goal.loop-end-init
loop-end-init g c =
    let next =
    lines.found_next c.args.line.now (shape c.args.node.now) c.args.wanted c.args.wanted.first c.in-Some.first c.next_end.new.cells c.in_ok-first.field-0
    c.in-Some.is c.in_ok-first.ensures.found in
    record { read = next.1; ends = next.0.ends }

pub loop-end-smaller : goal.loop-end-smaller
loop-end-smaller g c =
    let next =
    lines.found_next c.args.line.now (shape c.args.node.now) c.args.wanted c.loop-end.last c.in-Some-2.end c.next_end-in-loop-end.new.cells
    c.in_ok-end.field-0 c.in-Some-2.is c.in_ok-end.ensures.found in
    lines.nearer c.args.line.now (shape c.args.node.now) c.args.wanted c.loop-end.last c.in-Some-2.end next.0

pub loop-end-preserved : goal.loop-end-preserved
loop-end-preserved g c =
    let next =
    lines.found_next c.args.line.now (shape c.args.node.now) c.args.wanted c.loop-end.last c.in-Some-2.end c.next_end-in-loop-end.new.cells
    c.in_ok-end.field-0 c.in-Some-2.is c.in_ok-end.ensures.found in
    record { read = next.1; ends = next.0.ends }

pub returns-in_default-2-clause-found : goal.returns-in_default-2-clause-found
returns-in_default-2-clause-found g c =
    lines.last_of c.args.line.now (shape c.args.node.now) c.args.wanted c.loop-end.last c.loop-end.invariant.ends
    (lines.found_none c.args.line.now (shape c.args.node.now) c.args.wanted c.loop-end.last c.next_end-in-loop-end.new.cells c.in_ok-end.field-0
    c.in_default-2.is c.in_ok-end.ensures.found)
