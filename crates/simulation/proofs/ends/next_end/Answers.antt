use Rattle.std.proofs.Common.{◌+◌, arith}
use Rattle.simulation.specs.Nodes.{shape}
use Rattle.simulation.proofs.Lines as lines
use Rattle.simulation.proofs.ends.next_end.Goals as goal

pub loop-here-init : goal.loop-here-init
loop-here-init g c = record { read = c.requires.read; none = λ other after ends. after }

pub returns-then-are_clear-clause-found : goal.returns-then-are_clear-clause-found
returns-then-are_clear-clause-found g c =
    lines.none_later c.args.line.now c.args.from c.loop-here.here (shape c.args.node.now) c.args.wanted c.loop-here.cells c.loop-here.invariant.none
    c.loop-here.invariant.read c.if-here-wanted.true (c.are_clear.ensures c.if-are_clear.true)

pub begin-requires : goal.begin-requires
begin-requires g c = lines.some_cell (shape c.args.node.now) c.loop-here.entered (omega arith)

pub step-requires : goal.step-requires
step-requires g c =
    lines.ready_to_read c.args.line.now c.loop-here.here (shape c.args.node.now) c.args.wanted c.args.entered.now c.args.cells.now c.begin.new.entered
    c.loop-here.cells c.requires.room (omega arith) (omega arith) c.loop-here-test.true c.loop-here.invariant.read

pub is_end-requires : goal.is_end-requires
is_end-requires g c = lines.some_cell (shape c.args.node.now) c.step.new.cells (omega arith)

pub loop-here-preserved : goal.loop-here-preserved
loop-here-preserved g c =
    let read =
    lines.read_more c.args.line.now c.loop-here.here (c.loop-here.here + 1) (shape c.args.node.now) c.args.wanted c.is_start.result c.begin.new.entered
    c.loop-here.cells c.step.new.cells (omega arith) c.loop-here.invariant.read c.step.ensures c.begin.ensures c.is_start.ensures in
    record {
      read = read;
      none =
          lines.none_next c.args.line.now c.args.from c.loop-here.here (c.loop-here.here + 1) (shape c.args.node.now) c.args.wanted c.step.new.cells
          c.is_end.result (omega arith) c.loop-here.invariant.none read c.is_end.ensures c.if-is_end.false;
    }

pub returns-then-is_end-clause-found : goal.returns-then-is_end-clause-found
returns-then-is_end-clause-found g c =
    let read =
    lines.read_more c.args.line.now c.loop-here.here (c.loop-here.here + 1) (shape c.args.node.now) c.args.wanted c.is_start.result c.begin.new.entered
    c.loop-here.cells c.step.new.cells (omega arith) c.loop-here.invariant.read c.step.ensures c.begin.ensures c.is_start.ensures in (
      lines.end_found c.args.line.now c.args.from c.loop-here.here (c.loop-here.here + 1) (shape c.args.node.now) c.args.wanted c.step.new.cells
          c.is_end.result (omega arith) (omega arith) c.loop-here.invariant.none read c.is_end.ensures c.if-is_end.true,
      read,
    )

pub returns-clause-found : goal.returns-clause-found
returns-clause-found g c =
    lines.none_past c.args.line.now c.args.from c.loop-here.here (shape c.args.node.now) c.args.wanted c.loop-here.invariant.none (omega arith)
