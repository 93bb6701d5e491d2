use Rattle.std.proofs.Common.{arith}
use Rattle.simulation.proofs.Runs as runs
use Rattle.simulation.proofs.step.step_run.Goals as goal

pub returns : goal.returns
returns c =
    let apart = c.requires.run.apart in
    let fits = c.requires.run.fits in
    runs.run_stepped c.args.line.now c.args.here c.args.masks.now c.args.places c.args.copies c.args.entered.now c.args.cells.now c.moved_in-waiting.result
    c.passed_on-ready.result c.both-read.result c.passed_on.result c.requires.inside c.requires.run (omega arith)
    (runs.waits_are c.args.places c.args.entered.now c.args.cells.now _ c.moved_in-waiting.result c.lowest_bits-begun.result c.lowest_bits.result (omega arith)
    (runs.room_for c.args.masks.now c.args.places c.args.copies c.requires.run) c.moved_in-waiting.type_inv c.moved_in-waiting.ensures
    c.lowest_bits.ensures.low c.lowest_bits-begun.ensures.low c.lowest_bits-begun.ensures.high)
    c.passed_on-ready.ensures
    (runs.read_is _ _ _ _ _ _ _ _ c.both-read.ensures c.either-moved.ensures c.moved_down.ensures c.both-again.ensures)
    c.passed_on.ensures
