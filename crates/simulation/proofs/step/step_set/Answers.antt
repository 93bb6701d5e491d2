use Rattle.std.proofs.Common.{◌∙◌, ap, ◌&&◌, arith}
use Rattle.simulation.specs.Pending.{at}
use Rattle.simulation.proofs.Steps.{set_advances}
use Rattle.simulation.proofs.Cuts.{words_hold}
use Rattle.simulation.proofs.step.step_set.Goals as goal

pub returns : goal.returns
returns c =
    set_advances c.args.line.now c.args.here c.args.members.now c.args.copies c.args.entered.now c.args.cells.now c.keep_if.new.to c.requires.inside
    (λ k low.
    c.keep_if.ensures k (omega (arith, words_hold c.args.copies, c.requires.cells))
    ∙ ap (λ t. t && at c.args.entered.now k) c.has.ensures)
