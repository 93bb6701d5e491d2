use Rattle.std.proofs.Common.{◌∙◌, sym}
use Rattle.ere.proofs.BracketSteps.{opens_then}
use Rattle.ere.proofs.brackets.opens.Goals as goal

pub returns-then-stands_at : goal.returns-then-stands_at
returns-then-stands_at c = c.stands_at-then-stands_at.ensures ∙ opens_then c.args.text.now c.args.at c.args.mark (sym c.if-stands_at.ensures)
