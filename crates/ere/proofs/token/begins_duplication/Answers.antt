use Rattle.std.proofs.Common.{get_or}
use Rattle.ere.proofs.Texts.{front}
use Rattle.ere.proofs.TokenSteps.{no_duplication, none_of_four}
use Rattle.ere.proofs.token.begins_duplication.Goals as goal

pub returns-then-at-text-clause-none : goal.returns-then-at-text-clause-none
returns-then-at-text-clause-none c = λ case none.
    let other = none_of_four (get_or c.args.text.now c.args.at 0) c.contains.result c.contains.ensures.value none in
    no_duplication _ _ _ (front c.args.text.now c.args.at c.if-at-text.true) other.0 other.1 other.2 other.3
