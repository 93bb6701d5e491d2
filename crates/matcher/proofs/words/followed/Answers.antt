use Rattle.std.proofs.Common.{◌∙◌, ◌&&◌, ap}
use Rattle.ere.specs.Bits.{has_bit}
use Rattle.matcher.proofs.words.followed.Goals as goal

pub returns-else-word-lt-FEW : goal.returns-else-word-lt-FEW
returns-else-word-lt-FEW c = λ b inside. c.both.ensures b ∙ ap (λ t. has_bit c.args.word b && t) (c.passing.ensures b inside)
