use Rattle.std.proofs.Common.{◌∙◌, ap}
use Rattle.ere.specs.ByteSet.{has}
use Rattle.matcher.proofs.Passing.{sixteen_more}
use Rattle.matcher.proofs.words.sixteen_passing.Goals as goal

pub returns : goal.returns
returns c =
    λ from low high h.
    sixteen_more c.args.members.now c.args.line.now c.args.found c.which_of-held.result c.moved_to.result c.either.result c.args.base
    c.args.at from low high c.requires.in_line h c.which_of-held.ensures.small
    (λ k l. c.which_of-held.ensures.each k l ∙ ap (has c.args.members.now) (c.sixteen_at.ensures k l)) c.moved_to.ensures
    c.either.ensures
