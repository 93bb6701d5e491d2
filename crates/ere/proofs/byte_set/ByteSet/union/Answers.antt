use Rattle.std.proofs.Common.{◌||◌, ap, ◌∙◌}
use Rattle.ere.specs.ByteSet.{has, union}
use Rattle.ere.specs.Private.SetWords.{values_of}
use Rattle.ere.proofs.SetWords.{either_is, values_all}
use Rattle.ere.proofs.byte_set.ByteSet.union.Goals as goal

pub returns : goal.returns
returns c =
    values_all c.of_either.result (λ b. has (values_of c.self.inside.words) b || has (values_of c.other.inside.words) b)
    (either_is c.self.inside.words c.other.inside.words c.of_either.result c.self.invariant c.other.invariant c.of_either.ensures.each)
    ∙ ap (λ s. union s (values_of c.other.inside.words)) c.self.view_is ∙ ap (λ s. union c.args.self.now s) c.other.view_is
