use Rattle.std.proofs.Common.{rules, ◌||◌, ◌==◌, ap, ◌∙◌}
use Rattle.ere.specs.ByteSet.{has, with_byte}
use Rattle.ere.specs.Private.SetWords.{values_of}
use Rattle.ere.proofs.SetWords.{with_is, values_all, are_line_bytes}
use Rattle.ere.proofs.byte_set.ByteSet.insert.Goals as goal

pub invariant_of-self : goal.invariant_of-self
invariant_of-self c =
    are_line_bytes c.with-self-inside.result (λ b. has (values_of c.self.inside.words) b || b == c.args.byte)
    c.with-self-inside.ensures.whole (search rules)
    (with_is c.self.inside.words c.with-self-inside.result c.args.byte c.self.invariant c.requires c.with-self-inside.ensures.each)

pub returns : goal.returns
returns c =
    values_all c.with-self-inside.result (λ b. has (values_of c.self.inside.words) b || b == c.args.byte)
    (with_is c.self.inside.words c.with-self-inside.result c.args.byte c.self.invariant c.requires c.with-self-inside.ensures.each)
    ∙ ap (λ s. with_byte s c.args.byte) c.self.view_is
