use Rattle.std.proofs.Common.{ap, ◌∙◌}
use Rattle.ere.specs.ByteSet.{single, union}
use Rattle.ere.proofs.LetterLemmas.{both_cases}
use Rattle.ere.proofs.letters.both_cases.Goals as goal

pub returns : goal.returns
returns c =
    c.union.ensures ∙ ap (λ s. union s c.single-2.result) c.single.ensures ∙ ap (union (single c.args.byte)) c.single-2.ensures
    ∙ ap (λ b. union (single c.args.byte) (single b)) c.other_case.ensures ∙ both_cases c.args.byte
