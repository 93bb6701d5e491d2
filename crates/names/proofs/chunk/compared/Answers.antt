use Rattle.std.proofs.Common.{ap, ◌∙◌}
use Rattle.std.specs.Ordering.{nat_cmp}
use Rattle.std.specs.Cmp.Lexicographic.{slice_cmp}
use Rattle.std.proofs.lemmas.List.{take_rest}
use Rattle.names.proofs.CompareLemmas.{compared_equal, compared_other}
use Rattle.names.proofs.chunk.compared.Goals as goal

pub returns-in-Equal : goal.returns-in-Equal
returns-in-Equal c =
    compared_equal c.args.prefix.now c.args.suffix.now c.args.text.now c.min-same.result c.cmp.result c.cmp-in-Equal.result c.min-same.ensures c.cmp.ensures
    c.in-Equal.is (c.cmp-in-Equal.ensures ∙ ap (slice_cmp nat_cmp c.args.suffix.now) (take_rest c.args.text.now c.min-same.result))

pub returns-in_default : goal.returns-in_default
returns-in_default c =
    compared_other c.args.prefix.now c.args.suffix.now c.args.text.now c.min-same.result c.cmp.result c.min-same.ensures c.cmp.ensures c.in_default.not-Equal
