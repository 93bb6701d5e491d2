use Rattle.std.proofs.Common.{arith}
use Rattle.query.specs.Texts.{texts_of}
use Rattle.query.specs.Query.{formula_of}
use Rattle.trigram.proofs.TextsLemmas.{plain_for_same}
use Rattle.trigram.proofs.AnalysisLemmas.{both_known_stands}
use Rattle.trigram.proofs.analysis.both_known.Goals as goal

pub loosened-requires : goal.loosened-requires
loosened-requires c =
    plain_for_same _ (texts_of c.in_ok-texts-2.texts.items) (formula_of c.in_ok-condition.condition) (grind arith) c.in_ok-condition.ensures

pub returns : goal.returns
returns c =
    both_known_stands (texts_of c.args.left.items) (texts_of c.args.right.items) (texts_of c.in_ok-texts-2.texts.items)
    c.in_ok-loosened.field-0 (rw (c.in_default.is, c.as_slice.ensures.value, c.as_slice-2.ensures.value) at c.in_ok-texts.ensures.none)
    (grind arith) c.in_ok-loosened.ensures
