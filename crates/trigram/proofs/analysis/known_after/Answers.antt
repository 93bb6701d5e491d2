use Rattle.std.proofs.Common.{arith}
use Rattle.std.proofs.lemmas.Result.{IfOk-weaker}
use Rattle.query.specs.Query.{formula_of, is_met}
use Rattle.trigram.specs.Private.Values.{texts_of}
use Rattle.trigram.proofs.AnalysisLemmas.{known_after_stands}
use Rattle.trigram.proofs.TextsLemmas.{plain_for_same}
use Rattle.trigram.proofs.analysis.known_after.Goals as goal

pub settled-requires-clause-suffix : goal.settled-requires-clause-suffix
settled-requires-clause-suffix c =
    plain_for_same _ (texts_of c.in_ok-suffixes.suffixes.items) (formula_of c.in_ok-at_suffix.at_suffix) (grind arith) c.in_ok-at_suffix.ensures

pub returns : goal.returns
returns c =
    IfOk-weaker c.settled.result _ _ (λ ends h.
    known_after_stands (texts_of c.args.texts.items) (texts_of c.args.ends.prefixes.items) (texts_of c.args.ends.suffixes.items)
    (texts_of c.in_ok-prefixes.prefixes.items) (texts_of c.in_ok-suffixes.suffixes.items) c.args.ends.nullable _
    (is_met (formula_of c.args.ends.condition)) ends (grind arith) (grind arith) (grind arith) h) c.settled.ensures
