use Rattle.std.proofs.Common.{arith}
use Rattle.std.proofs.lemmas.Result.{IfOk-weaker}
use Rattle.query.specs.Query.{formula_of, is_met}
use Rattle.trigram.specs.Private.Values.{texts_of}
use Rattle.trigram.proofs.AnalysisLemmas.{known_before_stands}
use Rattle.trigram.proofs.TextsLemmas.{plain_for_same}
use Rattle.trigram.proofs.analysis.known_before.Goals as goal

pub settled-requires-clause-prefix : goal.settled-requires-clause-prefix
settled-requires-clause-prefix c =
    plain_for_same _ (texts_of c.in_ok-prefixes.prefixes.items) (formula_of c.in_ok-at_prefix.at_prefix) (grind arith) c.in_ok-at_prefix.ensures

pub returns : goal.returns
returns c =
    IfOk-weaker c.settled.result _ _ (λ ends h.
    known_before_stands (texts_of c.args.texts.items) (texts_of c.args.ends.prefixes.items) (texts_of c.args.ends.suffixes.items)
    (texts_of c.in_ok-prefixes.prefixes.items) (texts_of c.in_ok-suffixes.suffixes.items) c.args.ends.nullable _
    (is_met (formula_of c.args.ends.condition)) ends (grind arith) (grind arith) (grind arith) h) c.settled.ensures
