use Rattle.std.proofs.Common.{true}
use Rattle.query.proofs.Forms.{formula_of-Any}
use Rattle.query.specs.declared.query.Query.TheVariants as query
use Rattle.query.specs.Query.{formula_of, is_met}
use Rattle.trigram.specs.Private.Values.{texts_of}
use Rattle.trigram.specs.Analysis.{just_empty}
use Rattle.trigram.proofs.AnalysisLemmas.{loose_same, any_is_met}
use Rattle.trigram.proofs.analysis.anything.Goals as goal

pub returns : goal.returns
returns c = record {
  plain = rw formula_of-Any tt;
  is =
      loose_same true (texts_of c.in_ok-just_empty.field-0.items) just_empty (texts_of c.in_ok-just_empty-2.field-0.items) just_empty
      (is_met (formula_of query.Any)) (λ _. true) c.in_ok-just_empty.ensures c.in_ok-just_empty-2.ensures any_is_met;
}
