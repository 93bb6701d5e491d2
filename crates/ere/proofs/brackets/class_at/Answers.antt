use Rattle.std.proofs.Common.{sym}
use Rattle.ere.proofs.BracketSteps.{Opens-opens_with, class_nowhere, class_found, class_unknown}
use Rattle.ere.proofs.brackets.class_at.Goals as goal

pub returns-in-None-clause-err : goal.returns-in-None-clause-err
returns-in-None-clause-err c = λ name rest members e known. class_nowhere c.args.text.now c.args.at c.in-None.ensures.none name rest e

pub returns-in-Some-class_named-clause-ok : goal.returns-in-Some-class_named-clause-ok
returns-in-Some-class_named-clause-ok c = (
  _,
  class_found c.args.text.now c.args.at c.in-Some.end (Opens-opens_with _ _ _ c.requires) c.in-Some.ensures.found.0
      c.in-Some.ensures.found.1 c.in-Some.ensures.found.2,
  sym c.in-Some-class_named.ensures,
)

pub returns-in-None-class_named-clause-err : goal.returns-in-None-class_named-clause-err
returns-in-None-class_named-clause-err c =
    class_unknown c.args.text.now c.args.at c.in-Some.end c.in-Some.ensures.found.0 c.in-Some.ensures.found.2 c.in-Some.ensures.first
    c.in-None-class_named.ensures
