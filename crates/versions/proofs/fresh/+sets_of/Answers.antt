use Rattle.std.proofs.Common.{◌+◌, ◌≡◌, ◌++◌, length, subst, arith}
use Rattle.std.proofs.lemmas.Result.{IfOk-at_ok, IfOk-weaker}
use Rattle.versions.specs.Private.Fresh.{unnamed, AreAnalysed}
use Rattle.versions.proofs.FreshLemmas.{analysed_both}
use Rattle.versions.proofs.fresh.+sets_of.Goals as goal

pub returns : goal.returns
returns g t c =
    let es = unnamed c.args.contents.now in
    let first = c.args.first in
    let end = first + length c.args.places.now in
    let front = first + length c.halves.result.0.now in
    let next = first + c.places_with-at.result in
    let at_is = c.halves.ensures.at in
    let sum = c.halves.ensures.sum in
    let middle : front ≡ next = omega (arith, at_is) in
    let whole : next + length c.halves.result.1.now ≡ end = omega (arith, sum) in
    let one = IfOk-at_ok (AreAnalysed first front es) c.in_ok-found.was c.join-found.ensures.first in
    let other = IfOk-at_ok (AreAnalysed next (next + length c.halves.result.1.now) es) c.in_ok-rest.was c.join-found.ensures.second in
    IfOk-weaker c.joined.result (λ sets. sets ≡ c.in_ok-found.field-0 ++ c.in_ok-rest.field-0) (AreAnalysed first end es)
    (λ sets is. analysed_both first next end es c.in_ok-found.field-0 c.in_ok-rest.field-0 sets (omega arith) (omega (arith, sum))
    (subst (λ n. AreAnalysed first n es c.in_ok-found.field-0) middle one) (subst (λ n. AreAnalysed next n es c.in_ok-rest.field-0) whole other) is) c.joined.ensures
