use Rattle.std.proofs.Common.{◌+◌, ◌/◌, ◌≡◌, ◌++◌, length, subst, arith}
use Rattle.std.proofs.lemmas.Result.{IfOk-weaker}
use Rattle.versions.specs.Private.Fresh.{unnamed, AreAnalysed}
use Rattle.versions.proofs.FreshLemmas.{analysed_both}
use Rattle.versions.proofs.fresh.+segments_of.Goals as goal

pub segments_of-requires : goal.segments_of-requires
segments_of-requires t c =
    let d = c.decreases in
    let at = c.halves.ensures.at in
    let two = c.if-places-lt2.false in
    let few = c.requires.few in
    (omega (arith, d, at, two), (omega (arith, at, few), (c.halves.ensures.front, c.requires.tell)))

pub segments_of-requires-2 : goal.segments_of-requires-2
segments_of-requires-2 t c =
    let d = c.decreases in
    let sum = c.halves.ensures.sum in
    let two = c.if-places-lt2.false in
    let few = c.requires.few in
    (omega (arith, d, sum, two), (omega (arith, sum, few), (c.halves.ensures.back, c.requires.tell)))

pub returns : goal.returns
returns t c =
    let es = unnamed c.args.contents.now in
    let first = c.args.first in
    let end = first + length c.args.places.now in
    let front = first + length c.halves.result.0.now in
    let next = first + length c.args.places.now / 2 in
    let at_is = c.halves.ensures.at in
    let sum = c.halves.ensures.sum in
    let middle : front ≡ next = omega (arith, at_is) in
    let whole : next + length c.halves.result.1.now ≡ end = omega (arith, sum) in
    IfOk-weaker c.joined.result (λ sets. sets ≡ c.in_ok-found.found ++ c.in_ok-rest.rest) (AreAnalysed first end es)
    (λ sets is. analysed_both first next end es c.in_ok-found.found c.in_ok-rest.rest sets (omega arith) (omega (arith, sum))
    (subst (λ n. AreAnalysed first n es c.in_ok-found.found) middle c.in_ok-found.ensures)
    (subst (λ n. AreAnalysed next n es c.in_ok-rest.rest) whole c.in_ok-rest.ensures) is) c.joined.ensures
