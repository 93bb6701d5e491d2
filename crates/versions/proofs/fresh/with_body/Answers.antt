use Rattle.std.proofs.Common.{◌<◌, arith}
use Rattle.std.specs.Prelude.{All}
use Rattle.std.proofs.lemmas.List.Elements.{All-from_get_or}
use Rattle.std.proofs.lemmas.Result.{IfOk-weaker}
use Rattle.versions.specs.Private.Fresh.{AddsContent}
use Rattle.versions.proofs.FreshLemmas.{adds_listed, adds_marked}
use Rattle.versions.proofs.fresh.with_body.Goals as goal

pub returns-in-Some : goal.returns-in-Some
returns-in-Some c =
    let body = c.args.body.now in
    let small : All (λ b. b < 256) body = All-from_get_or (λ b. b < 256) body 0 (λ i inside. omega (arith, c.type_inv.body i)) in
    IfOk-weaker c.with_body.result _ (AddsContent c.args.number body c.args.made) (λ more is. adds_marked c.args.number body c.args.made more small is) c.with_body.ensures

pub returns-in_ok-trigrams-in-None : goal.returns-in_ok-trigrams-in-None
returns-in_ok-trigrams-in-None c =
    let body = c.args.body.now in
    IfOk-weaker c.with_analysed.result _ (AddsContent c.args.number body c.args.made)
    (λ more is. adds_listed c.args.number body c.in_ok-trigrams-in-None.trigrams.items c.as_slice.result.now c.args.made more c.in_ok-trigrams-in-None.ensures c.as_slice.ensures.value is)
    c.with_analysed.ensures
