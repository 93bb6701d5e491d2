use Rattle.std.proofs.Common.{◌≡◌, ◌∙◌, sym}
use Rattle.std.specs.Prelude.{filter}
use Rattle.std.proofs.lemmas.Result.{IfOk-weaker}
use Rattle.segments.specs.Contents.{has}
use Rattle.segments.specs.Private.Below.{numbers_below}
use Rattle.segments.specs.Private.Table.{places_of}
use Rattle.segments.proofs.Selection.{set_of_all}
use Rattle.segments.proofs.within.those_with.Goals as goal

pub returns-in-None-clause-found : goal.returns-in-None-clause-found
returns-in-None-clause-found g c =
    let sets = c.args.table.now in
    rw c.in-None.is
    (IfOk-weaker c.list.result (λ v. v.items ≡ c.places-set.result) (λ v. v.items ≡ filter (has (places_of sets c.args.trigram)) (numbers_below c.args.count))
    (λ v e. e ∙ c.places-set.ensures ∙ sym (set_of_all c.args.count sets c.args.trigram c.requires.fits)) c.list.ensures.places)
