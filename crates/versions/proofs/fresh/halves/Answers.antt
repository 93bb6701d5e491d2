use Rattle.std.proofs.Common.{length, ap, ◌∙◌, arith}
use Rattle.std.proofs.lemmas.List.{length-take-le, length-drop}
use Rattle.versions.specs.Private.Fresh.{unnamed}
use Rattle.versions.proofs.FreshLemmas.{places_before, places_behind}
use Rattle.versions.proofs.fresh.halves.Goals as goal

pub returns-clause-at : goal.returns-clause-at
returns-clause-at c = ap length c.split_at.ensures.front ∙ length-take-le c.args.at c.args.places.now c.requires.within

pub returns-clause-sum : goal.returns-clause-sum
returns-clause-sum c =
    let l = ap length c.split_at.ensures.back in
    let d = length-drop c.args.at c.args.places.now in
    let within = c.requires.within in
    omega (arith, l, d, within)

pub returns-clause-front : goal.returns-clause-front
returns-clause-front c =
    places_before c.args.first (unnamed c.args.contents.now) (length c.args.contents.now) c.args.places.now c.requires.places c.args.at c.requires.within
    c.split_at.result.0.now c.split_at.ensures.front

pub returns-clause-back : goal.returns-clause-back
returns-clause-back c =
    places_behind c.args.first (unnamed c.args.contents.now) (length c.args.contents.now) c.args.places.now c.requires.places c.args.at c.requires.within
    c.split_at.result.1.now c.split_at.ensures.back
