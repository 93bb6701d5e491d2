use Rattle.std.proofs.Common.{◌<◌, false, length, get_or, sym, subst, arith}
use Rattle.std.proofs.lemmas.List.{get_or_default}
use Rattle.names.specs.declared.edge.Edge.TheVariants.{Before}
use Rattle.names.specs.Private.Entries.{joined, passes, Falls, IsLastPass}
use Rattle.names.proofs.OrderLemmas.{falls}
use Rattle.names.proofs.PartLemmas.{falls_chunk, stops_inside, some_entry}
use Rattle.names.proofs.FindLemmas.{under_there, under_nowhere}
use Rattle.names.proofs.names.is_under.Goals as goal
use Rattle.names.proofs.names.is_under.Goals.{After-place-at}

pub open_at-open-requires : goal.open_at-open-requires
open_at-open-requires c = falls Before c.args.prefix.now (joined c.args.chunks.now) c.requires

pub returns-then-open-chunks : goal.returns-then-open-chunks
returns-then-open-chunks c = under_nowhere c.args.chunks.now c.args.prefix.now c.open_at-open.result c.open_at-open.ensures (omega arith)

pub place-at-requires : goal.place-at-requires
place-at-requires c =
    let p = passes Before c.args.prefix.now in
    let within = c.open_at-open.ensures.inside in
    subst (Falls p) (sym c.index-chunks-open.is)
    (falls_chunk p c.args.chunks.now c.open_at-open.result c.index-chunks-open.result (falls Before c.args.prefix.now (joined c.args.chunks.now) c.requires) (omega (arith, within)))

inside : (c : After-place-at) → c.place-at.result < length c.index-chunks-open.result
inside c =
    let p = passes Before c.args.prefix.now in
    let within = c.open_at-open.ensures.inside in
    let last : IsLastPass p c.index-chunks-open.result false =
    subst (λ es. IsLastPass p es false) (sym c.index-chunks-open.is) (c.open_at-open.ensures.open_chunk c.index-chunks-open.result (omega (arith, within))) in
    stops_inside p c.index-chunks-open.result c.place-at.result last c.place-at.ensures

pub begins-requires : goal.begins-requires
begins-requires c = inside (goal.at.begins-requires c).After-place-at

pub returns : goal.returns
returns c =
    let chunk = c.index-chunks-open.result in
    let within : c.place-at.result < length chunk = inside (goal.at.returns c).After-place-at in
    let low = c.open_at-open.ensures.inside in
    let e = get_or chunk c.place-at.result some_entry in
    under_there c.args.chunks.now c.args.prefix.now c.open_at-open.result c.place-at.result chunk e chunk c.begins.result (omega (arith, low)) (sym c.index-chunks-open.is) within
    (get_or_default chunk c.place-at.result e some_entry within) c.open_at-open.ensures c.place-at.ensures c.requires (c.begins.ensures some_entry)
