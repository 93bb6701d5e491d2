use Rattle.std.proofs.Common.{◌<◌, [], false, length, get_or, sym, ◌∙◌, subst, arith}
use Rattle.std.proofs.lemmas.List.{get_or_default}
use Rattle.names.specs.Private.Entries.{joined, passes, CutsAt, IsLastPass}
use Rattle.names.proofs.OrderLemmas.{falls}
use Rattle.names.proofs.PartLemmas.{none_behind_end, behind_open, stops_inside}
use Rattle.names.proofs.BuilderLemmas.{chunk_falls}
use Rattle.names.proofs.RestLemmas.{rest_none}
use Rattle.names.proofs.rest.Rest.behind.Goals as goal

pub open_at-chunk-requires : goal.open_at-chunk-requires
open_at-chunk-requires c = falls c.args.edge c.args.text.now (joined c.args.chunks.now) c.requires

pub invariant_of-result : goal.invariant_of-result
invariant_of-result c = record {
  rise = c.requires;
  inside = λ below. absurd (omega (arith, below, c.if-chunk-chunks.true));
}

pub returns-then-chunk-chunks : goal.returns-then-chunk-chunks
returns-then-chunk-chunks c =
    rest_none c.args.chunks.now c.open_at-chunk.result 0 (omega (arith, c.if-chunk-chunks.true))
    ∙ sym (none_behind_end (passes c.args.edge c.args.text.now) c.args.chunks.now c.open_at-chunk.result c.open_at-chunk.ensures (omega (arith, c.if-chunk-chunks.true)))

pub place-at-requires : goal.place-at-requires
place-at-requires c =
    let within = c.open_at-chunk.ensures.inside in
    chunk_falls (passes c.args.edge c.args.text.now) c.args.chunks.now c.open_at-chunk.result 0 c.index-chunks-chunk.result c.open_at-chunk.ensures
    (omega (arith, within, c.if-chunk-chunks.false)) c.index-chunks-chunk.is (falls c.args.edge c.args.text.now (joined c.args.chunks.now) c.requires)

pub invariant_of-result-2 : goal.invariant_of-result-2
invariant_of-result-2 c =
    let p = passes c.args.edge c.args.text.now in
    let chunk = c.index-chunks-chunk.result in
    record {
      rise = c.requires;
      inside = λ below.
          let last : IsLastPass p chunk false =
          subst (λ es. IsLastPass p es false) (sym c.index-chunks-chunk.is) (c.open_at-chunk.ensures.open_chunk chunk below) in
          subst (λ xs. c.place-at.result < length xs) (c.index-chunks-chunk.is ∙ get_or_default c.args.chunks.now c.open_at-chunk.result chunk [] below)
          (stops_inside p chunk c.place-at.result last c.place-at.ensures);
    }

pub returns : goal.returns
returns c =
    let p = passes c.args.edge c.args.text.now in
    let chunks = c.args.chunks.now in
    let at = c.open_at-chunk.result in
    let chunk = c.index-chunks-chunk.result in
    let within = c.open_at-chunk.ensures.inside in
    let below : at < length chunks = omega (arith, within, c.if-chunk-chunks.false) in
    let cuts : CutsAt p (get_or chunks at []) c.place-at.result =
    subst (λ xs. CutsAt p xs c.place-at.result) (c.index-chunks-chunk.is ∙ get_or_default chunks at chunk [] below) c.place-at.ensures in
    sym (behind_open p chunks at c.place-at.result [] c.open_at-chunk.ensures below cuts)
