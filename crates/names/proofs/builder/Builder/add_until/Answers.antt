use Rattle.std.proofs.Common.{◌<◌, ◌≤◌, ◌++◌, [], map, length, sym, ◌∙◌, ap, subst, arith}
use Rattle.std.specs.Prelude.{filter}
use Rattle.std.proofs.lemmas.List.{get_or_default}
use Rattle.names.specs.Private.Entries.{begun, joined, passes, lies_behind, Falls}
use Rattle.names.proofs.OrderLemmas.{falls}
use Rattle.names.proofs.PartLemmas.{falls_chunk}
use Rattle.names.proofs.RestLemmas.{stopped_added, stopped_left, further_added, further_left, ended_added, ended_left}
use Rattle.names.proofs.builder.Builder.add_until.Goals as goal

pub loop-chunk-init : goal.loop-chunk-init
loop-chunk-init c = record {
  inside = λ below. let in_chunk = c.rest.invariant.inside below in omega (arith, in_chunk);
  added =
      ap (λ es. c.args.self.now ++ map (begun c.args.count c.args.beginning.now) (filter (passes c.args.edge c.args.text.now) es)) c.rest.view_is;
  left = ap (filter (lies_behind c.args.edge c.args.text.now)) c.rest.view_is;
}

pub place_or_end-requires : goal.place_or_end-requires
place_or_end-requires c =
    let p = passes c.args.edge c.args.text.now in
    let chunks = c.rest.inside.chunks.now in
    subst (Falls p) (sym c.index-chunks-chunk.is)
    (falls_chunk p chunks c.loop-chunk.chunk c.index-chunks-chunk.result (falls c.args.edge c.args.text.now (joined chunks) c.rest.invariant.rise) c.loop-chunk-test.true)

pub add_part-requires-clause-order : goal.add_part-requires-clause-order
add_part-requires-clause-order c = let most = c.max-to.ensures in omega (arith, most)

pub add_part-requires-clause-inside : goal.add_part-requires-clause-inside
add_part-requires-clause-inside c =
    let most = c.max-to.ensures in
    let place = c.place_or_end.ensures.inside in
    let within : c.loop-chunk.at ≤ length c.index-chunks-chunk.result =
    subst (λ xs. c.loop-chunk.at ≤ length xs)
    (get_or_default c.rest.inside.chunks.now c.loop-chunk.chunk [] c.index-chunks-chunk.result c.loop-chunk-test.true ∙ sym c.index-chunks-chunk.is)
    (c.loop-chunk.invariant.inside c.loop-chunk-test.true) in
    omega (arith, most, place, within)

pub invariant_of-result : goal.invariant_of-result
invariant_of-result c = record {
  rise = c.rest.invariant.rise;
  inside = λ below.
      subst (λ xs. c.max-to.result < length xs)
      (c.index-chunks-chunk.is ∙ get_or_default c.rest.inside.chunks.now c.loop-chunk.chunk c.index-chunks-chunk.result [] below)
      (omega (arith, c.if-to-len.true, c.len.ensures.len));
}

pub returns-then-to-len-clause-added : goal.returns-then-to-len-clause-added
returns-then-to-len-clause-added c =
    let chunks = c.rest.inside.chunks.now in
    let chunk = c.index-chunks-chunk.result in
    let within : c.loop-chunk.at ≤ length chunk =
    subst (λ xs. c.loop-chunk.at ≤ length xs) (get_or_default chunks c.loop-chunk.chunk [] chunk c.loop-chunk-test.true ∙ sym c.index-chunks-chunk.is)
    (c.loop-chunk.invariant.inside c.loop-chunk-test.true) in
    stopped_added (passes c.args.edge c.args.text.now) chunks c.loop-chunk.chunk c.loop-chunk.at c.place_or_end.result c.max-to.result chunk
    (falls c.args.edge c.args.text.now (joined chunks) c.rest.invariant.rise) c.loop-chunk-test.true c.index-chunks-chunk.is within c.place_or_end.ensures c.max-to.ensures
    c.args.count c.args.beginning.now c.args.self.now c.loop-chunk.self c.add_part.new.self c.args.rest
    c.loop-chunk.invariant.added c.loop-chunk.invariant.left c.in_ok-add_part.ensures (omega (arith, c.if-to-len.true, c.len.ensures.len))

pub returns-then-to-len-clause-left : goal.returns-then-to-len-clause-left
returns-then-to-len-clause-left c =
    let chunks = c.rest.inside.chunks.now in
    let chunk = c.index-chunks-chunk.result in
    let within : c.loop-chunk.at ≤ length chunk =
    subst (λ xs. c.loop-chunk.at ≤ length xs) (get_or_default chunks c.loop-chunk.chunk [] chunk c.loop-chunk-test.true ∙ sym c.index-chunks-chunk.is)
    (c.loop-chunk.invariant.inside c.loop-chunk-test.true) in
    stopped_left (passes c.args.edge c.args.text.now) chunks c.loop-chunk.chunk c.loop-chunk.at c.place_or_end.result c.max-to.result chunk
    (falls c.args.edge c.args.text.now (joined chunks) c.rest.invariant.rise) c.loop-chunk-test.true c.index-chunks-chunk.is within c.place_or_end.ensures c.max-to.ensures
    c.args.count c.args.beginning.now c.args.self.now c.loop-chunk.self c.add_part.new.self c.args.rest
    c.loop-chunk.invariant.added c.loop-chunk.invariant.left c.in_ok-add_part.ensures (omega (arith, c.if-to-len.true, c.len.ensures.len))

pub loop-chunk-preserved : goal.loop-chunk-preserved
loop-chunk-preserved c =
    let p = passes c.args.edge c.args.text.now in
    let chunks = c.rest.inside.chunks.now in
    let chunk = c.index-chunks-chunk.result in
    let all : length chunk ≤ c.max-to.result = omega (arith, c.if-to-len.false, c.len.ensures.len) in
    let within : c.loop-chunk.at ≤ length chunk =
    subst (λ xs. c.loop-chunk.at ≤ length xs) (get_or_default chunks c.loop-chunk.chunk [] chunk c.loop-chunk-test.true ∙ sym c.index-chunks-chunk.is)
    (c.loop-chunk.invariant.inside c.loop-chunk-test.true) in
    let fall = falls c.args.edge c.args.text.now (joined chunks) c.rest.invariant.rise in
    record {
      inside = λ below. omega arith;
      added =
          further_added p chunks c.loop-chunk.chunk c.loop-chunk.at c.place_or_end.result c.max-to.result chunk fall c.loop-chunk-test.true c.index-chunks-chunk.is within
          c.place_or_end.ensures c.max-to.ensures c.args.count c.args.beginning.now c.args.self.now c.loop-chunk.self
          c.add_part.new.self c.args.rest c.loop-chunk.invariant.added c.loop-chunk.invariant.left c.in_ok-add_part.ensures all;
      left =
          further_left p chunks c.loop-chunk.chunk c.loop-chunk.at c.place_or_end.result c.max-to.result chunk fall c.loop-chunk-test.true c.index-chunks-chunk.is within
          c.place_or_end.ensures c.max-to.ensures c.args.count c.args.beginning.now c.args.self.now c.loop-chunk.self
          c.add_part.new.self c.args.rest c.loop-chunk.invariant.added c.loop-chunk.invariant.left c.in_ok-add_part.ensures all;
    }

pub invariant_of-result-2 : goal.invariant_of-result-2
invariant_of-result-2 c = record {
  rise = c.rest.invariant.rise;
  inside = λ below. absurd (omega (arith, below, c.loop-chunk-test.false));
}

pub returns-clause-added : goal.returns-clause-added
returns-clause-added c =
    ended_added (passes c.args.edge c.args.text.now) c.rest.inside.chunks.now c.loop-chunk.chunk c.loop-chunk.at c.args.count c.args.beginning.now
    c.args.self.now c.loop-chunk.self c.args.rest c.loop-chunk-test.false c.loop-chunk.invariant.added

pub returns-clause-left : goal.returns-clause-left
returns-clause-left c =
    ended_left (lies_behind c.args.edge c.args.text.now) c.rest.inside.chunks.now c.loop-chunk.chunk c.loop-chunk.at c.args.rest c.loop-chunk-test.false
    c.loop-chunk.invariant.left
