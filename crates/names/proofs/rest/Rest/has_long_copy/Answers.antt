use Rattle.std.proofs.Common.{◌≤◌, [], length, sym, ◌∙◌, ap, subst, arith}
use Rattle.std.specs.Prelude.{filter}
use Rattle.std.specs.List.{list_any}
use Rattle.std.proofs.lemmas.List.{get_or_default}
use Rattle.names.specs.declared.edge.Edge.TheVariants.{AfterUnder}
use Rattle.names.specs.Contents.{is_long_copy}
use Rattle.names.specs.Private.Entries.{joined, passes, Falls}
use Rattle.names.proofs.OrderLemmas.{falls}
use Rattle.names.proofs.PartLemmas.{falls_chunk}
use Rattle.names.proofs.LongLemmas.{some_long, further_long, none_long, ended_long}
use Rattle.names.proofs.rest.Rest.has_long_copy.Goals as goal
use Rattle.names.proofs.rest.Rest.has_long_copy.Goals.{After-max-end}

pub loop-chunk-init : goal.loop-chunk-init
loop-chunk-init c = record {
  inside = λ below. let in_chunk = c.self.invariant.inside below in omega (arith, in_chunk);
  done = ap (λ es. list_any (λ e. is_long_copy c.args.most c.args.from.now c.args.to.now e.0) (filter (passes AfterUnder c.args.from.now) es)) c.self.view_is;
}

pub place_or_end-requires : goal.place_or_end-requires
place_or_end-requires c =
    let p = passes AfterUnder c.args.from.now in
    let chunks = c.self.inside.chunks.now in
    subst (Falls p) (sym c.index-chunks-chunk.is)
    (falls_chunk p chunks c.loop-chunk.chunk c.index-chunks-chunk.result (falls AfterUnder c.args.from.now (joined chunks) c.self.invariant.rise) c.loop-chunk-test.true)

within : (c : After-max-end) → c.loop-chunk.at ≤ length c.index-chunks-chunk.result
within c =
    subst (λ xs. c.loop-chunk.at ≤ length xs)
    (get_or_default c.self.inside.chunks.now c.loop-chunk.chunk [] c.index-chunks-chunk.result c.loop-chunk-test.true ∙ sym c.index-chunks-chunk.is)
    (c.loop-chunk.invariant.inside c.loop-chunk-test.true)

pub has_long_copy-requires-clause-order : goal.has_long_copy-requires-clause-order
has_long_copy-requires-clause-order c = let most = c.max-end.ensures in omega (arith, most)

pub has_long_copy-requires-clause-inside : goal.has_long_copy-requires-clause-inside
has_long_copy-requires-clause-inside c =
    let most = c.max-end.ensures in
    let place = c.place_or_end.ensures.inside in
    let low = within c in
    omega (arith, most, place, low)

pub returns-then-has_long_copy : goal.returns-then-has_long_copy
returns-then-has_long_copy c =
    let p = passes AfterUnder c.args.from.now in
    let chunks = c.self.inside.chunks.now in
    some_long p (λ e. is_long_copy c.args.most c.args.from.now c.args.to.now e.0) chunks c.loop-chunk.chunk c.loop-chunk.at c.place_or_end.result c.max-end.result
    c.index-chunks-chunk.result (falls AfterUnder c.args.from.now (joined chunks) c.self.invariant.rise) c.loop-chunk-test.true c.index-chunks-chunk.is
    (within (goal.at.returns-then-has_long_copy c).After-max-end) c.place_or_end.ensures c.max-end.ensures
    (list_any (λ e. is_long_copy c.args.most c.args.from.now c.args.to.now e.0) (filter p c.args.self)) c.loop-chunk.invariant.done (sym c.if-has_long_copy.ensures)

pub returns-then-end-len : goal.returns-then-end-len
returns-then-end-len c =
    let p = passes AfterUnder c.args.from.now in
    let chunks = c.self.inside.chunks.now in
    none_long p (λ e. is_long_copy c.args.most c.args.from.now c.args.to.now e.0) chunks c.loop-chunk.chunk c.loop-chunk.at c.place_or_end.result c.max-end.result
    c.index-chunks-chunk.result (falls AfterUnder c.args.from.now (joined chunks) c.self.invariant.rise) c.loop-chunk-test.true c.index-chunks-chunk.is
    (within (goal.at.returns-then-end-len c).After-max-end) c.place_or_end.ensures c.max-end.ensures
    (list_any (λ e. is_long_copy c.args.most c.args.from.now c.args.to.now e.0) (filter p c.args.self)) c.loop-chunk.invariant.done (sym c.if-has_long_copy.ensures)
    (omega (arith, c.if-end-len.true, c.len.ensures.len))

pub loop-chunk-preserved : goal.loop-chunk-preserved
loop-chunk-preserved c =
    let p = passes AfterUnder c.args.from.now in
    let chunks = c.self.inside.chunks.now in
    record {
      inside = λ below. omega arith;
      done =
          further_long p (λ e. is_long_copy c.args.most c.args.from.now c.args.to.now e.0) chunks c.loop-chunk.chunk c.loop-chunk.at c.place_or_end.result c.max-end.result
          c.index-chunks-chunk.result (falls AfterUnder c.args.from.now (joined chunks) c.self.invariant.rise) c.loop-chunk-test.true c.index-chunks-chunk.is
          (within (goal.at.loop-chunk-preserved c).After-max-end) c.place_or_end.ensures c.max-end.ensures
          (list_any (λ e. is_long_copy c.args.most c.args.from.now c.args.to.now e.0) (filter p c.args.self)) c.loop-chunk.invariant.done
          (sym c.if-has_long_copy.ensures);
    }

pub returns : goal.returns
returns c =
    ended_long (passes AfterUnder c.args.from.now) (λ e. is_long_copy c.args.most c.args.from.now c.args.to.now e.0) c.self.inside.chunks.now c.loop-chunk.chunk
    c.loop-chunk.at (list_any (λ e. is_long_copy c.args.most c.args.from.now c.args.to.now e.0) (filter (passes AfterUnder c.args.from.now) c.args.self))
    c.loop-chunk-test.false c.loop-chunk.invariant.done
