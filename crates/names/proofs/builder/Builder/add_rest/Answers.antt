use Rattle.std.proofs.Common.{◌+◌, ◌-◌, ◌<◌, ◌++◌, [], length, take, drop, refl, sym, ◌∙◌, ap, subst, arith}
use Rattle.std.proofs.lemmas.List.{append-nil, get_or_default}
use Rattle.std.proofs.lemmas.Result.{on_ok_weaker}
use Rattle.names.proofs.RestLemmas.{rest_none, added_rest}
use Rattle.names.proofs.builder.Builder.add_rest.Goals as goal

pub returns-then-chunk-chunks : goal.returns-then-chunk-chunks
returns-then-chunk-chunks c =
    let old = c.args.self.now in
    sym (ap (λ xs. old ++ xs) (sym c.rest.view_is ∙ rest_none c.rest.inside.chunks.now c.rest.inside.chunk c.rest.inside.at c.if-chunk-chunks.true) ∙ append-nil old)

pub add_part-requires-clause-order : goal.add_part-requires-clause-order
add_part-requires-clause-order c =
    let below : c.rest.inside.chunk < length c.rest.inside.chunks.now = omega (arith, c.if-chunk-chunks.false) in
    let inside : c.rest.inside.at < length c.index-chunks-chunk.result =
    subst (λ xs. c.rest.inside.at < length xs)
    (get_or_default c.rest.inside.chunks.now c.rest.inside.chunk [] c.index-chunks-chunk.result below ∙ sym c.index-chunks-chunk.is) (c.rest.invariant.inside below) in
    omega (arith, inside, c.len.ensures.len)

pub returns : goal.returns
returns c =
    let chunks = c.rest.inside.chunks.now in
    let chunk = c.rest.inside.chunk in
    let below : chunk < length chunks = omega (arith, c.if-chunk-chunks.false) in
    on_ok_weaker c.add_all.result (λ made.
    added_rest chunks chunk c.rest.inside.at c.len.result c.index-chunks-chunk.result c.args.self.now c.add_part.new.self
    c.add_all.new.self c.args.rest (take (length chunks - (chunk + 1)) (drop (chunk + 1) chunks)) below c.index-chunks-chunk.is c.rest.view_is
    c.len.ensures.len c.in_ok-add_part.ensures refl made) c.add_all.ensures
