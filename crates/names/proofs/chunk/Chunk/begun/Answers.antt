use Rattle.std.proofs.Common.{◌≡◌, ◌≤◌, ◌++◌, length, drop, ◌∙◌, ap, sym, subst, arith}
use Rattle.std.specs.Arc.{arc_value, arc_slice_items}
use Rattle.names.specs.declared.chunk.Body.{Body}
use Rattle.names.specs.Private.Entries.{pairs, with_prefix, IsBody}
use Rattle.names.proofs.PairLemmas.{IsChunk-begun, begun_view}
use Rattle.names.proofs.chunk.Chunk.begun.Goals as goal

pub invariant_of-result : goal.invariant_of-result
invariant_of-result c =
    let prefix = arc_slice_items c.self.inside.prefix in
    let other = arc_slice_items c.in_ok-prefix.prefix in
    let body = arc_value c.self.inside.body in
    let same : arc_value c.in_ok-body.body ≡ body = c.in_ok-body.ensures in
    subst (λ (b : Body). IsBody (with_prefix other b.suffixes) b.contents.items b.bytes b.oldest b.newest) (sym same) (record {
      chunk = IsChunk-begun prefix other body.suffixes body.contents.items body.bytes c.self.invariant.chunk;
      numbers = c.self.invariant.numbers;
    })

pub returns : goal.returns
returns c =
    let prefix = arc_slice_items c.self.inside.prefix in
    let other = arc_slice_items c.in_ok-prefix.prefix in
    let body = arc_value c.self.inside.body in
    let same : arc_value c.in_ok-body.body ≡ body = c.in_ok-body.ensures in
    let short : c.args.count ≤ length prefix = omega (arith, ap length c.as_slice-prefix.ensures.value) in
    let begun : other ≡ c.args.beginning.now ++ drop c.args.count prefix =
    c.in_ok-prefix.ensures ∙ ap (λ p. c.args.beginning.now ++ drop c.args.count p) c.as_slice-prefix.ensures.value in
    ap (λ (b : Body). pairs (with_prefix other b.suffixes) b.contents.items) same
    ∙ begun_view prefix other c.args.count c.args.beginning.now body.suffixes body.contents.items c.args.self.now c.self.view_is short begun
