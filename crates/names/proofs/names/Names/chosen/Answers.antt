use Rattle.std.proofs.Common.{List, ℕ, length, sym, ◌∙◌, ap, subst}
use Rattle.std.specs.Prelude.{filter}
use Rattle.std.specs.FinMap.{entries}
use Rattle.std.proofs.lemmas.List.{take_all}
use Rattle.names.specs.Contents.{has_one_of, first_under}
use Rattle.names.specs.Private.Entries.{joined}
use Rattle.names.specs.Private.Counted.{Counts}
use Rattle.names.proofs.MapLemmas.{entries_are}
use Rattle.names.proofs.ChosenLemmas.{counted_chunk}
use Rattle.names.proofs.names.Names.chosen.Goals as goal

pub loop-chunk-init : goal.loop-chunk-init
loop-chunk-init g c = record {
  same = c.new-under.ensures;
  counted = c.none-found.ensures c.args.prefixes.now c.args.most;
}

pub loop-chunk-preserved : goal.loop-chunk-preserved
loop-chunk-preserved g c = record {
  same = c.in_ok-choose.ensures.same ∙ c.loop-chunk.invariant.same;
  counted =
      counted_chunk c.args.prefixes.now c.args.most c.args.numbers.now c.near-near.result.now c.deref-chunk-items.result.now c.loop-chunk.chunk-index c.chunk-item.result
      c.loop-chunk.found c.choose.new.chosen c.loop-chunk-test.true c.chunk-item.is c.near-near.ensures.same c.loop-chunk.invariant.counted
      (subst (λ (texts : List (List ℕ)). Counts texts c.args.most (filter (has_one_of c.near-near.result.now) c.chunk-item.result) c.loop-chunk.found c.choose.new.chosen)
      c.loop-chunk.invariant.same c.in_ok-choose.ensures.counts);
}

pub returns-clause-count : goal.returns-clause-count
returns-clause-count g c =
    c.loop-chunk.invariant.counted.count_is
    ∙ ap (λ es. length (filter (has_one_of c.args.numbers.now) es))
    (ap joined (take_all c.loop-chunk.chunk-index c.deref-chunk-items.result.now c.loop-chunk-test.false ∙ c.deref-chunk-items.ensures.value)
    ∙ (sym (entries_are (joined c.self.inside.chunks.items) c.self.invariant.rise) ∙ ap entries c.self.view_is))

pub returns-clause-named : goal.returns-clause-named
returns-clause-named g c =
    c.loop-chunk.invariant.counted.named_are
    ∙ ap (λ es. first_under c.args.most c.args.prefixes.now (filter (has_one_of c.args.numbers.now) es))
    (ap joined (take_all c.loop-chunk.chunk-index c.deref-chunk-items.result.now c.loop-chunk-test.false ∙ c.deref-chunk-items.ensures.value)
    ∙ (sym (entries_are (joined c.self.inside.chunks.items) c.self.invariant.rise) ∙ ap entries c.self.view_is))
