use Rattle.std.proofs.Common.{map, ap, sym, ◌∙◌}
use Rattle.std.specs.Prelude.{filter}
use Rattle.std.specs.FinMap.{entries}
use Rattle.std.proofs.lemmas.List.{take_all}
use Rattle.names.specs.Contents.{contents_of, is_since}
use Rattle.names.specs.Private.Entries.{joined}
use Rattle.names.proofs.MapLemmas.{entries_are}
use Rattle.names.proofs.NumberLemmas.{walked_on, since-append}
use Rattle.names.proofs.names.Names.since.Goals as goal

pub loop-chunk-preserved : goal.loop-chunk-preserved
loop-chunk-preserved c =
    walked_on (λ es. filter (is_since c.args.number) (map (λ e. e.1) es)) (since-append c.args.number) (contents_of c.loop-chunk.found.items)
    (contents_of c.push_since.new.found.items) c.deref-chunk-items.result.now c.loop-chunk.chunk-index c.chunk-item.result c.loop-chunk-test.true c.chunk-item.is
    c.loop-chunk.invariant c.in_ok-push_since.ensures

pub returns : goal.returns
returns c =
    c.loop-chunk.invariant
    ∙ ap (λ es. filter (is_since c.args.number) (map (λ e. e.1) es))
    (ap joined (take_all c.loop-chunk.chunk-index c.deref-chunk-items.result.now c.loop-chunk-test.false ∙ c.deref-chunk-items.ensures.value)
    ∙ (sym (entries_are (joined c.self.inside.chunks.items) c.self.invariant.rise) ∙ ap entries c.self.view_is))
