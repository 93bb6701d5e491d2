use Rattle.std.proofs.Common.{ap, sym, ◌∙◌}
use Rattle.std.specs.FinMap.{entries}
use Rattle.std.proofs.lemmas.List.{take_all}
use Rattle.names.specs.Private.Entries.{joined}
use Rattle.names.proofs.NamedLemmas.{entries_joined}
use Rattle.names.proofs.MapLemmas.{entries_are}
use Rattle.names.proofs.names.Names.entries.Goals as goal

pub loop-chunk-preserved : goal.loop-chunk-preserved
loop-chunk-preserved c =
    entries_joined c.loop-chunk.found.items c.push_entries.new.found.items c.deref-chunk-items.result.now c.loop-chunk.chunk-index c.chunk-item.result
    c.loop-chunk-test.true c.chunk-item.is c.loop-chunk.invariant c.in_ok-push_entries.ensures

pub returns : goal.returns
returns c =
    c.loop-chunk.invariant
    ∙ (ap joined (take_all c.loop-chunk.chunk-index c.deref-chunk-items.result.now c.loop-chunk-test.false ∙ c.deref-chunk-items.ensures.value)
    ∙ (sym (entries_are (joined c.self.inside.chunks.items) c.self.invariant.rise) ∙ ap entries c.self.view_is))
