use Rattle.std.proofs.Common.{map, sym, ap, ◌∙◌}
use Rattle.std.specs.Arc.{arc_value, arc_slice_items}
use Rattle.names.specs.declared.chunk.Body.{Body}
use Rattle.names.specs.Private.Entries.{Entry, with_prefix}
use Rattle.names.proofs.RunLemmas.{names-pairs}
use Rattle.names.proofs.chunk.Chunk.parts.Goals as goal

pub returns : goal.returns
returns c =
    let prefix = arc_slice_items c.self.inside.prefix in
    let body : Body = arc_value c.self.inside.body in
    ap (λ p. with_prefix p c.deref.result.now.suffixes) c.as_slice.ensures.value
    ∙ (ap (λ (b : Body). with_prefix prefix b.suffixes) c.deref.ensures
    ∙ (sym (names-pairs (with_prefix prefix body.suffixes) body.contents.items c.self.invariant.chunk.entries.same)
    ∙ ap (map (λ (e : Entry). e.0)) c.self.view_is))
