use Rattle.std.proofs.Common.{◌≡◌, map, sym, ◌∙◌, ap, subst}
use Rattle.std.specs.Arc.{arc_value}
use Rattle.names.specs.declared.chunk.Body.{Body}
use Rattle.names.specs.Private.Entries.{LieWithin}
use Rattle.names.proofs.ChunkLemmas.{names_of}
use Rattle.names.proofs.NumberLemmas.{contents-pairs}
use Rattle.names.proofs.chunk.Chunk.range.Goals as goal

pub returns : goal.returns
returns c =
    let body = arc_value c.self.inside.body in
    let own : map (λ e. e.1) c.args.self.now ≡ body.contents.items =
    ap (map (λ e. e.1)) (sym c.self.view_is) ∙ contents-pairs (names_of c.self.inside) body.contents.items c.self.invariant.chunk.entries.same in
    subst (λ (b : Body). LieWithin b.oldest c.deref-2.result.now.newest (map (λ e. e.1) c.args.self.now)) (sym c.deref.ensures)
    (subst (λ (b : Body). LieWithin body.oldest b.newest (map (λ e. e.1) c.args.self.now)) (sym c.deref-2.ensures)
    (subst (LieWithin body.oldest body.newest) (sym own) c.self.invariant.numbers))
