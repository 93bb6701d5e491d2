use Rattle.std.proofs.Common.{ap, ◌∙◌}
use Rattle.std.specs.Prelude.{option_map}
use Rattle.std.specs.Ordering.{nat_cmp}
use Rattle.std.specs.Cmp.Lexicographic.{slice_cmp}
use Rattle.std.specs.FinMap.{find}
use Rattle.names.specs.Private.Entries.{joined}
use Rattle.names.proofs.MapLemmas.{get_is}
use Rattle.names.proofs.names.Names.get.Goals as goal

pub returns : goal.returns
returns c =
    get_is (joined c.self.inside.chunks.items) c.args.name.now c.args.self.now (option_map (λ content. content.now) c.found.result) c.self.invariant.rise c.self.view_is
    (c.found.ensures ∙ ap (λ cs. find (slice_cmp nat_cmp) c.args.name.now (joined cs)) c.deref.ensures.value)
