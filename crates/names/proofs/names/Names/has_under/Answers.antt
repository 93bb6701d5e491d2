use Rattle.std.proofs.Common.{map, ap, ◌∙◌}
use Rattle.std.specs.List.{list_any}
use Rattle.prefixes.specs.Under.{begins_with}
use Rattle.names.specs.Private.Entries.{joined}
use Rattle.names.proofs.MapLemmas.{under_is}
use Rattle.names.proofs.names.Names.has_under.Goals as goal

pub returns : goal.returns
returns c =
    under_is (joined c.self.inside.chunks.items) c.args.prefix.now c.args.self.now c.is_under.result c.self.invariant.rise c.self.view_is
    (c.is_under.ensures ∙ ap (λ cs. list_any (begins_with c.args.prefix.now) (map (λ e. e.0) (joined cs))) c.deref.ensures.value)
