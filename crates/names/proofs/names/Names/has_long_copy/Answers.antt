use Rattle.std.proofs.Common.{ap, ◌∙◌}
use Rattle.std.specs.Prelude.{filter}
use Rattle.std.specs.Ordering.{nat_cmp}
use Rattle.std.specs.Cmp.Lexicographic.{slice_cmp}
use Rattle.std.specs.FinMap.{is_sorted}
use Rattle.names.specs.declared.edge.Edge.TheVariants.{Before}
use Rattle.names.specs.Private.Entries.{joined, lies_behind}
use Rattle.names.proofs.LongLemmas.{long_is}
use Rattle.names.proofs.names.Names.has_long_copy.Goals as goal

pub behind-requires : goal.behind-requires
behind-requires c = ap (λ cs. is_sorted (slice_cmp nat_cmp) (joined cs)) c.deref.ensures.value ∙ c.self.invariant.rise

pub returns : goal.returns
returns c =
    long_is c.args.most c.args.from.now c.args.to.now (joined c.self.inside.chunks.items) c.behind.result c.args.self.now c.has_long_copy.result c.self.invariant.rise
    c.self.view_is (c.behind.ensures ∙ ap (λ cs. filter (lies_behind Before c.args.from.now) (joined cs)) c.deref.ensures.value) c.has_long_copy.ensures
