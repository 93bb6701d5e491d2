use Rattle.std.proofs.Common.{◌∷◌, ◌++◌, [], refl, sym, ◌∙◌, ap, subst}
use Rattle.names.specs.declared.edge.Edge.TheVariants.{Before}
use Rattle.names.specs.Contents.{entry_put}
use Rattle.names.specs.Private.Entries.{passes, NonePass}
use Rattle.names.proofs.OverLemmas.{none_filter}
use Rattle.names.proofs.PutLemmas.{put_step}
use Rattle.names.proofs.builder.Builder.add_put.Goals as goal

pub without-rest-requires : goal.without-rest-requires
without-rest-requires c =
    let p = passes Before c.args.put.now.name.now in
    subst (NonePass p) (sym c.in_ok-rest.ensures.left) (none_filter p c.args.rest)

pub returns : goal.returns
returns c = λ later.
    put_step c.args.put.now.name.now (entry_put c.args.put.now) c.args.rest c.in_ok-rest.rest c.without-rest.result c.args.self.now c.add_until.new.self
    c.add_entry.new.self later refl c.in_ok-rest.ensures.added c.in_ok-rest.ensures.left c.without-rest.ensures
    (c.in_ok-add_entry.ensures ∙ ap (λ x. c.add_until.new.self ++ (c.args.put.now.name.now, x) ∷ []) c.in_ok-content.ensures)
