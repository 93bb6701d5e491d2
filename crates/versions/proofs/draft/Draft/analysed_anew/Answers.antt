use Rattle.std.proofs.Common.{◌++◌, ◌-◌, ◌∙◌, ap, arith, refl, rules}
use Rattle.documents.specs.State.{state}
use Rattle.names.specs.Contents.{contents_of}
use Rattle.versions.specs.Private.Version.{bodies_of}
use Rattle.versions.proofs.SinceLemmas.{since_tell}
use Rattle.versions.proofs.VersionLemmas.{whole_made, settled_made, same_few}
use Rattle.versions.proofs.draft.Draft.analysed_anew.Goals as goal

pub fresh_sets-requires : goal.fresh_sets-requires
fresh_sets-requires g c = (
  search rules,
  (
    omega arith,
    since_tell c.self.inside.version c.self.inside.analysed c.self.inside.names c.self.inside.sets c.self.invariant.is c.self.inside.analysed c.deref.result.now
        (ap contents_of c.deref.ensures.value ∙ c.in_ok-contents.ensures),
  ),
)

pub settled-sets-requires : goal.settled-sets-requires
settled-sets-requires g c = record {
  differ =
      (whole_made c.self.inside.version c.self.inside.analysed (c.self.inside.version - c.self.inside.analysed) c.self.inside.names c.self.inside.names
      c.self.inside.sets c.in_ok-fresh.fresh c.in_ok-joined.field-0 c.deref.result.now c.self.invariant.is (ap contents_of c.deref.ensures.value ∙ c.in_ok-contents.ensures)
      (let most = c.self.invariant.is.order in omega (arith, most)) c.in_ok-fresh.ensures
      (c.in_ok-joined.ensures ∙ ap (λ x. x ++ c.in_ok-fresh.fresh) c.in_ok-share.ensures) refl).differ;
}

pub of-requires : goal.of-requires
of-requires g c = record {
  whole =
      settled_made c.self.inside.version c.self.inside.analysed (c.self.inside.version - c.self.inside.analysed) c.self.inside.names c.in_ok-share-2.field-0
      c.self.inside.sets c.in_ok-fresh.fresh c.in_ok-joined.field-0 c.settled-sets.result c.deref.result.now c.self.invariant.is
      (ap contents_of c.deref.ensures.value ∙ c.in_ok-contents.ensures)
      (let most = c.self.invariant.is.order in omega (arith, most)) c.in_ok-fresh.ensures
      (c.in_ok-joined.ensures ∙ ap (λ x. x ++ c.in_ok-fresh.fresh) c.in_ok-share.ensures) c.settled-sets.ensures c.in_ok-share-2.ensures;
  few = same_few c.self.inside.names c.in_ok-share-2.field-0 c.in_ok-share-2.ensures c.self.invariant.few;
}

pub returns : goal.returns
returns g c = c.of.ensures ∙ (ap (λ ns. state c.self.inside.version (bodies_of ns)) c.in_ok-share-2.ensures ∙ c.self.view_is)
