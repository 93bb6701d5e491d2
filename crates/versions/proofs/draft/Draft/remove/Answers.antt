use Rattle.std.proofs.Common.{◌≡◌, ◌+◌, sym, ap, ◌∙◌, subst}
use Rattle.std.specs.FinMap.{remove}
use Rattle.std.proofs.lemmas.Result.{IfOk-weaker}
use Rattle.documents.specs.State.{state, applied}
use Rattle.documents.specs.declared.command.Command.TheVariants.{Remove}
use Rattle.versions.specs.Private.Version.{bodies_of, IsVersion}
use Rattle.versions.proofs.VersionLemmas.{removed, remove_done}
use Rattle.versions.proofs.draft.Draft.remove.Goals as goal
use Rattle.versions.proofs.draft.Draft.remove.Goals.{In_ok-names}

names_are : (c : In_ok-names) → c.in_ok-names.names ≡ remove c.self.inside.names c.args.name.now
names_are c = c.in_ok-names.ensures ∙ ap (λ k. remove c.self.inside.names k) c.as_bytes.ensures.bytes

pub next-requires : goal.next-requires
next-requires c = record {
  whole =
      subst (λ ns. IsVersion (c.self.inside.version + 1) c.self.inside.analysed ns c.self.inside.sets) (sym (names_are c))
      (removed c.self.inside.version c.self.inside.analysed c.self.inside.names c.self.inside.sets c.args.name.now c.self.invariant.is);
}

pub returns : goal.returns
returns c =
    IfOk-weaker c.next.result (λ next. next ≡ state (c.self.inside.version + 1) (bodies_of c.in_ok-names.names))
    (λ next. next ≡ applied (Remove c.args.name.now) c.args.self.now)
    (λ next is. remove_done c.self.inside.version c.self.inside.names c.in_ok-names.names c.args.name.now c.args.self.now next
    c.self.view_is (names_are (goal.at.returns c).In_ok-names) is) c.next.ensures
