use Rattle.std.proofs.Common.{◌≡◌, ◌+◌, ◌++◌, ◌&&◌, false, length, sym, ap, ◌∙◌, subst}
use Rattle.std.specs.Prelude.{nat_lt}
use Rattle.std.specs.FinMap.{entries, from_entries, keys}
use Rattle.std.specs.List.{list_any}
use Rattle.std.proofs.lemmas.Result.{IfOk-weaker}
use Rattle.prefixes.specs.Under.{begins_with}
use Rattle.documents.specs.Documents.{renamed}
use Rattle.documents.specs.Text.{greatest_name}
use Rattle.documents.specs.State.{state, applied}
use Rattle.documents.specs.declared.command.Command.TheVariants.{CopyUnder}
use Rattle.names.specs.Contents.{copies}
use Rattle.versions.specs.Private.Version.{bodies_of, IsVersion}
use Rattle.versions.proofs.CopyLemmas.{copied, copy_under_done}
use Rattle.versions.proofs.draft.Draft.copy_under.Goals as goal
use Rattle.versions.proofs.draft.Draft.copy_under.Goals.{In_ok-names}

names_are : (c : In_ok-names) → c.in_ok-names.names ≡ from_entries (copies c.args.from.now c.args.to.now c.self.inside.names ++ entries c.self.inside.names)
names_are c =
    c.in_ok-names.ensures
    ∙ (ap (λ text. from_entries (copies text c.as_bytes-new.result.now c.self.inside.names ++ entries c.self.inside.names)) c.as_bytes-old.ensures.bytes
    ∙ ap (λ text. from_entries (copies c.args.from.now text c.self.inside.names ++ entries c.self.inside.names)) c.as_bytes-new.ensures.bytes)

short : (c : In_ok-names)
    → list_any (λ name. begins_with c.args.from.now name && nat_lt greatest_name (length (renamed c.args.from.now c.args.to.now name))) (keys c.self.inside.names) ≡ false
short c =
    sym
    (c.has_long_copy.ensures
    ∙ (ap (λ text. list_any (λ name. begins_with text name && nat_lt greatest_name (length (renamed text c.as_bytes-new.result.now name))) (keys c.self.inside.names)) c.as_bytes-old.ensures.bytes
    ∙ ap (λ text. list_any (λ name. begins_with c.args.from.now name && nat_lt greatest_name (length (renamed c.args.from.now text name))) (keys c.self.inside.names)) c.as_bytes-new.ensures.bytes))
    ∙ c.if-has_long_copy.false

pub next-requires : goal.next-requires
next-requires c =
    let s = (goal.at.next-requires c).In_ok-names in
    record {
      whole =
          subst (λ ns. IsVersion (c.self.inside.version + 1) c.self.inside.analysed ns c.self.inside.sets) (sym (names_are s))
          (copied c.self.inside.version c.self.inside.analysed c.self.inside.names c.self.inside.sets c.args.from.now c.args.to.now c.self.invariant.is
          c.as_bytes-new.ensures.name (short s));
    }

pub returns : goal.returns
returns c =
    IfOk-weaker c.next.result (λ next. next ≡ state (c.self.inside.version + 1) (bodies_of c.in_ok-names.names))
    (λ next. next ≡ applied (CopyUnder c.args.from.now c.args.to.now) c.args.self.now)
    (λ next is. copy_under_done c.self.inside.version c.self.inside.names c.in_ok-names.names c.args.from.now c.args.to.now c.args.self.now next
    c.self.view_is (names_are (goal.at.returns c).In_ok-names) is) c.next.ensures
