use Rattle.std.proofs.Common.{◌≡◌, List, ℕ, true, false, sym, ◌∙◌, ap, subst}
use Rattle.std.specs.Prelude.{IfSome, IfNone}
use Rattle.prefixes.specs.Under.{begins_with}
use Rattle.index.specs.Private.Numbered.{document_at}
use Rattle.index.specs.Private.Contents.{is_name_in}
use Rattle.index.specs.Private.Slots.{documents_in}
use Rattle.index.proofs.RemovedLemmas.{no_name_kept, no_name_kept_under, name_kept}
use Rattle.index.proofs.catalog.name_under.Goals as goal

pub returns-in-Some-clause-some : goal.returns-in-Some-clause-some
returns-in-Some-clause-some c =
    subst (λ s. IfSome c.first_name_under.result (λ name. (begins_with c.args.prefix.now name.now ≡ true)
    × (is_name_in s (document_at c.args.number (documents_in c.args.slots.now)) name.now ≡ true)))
    c.in-Some.ensures.value c.first_name_under.ensures.some

pub returns-in-Some-clause-none : goal.returns-in-Some-clause-none
returns-in-Some-clause-none c =
    subst (λ s. IfNone c.first_name_under.result ((name : List ℕ) → begins_with c.args.prefix.now name ≡ true
    → is_name_in s (document_at c.args.number (documents_in c.args.slots.now)) name ≡ false))
    c.in-Some.ensures.value c.first_name_under.ensures.none

pub returns-in_default-occupant_at-clause-none : goal.returns-in_default-occupant_at-clause-none
returns-in_default-occupant_at-clause-none c =
    no_name_kept c.args.groups.now (documents_in c.args.slots.now) c.args.number c.args.prefix.now (sym c.in_default.ensures.value)
    (sym c.in_default-occupant_at.ensures)

pub returns-then-not-starts_with-clause-none : goal.returns-then-not-starts_with-clause-none
returns-then-not-starts_with-clause-none c =
    let occupant = c.in-Some-occupant_at.occupant.now in
    let other : begins_with c.args.prefix.now occupant.name ≡ false =
    ap (λ text. begins_with text occupant.name) (sym c.as_bytes-2.ensures.bytes)
    ∙ (ap (begins_with c.as_bytes-2.result.now) (sym c.as_bytes.ensures.bytes) ∙ sym c.if-not-starts_with.ensures.value) in
    no_name_kept_under c.args.groups.now (documents_in c.args.slots.now) c.args.number c.args.prefix.now (sym c.in_default.ensures.value)
    (occupant.name, occupant.held) (sym c.in-Some-occupant_at.ensures) other

pub returns-clause-some : goal.returns-clause-some
returns-clause-some c =
    let occupant = c.in-Some-occupant_at.occupant.now in
    let begins : begins_with c.args.prefix.now occupant.name ≡ true =
    ap (λ text. begins_with text occupant.name) (sym c.as_bytes-2.ensures.bytes)
    ∙ (ap (begins_with c.as_bytes-2.result.now) (sym c.as_bytes.ensures.bytes) ∙ sym c.if-not-starts_with.ensures.value) in (
      begins,
      name_kept c.args.groups.now (documents_in c.args.slots.now) c.args.number c.args.prefix.now (sym c.in_default.ensures.value)
          (occupant.name, occupant.held) (sym c.in-Some-occupant_at.ensures),
    )
