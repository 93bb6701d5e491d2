use Rattle.std.proofs.Common.{◌∙◌, [], ◌∷◌, refl, subst, sym}
use Rattle.std.specs.Prelude.{is_some, true}
use Rattle.script.specs.Items.{numbered, cancel}
use Rattle.service.specs.Service.{Takes, written_by}
use Rattle.service.specs.Private.Closing.{service_of}
use Rattle.steps.proofs.EntryLemmas.{sync_is_no_search}
use Rattle.service.specs.Service.{IsKind}
use Rattle.service.proofs.ServiceLemmas.{entered_takes, asked_takes, asked_number, no_number, sync_takes, cancel_takes, status_takes, left_same, asked_kind}
use Rattle.service.proofs.ServiceLemmas.{entered_is_service, entered_opening, shown_some, asked_unfailed, counted_zero}
use Rattle.service.proofs.service.Service.take.Goals as goal

pub returns-in-Entry-clause-takes : goal.returns-in-Entry-clause-takes
returns-in-Entry-clause-takes g c = λ shown shows.
    let item = numbered c.args.read.line shown in
    subst (λ o. Takes (g.S.Source.holds c.args.source.now) o item (c.in-Entry.entry ∷ []) c.note.new.self) c.self.view_is
    (subst
    (λ s.
    Takes (g.S.Source.holds c.args.source.now)
    (service_of c.self.inside.desk c.self.inside.lengths (is_some c.self.inside.search_ms) c.self.inside.told c.self.inside.kept.items c.self.inside.searches c.self.inside.awaited.items c.self.inside.turns)
    item (c.in-Entry.entry ∷ []) s) (sym c.note.ensures.rest)
    (entered_takes (g.S.Source.holds c.args.source.now) c.self.inside.lengths c.self.inside.desk c.self.inside.told _ item c.in-Entry.entry c.carry_out.new.desk
    c.carry_out.new.told _ (c.in-Entry.ensures.done shown shows) _ _ _ _ _ c.note.new.self.kept c.note.ensures.kept))

pub returns-in-Search-clause-takes : goal.returns-in-Search-clause-takes
returns-in-Search-clause-takes g c = λ shown shows.
    let item = numbered c.args.read.line shown in
    subst (λ o. Takes (g.S.Source.holds c.args.source.now) o item (written_by c.ask.result) c.ask.new.self)
    (left_same c.self.inside.desk c.self.inside.told _ c.carry_out.new.desk c.carry_out.new.told _ _ _ _ _ _ _ (c.in-Search.ensures.done shown shows).2 ∙ c.self.view_is)
    (asked_takes (g.S.Source.holds c.args.source.now) _ item c.ask.result c.ask.new.self (rw (c.in-Search.ensures.done shown shows).0 at c.ask.ensures))

pub returns-in-Search-clause-number : goal.returns-in-Search-clause-number
returns-in-Search-clause-number g c = asked_number _ _ c.ask.result c.ask.new.self c.ask.ensures

pub returns-in-Cancel-clause-number : goal.returns-in-Cancel-clause-number
returns-in-Cancel-clause-number g c = no_number c.cancel.new.self.searches (cancel c.in-Cancel.number) c.cancel.result refl c.cancel.ensures.kind

pub returns-in-Sync-clause-takes : goal.returns-in-Sync-clause-takes
returns-in-Sync-clause-takes g c = λ shown shows.
    let item = numbered c.args.read.line shown in
    subst (λ s. Takes (g.S.Source.holds c.args.source.now) c.args.self.now item [] s)
    (sym (left_same c.self.inside.desk c.self.inside.told _ c.carry_out.new.desk c.carry_out.new.told _ _ _ _ _ _ _ (c.in-Sync.ensures.done shown shows).1 ∙ c.self.view_is))
    (sync_takes (g.S.Source.holds c.args.source.now) c.args.self.now item (c.in-Sync.ensures.done shown shows).0)

pub returns-in-Cancel-clause-takes : goal.returns-in-Cancel-clause-takes
returns-in-Cancel-clause-takes g c = λ shown shows.
    let item = numbered c.args.read.line shown in
    subst (λ o. Takes (g.S.Source.holds c.args.source.now) o item (written_by c.cancel.result) c.cancel.new.self)
    (left_same c.self.inside.desk c.self.inside.told _ c.carry_out.new.desk c.carry_out.new.told _ _ _ _ _ _ _ (c.in-Cancel.ensures.done shown shows).1 ∙ c.self.view_is)
    (cancel_takes (g.S.Source.holds c.args.source.now) _ item _ c.cancel.result c.cancel.new.self (c.in-Cancel.ensures.done shown shows).0 c.cancel.ensures.cancelled)

pub returns-in-Status-clause-takes : goal.returns-in-Status-clause-takes
returns-in-Status-clause-takes g c = λ shown shows.
    let item = numbered c.args.read.line shown in
    let old =
    service_of c.carry_out.new.desk c.self.inside.lengths (is_some c.self.inside.search_ms) c.carry_out.new.told c.self.inside.kept.items c.self.inside.searches
    c.self.inside.awaited.items c.self.inside.turns in
    subst (λ o. Takes (g.S.Source.holds c.args.source.now) o item (c.status.result ∷ []) c.status.new.self)
    (left_same c.self.inside.desk c.self.inside.told _ c.carry_out.new.desk c.carry_out.new.told _ _ _ _ _ _ _ (c.in-Status.ensures.done shown shows).1 ∙ c.self.view_is)
    (subst (λ s. Takes (g.S.Source.holds c.args.source.now) old item (c.status.result ∷ []) s) (sym c.status.ensures.same)
    (status_takes (g.S.Source.holds c.args.source.now) old item c.status.result (c.in-Status.ensures.done shown shows).0 c.status.ensures.entry))

pub returns-in-Entry-clause-kind : goal.returns-in-Entry-clause-kind
returns-in-Entry-clause-kind g c = λ shown shows.
    let done = c.in-Entry.ensures.done shown shows in done.no_search_entry ∙ sym done.no_search

pub returns-in-Search-clause-kind : goal.returns-in-Search-clause-kind
returns-in-Search-clause-kind g c = λ shown shows.
    let done = c.in-Search.ensures.done shown shows in
    asked_kind shown _ c.ask.result c.ask.new.self (rw done.0 at c.ask.ensures) done.1

pub returns-in-Sync-clause-kind : goal.returns-in-Sync-clause-kind
returns-in-Sync-clause-kind g c = λ shown shows. sync_is_no_search shown (c.in-Sync.ensures.done shown shows).0

pub returns-in-Cancel-clause-kind : goal.returns-in-Cancel-clause-kind
returns-in-Cancel-clause-kind g c = λ shown shows.
    subst (λ i. IsKind i c.cancel.result) (sym (c.in-Cancel.ensures.done shown shows).0) c.cancel.ensures.kind

pub returns-in-Status-clause-kind : goal.returns-in-Status-clause-kind
returns-in-Status-clause-kind g c = λ shown shows. rw ((c.in-Status.ensures.done shown shows).0, c.status.ensures.entry) refl

pub invariant_of-self : goal.invariant_of-self
invariant_of-self g c =
    let some = shown_some c.args.read.item in
    let done = c.in-Entry.ensures.done some.0 some.1 in
    let item = numbered c.args.read.line some.0 in (
      done.opening ∙ c.self.invariant.0,
      entered_opening (g.S.Source.holds c.args.source.now) _ _ _ _ item c.in-Entry.entry _ _ _ done true [] 0 [] c.self.inside.turns _ c.self.invariant.0 c.self.invariant.1,
      c.self.invariant.2,
      entered_is_service (g.S.Source.holds c.args.source.now) _ _ _ _ item c.in-Entry.entry _ _ _ done _ _ _ _ _ c.self.invariant.3,
      done.published c.self.invariant.4,
    )

pub invariant_of-self-in-Search : goal.invariant_of-self-in-Search
invariant_of-self-in-Search g c =
    let some = shown_some c.args.read.item in
    let left = (c.in-Search.ensures.done some.0 some.1).2 in rw (left.0, left.1) c.self.invariant

pub invariant_of-self-in-Sync : goal.invariant_of-self-in-Sync
invariant_of-self-in-Sync g c =
    let some = shown_some c.args.read.item in
    let left = (c.in-Sync.ensures.done some.0 some.1).1 in rw (left.0, left.1) c.self.invariant

pub invariant_of-self-in-Cancel : goal.invariant_of-self-in-Cancel
invariant_of-self-in-Cancel g c =
    let some = shown_some c.args.read.item in
    let left = (c.in-Cancel.ensures.done some.0 some.1).1 in rw (left.0, left.1) c.self.invariant

pub invariant_of-self-in-Status : goal.invariant_of-self-in-Status
invariant_of-self-in-Status g c =
    let some = shown_some c.args.read.item in
    let left = (c.in-Status.ensures.done some.0 some.1).1 in rw (left.0, left.1) c.self.invariant

pub returns-in-Entry-clause-counted : goal.returns-in-Entry-clause-counted
returns-in-Entry-clause-counted g c = let some = shown_some c.args.read.item in (c.in-Entry.ensures.done some.0 some.1).counted

pub returns-in-Search-clause-counted : goal.returns-in-Search-clause-counted
returns-in-Search-clause-counted g c =
    let some = shown_some c.args.read.item in
    counted_zero _ _ _ (asked_unfailed _ _ c.ask.result _ c.ask.ensures) (c.in-Search.ensures.done some.0 some.1).2.2

pub returns-in-Sync-clause-counted : goal.returns-in-Sync-clause-counted
returns-in-Sync-clause-counted g c =
    let some = shown_some c.args.read.item in counted_zero _ _ _ refl (c.in-Sync.ensures.done some.0 some.1).1.2

pub returns-in-Cancel-clause-counted : goal.returns-in-Cancel-clause-counted
returns-in-Cancel-clause-counted g c =
    let some = shown_some c.args.read.item in counted_zero _ _ _ c.cancel.ensures.no_failure (c.in-Cancel.ensures.done some.0 some.1).1.2

pub returns-in-Status-clause-counted : goal.returns-in-Status-clause-counted
returns-in-Status-clause-counted g c =
    let some = shown_some c.args.read.item in
    counted_zero _ _ _ (rw c.status.ensures.entry refl) (c.in-Status.ensures.done some.0 some.1).1.2
