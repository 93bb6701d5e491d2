use Rattle.std.proofs.Common.{◌≡◌, ◌+◌, Some, None, refl, sym, ◌∙◌, ap, arith, length}
use Rattle.std.specs.FinMap.{remove}
use Rattle.std.specs.Ordering.{nat_cmp}
use Rattle.std.specs.Cmp.Lexicographic.{slice_cmp}
use Rattle.std.specs.BTreeMap.{get}
use Rattle.std.proofs.lemmas.Bool.{false≢true}
use Rattle.documents.specs.State.{state, applied}
use Rattle.index.specs.Private.Contents.{body_at, has_name, named}
use Rattle.index.specs.Private.Plain.{plain_documents, plain_state}
use Rattle.index.specs.Private.Slots.{documents_in}
use Rattle.index.specs.Private.Store.{stored}
use Rattle.std.specs.FinMap.{len}
use Rattle.std.proofs.lemmas.Map.Lookups.{exact_bytes}
use Rattle.documents.specs.declared.command.Command.TheVariants.{RemoveUnder}
use Rattle.documents.specs.Documents.{documents_after}
use Rattle.prefixes.specs.Under.{begins_with}
use Rattle.index.specs.Private.Numbered.{has_under}
use Rattle.index.proofs.BytesLemmas.{len-fewer}
use Rattle.index.proofs.NamedLemmas.{number-named, name_of_number, number_of_name}
use Rattle.index.proofs.IndexLemmas.{documents_of, IsIndex-unchanged, IsIndex-take, body-taken, size-taken, shorter}
use Rattle.index.proofs.RemovedLemmas.{none_under, still_without}
use Rattle.index.proofs.catalog.Catalog.take_one_under.Goals as goal

pub returns-in_default-clause-none : goal.returns-in_default-clause-none
returns-in_default-clause-none c = λ no. (
  refl,
  ap (λ s. has_under c.args.prefix.now s.documents) (sym c.self.view_is)
      ∙ none_under c.args.prefix.now (named c.self.inside.numbers (stored c.self.inside.store))
      (λ name begins. number-named c.self.inside.numbers (stored c.self.inside.store) name ∙ c.in_default.ensures.none name begins),
)

pub returns-in_default-name_under-clause-none : goal.returns-in_default-name_under-clause-none
returns-in_default-name_under-clause-none c =
    let number = c.in-Some.number in
    let first = c.in-Some.ensures.some in
    let has = name_of_number c.self.invariant first.0 number first.2 in
    absurd (false≢true (sym (c.in_default-name_under.ensures.none first.0 first.1)
    ∙ (ap (λ s. has_name c.self.inside.groups (documents_in s) number first.0) c.deref.ensures.value ∙ has)))

pub returns-in_default-remove_entry-clause-none : goal.returns-in_default-remove_entry-clause-none
returns-in_default-remove_entry-clause-none c =
    let number = c.in-Some.number in
    let name = c.in-Some-name_under.name.now in
    let has = sym (ap (λ s. has_name c.self.inside.groups (documents_in s) number name) c.deref.ensures.value) ∙ c.in-Some-name_under.ensures.some.1 in
    let both : None ≡ Some number = c.in_default-remove_entry.ensures.value ∙ number_of_name c.self.invariant name number has in
    cc

pub leave-requires-clause-store : goal.leave-requires-clause-store
leave-requires-clause-store c = (c.self.inside.version, c.self.invariant.kept)

pub leave-requires-clause-name : goal.leave-requires-clause-name
leave-requires-clause-name c =
    let name = c.in-Some-name_under.name.now in
    let own = c.in-Some-remove_entry.own in
    let same : name ≡ own = exact_bytes name own c.in-Some-remove_entry.ensures.same_key in
    name_of_number c.self.invariant own c.in-Some-remove_entry.old
    (ap (get (slice_cmp nat_cmp) c.self.inside.numbers) (sym same) ∙ sym c.in-Some-remove_entry.ensures.value)

pub leave-requires-clause-groups : goal.leave-requires-clause-groups
leave-requires-clause-groups c = c.self.invariant.groups_of

pub overflow_sub-self : goal.overflow_sub-self
overflow_sub-self c =
    let name = c.in-Some-name_under.name.now in
    let own = c.in-Some-remove_entry.own in
    let old = c.in-Some-remove_entry.old in
    size-taken c.self.invariant name own old c.length_at-length.result (exact_bytes name own c.in-Some-remove_entry.ensures.same_key)
    c.in-Some-remove_entry.ensures.value (c.length_at-length.ensures ∙ ap (λ s. length (body_at (documents_in s) old)) c.deref-2.ensures.value)

pub invariant_of-self : goal.invariant_of-self
invariant_of-self c = IsIndex-unchanged c.self.invariant c.remove_entry.new.self c.in_default-remove_entry.ensures.unchanged

pub invariant_of-self-2 : goal.invariant_of-self-2
invariant_of-self-2 c =
    let name = c.in-Some-name_under.name.now in
    let own = c.in-Some-remove_entry.own in
    let old = c.in-Some-remove_entry.old in
    (IsIndex-take c.self.invariant name own old c.length_at-length.result (exact_bytes name own c.in-Some-remove_entry.ensures.same_key)
    c.in-Some-remove_entry.ensures.value (c.length_at-length.ensures ∙ ap (λ s. length (body_at (documents_in s) old)) c.deref-2.ensures.value)
    c.remove_entry.new.self c.leave.new.groups c.leave.new.store c.remove_entry.ensures.updates.0 c.remove_entry.ensures.ordered
    (shorter c.remove_entry.result _ _ c.remove_entry.ensures.len) c.leave.ensures.left (c.leave.ensures.store c.self.inside.version c.self.invariant.kept)).0

pub returns-clause-taken : goal.returns-clause-taken
returns-clause-taken c = λ yes.
    let version = c.self.inside.version in
    let name = c.in-Some-name_under.name.now in
    let own = c.in-Some-remove_entry.own in
    let old = c.in-Some-remove_entry.old in
    let same : name ≡ own = exact_bytes name own c.in-Some-remove_entry.ensures.same_key in
    let sized = c.length_at-length.ensures ∙ ap (λ s. length (body_at (documents_in s) old)) c.deref-2.ensures.value in
    let found = c.in-Some-remove_entry.ensures.value in
    let left =
    (IsIndex-take c.self.invariant name own old c.length_at-length.result same found sized
    c.remove_entry.new.self c.leave.new.groups c.leave.new.store c.remove_entry.ensures.updates.0 c.remove_entry.ensures.ordered
    (shorter c.remove_entry.result _ _ c.remove_entry.ensures.len) c.leave.ensures.left (c.leave.ensures.store version c.self.invariant.kept)).1 in
    let ds = documents_of c.self.inside.numbers c.self.inside.store in
    record {
      name = own;
      begins = ap (begins_with c.args.prefix.now) (sym same) ∙ c.in-Some-name_under.ensures.some.0;
      left = ap (state version) left ∙ ap (λ s. state s.version (remove (plain_documents s.documents) own)) c.self.view_is;
      fewer =
          omega (
            arith,
            len-fewer ds own (body_at (stored c.self.inside.store) old)
                (body-taken c.self.invariant name own old c.length_at-length.result same found sized),
            ap len left,
            ap (λ s. len (plain_documents s.documents)) c.self.view_is,
          );
    }

pub returns-clause-same : goal.returns-clause-same
returns-clause-same c =
    let version = c.self.inside.version in
    let name = c.in-Some-name_under.name.now in
    let own = c.in-Some-remove_entry.own in
    let old = c.in-Some-remove_entry.old in
    let same : name ≡ own = exact_bytes name own c.in-Some-remove_entry.ensures.same_key in
    let left =
    (IsIndex-take c.self.invariant name own old c.length_at-length.result same c.in-Some-remove_entry.ensures.value
    (c.length_at-length.ensures ∙ ap (λ s. length (body_at (documents_in s) old)) c.deref-2.ensures.value)
    c.remove_entry.new.self c.leave.new.groups c.leave.new.store c.remove_entry.ensures.updates.0 c.remove_entry.ensures.ordered
    (shorter c.remove_entry.result _ _ c.remove_entry.ensures.len) c.leave.ensures.left (c.leave.ensures.store version c.self.invariant.kept)).1 in
    ap (state (version + 1))
    (ap (documents_after (RemoveUnder c.args.prefix.now)) left
    ∙ still_without c.args.prefix.now own (documents_of c.self.inside.numbers c.self.inside.store)
    (ap (begins_with c.args.prefix.now) (sym same) ∙ c.in-Some-name_under.ensures.some.0))
    ∙ ap (λ s. applied (RemoveUnder c.args.prefix.now) (plain_state s)) c.self.view_is
