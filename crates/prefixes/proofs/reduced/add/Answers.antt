use Rattle.std.proofs.Common.{◌-◌, length, ap, sym, subst, ◌∙◌}
use Rattle.std.specs.Prelude.{slice_get}
use Rattle.prefixes.specs.Private.Apart.{Adds, bytes_of}
use Rattle.prefixes.specs.Under.{begins_with}
use Rattle.prefixes.proofs.ReducedLemmas.{added_after_last, added_to_none, bytes_of-push, covered_by_last}
use Rattle.prefixes.proofs.reduced.add.Goals as goal
use Rattle.prefixes.proofs.reduced.add.Goals.{in-Some+else-starts_with, in_default}

pub returns-then-starts_with : goal.returns-then-starts_with
returns-then-starts_with c =
    let text = c.args.text.now in
    covered_by_last c.args.kept.now.items c.in-Some.last.now text
    (c.in-Some.ensures.value ∙ ap (λ xs. slice_get xs (length xs - 1)) c.deref.ensures.value)
    (ap (λ t. begins_with t text) (sym c.as_slice.ensures.value) ∙ sym c.if-starts_with.ensures.value)

pub returns : goal.returns
returns c =
    let text = c.args.text.now in
    let items = c.args.kept.now.items in
    subst (Adds text (bytes_of items))
    (sym (bytes_of-push items c.push.new.self.items c.in_ok-from_slice.field-0 text c.in_ok-push.ensures.items c.in_ok-from_slice.ensures.items))
    (elim c.match-last.branch [
      | in-Some+else-starts_with w ↦
          added_after_last items w.in-Some.last.now text
          (w.in-Some.ensures.value ∙ ap (λ xs. slice_get xs (length xs - 1)) c.deref.ensures.value)
          (ap (λ t. begins_with t text) (sym w.as_slice.ensures.value) ∙ sym w.if-starts_with.ensures.value)
      | in_default w ↦
          added_to_none items text (w.in_default.ensures.value ∙ ap (λ xs. slice_get xs (length xs - 1)) c.deref.ensures.value)
    ])
