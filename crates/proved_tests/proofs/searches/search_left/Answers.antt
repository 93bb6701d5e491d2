-- The state after two commands is that of the list of the two.
use Rattle.std.proofs.Common.{[], ◌∷◌, sym, ◌∙◌, ap, subst}
use Rattle.documents.specs.declared.command.Command.TheVariants.{Put}
use Rattle.documents.specs.State.{applied, state_of}
use Rattle.documents.proofs.StateLemmas.{state_of-push}
use Rattle.views.specs.ShownOf.{IsShownOf}
use Rattle.prepare.specs.Prepared.{pattern_of, request_of}
use Rattle.proved_tests.proofs.searches.search_left.Goals as goal

pub returns-in-Ok : goal.returns-in-Ok
returns-in-Ok c =
    let own = c.in_ok-prepared.prepared in
    let one = Put c.args.first.0 c.args.first.1 in
    let two = Put c.args.second.0 c.args.second.1 in
    let after_one = c.in_ok-apply.ensures.ok ∙ (ap (applied one) c.new-index.ensures ∙ sym (state_of-push [] one)) in
    let after_two = c.in_ok-apply-2.ensures.ok ∙ (ap (applied two) after_one ∙ sym (state_of-push (one ∷ []) two)) in
    let are_shown = c.in-Ok.ensures.shown _ (request_of own) c.in_ok-taken.ensures in (
      pattern_of own,
      c.in_ok-prepared.ensures.pattern,
      subst (λ r. IsShownOf (state_of (one ∷ two ∷ [])) r c.in-Ok.shown) c.in_ok-prepared.ensures.request
          (subst (λ s. IsShownOf s (request_of own) c.in-Ok.shown) after_two are_shown),
    )
