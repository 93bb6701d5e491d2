-- The state after two commands is that of the list of the two.
use Rattle.std.proofs.Common.{[], ◌∷◌, sym, ◌∙◌, ap, subst}
use Rattle.documents.specs.declared.command.Command.TheVariants.{Put}
use Rattle.documents.specs.State.{applied}
use Rattle.documents.proofs.StateLemmas.{state_of-push}
use Rattle.views.specs.Scan.{IsAnswerOf}
use Rattle.prepare.specs.Prepared.{pattern_of}
use Rattle.proved_tests.proofs.searches.search_two.Goals as goal

pub returns : goal.returns
returns c =
    let one = Put c.args.first.0 c.args.first.1 in
    let two = Put c.args.second.0 c.args.second.1 in
    let after_one = c.in_ok-apply.ensures.ok ∙ (ap (applied one) c.new-index.ensures ∙ sym (state_of-push [] one)) in
    let after_two = c.in_ok-apply-2.ensures.ok ∙ (ap (applied two) after_one ∙ sym (state_of-push (one ∷ []) two)) in (
      pattern_of c.in_ok-prepared.prepared,
      c.in_ok-prepared.ensures.pattern,
      subst (λ s. IsAnswerOf s (pattern_of c.in_ok-prepared.prepared) c.in_ok-find.field-0) after_two c.in_ok-find.ensures,
    )
