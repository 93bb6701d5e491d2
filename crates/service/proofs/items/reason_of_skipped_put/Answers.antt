use Rattle.std.proofs.Common.{ap, subst, sym, ◌∙◌}
use Rattle.transcript.specs.declared.entry.Entry.TheVariants.{Refused}
use Rattle.steps.specs.LegalRows.{IsPut}
use Rattle.service.proofs.ItemLemmas.{named_fault, skipped_put}
use Rattle.service.proofs.items.reason_of_skipped_put.Goals as goal
use Rattle.service.proofs.items.reason_of_skipped_put.Goals.{in-Ok, in-Err}

pub returns : goal.returns
returns c = λ most state body line same. elim c.match-within.branch [
  | in-Ok w ↦
      subst (λ why. IsPut c.args.lengths most state c.args.name.now body line (Refused line why)) (sym w.result-is)
      (skipped_put c.args.lengths most state c.args.name.now body c.args.size line w.reason_of_skipped_body.result w.in-Ok.ensures.name.1 same
      w.reason_of_skipped_body.ensures.long w.reason_of_skipped_body.ensures.lost)
  | in-Err w ↦
      named_fault c.args.lengths.name w.in-Err.error c.args.name.now line _ _ w.in-Err.ensures.fault
      (ap (Refused line) (w.result-is ∙ w.reason_of_name.ensures))
]
