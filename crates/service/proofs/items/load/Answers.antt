use Rattle.std.proofs.Common.{None, Some, refl, ap, ◌∙◌}
use Rattle.documents.specs.State.{state_of}
use Rattle.transcript.specs.declared.entry.Entry.TheVariants.{Refused}
use Rattle.steps.specs.Rows.{failures_in}
use Rattle.service.proofs.ItemLemmas.{named_fault, named_loaded, no_failure_in_name, no_failure_in_body, counted_none, counted_same}
use Rattle.service.proofs.items.load.Goals as goal

pub returns-in-Err-clause-entry : goal.returns-in-Err-clause-entry
returns-in-Err-clause-entry g c = record {
  loaded = None;
  legal = λ line. named_fault c.args.lengths.name c.in-Err.error c.args.name.now line _ _ c.in-Err.ensures.fault (ap (Refused line) c.reason_of_name.ensures);
  left = refl;
  counted =
      λ line.
      counted_same (Refused line c.reason_of_name.result) _
      (ap (λ e. failures_in (Some (Refused 0 e))) c.reason_of_name.ensures ∙ no_failure_in_name c.in-Err.error);
}

pub returns-in-Ok-read-clause-entry : goal.returns-in-Ok-read-clause-entry
returns-in-Ok-read-clause-entry g c = record {
  loaded = Some c.in-Ok-read.bytes.items;
  legal =
      λ line.
      named_loaded (g.S.Source.holds c.args.source.now) c.args.lengths c.args.desk.now.limit (state_of c.args.desk.now.accepted) c.args.name.now
      c.args.path.now c.in-Ok-read.bytes.items line _ c.in-Ok.ensures.name.1 c.in-Ok-read.ensures.read
      (c.put_body.ensures.entry line);
  left = rw c.in-Ok.ensures.name.0 at c.put_body.ensures.desk;
  counted = λ line. counted_none _ _ _ (no_failure_in_body _ _ _ _ _ _ (c.put_body.ensures.entry line)) (c.in-Ok-read.ensures.no_failure (λ e. cc));
}
