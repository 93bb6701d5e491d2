use Rattle.program.specs.Response.{not_written}
use Rattle.program.proofs.response.run_script.Goals as goal

pub returns-in-Ok-write_text-clause-run : goal.returns-in-Ok-write_text-clause-run
returns-in-Ok-write_text-clause-run g c = record {
  script = c.in-Ok.script.items;
  entries = c.in-Ok-run.transcript.entries.items;
  is_script = c.in-Ok.ensures.script;
  legal = rw (c.deref.ensures.value, c.lengths_of.ensures) at c.in-Ok-run.ensures.legal;
  written = c.in-Ok-write_text.ensures.ok;
  is_status = c.status-status.ensures;
}

pub returns-clause-failed : goal.returns-clause-failed
returns-clause-failed g c =
    not_written c.in-Ok.script.items c.in-Ok-run.transcript.entries.items c.in-Err-write_text.ensures.fault c.in-Ok.ensures.script
    (rw (c.deref.ensures.value, c.lengths_of.ensures) at c.in-Ok-run.ensures.legal) c.in-Err-write_text.ensures.err
