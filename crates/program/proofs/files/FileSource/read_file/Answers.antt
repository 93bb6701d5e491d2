use Rattle.program.proofs.files.FileSource.read_file.Goals as goal

pub returns-in-Ok-read_regular-clause-bytes : goal.returns-in-Ok-read_regular-clause-bytes
returns-in-Ok-read_regular-clause-bytes g c = record {
  text = c.in-Ok.ensures.cases.1;
  regular = rw c.in-Ok.ensures.cases.0 at c.in-Ok-read_regular.ensures.0;
  read = rw c.in-Ok.ensures.cases.0 at c.in-Ok-read_regular.ensures.1;
}
