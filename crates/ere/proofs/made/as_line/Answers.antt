use Rattle.ere.proofs.Forms.{form-Start, form-End}
use Rattle.ere.proofs.FrameLemmas.{proper_start, proper_end}
use Rattle.ere.proofs.made.as_line.Goals as goal

pub framed-requires-clause-first : goal.framed-requires-clause-first
framed-requires-clause-first c = proper_start

pub framed-requires-clause-last : goal.framed-requires-clause-last
framed-requires-clause-last c = proper_end

pub returns-clause-tree : goal.returns-clause-tree
returns-clause-tree c = rw (form-Start, form-End) at c.framed.ensures.tree

pub returns-clause-refused : goal.returns-clause-refused
returns-clause-refused c = rw (form-Start, form-End) at c.framed.ensures.refused
