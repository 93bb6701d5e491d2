use Rattle.ere.proofs.Forms.{form-Start, form-End}
use Rattle.ere.proofs.FrameLemmas.{proper-edge, proper_start, proper_end}
use Rattle.ere.proofs.made.as_word.Goals as goal

pub framed-requires-clause-first : goal.framed-requires-clause-first
framed-requires-clause-first c = rw c.in_ok-first.ensures.ok (proper-edge _ proper_start)

pub framed-requires-clause-last : goal.framed-requires-clause-last
framed-requires-clause-last c = rw c.in_ok-last.ensures.ok (proper-edge _ proper_end)

pub returns-clause-tree : goal.returns-clause-tree
returns-clause-tree c = rw (c.in_ok-first.ensures.ok, c.in_ok-last.ensures.ok, form-Start, form-End) at c.framed.ensures.tree

pub returns-clause-refused : goal.returns-clause-refused
returns-clause-refused c = rw (c.in_ok-first.ensures.ok, c.in_ok-last.ensures.ok, form-Start, form-End) at c.framed.ensures.refused
