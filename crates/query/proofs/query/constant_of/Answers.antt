use Rattle.std.proofs.Common.{refl}
use Rattle.query.proofs.Forms.{formula_of-Any, formula_of-None, formula_of-Has, formula_of-Pairs, formula_of-And, formula_of-Or}
use Rattle.query.proofs.query.constant_of.Goals as goal

pub returns-in-Any : goal.returns-in-Any
returns-in-Any c = rw (c.in-Any.is, formula_of-Any) refl

pub returns-in-None : goal.returns-in-None
returns-in-None c = rw (c.in-None.is, formula_of-None) refl

pub returns-in-Has : goal.returns-in-Has
returns-in-Has c = rw (c.in-Has.is, formula_of-Has c.in-Has.field-0) refl

pub returns-in-Pairs : goal.returns-in-Pairs
returns-in-Pairs c = rw (c.in-Pairs.is, formula_of-Pairs c.in-Pairs.field-0) refl

pub returns-in-And : goal.returns-in-And
returns-in-And c = rw (c.in-And.is, formula_of-And c.in-And.field-0) refl

pub returns-in-Or : goal.returns-in-Or
returns-in-Or c = rw (c.in-Or.is, formula_of-Or c.in-Or.field-0) refl
