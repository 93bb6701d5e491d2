use Rattle.std.proofs.Common.{◌≡◌, ℕ, false, not, map, ap, refl, ◌∙◌}
use Rattle.query.proofs.Forms.{formula_of-Any, formula_of-None, formula_of-Has, formula_of-Pairs, formula_of-And, formula_of-Or}
use Rattle.query.specs.declared.query.Connective.{Connective}
use Rattle.query.specs.declared.query.Connective.TheVariants.{And, Or}
use Rattle.query.specs.Texts.{Texts}
use Rattle.query.specs.Pairs.{texts_in}
use Rattle.query.specs.Query.{Formulas, always, never, has, texts, all_of, one_of, formula_of, formulas_of}
use Rattle.query.specs.Private.Joining.{is_of, idle}
use Rattle.query.proofs.query.is_of.Goals as goal

not_always : (k : Connective) → false ≡ is_of k always
not_always And = refl
not_always Or = refl

not_never : (k : Connective) → false ≡ is_of k never
not_never And = refl
not_never Or = refl

not_has : (k : Connective) (g : ℕ) → false ≡ is_of k (has g)
not_has And g = refl
not_has Or g = refl

not_texts : (k : Connective) (ts : Texts) → false ≡ is_of k (texts ts)
not_texts And ts = refl
not_texts Or ts = refl

of_all : (k : Connective) (ms : Formulas) → idle k ≡ is_of k (all_of ms)
of_all And ms = refl
of_all Or ms = refl

of_one : (k : Connective) (ms : Formulas) → not (idle k) ≡ is_of k (one_of ms)
of_one And ms = refl
of_one Or ms = refl

pub returns-in-Any : goal.returns-in-Any
returns-in-Any c = rw (c.in-Any.is, formula_of-Any) (not_always c.args.connective)

pub returns-in-None : goal.returns-in-None
returns-in-None c = rw (c.in-None.is, formula_of-None) (not_never c.args.connective)

pub returns-in-Has : goal.returns-in-Has
returns-in-Has c = rw (c.in-Has.is, formula_of-Has c.in-Has.field-0) (not_has c.args.connective c.in-Has.field-0)

pub returns-in-Pairs : goal.returns-in-Pairs
returns-in-Pairs c = rw (c.in-Pairs.is, formula_of-Pairs c.in-Pairs.field-0) (not_texts c.args.connective (texts_in c.in-Pairs.field-0.value))

pub returns-in-And : goal.returns-in-And
returns-in-And c =
    rw (c.in-And.is, formula_of-And c.in-And.field-0)
    (c.idle.ensures ∙ of_all c.args.connective (formulas_of (map formula_of c.in-And.field-0.items)))

pub returns-in-Or : goal.returns-in-Or
returns-in-Or c =
    rw (c.in-Or.is, formula_of-Or c.in-Or.field-0)
    (ap not c.idle-in-Or.ensures ∙ of_one c.args.connective (formulas_of (map formula_of c.in-Or.field-0.items)))
