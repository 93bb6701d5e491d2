use Rattle.std.proofs.Common.{map, ap, ◌∙◌}
use Rattle.regex_hir.proofs.MeaningLemmas.{meaning-Concat}
use Rattle.ere.specs.Tree.{form, trees_of, cat}
use Rattle.ere.proofs.Forms.{form-Cat}
use Rattle.engine.proofs.NodeLemmas.{cat_stands}
use Rattle.engine.proofs.translate.line_pattern_for.Goals as goal

pub returns-in_ok-patterns-in-Cat : goal.returns-in_ok-patterns-in-Cat
returns-in_ok-patterns-in-Cat c = (
  cat (trees_of (map form c.after_empty.result.now)),
  rw (ap form c.in-Cat.is ∙ form-Cat c.in-Cat.members, ← c.as_slice.ensures.value) c.after_empty.ensures,
  rw (meaning-Concat c.in_ok-patterns-in-Cat.patterns) (cat_stands _ _ c.in_ok-patterns-in-Cat.ensures),
)
