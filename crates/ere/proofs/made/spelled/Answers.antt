use Rattle.std.proofs.Common.{ap, sym, ◌∙◌}
use Rattle.ere.specs.Tree.{cat, set}
use Rattle.ere.proofs.Forms.{form-Cat, form-Empty, form-Set}
use Rattle.ere.proofs.LiteralLemmas.{literal_more, literal_none, literal_one}
use Rattle.ere.proofs.made.spelled.Goals as goal

pub returns-in-empty-clause-tree : goal.returns-in-empty-clause-tree
returns-in-empty-clause-tree c = form-Empty ∙ sym (literal_none c.args.case c.args.text.now c.in-empty.len_below)

pub returns-in-len1-clause-tree : goal.returns-in-len1-clause-tree
returns-in-len1-clause-tree c =
    form-Set c.single_in.result ∙ ap set c.single_in.ensures
    ∙ sym (literal_one c.args.case c.args.text.now c.in-len1.len_at_least c.in-len1.len_below)

pub returns-in_ok-sets_of-in_default-clause-tree : goal.returns-in_ok-sets_of-in_default-clause-tree
returns-in_ok-sets_of-in_default-clause-tree c =
    form-Cat c.in_ok-sets_of-in_default.field-0 ∙ ap cat c.in_ok-sets_of-in_default.ensures.ok
    ∙ sym (literal_more c.args.case c.args.text.now c.in_default.len_at_least)
