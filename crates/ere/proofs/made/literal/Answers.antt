use Rattle.std.proofs.Common.{ℕ, List, ◌↔◌}
use Rattle.ere.specs.Language.{InLanguage}
use Rattle.ere.specs.Limits.{IsWithinLimits}
use Rattle.ere.specs.Literal.{IsSameText}
use Rattle.ere.proofs.LiteralLemmas.{if_literal, literal_within, literal_words}
use Rattle.ere.proofs.made.literal.Goals as goal

pub returns-clause-language : goal.returns-clause-language
returns-clause-language c =
    if_literal c.args.case c.args.text.now c.spelled.result
    (λ tree. (before word after : List ℕ) → InLanguage tree before word after ↔ IsSameText c.args.case c.args.text.now word)
    (λ before word after. literal_words c.args.case c.args.text.now before word after c.in_ok-check_bytes.ensures.text) c.spelled.ensures.tree

pub returns-clause-limits : goal.returns-clause-limits
returns-clause-limits c =
    if_literal c.args.case c.args.text.now c.spelled.result IsWithinLimits
    (literal_within c.args.case c.args.text.now c.in_ok-check_bytes.ensures.text) c.spelled.ensures.tree
