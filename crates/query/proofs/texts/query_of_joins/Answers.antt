use Rattle.std.proofs.Common.{ap, ◌∙◌, arith}
use Rattle.std.proofs.lemmas.Bool.Decides.{nat_tests}
use Rattle.query.specs.Texts.{texts_of, joined_texts}
use Rattle.query.specs.Pairs.{texts_in}
use Rattle.query.proofs.TextLemmas.{plain_none_left, plain_none_right, plain_any, plain_pairs}
use Rattle.query.proofs.texts.query_of_joins.Goals as goal
use Rattle.query.proofs.texts.query_of_joins.Goals.{then-is_empty-via-then-is_empty, then-is_empty-via-else-is_empty+then-is_empty-2}

pub returns-then-is_empty : goal.returns-then-is_empty
returns-then-is_empty c =
    elim c.then-is_empty.branch [
      | then-is_empty-via-then-is_empty w ↦
          plain_none_left c.args.left.now (texts_of c.args.right.now) (grind (arith, nat_tests, c.is_empty.ensures, w.if-is_empty.true))
      | then-is_empty-via-else-is_empty+then-is_empty-2 w ↦
          plain_none_right (texts_of c.args.left.now) c.args.right.now
          (grind (arith, nat_tests, w.is_empty-else-is_empty.ensures, w.if-is_empty-2.true))
    ]

pub returns-then-has_short_join : goal.returns-then-has_short_join
returns-then-has_short_join c =
    plain_any (joined_texts (texts_of c.args.left.now) (texts_of c.args.right.now)) (c.has_short_join.ensures c.if-has_short_join.true)

pub returns : goal.returns
returns c =
    plain_pairs c.in_ok-new.field-0 (joined_texts (texts_of c.args.left.now) (texts_of c.args.right.now))
    (ap texts_in c.in_ok-new.ensures.ok ∙ c.in_ok-pairs.ensures)
