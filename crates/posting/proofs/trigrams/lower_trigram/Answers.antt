use Rattle.std.proofs.Common.{◌<◌}
use Rattle.posting.proofs.Moves.{lower_fits, left_fits, right_fits}
use Rattle.posting.proofs.trigrams.lower_trigram.Goals as goal

pub trigram_of_number-requires : goal.trigram_of_number-requires
trigram_of_number-requires c =
    lower_fits (λ n. n < 16777216) c.left.inside.numbers c.right.inside.numbers c.lower.new.left c.lower.new.right c.in-Some.next c.in-Some.ensures.some
    c.left.invariant c.right.invariant

pub invariant_of-left : goal.invariant_of-left
invariant_of-left c =
    left_fits (λ n. n < 16777216) c.left.inside.numbers c.right.inside.numbers c.lower.new.left c.lower.new.right c.lower.result c.lower.ensures.some
    c.lower.ensures.still c.left.invariant

pub invariant_of-right : goal.invariant_of-right
invariant_of-right c =
    right_fits (λ n. n < 16777216) c.left.inside.numbers c.right.inside.numbers c.lower.new.left c.lower.new.right c.lower.result c.lower.ensures.some
    c.lower.ensures.still c.right.invariant
