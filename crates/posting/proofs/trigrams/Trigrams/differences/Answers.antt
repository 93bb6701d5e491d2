use Rattle.std.proofs.Common.{◌<◌, not}
use Rattle.std.proofs.lemmas.List.Elements.{All-filter}
use Rattle.posting.specs.ListValue.{has}
use Rattle.posting.proofs.trigrams.Trigrams.differences.Goals as goal

pub invariant_of-result : goal.invariant_of-result
invariant_of-result c =
    rw c.in_ok-own.ensures.own
    (All-filter (λ n. not (has c.other.inside.numbers.members n)) (λ n. n < 16777216) c.self.inside.numbers.members c.self.invariant)

pub invariant_of-result-2 : goal.invariant_of-result-2
invariant_of-result-2 c =
    rw c.in_ok-own.ensures.others
    (All-filter (λ n. not (has c.self.inside.numbers.members n)) (λ n. n < 16777216) c.other.inside.numbers.members c.other.invariant)
