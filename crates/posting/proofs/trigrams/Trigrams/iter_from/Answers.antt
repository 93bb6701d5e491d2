use Rattle.std.proofs.Common.{◌<◌}
use Rattle.std.specs.Prelude.{nat_le}
use Rattle.std.proofs.lemmas.List.Elements.{All-filter}
use Rattle.posting.proofs.trigrams.Trigrams.iter_from.Goals as goal

pub invariant_of-result : goal.invariant_of-result
invariant_of-result c =
    rw c.numbers_from.ensures.members
    (All-filter (λ n. nat_le c.args.number n) (λ n. n < 16777216) c.self.inside.numbers.members c.self.invariant)
