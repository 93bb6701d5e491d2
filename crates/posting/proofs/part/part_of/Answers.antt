use Rattle.std.proofs.Common.{arith}
use Rattle.posting.proofs.Tables.{below_count}
use Rattle.posting.proofs.part.part_of.Goals as goal

pub returns-clause-is_trigram : goal.returns-clause-is_trigram
returns-clause-is_trigram c = below_count c.args.trigram (omega (arith, c.number.ensures.value, c.number.ensures.bound))
