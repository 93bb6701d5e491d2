use Rattle.std.proofs.lemmas.List.{get_or-replicate}
use Rattle.matcher.proofs.words.every.Goals as goal

pub returns-clause-same : goal.returns-clause-same
returns-clause-same g c = λ i inside. get_or-replicate g.row.N i c.args.word 0 inside
