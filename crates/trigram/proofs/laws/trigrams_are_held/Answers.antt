use Rattle.trigram.proofs.LawLemmas.{trigrams_held}
use Rattle.trigram.proofs.laws.trigrams_are_held.Goals as goal

pub returns : goal.returns
returns c = trigrams_held
