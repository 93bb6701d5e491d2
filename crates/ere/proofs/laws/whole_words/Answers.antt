use Rattle.ere.proofs.EdgeLemmas.{whole_words}
use Rattle.ere.proofs.laws.whole_words.Goals as goal

pub returns : goal.returns
returns c = whole_words
