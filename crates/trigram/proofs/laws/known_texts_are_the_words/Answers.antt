use Rattle.trigram.proofs.LawLemmas.{known_texts}
use Rattle.trigram.proofs.laws.known_texts_are_the_words.Goals as goal

pub returns : goal.returns
returns c = known_texts
