use Rattle.trigram.proofs.LawLemmas.{sets_once}
use Rattle.trigram.proofs.laws.sets_have_each_text_once.Goals as goal

pub returns : goal.returns
returns c = sets_once
