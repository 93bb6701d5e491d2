use Rattle.request.proofs.NameLemmas.{named_back}
use Rattle.request.proofs.laws.every_option_is_named.Goals as goal

pub returns : goal.returns
returns c = named_back
