use Rattle.cli.proofs.LawLemmas.{themselves}
use Rattle.cli.proofs.laws.options_ask_for_themselves.Goals as goal

pub returns : goal.returns
returns c = themselves
