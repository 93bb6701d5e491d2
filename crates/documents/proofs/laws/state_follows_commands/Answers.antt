use Rattle.documents.proofs.StateLemmas.{state_of-push}
use Rattle.documents.proofs.laws.state_follows_commands.Goals as goal

pub returns : goal.returns
returns c = state_of-push
