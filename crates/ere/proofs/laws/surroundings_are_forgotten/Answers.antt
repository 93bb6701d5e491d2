use Rattle.ere.proofs.Words.{forgets_surroundings}
use Rattle.ere.proofs.laws.surroundings_are_forgotten.Goals as goal

pub returns : goal.returns
returns c = forgets_surroundings
