use Rattle.cli.proofs.LawLemmas.{no_request, one_spelling}
use Rattle.cli.proofs.laws.settings_are_one.Goals as goal

pub returns-clause-one : goal.returns-clause-one
returns-clause-one c = one_spelling

pub returns-clause-alone : goal.returns-clause-alone
returns-clause-alone c = no_request
