use Rattle.views.proofs.OneAnswer.{times_show_nothing}
use Rattle.views.proofs.laws.times_show_nothing.Goals as goal

pub returns : goal.returns
returns c = times_show_nothing
