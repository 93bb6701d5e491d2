use Rattle.std.proofs.Common.{rules}
use Rattle.matcher.proofs.OneWords.{one_either, one_new, one_grows}
use Rattle.matcher.proofs.one_word.OneWordPositionSet.add.Goals as goal

pub returns-clause-both : goal.returns-clause-both
returns-clause-both c =
    rw (← c.self.view_is, ← c.fresh.view_is)
    (one_either c.self.inside.word c.fresh.inside.word c.either-self-inside.result c.either-self-inside.ensures)

pub returns-clause-new : goal.returns-clause-new
returns-clause-new c =
    rw (← c.self.view_is, ← c.fresh.view_is)
    (one_new c.fresh.inside.word c.self.inside.word c.without-fresh-inside.result c.without-fresh-inside.ensures)

pub returns-clause-grown : goal.returns-clause-grown
returns-clause-grown c =
    rw (← c.self.view_is)
    (one_grows c.self.inside.word c.fresh.inside.word c.either-self-inside.result c.without-fresh-inside.result (search rules)
    c.either-self-inside.ensures c.without-fresh-inside.ensures)
