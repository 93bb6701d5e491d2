use Rattle.ere.specs.Tree.{form}
use Rattle.matcher.proofs.Walks.{is_hit}
use Rattle.matcher.proofs.is_led_on.Goals as goal

pub returns : goal.returns
returns g c =
    is_hit (form c.args.tree.now) c.args.line.now (g.S.PositionSet.words c.through-at.result) (g.S.PositionSet.words c.advance.new.at)
    c.through-at.ensures c.advance.ensures c.is_empty.result c.is_empty.ensures
