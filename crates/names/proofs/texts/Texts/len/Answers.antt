use Rattle.std.proofs.Common.{arith, length, ap}
use Rattle.names.proofs.TextLemmas.{length-parts}
use Rattle.names.proofs.texts.Texts.len.Goals as goal

pub returns : goal.returns
returns c = let len = c.len.ensures in omega (arith, length-parts c.self.inside.text.items 0 c.self.inside.ends.items, ap length c.self.view_is, c.self.inside.ends.ok.0)
