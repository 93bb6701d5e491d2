use Rattle.ere.proofs.Bits.{has_cleared}
use Rattle.spans.proofs.Bits.{cleared_less}
use Rattle.matcher.proofs.words.without_bit.Goals as goal

pub returns-clause-each : goal.returns-clause-each
returns-clause-each c = λ b inside. has_cleared c.args.word c.args.bit b c.requires inside

pub returns-clause-less : goal.returns-clause-less
returns-clause-less c = λ held. cleared_less c.args.word c.args.bit c.requires held
