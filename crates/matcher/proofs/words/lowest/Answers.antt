use Rattle.std.proofs.Common.{arith}
use Rattle.spans.proofs.Bits.{some_bit, lowest_bit}
use Rattle.matcher.proofs.words.lowest.Goals as goal

pub returns-clause-inside : goal.returns-clause-inside
returns-clause-inside c = (some_bit c.args.word c.requires (omega arith)).0

pub returns-clause-held : goal.returns-clause-held
returns-clause-held c = (some_bit c.args.word c.requires (omega arith)).1

pub returns-clause-none_below : goal.returns-clause-none_below
returns-clause-none_below c = (lowest_bit c.args.word c.requires (omega arith)).1
