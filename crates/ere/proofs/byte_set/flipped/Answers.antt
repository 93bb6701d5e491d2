use Rattle.std.proofs.Common.{arith}
use Rattle.ere.proofs.Bits.{has_not}
use Rattle.ere.proofs.byte_set.flipped.Goals as goal

pub returns : goal.returns
returns c = λ bit inside. has_not c.args.word bit (omega arith) inside
