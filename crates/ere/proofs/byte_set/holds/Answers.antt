use Rattle.std.proofs.Common.{◌/◌, ◌%◌, get_or, sym, ◌∙◌}
use Rattle.ere.proofs.Bits.{tests_bit}
use Rattle.ere.proofs.SetWords.{byte_is}
use Rattle.ere.proofs.byte_set.holds.Goals as goal

pub returns : goal.returns
returns c = tests_bit (get_or c.args.words.now (c.args.byte / 64) 0) (c.args.byte % 64) ∙ sym (byte_is c.args.words.now c.args.byte)
