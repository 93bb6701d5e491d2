use Rattle.std.proofs.Common.{◌*◌, ◌/◌, ◌%◌, ◌^◌, ◌||◌, get_or, bit_or, arith}
use Rattle.std.proofs.Math.Bool.{or-false}
use Rattle.ere.proofs.Bits.{has_with}
use Rattle.ere.proofs.SetWords.{byte_changed}
use Rattle.ere.proofs.byte_set.with.Goals as goal

pub returns-clause-each : goal.returns-clause-each
returns-clause-each c =
    let word = get_or c.args.words.now (c.args.byte / 64) 0 in
    byte_changed c.args.words.now c.args.byte (bit_or word (1 * 2 ^ (c.args.byte % 64) % 2 ^ 64)) (λ held here. held || here) (omega arith)
    or-false (λ k low. has_with word (c.args.byte % 64) k (omega arith))
