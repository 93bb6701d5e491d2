use Rattle.std.proofs.Common.{◌*◌, ◌/◌, ◌%◌, ◌^◌, not, ◌&&◌, get_or, bit_and, arith, w64}
use Rattle.std.specs.Int.{bit_not}
use Rattle.std.proofs.Math.Bool.{and-true}
use Rattle.ere.proofs.Bits.{has_cleared}
use Rattle.ere.proofs.SetWords.{byte_changed}
use Rattle.ere.proofs.byte_set.without.Goals as goal

pub returns-clause-each : goal.returns-clause-each
returns-clause-each c =
    let word = get_or c.args.words.now (c.args.byte / 64) 0 in
    byte_changed c.args.words.now c.args.byte (bit_and word (bit_not w64 (1 * 2 ^ (c.args.byte % 64) % 2 ^ 64)))
    (λ held here. held && not here) (omega arith) and-true (λ k low. has_cleared word (c.args.byte % 64) k (omega arith) low)
