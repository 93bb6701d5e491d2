use Rattle.std.proofs.Common.{◌^◌, ◌/◌, ◌%◌, ◌==◌, ap, sym, ◌∙◌, get_or}
use Rattle.std.proofs.lemmas.List.{get_or_past}
use Rattle.segments.specs.Private.Bits.{has_bit}
use Rattle.segments.proofs.BitLemmas.{shifted, no_bits}
use Rattle.segments.proofs.bits.is_marked.Goals as goal

pub returns-in-Some : goal.returns-in-Some
returns-in-Some c =
    let place = c.args.place in
    ap (λ b. (b / 2 ^ (place % 8)) % 2 == 1) (c.in-Some.ensures.lookup.3.1 0) ∙ shifted (get_or c.args.bytes.now (place / 8) 0) (place % 8)

pub returns-in-None : goal.returns-in-None
returns-in-None c =
    let place = c.args.place in
    sym (ap (λ b. has_bit b (place % 8)) (get_or_past c.args.bytes.now (place / 8) 0 c.in-None.ensures.lookup.3) ∙ no_bits (place % 8))
