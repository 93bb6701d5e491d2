use Rattle.std.proofs.Common.{◌≡◌, ◌/◌, ◌%◌, ◌^◌, ◌<◌, ◌==◌, cond, ltb, [], ◌∷◌, get_or, bit_and, ap, sym, ◌∙◌, arith}
use Rattle.ere.specs.ByteSet.{has}
use Rattle.ere.proofs.LaneLemmas.{byte_small, bit_is_byte}
use Rattle.ere.proofs.SetWords.{has-values_of}
use Rattle.ere.proofs.byte_set.ByteSet.which_of.Goals as goal

pub returns-clause-each : goal.returns-clause-each
returns-clause-each c = λ i l.
    let words = c.self.inside.words in
    let b = get_or c.args.bytes i 0 in
    let low = get_or c.looked_up-low.result i 0 in
    let high = get_or c.looked_up-high.result i 0 in
    let small : b < 256 = byte_small c.args.bytes c.fits-bytes.0 c.fits-bytes.1 i l in
    let lower : low ≡ get_or (get_or words 0 0 ∷ get_or words 1 0 ∷ []) (b / 8 % 16 / 8) 0 / 256 ^ (b / 8 % 16 % 8) % 256 =
    c.looked_up-low.ensures.each i l ∙ ap (λ n. get_or c.bytes_of.result n 0) (c.places-at.ensures.each i l)
    ∙ c.bytes_of.ensures.each (b / 8 % 16) (omega arith) in
    let upper : high ≡ get_or (get_or words 2 0 ∷ get_or words 3 0 ∷ []) (b / 8 % 16 / 8) 0 / 256 ^ (b / 8 % 16 % 8) % 256 =
    c.looked_up-high.ensures.each i l ∙ ap (λ n. get_or c.bytes_of-2.result n 0) (c.places-at.ensures.each i l)
    ∙ c.bytes_of-2.ensures.each (b / 8 % 16) (omega arith) in
    c.held.ensures.each i l ∙ ap (λ n. bit_and n (get_or c.bits_of.result i 0) == get_or c.bits_of.result i 0) (c.halves.ensures.each i l)
    ∙ ap (λ n. bit_and (cond (ltb b 128) low high) n == n) (c.bits_of.ensures.each i l) ∙ bit_is_byte words b low high small lower upper
    ∙ sym (has-values_of words c.self.invariant b small) ∙ ap (λ s. has s b) c.self.view_is
