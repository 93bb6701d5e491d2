use Rattle.std.proofs.Common.{◌≡◌, ◌+◌, ◌*◌, ◌/◌, ◌%◌, ◌^◌, [], ◌∷◌, get_or, refl, ap, ◌∙◌, arith}
use Rattle.std.specs.Simd.Lanes.{digits_l, number_l}
use Rattle.std.proofs.lemmas.Simd.{get_or_narrower}
use Rattle.ere.proofs.sixteen.bytes_of.Goals as goal

pub returns : goal.returns
returns c = record {
  long = refl;
  each = λ k l.
      let whole : k ≡ 8 * (k / 8) + k % 8 = omega arith in
      ap (λ n. get_or (digits_l 256 16 (number_l (2 ^ 64) (c.args.low ∷ c.args.high ∷ []))) n 0) whole
      ∙ get_or_narrower (2 ^ 64) 8 256 16 (c.args.low ∷ c.args.high ∷ []) (k / 8) (k % 8) refl (omega arith, (omega arith, tt))
      (omega arith) (omega arith);
}
