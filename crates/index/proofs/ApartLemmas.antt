-- Texts of which neither begins with the other.
use Rattle.std.proofs.Common.{◌≡◌, ℕ, suc, zero, ◌<◌, ◌≤◌, ◌⊎◌, inl, inr, true, false, List, [], ◌∷◌, length, take, refl, sym, ◌∙◌, ap, arith}
use Rattle.std.specs.Prelude.{bytes_eq}
use Rattle.std.proofs.lemmas.Bool.{false≢true, cases_lt}
use Rattle.prefixes.specs.Under.{begins_with}
use Rattle.index.specs.Private.Copying.{AreApart}
use Rattle.index.proofs.DocumentLemmas.{same_name, bytes_eq-refl}

take_within : (m n : ℕ) (xs : List ℕ) → m ≤ n → take m (take n xs) ≡ take m xs
take_within zero n xs le = refl
take_within (suc m) zero xs le = absurd (omega (arith, le))
take_within (suc m) (suc n) [] le = refl
take_within (suc m) (suc n) (x ∷ xs) le = ap (λ r. x ∷ r) (take_within m n xs (omega (arith, le)))

-- of two texts with which a name begins the longer one begins with the other
longer : (short long q : List ℕ) → length short ≤ length long → begins_with short q ≡ true → begins_with long q ≡ true → begins_with short long ≡ true
longer short long q le s l =
    let at : short ≡ take (length short) q = same_name short (take (length short) q) s in
    let is : long ≡ take (length long) q = same_name long (take (length long) q) l in
    ap (λ x. bytes_eq short (take (length short) x)) is
    ∙ ap (bytes_eq short) (take_within (length short) (length long) q le ∙ sym at)
    ∙ bytes_eq-refl short

pub apart : (from to : List ℕ) → begins_with to from ≡ false → begins_with from to ≡ false → AreApart from to
apart from to first second q f t = go (cases_lt (length from) (length to))
  where
    go : (length from < length to) ⊎ (length to ≤ length from) → ⊥
    go (inl lt) = false≢true (sym second ∙ longer from to q (omega (arith, lt)) f t)
    go (inr le) = false≢true (sym first ∙ longer to from q le t f)
