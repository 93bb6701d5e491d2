-- The bytes of the first documents.
use Rattle.std.proofs.Common.{◌≡◌, ℕ, zero, suc, ◌+◌, ◌<◌, List, [], ◌∷◌, length, get_or, take, sym, ◌∙◌, ap, subst, arith}
use Rattle.std.proofs.lemmas.List.Sums.{sum-map, sum_by-cons}
use Rattle.documents.specs.declared.document.SharedDocument.{SharedDocument}
use Rattle.search.specs.Private.Ways.{bytes_in}

bytes_in-cons : (d : SharedDocument) (ds : List SharedDocument) → bytes_in (d ∷ ds) ≡ length d.held + bytes_in ds
bytes_in-cons d ds =
    sum-map (λ x. length x.held) (d ∷ ds)
    ∙ (sum_by-cons (λ x. length x.held) d ds ∙ ap (λ n. length d.held + n) (sym (sum-map (λ x. length x.held) ds)))

one_more : (ds : List SharedDocument) (at : ℕ) (d : SharedDocument) → at < length ds → d ≡ get_or ds at d
    → bytes_in (take (suc at) ds) ≡ bytes_in (take at ds) + length d.held
one_more [] at d inside is = absurd (omega arith)
one_more (x ∷ ds) zero d inside is = let size : length d.held ≡ length x.held = ap (λ y. length y.held) is in omega (arith, size, bytes_in-cons x [])
one_more (x ∷ ds) (suc at) d inside is =
    omega (arith, one_more ds at d (omega arith) is, bytes_in-cons x (take (suc at) ds), bytes_in-cons x (take at ds))

pub bytes_in-more : (ds : List SharedDocument) (at : ℕ) (d : SharedDocument) → at < length ds → d ≡ get_or ds at d
    → bytes_in (take (at + 1) ds) ≡ bytes_in (take at ds) + length d.held
bytes_in-more ds at d inside is =
    let next : suc at ≡ at + 1 = omega arith in
    subst (λ n. bytes_in (take n ds) ≡ bytes_in (take at ds) + length d.held) next (one_more ds at d inside is)
