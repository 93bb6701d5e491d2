-- What is at hand of the contents.
use Rattle.std.proofs.Common.{◌≡◌, ℕ, zero, suc, ◌+◌, ◌≤◌, List, [], ◌∷◌, ◌++◌, map, length, get_or, take, refl, sym, ap, ◌∙◌, arith, length-append, add-one}
use Rattle.std.proofs.lemmas.Simd.{map-map}
use Rattle.std.proofs.lemmas.List.{length-map, map-append, take_more, take_all}
use Rattle.segments.specs.Contents.{Content, numbers_of}
use Rattle.segments.specs.Private.Table.{PlaceSet}
use Rattle.segments.specs.Private.Below.{numbers_below}
use Rattle.segments.specs.Private.Places.{content_at, contents_at}

pub length-numbers_below : (n : ℕ) → length (numbers_below n) ≡ n
unfolding numbers_below
length-numbers_below zero = refl
length-numbers_below (suc n) = length-append (numbers_below n) (n ∷ []) ∙ ap (λ m. m + 1) (length-numbers_below n) ∙ add-one n

pub length-contents_at : (numbers : List ℕ) (sets : List PlaceSet) → length (contents_at numbers sets) ≡ length numbers
unfolding contents_at
length-contents_at numbers sets =
    length-map (numbers_below (length numbers)) (content_at numbers sets) ∙ length-numbers_below (length numbers)

numbers_to : (numbers : List ℕ) (i : ℕ) → i ≤ length numbers → map (λ p. get_or numbers p 0) (numbers_below i) ≡ take i numbers
unfolding numbers_below
numbers_to numbers zero le = refl
numbers_to numbers (suc i) le =
    let e : i + 1 ≡ suc i = omega arith in
    map-append (λ p. get_or numbers p 0) (numbers_below i) (i ∷ [])
    ∙ ap (λ r. r ++ get_or numbers i 0 ∷ []) (numbers_to numbers i (omega (arith, le)))
    ∙ sym (rw e at (take_more numbers i 0 (omega (arith, le))))

pub numbers-contents_at : (numbers : List ℕ) (sets : List PlaceSet) → numbers_of (contents_at numbers sets) ≡ numbers
unfolding contents_at
numbers-contents_at numbers sets =
    map-map (λ (c : Content). c.number) (content_at numbers sets) (numbers_below (length numbers))
    ∙ numbers_to numbers (length numbers) (omega arith) ∙ take_all (length numbers) numbers (omega arith)
