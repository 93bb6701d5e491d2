-- Documents with their numbers.
use Rattle.std.proofs.Common.{◌≡◌, ℕ, Bool, true, false, cond, List, [], ◌∷◌, map, get_or}
use Rattle.std.proofs.Common.{Some, Contains, refl, ◌∙◌, ap, subst}
use Rattle.std.specs.Prelude.{All, bytes_eq, filter}
use Rattle.std.proofs.lemmas.List.Elements.{All-map}
use Rattle.index.specs.Private.Numbered.{Document, document, number_of}
pub use Rattle.documents.proofs.ElementLemmas.{same_name, bytes_eq-refl, bytes_eq-sym, Contains-cons, Contains-head, Contains-tail, Contains-map, map-Contains, map_twice, filter_mapped, Contains-filter, filter-Contains}

-- ---- documents by their names

-- a number that is found is that of a document
pub Contains-number_of : (documents : List Document) (name : List ℕ) (number : ℕ) → number_of name documents ≡ Some number
    → (body : List ℕ) × Contains documents (document number name body)
unfolding number_of
Contains-number_of [] name number e = cc
Contains-number_of (first ∷ others) name number e = go (bytes_eq first.name name) refl (Contains-number_of others name number) e
  where
    go : (t : Bool) → bytes_eq first.name name ≡ t
        → (number_of name others ≡ Some number → (body : List ℕ) × Contains others (document number name body))
        → cond t (Some first.number) (number_of name others) ≡ Some number
        → (body : List ℕ) × Contains (first ∷ others) (document number name body)
    go true same deeper found =
        let is : first.number ≡ number = cc in
        let named = same_name first.name name same in (
          first.body,
          subst (λ n. Contains (first ∷ others) (document n name first.body)) is
              (subst (λ n. Contains (first ∷ others) (document first.number n first.body)) named (Contains-head first others)),
        )
    go false same deeper found = let rest = deeper found in (rest.0, Contains-tail first others (document number name rest.0) rest.1)

-- ---- documents with another body

-- the document, with this body if it is chosen
abbrev pub replaced : (Document → Bool) → List ℕ → Document → Document
replaced chosen body d = cond (chosen d) (document d.number d.name body) d

module _ (chosen : Document → Bool) (body : List ℕ) where
  pub numbers-replaced : (ds : List Document) → map (λ d. d.number) (map (replaced chosen body) ds) ≡ map (λ d. d.number) ds
  numbers-replaced [] = refl
  numbers-replaced (d ∷ ds) = go (chosen d) (numbers-replaced ds)
    where
      go : (t : Bool) → map (λ x. x.number) (map (replaced chosen body) ds) ≡ map (λ x. x.number) ds
          → (cond t (document d.number d.name body) d).number ∷ map (λ x. x.number) (map (replaced chosen body) ds) ≡ d.number ∷ map (λ x. x.number) ds
      go true e = ap (λ xs. d.number ∷ xs) e
      go false e = ap (λ xs. d.number ∷ xs) e

  pub number_of-replaced : (name : List ℕ) (ds : List Document) → number_of name (map (replaced chosen body) ds) ≡ number_of name ds
  unfolding number_of
  number_of-replaced name [] = refl
  number_of-replaced name (d ∷ ds) = go (chosen d) (number_of-replaced name ds)
    where
      go : (t : Bool) → number_of name (map (replaced chosen body) ds) ≡ number_of name ds
          → number_of name (cond t (document d.number d.name body) d ∷ map (replaced chosen body) ds)
          ≡ cond (bytes_eq d.name name) (Some d.number) (number_of name ds)
      go true e = ap (λ rest. cond (bytes_eq d.name name) (Some d.number) rest) e
      go false e = ap (λ rest. cond (bytes_eq d.name name) (Some d.number) rest) e

  pub All-replaced : (P : Document → Type 0) (ds : List Document) → ((d : Document) → P d → P (document d.number d.name body)) → All P ds
      → All P (map (replaced chosen body) ds)
  All-replaced P ds other each = All-map P (replaced chosen body) ds (λ k d inside. go (get_or ds k d) (chosen (get_or ds k d)) (each k d inside))
    where
      go : (d : Document) (t : Bool) → P d → P (cond t (document d.number d.name body) d)
      go d true p = other d p
      go d false p = p

-- two ways to choose that agree at each document
pub replaced-same : (p q : Document → Bool) (body : List ℕ) (ds : List Document) → ((d : Document) → Contains ds d → p d ≡ q d)
    → map (replaced p body) ds ≡ map (replaced q body) ds
replaced-same p q body [] each = refl
replaced-same p q body (d ∷ ds) each =
    ap (λ t. cond t (document d.number d.name body) d ∷ map (replaced p body) ds) (each d (Contains-head d ds))
    ∙ ap (λ xs. cond (q d) (document d.number d.name body) d ∷ xs) (replaced-same p q body ds (λ x there. each x (Contains-tail d ds x there)))

pub filter_same : (p q : Document → Bool) (ds : List Document) → ((d : Document) → Contains ds d → p d ≡ q d) → filter p ds ≡ filter q ds
filter_same p q [] each = refl
filter_same p q (d ∷ ds) each =
    let rest = filter_same p q ds (λ x there. each x (Contains-tail d ds x there)) in
    ap (λ t. cond t (d ∷ filter p ds) (filter p ds)) (each d (Contains-head d ds)) ∙ ap (λ xs. cond (q d) (d ∷ xs) xs) rest
