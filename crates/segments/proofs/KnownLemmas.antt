-- Trigrams that are known, and become keys in their order.
use Rattle.std.proofs.Common.{◌≡◌, ℕ, ◌+◌, ◌<◌, List, [], ◌∷◌, ◌++◌, length, get_or, take, sym, ap, ◌∙◌, append_assoc}
use Rattle.std.proofs.lemmas.List.{append-nil, map-append, take_more}
use Rattle.std.proofs.lemmas.List.Elements.{All-nil, All-push}
use Rattle.segments.specs.Private.Keys.{key}
use Rattle.segments.specs.Private.Keyed.{keys_at}
use Rattle.segments.specs.Private.Known.{AddsKnown}

pub known_none : (ts : List ℕ) (place : ℕ) (old : List ℕ) → AddsKnown (take 0 ts) place old old
known_none ts place old = record { is = sym (append-nil old); small = All-nil (λ t. t < 16777216) }

pub known_more : (ts : List ℕ) (place i t : ℕ) (old keys : List ℕ) → i < length ts → t ≡ get_or ts i 0 → t < 16777216
    → AddsKnown (take i ts) place old keys → AddsKnown (take (i + 1) ts) place old (keys ++ key t place ∷ [])
known_more ts place i t old keys inside is low so_far =
    let next : take (i + 1) ts ≡ take i ts ++ t ∷ [] = take_more ts i 0 inside ∙ ap (λ u. take i ts ++ u ∷ []) (sym is) in
    rw next
    (record {
      is =
          ap (λ ks. ks ++ key t place ∷ []) so_far.is ∙ append_assoc old (keys_at place (take i ts)) (key t place ∷ [])
          ∙ ap (λ ks. old ++ ks) (sym (map-append (λ u. key u place) (take i ts) (t ∷ [])));
      small = All-push (λ u. u < 16777216) (take i ts) t so_far.small low;
    })
