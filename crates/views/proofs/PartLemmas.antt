-- The text of an answer in parts.
use Rattle.std.proofs.Common.{◌≡◌, ℕ, suc, ◌+◌, ◌<◌, ◌≤◌, Bool, List, [], ◌∷◌, ◌++◌, length, take, drop, get_or, refl, sym, ◌∙◌, ap, arith, drop-cons, Some}
use Rattle.std.proofs.Math.Seq.{take-suc}
use Rattle.std.proofs.lemmas.Option.{slice_get_within, get_or_from_slice_get}
use Rattle.std.specs.Prelude.{slice_get}
use Rattle.std.proofs.lemmas.Grind.{flat_map-append}
use Rattle.std.proofs.lemmas.List.{append-nil, take-append-drop}
use Rattle.views.specs.Found.{Hit}
use Rattle.views.specs.Parts.{text_of_parts}
use Rattle.views.specs.Text.{text_of_hit, text_of_hits}

-- ---- the text of hits

module _ (zero : Bool) where
  pub text-append : (xs ys : List Hit) → text_of_hits zero (xs ++ ys) ≡ text_of_hits zero xs ++ text_of_hits zero ys
  text-append xs ys = flat_map-append (text_of_hit zero) xs ys

  -- the texts of the first hits and of the others
  pub text-joined : (hits : List Hit) (at : ℕ) (front back whole : List ℕ) → front ≡ text_of_hits zero (take at hits)
      → back ≡ text_of_hits zero (drop at hits) → whole ≡ front ++ back → whole ≡ text_of_hits zero hits
  text-joined hits at front back whole first rest joined =
      joined
      ∙ (ap (λ t. t ++ back) first
      ∙ (ap (λ t. text_of_hits zero (take at hits) ++ t) rest
      ∙ (sym (text-append (take at hits) (drop at hits)) ∙ ap (λ hs. text_of_hits zero hs) (take-append-drop at hits))))

  pub text-both : (hits first others : List Hit) (at : ℕ) (front back whole : List ℕ) → first ≡ take at hits → others ≡ drop at hits
      → front ≡ text_of_hits zero first → back ≡ text_of_hits zero others → whole ≡ front ++ back → whole ≡ text_of_hits zero hits
  text-both hits first others at front back whole is_first are_others one two joined =
      text-joined hits at front back whole (one ∙ ap (λ hs. text_of_hits zero hs) is_first) (two ∙ ap (λ hs. text_of_hits zero hs) are_others)
      joined

  -- the text of the first hits, and of one more
  text-next : (hits : List Hit) (at : ℕ) (hit : Hit) → slice_get hits at ≡ Some hit
      → text_of_hits zero (take (suc at) hits) ≡ text_of_hits zero (take at hits) ++ text_of_hit zero hit
  text-next hits at hit there =
      let inside = slice_get_within hits at hit there in
      ap (λ hs. text_of_hits zero hs) (take-suc hits at hit inside)
      ∙ (text-append (take at hits) (get_or hits at hit ∷ [])
      ∙ ap (λ t. text_of_hits zero (take at hits) ++ t)
      (append-nil (text_of_hit zero (get_or hits at hit)) ∙ ap (text_of_hit zero) (get_or_from_slice_get hits at hit hit there)))

  pub text-one_more : (hits : List Hit) (at : ℕ) (hit : Hit) (now new : List ℕ) → Some hit ≡ slice_get hits at
      → now ≡ text_of_hits zero (take at hits) → new ≡ now ++ text_of_hit zero hit → new ≡ text_of_hits zero (take (at + 1) hits)
  text-one_more hits at hit now new there so_far grown =
      let moved : suc at ≡ at + 1 = omega arith in
      grown
      ∙ (ap (λ t. t ++ text_of_hit zero hit) so_far
      ∙ (sym (text-next hits at hit (sym there)) ∙ ap (λ n. text_of_hits zero (take n hits)) moved))

  -- the text of the first hits, and of the others
  pub text-split : (hits first others : List Hit) (at : ℕ) → first ≡ take at hits → others ≡ drop at hits
      → text_of_hits zero hits ≡ text_of_hits zero first ++ text_of_hits zero others
  text-split hits first others at is_first are_others =
      sym (text-both hits first others at (text_of_hits zero first) (text_of_hits zero others)
      (text_of_hits zero first ++ text_of_hits zero others) is_first are_others refl refl refl)

-- ---- the text of parts

-- the parts from one on are that one and those after it
pub text-parts : (parts : List (List ℕ)) (i : ℕ) (part : List ℕ) → i < length parts → part ≡ get_or parts i part
    → text_of_parts (drop i parts) ≡ part ++ text_of_parts (drop (i + 1) parts)
text-parts parts i part inside is =
    let moved : suc i ≡ i + 1 = omega arith in
    ap text_of_parts (drop-cons parts i part inside)
    ∙ (ap (λ text. text ++ text_of_parts (drop (suc i) parts)) (sym is) ∙ ap (λ n. part ++ text_of_parts (drop n parts)) moved)
