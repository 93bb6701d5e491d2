-- Texts one after the other.
use Rattle.std.proofs.Common.{◌≡◌, ℕ, zero, suc, ◌-◌, ◌<◌, ◌≤◌, List, [], ◌∷◌, ◌++◌, length, take, drop, get_or, refl, sym, ◌∙◌, ap, arith, append_assoc, length-append}
use Rattle.std.proofs.lemmas.List.{take_all, drop_at, drop-append-le, take-append-le, length-drop}
use Rattle.names.specs.Private.Entries.{parts_from, RiseTo}

pub rise_bound : (last from : ℕ) (ends : List ℕ) → RiseTo last from ends → from ≤ last
rise_bound last from [] rise = omega (arith, rise)
rise_bound last from (end ∷ ends) rise = let further = rise_bound last end ends rise.1 in omega (arith, rise.0, further)

pub rise-push : (last more from : ℕ) (ends : List ℕ) → RiseTo last from ends → last ≤ more → RiseTo more from (ends ++ more ∷ [])
rise-push last more from [] rise further = (omega (arith, rise, further), refl)
rise-push last more from (end ∷ ends) rise further = (rise.0, rise-push last more end ends rise.1 further)

pub length-parts : (text : List ℕ) (from : ℕ) (ends : List ℕ) → length (parts_from text from ends) ≡ length ends
length-parts text from [] = refl
length-parts text from (end ∷ ends) = ap suc (length-parts text end ends)

pub part-append : (text more : List ℕ) (from end : ℕ) → from ≤ end → end ≤ length text → take (end - from) (drop from (text ++ more)) ≡ take (end - from) (drop from text)
part-append text more from end order inside =
    ap (take (end - from)) (drop-append-le from text more (omega arith))
    ∙ take-append-le (end - from) (drop from text) more (omega (arith, length-drop from text))

pub parts-push : (text more : List ℕ) (from : ℕ) (ends : List ℕ) → RiseTo (length text) from ends
    → parts_from (text ++ more) from (ends ++ length (text ++ more) ∷ []) ≡ parts_from text from ends ++ more ∷ []
parts-push text more from [] rise =
    ap (λ part. part ∷ [])
    (ap (take (length (text ++ more) - from)) (drop_at text more from (sym rise)) ∙ take_all (length (text ++ more) - from) more (omega (arith, length-append text more, rise)))
parts-push text more from (end ∷ ends) rise =
    ap (λ part. part ∷ parts_from (text ++ more) end (ends ++ length (text ++ more) ∷ []))
    (part-append text more from end rise.0 (rise_bound (length text) end ends rise.1))
    ∙ ap (λ parts. take (end - from) (drop from text) ∷ parts) (parts-push text more end ends rise.1)

pub part-get : (text : List ℕ) (from : ℕ) (ends : List ℕ) (at : ℕ) → at < length ends
    → get_or (parts_from text from ends) at [] ≡ take (get_or ends at 0 - get_or (from ∷ ends) at 0) (drop (get_or (from ∷ ends) at 0) text)
part-get text from [] at inside = absurd (omega arith)
part-get text from (end ∷ ends) zero inside = refl
part-get text from (end ∷ ends) (suc at) inside = part-get text end ends at (omega arith)

pub part_order : (last from : ℕ) (ends : List ℕ) (at : ℕ) → RiseTo last from ends → at < length ends → get_or (from ∷ ends) at 0 ≤ get_or ends at 0
part_order last from [] at rise inside = absurd (omega arith)
part_order last from (end ∷ ends) zero rise inside = rise.0
part_order last from (end ∷ ends) (suc at) rise inside = part_order last end ends at rise.1 (omega arith)

pub part_inside : (last from : ℕ) (ends : List ℕ) (at : ℕ) → RiseTo last from ends → at < length ends → get_or ends at 0 ≤ last
part_inside last from [] at rise inside = absurd (omega arith)
part_inside last from (end ∷ ends) zero rise inside = rise_bound last end ends rise.1
part_inside last from (end ∷ ends) (suc at) rise inside = part_inside last end ends at rise.1 (omega arith)

-- the text with one more behind it, which is given in three parts
pub three : (text first second third whole : List ℕ) → whole ≡ ((text ++ first) ++ second) ++ third → whole ≡ text ++ (first ++ (second ++ third))
three text first second third whole is = is ∙ (append_assoc (text ++ first) second third ∙ append_assoc text first (second ++ third))

pub texts_inside : (text ends : List ℕ) (view : List (List ℕ)) (at : ℕ) → parts_from text 0 ends ≡ view → at < length view → at < length ends
texts_inside text ends view at is inside = omega (arith, length-parts text 0 ends, ap length is, inside)
