-- Texts that are cut from bytes.
use Rattle.std.proofs.Common.{◌≡◌, ℕ, ◌+◌, ◌<◌, ◌≤◌, get_or, List, [], ◌∷◌, ◌++◌, length, map, take, drop, refl, sym, ap, ◌∙◌, arith, min}
use Rattle.std.specs.List.{flat_map}
use Rattle.std.proofs.Math.Seq.{take-append_seam, drop-append_seam}
use Rattle.std.proofs.lemmas.List.{map-append, take_all, drop_all, drop_more, take_min, drop_min, take-map, drop-map}
use Rattle.std.proofs.lemmas.Grind.{flat_map-append}
use Rattle.std.specs.declared.alloc.Global.{Global}
use Rattle.std.specs.declared.vec.Vec.{Vec}
use Rattle.query.specs.Texts.{Texts, texts_of, joined_texts}
use Rattle.query.specs.Pairs.{cut_texts}

-- the bytes of texts, one after the other
abbrev pub bytes_of : Texts → List ℕ
bytes_of texts = flat_map (λ text. text) texts

-- texts are cut from their bytes by their lengths
pub cut_again : (texts : Texts) → cut_texts (map length texts) (bytes_of texts) ≡ texts
unfolding cut_texts
cut_again [] = refl
cut_again (text ∷ texts) =
    ap (λ t. t ∷ cut_texts (map length texts) (drop (length text) (text ++ bytes_of texts))) (take-append_seam text (bytes_of texts))
    ∙ ap (λ bytes. text ∷ cut_texts (map length texts) bytes) (drop-append_seam text (bytes_of texts))
    ∙ ap (λ ts. text ∷ ts) (cut_again texts)

-- the parts of both sides
pub parts_again : (left right : Texts) (lengths bytes : List ℕ) → lengths ≡ map length left ++ map length right
    → bytes ≡ bytes_of left ++ bytes_of right → cut_texts lengths bytes ≡ left ++ right
parts_again left right lengths bytes l b =
    ap (λ ns. cut_texts ns bytes) (l ∙ sym (map-append length left right))
    ∙ ap (cut_texts (map length (left ++ right))) (b ∙ sym (flat_map-append (λ text. text) left right))
    ∙ cut_again (left ++ right)

pub joins_again : (left right parts : Texts) (lefts rights : ℕ) → parts ≡ left ++ right → lefts ≡ length left → rights ≡ length left
    → joined_texts (take lefts parts) (drop rights parts) ≡ joined_texts left right
joins_again left right parts lefts rights is l r =
    ap (λ ps. joined_texts (take lefts ps) (drop rights ps)) is
    ∙ ap (λ n. joined_texts (take n (left ++ right)) (drop rights (left ++ right))) l
    ∙ ap (λ n. joined_texts (take (length left) (left ++ right)) (drop n (left ++ right))) r
    ∙ ap (λ ts. joined_texts ts (drop (length left) (left ++ right))) (take-append_seam left right)
    ∙ ap (joined_texts left) (drop-append_seam left right)

-- where both sides have the same parts
pub joins_twice : (left right : Texts) (lengths bytes : List ℕ) (lefts rights : ℕ) → lengths ≡ map length left → bytes ≡ bytes_of left → left ≡ right
    → lefts ≡ length left → rights ≡ 0
    → joined_texts (take lefts (cut_texts lengths bytes)) (drop rights (cut_texts lengths bytes)) ≡ joined_texts left right
joins_twice left right lengths bytes lefts rights l b same all none =
    ap (λ ps. joined_texts (take lefts ps) (drop rights ps)) (ap (λ ns. cut_texts ns bytes) l ∙ ap (cut_texts (map length left)) b ∙ cut_again left)
    ∙ ap (λ n. joined_texts (take lefts left) (drop n left)) none
    ∙ ap (λ ts. joined_texts ts left) (take_all lefts left (omega (arith, all)))
    ∙ ap (joined_texts left) same

pub next_part : (lengths bytes : List ℕ) (i n m : ℕ) → i < length lengths → n ≡ get_or lengths i 0 → m ≡ min n (length bytes)
    → cut_texts (drop i lengths) bytes ≡ take m bytes ∷ cut_texts (drop (i + 1) lengths) (drop m bytes)
unfolding cut_texts
next_part lengths bytes i n m below read is =
    ap (λ ns. cut_texts ns bytes) (drop_more lengths i 0 below ∙ ap (λ k. k ∷ drop (i + 1) lengths) (sym read))
    ∙ ap (λ t. t ∷ cut_texts (drop (i + 1) lengths) (drop n bytes)) (sym (ap (λ k. take k bytes) is ∙ take_min n bytes))
    ∙ ap (λ t. take m bytes ∷ cut_texts (drop (i + 1) lengths) t) (sym (ap (λ k. drop k bytes) is ∙ drop_min n bytes))

pub no_parts : (lengths bytes : List ℕ) (i : ℕ) → length lengths ≤ i → cut_texts (drop i lengths) bytes ≡ []
unfolding cut_texts
no_parts lengths bytes i past = ap (λ ns. cut_texts ns bytes) (drop_all i lengths past)

pub joins_of_parts : (vecs : List (Vec ℕ Global)) (parts : Texts) (lefts rights m n : ℕ) → texts_of vecs ≡ parts → m ≡ min lefts (length vecs)
    → n ≡ min rights (length vecs) → joined_texts (texts_of (take m vecs)) (texts_of (drop n vecs)) ≡ joined_texts (take lefts parts) (drop rights parts)
joins_of_parts vecs parts lefts rights m n is l r =
    ap (λ ts. joined_texts (texts_of ts) (texts_of (drop n vecs))) (ap (λ k. take k vecs) l ∙ take_min lefts vecs)
    ∙ ap (λ ts. joined_texts (texts_of (take lefts vecs)) (texts_of ts)) (ap (λ k. drop k vecs) r ∙ drop_min rights vecs)
    ∙ ap (λ ts. joined_texts ts (texts_of (drop rights vecs))) (sym (take-map (λ (v : Vec ℕ Global). v.items) lefts vecs))
    ∙ ap (λ ts. joined_texts (take lefts (texts_of vecs)) ts) (sym (drop-map (λ (v : Vec ℕ Global). v.items) rights vecs))
    ∙ ap (λ ts. joined_texts (take lefts ts) (drop rights ts)) is
