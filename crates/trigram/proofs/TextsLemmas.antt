-- Sets of texts: one more text of a list, and the trigrams of all.
use Rattle.std.proofs.Common.{◌≡◌, ℕ, ◌+◌, ◌<◌, ◌≤◌, Bool, true, false, cond, List, [], ◌∷◌, ◌++◌, length, map, drop, get_or}
use Rattle.std.proofs.Common.{refl, sym, ap, ◌∙◌, arith}
use Rattle.std.specs.declared.alloc.Global.{Global}
use Rattle.std.specs.declared.vec.Vec.{Vec}
use Rattle.std.proofs.Math.Nat.{le_trans}
use Rattle.std.proofs.lemmas.List.{drop_more, length-append}
use Rattle.std.proofs.lemmas.List.{append-nil}
use Rattle.query.specs.Texts.{Texts, texts_of, joined_texts, has_all_of_one}
use Rattle.query.specs.Query.{Formula, IsPlainFor}
use Rattle.trigram.specs.Texts.{has_text, with_text, with_texts}

pub next_text : (texts : List (Vec ℕ Global)) (i : ℕ) (x : Vec ℕ Global) → i < length texts → x ≡ get_or texts i x
    → texts_of (drop i texts) ≡ x.items ∷ texts_of (drop (i + 1) texts)
next_text texts i x below read = ap texts_of (drop_more texts i x below ∙ ap (λ y. y ∷ drop (i + 1) texts) (sym read))

pub with_texts-nil : (texts : Texts) → with_texts texts [] ≡ texts
unfolding with_texts
with_texts-nil texts = refl

pub with_texts-cons : (texts : Texts) (text : List ℕ) (others : Texts) → with_texts texts (text ∷ others) ≡ with_texts (with_text texts text) others
unfolding with_texts
with_texts-cons texts text others = refl

pub with_texts-append : (texts left right : Texts) → with_texts texts (left ++ right) ≡ with_texts (with_texts texts left) right
unfolding with_texts
with_texts-append texts [] right = refl
with_texts-append texts (text ∷ left) right = with_texts-append (with_text texts text) left right

pub plain_for_same : (texts others : Texts) (query : Formula) → texts ≡ others → IsPlainFor (has_all_of_one texts) query
    → IsPlainFor (has_all_of_one others) query
plain_for_same texts others query same h = record { plain = h.plain; met = λ set. h.met set ∙ ap (λ ts. has_all_of_one ts set) same }

-- each text, followed by the empty one
pub joined_with_empty : (texts : Texts) → joined_texts texts ([] ∷ []) ≡ texts
joined_with_empty [] = refl
joined_with_empty (text ∷ texts) = ap (λ t. t ∷ joined_texts texts ([] ∷ [])) (append-nil text) ∙ ap (λ ts. text ∷ ts) (joined_with_empty texts)

with_text-longer : (texts : Texts) (text : List ℕ) → length texts ≤ length (with_text texts text)
with_text-longer texts text = go (has_text texts text)
  where
    go : (b : Bool) → length texts ≤ length (cond b texts (texts ++ text ∷ []))
    go true = omega arith
    go false = rw (length-append texts (text ∷ [])) (omega arith)

-- adding texts makes a set no shorter
pub with_texts-longer : (texts others : Texts) → length texts ≤ length (with_texts texts others)
unfolding with_texts
with_texts-longer texts [] = omega arith
with_texts-longer texts (text ∷ others) = le_trans (with_text-longer texts text) (with_texts-longer (with_text texts text) others)

-- if there are more than n ends after one text of a list, there are more than n after all of them
pub many_ends : (end : List ℕ → List ℕ) (texts : List (Vec ℕ Global)) (i : ℕ) (x : Vec ℕ Global) (before now whole : Texts) (n : ℕ)
    → i < length texts → x ≡ get_or texts i x → with_texts before (map end (texts_of (drop i texts))) ≡ whole
    → now ≡ with_text before (end x.items) → n < length now → n < length whole
many_ends end texts i x before now whole n below read is one many =
    let rest = map end (texts_of (drop (i + 1) texts)) in
    let split : with_texts now rest ≡ whole =
    ap (λ ts. with_texts ts rest) one
    ∙ sym (with_texts-cons before (end x.items) rest)
    ∙ ap (λ ts. with_texts before (map end ts)) (sym (next_text texts i x below read))
    ∙ is in
    omega (arith, with_texts-longer now rest, ap length split)
