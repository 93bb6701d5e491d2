-- Texts that come twice in a list: what is kept of the list is what is kept of its set.
use Rattle.std.proofs.Common.{◌≡◌, ℕ, Bool, true, false, cond, ◌&&◌, nat_le, List, [], ◌∷◌, ◌++◌, length, map, take, refl, sym, ap, ◌∙◌}
use Rattle.std.proofs.Common.{if◌then◌else◌}
use Rattle.std.proofs.lemmas.List.{map-append}
use Rattle.std.specs.Cmp.{both_ways}
use mathlib.Core.Path.{fun_ext}
use Rattle.query.specs.Trigrams.{TrigramSet, has_all_trigrams}
use Rattle.query.specs.Texts.{Texts, has_all_of_one}
use Rattle.trigram.specs.Texts.{Cut, has_text, with_text, with_texts, distinct, ending, cuts, shortest, kept_ends}
use Rattle.trigram.specs.Analysis.{SetTest, known, loose, settle_loose, loosen}
use Rattle.trigram.proofs.MemberLemmas.{IsIn-has_text, has_text-IsIn, IsIn-map, IsIn-distinct, IsIn-from_distinct, list_any-IsIn, IsIn-list_any}
use Rattle.trigram.proofs.TextsLemmas.{with_texts-nil, with_texts-cons, with_texts-append}

pub has_all_of_one-distinct : (texts : Texts) (set : TrigramSet) → has_all_of_one (distinct texts) set ≡ has_all_of_one texts set
has_all_of_one-distinct texts set =
    both_ways (has_all_of_one (distinct texts) set) (has_all_of_one texts set)
    (λ some.
    let one = IsIn-list_any (λ text. has_all_trigrams text set) (distinct texts) some in
    list_any-IsIn (λ text. has_all_trigrams text set) texts one.0 (IsIn-from_distinct texts one.0 one.1) one.2)
    (λ some.
    let one = IsIn-list_any (λ text. has_all_trigrams text set) texts some in
    list_any-IsIn (λ text. has_all_trigrams text set) (distinct texts) one.0 (IsIn-distinct texts one.0 one.1) one.2)

has_text-distinct : (texts : Texts) (word : List ℕ) → has_text (distinct texts) word ≡ has_text texts word
has_text-distinct texts word =
    both_ways (has_text (distinct texts) word) (has_text texts word)
    (λ some. has_text-IsIn texts word (IsIn-from_distinct texts word (IsIn-has_text (distinct texts) word some)))
    (λ some. has_text-IsIn (distinct texts) word (IsIn-distinct texts word (IsIn-has_text texts word some)))

with_text-there : (texts : Texts) (text : List ℕ) → has_text texts text ≡ true → with_text texts text ≡ texts
with_text-there texts text there = rw there refl

-- one more text, and then its image, or first all images and then that of the text
distinct_map-more : (f : List ℕ → List ℕ) (texts : Texts) (text : List ℕ)
    → distinct (map f (with_text texts text)) ≡ with_text (distinct (map f texts)) (f text)
distinct_map-more f texts text = go (has_text texts text) refl
  where
    go : (b : Bool) → has_text texts text ≡ b → distinct (map f (cond b texts (texts ++ text ∷ []))) ≡ with_text (distinct (map f texts)) (f text)
    go true there =
        sym (with_text-there (distinct (map f texts)) (f text)
        (has_text-IsIn (distinct (map f texts)) (f text)
        (IsIn-distinct (map f texts) (f text) (IsIn-map f texts text (IsIn-has_text texts text there)))))
    go false there =
        ap distinct (map-append f texts (text ∷ []))
        ∙ with_texts-append [] (map f texts) (f text ∷ [])
        ∙ with_texts-cons (distinct (map f texts)) (f text) []
        ∙ with_texts-nil (with_text (distinct (map f texts)) (f text))

distinct_map-all : (f : List ℕ → List ℕ) (texts others : Texts)
    → distinct (map f (with_texts texts others)) ≡ with_texts (distinct (map f texts)) (map f others)
distinct_map-all f texts [] = ap (λ ts. distinct (map f ts)) (with_texts-nil texts) ∙ sym (with_texts-nil (distinct (map f texts)))
distinct_map-all f texts (text ∷ others) =
    ap (λ ts. distinct (map f ts)) (with_texts-cons texts text others)
    ∙ distinct_map-all f (with_text texts text) others
    ∙ ap (λ ts. with_texts ts (map f others)) (distinct_map-more f texts text)
    ∙ sym (with_texts-cons (distinct (map f texts)) (f text) (map f others))

distinct_map : (f : List ℕ → List ℕ) (texts : Texts) → distinct (map f (distinct texts)) ≡ distinct (map f texts)
distinct_map f texts = distinct_map-all f [] texts ∙ ap (λ ts. with_texts ts (map f texts)) (with_texts-nil [])

kept_of : Cut → (ℕ → Texts) → Texts
kept_of cut cut_to = shortest cut (cut_to (if nat_le (length (cut_to 2)) 16 then 2 else (if nat_le (length (cut_to 1)) 16 then 1 else 0)))

kept_ends-distinct : (cut : Cut) (texts : Texts) → kept_ends cut (distinct texts) ≡ kept_ends cut texts
unfolding kept_of
kept_ends-distinct cut texts = ap (kept_of cut) (fun_ext {f = λ k. cuts cut k (distinct texts)} {g = λ k. cuts cut k texts} (λ k. distinct_map (cut k) texts))

pub settle_distinct_prefixes : (n : Bool) (texts s : Texts) (c : SetTest) → settle_loose n texts s c ≡ settle_loose n (distinct texts) s c
settle_distinct_prefixes n texts s c =
    ap (λ p. loose n p (kept_ends ending s) (λ set. c set && (has_all_of_one texts set && has_all_of_one s set))) (sym (kept_ends-distinct take texts))
    ∙ ap (loose n (kept_ends take (distinct texts)) (kept_ends ending s))
    (fun_ext (λ set. ap (λ b. c set && (b && has_all_of_one s set)) (sym (has_all_of_one-distinct texts set))))

pub settle_distinct_suffixes : (n : Bool) (p texts : Texts) (c : SetTest) → settle_loose n p texts c ≡ settle_loose n p (distinct texts) c
settle_distinct_suffixes n p texts c =
    ap (λ s. loose n (kept_ends take p) s (λ set. c set && (has_all_of_one p set && has_all_of_one texts set))) (sym (kept_ends-distinct ending texts))
    ∙ ap (loose n (kept_ends take p) (kept_ends ending (distinct texts)))
    (fun_ext (λ set. ap (λ b. c set && (has_all_of_one p set && b)) (sym (has_all_of_one-distinct texts set))))

pub loosen_distinct : (texts : Texts) → loosen (known texts) ≡ loosen (known (distinct texts))
loosen_distinct texts =
    settle_distinct_prefixes (has_text texts []) texts texts (has_all_of_one texts)
    ∙ settle_distinct_suffixes (has_text texts []) (distinct texts) texts (has_all_of_one texts)
    ∙ ap (λ b. settle_loose b (distinct texts) (distinct texts) (has_all_of_one texts)) (sym (has_text-distinct texts []))
    ∙ ap (settle_loose (has_text (distinct texts) []) (distinct texts) (distinct texts)) (fun_ext (λ set. sym (has_all_of_one-distinct texts set)))
