-- Names that are counted and named.
use Rattle.std.proofs.Common.{◌≡◌, ℕ, ◌+◌, ◌<◌, Bool, true, false, cond, List, [], ◌∷◌, ◌++◌, length, take, drop, get_or, ◌||◌, refl, sym, ◌∙◌, ap, subst, arith, append_assoc, length-append}
use Rattle.std.specs.Prelude.{filter}
use Rattle.std.proofs.lemmas.List.{append-nil, take_more}
use Rattle.std.proofs.lemmas.List.Elements.{filter-append}
use Rattle.std.proofs.lemmas.Bool.{false≢true}
use Rattle.std.proofs.Math.Bool.{or-true}
use Rattle.prefixes.specs.Under.{begins_with, is_under_one}
use Rattle.names.specs.declared.chosen.Chosen.{Chosen}
use Rattle.names.specs.declared.content.Content.{Content}
use Rattle.names.specs.Contents.{is_one_of, has_one_of}
use Rattle.names.specs.Private.Entries.{Entry, joined}
use Rattle.names.specs.Private.Counted.{AreCounted, Counts}
use Rattle.names.proofs.CompareLemmas.{begins_short, begun_by}
use Rattle.names.proofs.PartLemmas.{joined_more}

-- ---- names that begin with texts

begins_further : (text name rest : List ℕ) → begins_with text name ≡ true → begins_with text (name ++ rest) ≡ true
begins_further text name rest begins =
    begins_short text name rest (omega (arith, length-append text (drop (length text) name), ap length (begun_by text name begins))) ∙ begins

pub under_further : (texts : List (List ℕ)) (name rest : List ℕ) → is_under_one texts name ≡ true → is_under_one texts (name ++ rest) ≡ true
under_further [] name rest under = absurd (false≢true under)
under_further (text ∷ texts) name rest under = go (begins_with text name) refl under (under_further texts name rest)
  where
    go : (t : Bool) → begins_with text name ≡ t → (t || is_under_one texts name) ≡ true
        → (is_under_one texts name ≡ true → is_under_one texts (name ++ rest) ≡ true)
        → (begins_with text (name ++ rest) || is_under_one texts (name ++ rest)) ≡ true
    go true is under further = ap (λ u. u || is_under_one texts (name ++ rest)) (begins_further text name rest is)
    go false is under further = ap (λ u. begins_with text (name ++ rest) || u) (further under) ∙ or-true (begins_with text (name ++ rest))

-- ---- many entries

pub counts_none : (texts : List (List ℕ)) (most : ℕ) (a : Chosen) → Counts texts most [] a a
counts_none texts most a = λ es is. subst (λ xs. AreCounted texts most xs a.count a.named.items) (sym (append-nil es)) is

pub counts_on : (texts : List (List ℕ)) (most : ℕ) (xs ys all : List Entry) (a b c : Chosen) → Counts texts most xs a b → Counts texts most ys b c
    → xs ++ ys ≡ all → Counts texts most all a c
counts_on texts most xs ys all a b c first second all_is =
    λ es is.
    subst (λ zs. AreCounted texts most zs c.count c.named.items) (append_assoc es xs ys ∙ ap (λ zs. es ++ zs) all_is) (second (es ++ xs) (first es is))

-- one entry more that is looked at
pub counts_one : (texts : List (List ℕ)) (most : ℕ) (numbers : List ℕ) (xs more : List Entry) (e : Entry) (a b c : Chosen) → more ≡ xs ++ e ∷ []
    → has_one_of numbers e ≡ true → Counts texts most (filter (has_one_of numbers) xs) a b → Counts texts most (e ∷ []) b c
    → Counts texts most (filter (has_one_of numbers) more) a c
counts_one texts most numbers xs more e a b c more_is has first second =
    counts_on texts most (filter (has_one_of numbers) xs) (e ∷ []) (filter (has_one_of numbers) more) a b c first second
    (sym (ap (filter (has_one_of numbers)) more_is ∙ (filter-append (has_one_of numbers) xs (e ∷ [])
    ∙ ap (λ t. filter (has_one_of numbers) xs ++ cond t (e ∷ []) []) has)))

-- and one that is passed by
pub counts_passed : (texts : List (List ℕ)) (most : ℕ) (numbers : List ℕ) (es : List Entry) (at : ℕ) (content : Content) (a b : Chosen) → at < length es
    → ((d : Entry) → content ≡ (get_or es at d).1) → is_one_of numbers content.number ≡ false → Counts texts most (filter (has_one_of numbers) (take at es)) a b
    → Counts texts most (filter (has_one_of numbers) (take (at + 1) es)) a b
counts_passed texts most numbers es at content a b inside is other so_far =
    let d : Entry = ([], content) in
    let e = get_or es at d in
    let none : has_one_of numbers e ≡ false = ap (λ (c : Content). is_one_of numbers c.number) (sym (is d)) ∙ other in
    subst (λ xs. Counts texts most xs a b)
    (sym (ap (filter (has_one_of numbers)) (take_more es at d inside)
    ∙ (filter-append (has_one_of numbers) (take at es) (e ∷ [])
    ∙ (ap (λ t. filter (has_one_of numbers) (take at es) ++ cond t (e ∷ []) []) none ∙ append-nil (filter (has_one_of numbers) (take at es))))))
    so_far

-- one chunk more
pub counted_chunk : (texts : List (List ℕ)) (most : ℕ) (numbers near : List ℕ) (chunks : List (List Entry)) (at : ℕ) (chunk : List Entry) (a b : Chosen)
    → at < length chunks → chunk ≡ get_or chunks at chunk → filter (has_one_of near) chunk ≡ filter (has_one_of numbers) chunk
    → AreCounted texts most (filter (has_one_of numbers) (joined (take at chunks))) a.count a.named.items
    → Counts texts most (filter (has_one_of near) chunk) a b
    → AreCounted texts most (filter (has_one_of numbers) (joined (take (at + 1) chunks))) b.count b.named.items
counted_chunk texts most numbers near chunks at chunk a b inside is same so_far more =
    subst (λ xs. AreCounted texts most xs b.count b.named.items)
    (ap (λ xs. filter (has_one_of numbers) (joined (take at chunks)) ++ xs) (same ∙ ap (filter (has_one_of numbers)) is)
    ∙ (sym (filter-append (has_one_of numbers) (joined (take at chunks)) (get_or chunks at chunk))
    ∙ ap (filter (has_one_of numbers)) (sym (joined_more chunks at chunk inside))))
    (more (filter (has_one_of numbers) (joined (take at chunks))) so_far)
