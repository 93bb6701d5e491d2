-- Queries for texts.
use Rattle.std.proofs.Common.{◌≡◌, ℕ, zero, suc, ◌+◌, ◌<◌, ◌≤◌, Bool, true, ◌&&◌, ◌||◌, List, [], ◌∷◌, ◌++◌, length, map, drop, get_or}
use Rattle.std.proofs.Common.{refl, sym, ap, ◌∙◌, arith, length-append}
use Rattle.std.specs.List.{list_all}
use Rattle.std.specs.declared.alloc.Global.{Global}
use Rattle.std.specs.declared.boxed.Box.{Box}
use Rattle.std.specs.declared.vec.Vec.{Vec}
use Rattle.std.proofs.lemmas.List.{drop_more}
use Rattle.std.proofs.lemmas.List.Folds.{list_all-append, list_any-append}
use Rattle.std.proofs.Math.Bool.{and_assoc, and-true, or-true}
use Rattle.query.specs.declared.pairs.Pairs.{Pairs}
use Rattle.query.specs.declared.query.Connective.TheVariants.{And}
use Rattle.query.specs.declared.query.Query.TheVariants as query
use Rattle.query.specs.Trigrams.{TrigramSet, trigram_of, holds_front, has_all_trigrams}
use Rattle.query.specs.Texts.{Texts, texts_of, joined_texts, has_all_of_one}
use Rattle.query.specs.Pairs.{texts_in}
use Rattle.query.specs.Query.{Formula, always, has, formula_of, is_met, IsPlain, IsJoin, IsPlainFor}
use Rattle.query.proofs.Forms.{formula_of-Any, formula_of-None, formula_of-Pairs}

-- The invariant of a loop that makes a query: the query so far and what is left over are together the whole test.
pub record IsQuerySoFar (rest whole : TrigramSet → Bool) (query : Formula) : Type 0 where
  pub plain : IsPlain query
  pub met : (set : TrigramSet) → (is_met query set && rest set) ≡ whole set

pub IsQuerySoFar-always : (whole : TrigramSet → Bool) → IsQuerySoFar whole whole always
unfolding is_met
IsQuerySoFar-always whole = record { plain = tt; met = λ set. refl }

pub IsQuerySoFar-more : (rest now later whole : TrigramSet → Bool) (query next longer : Formula) → IsQuerySoFar rest whole query
    → ((set : TrigramSet) → rest set ≡ (now set && later set)) → IsPlainFor now next → IsJoin And query next longer
    → IsQuerySoFar later whole longer
IsQuerySoFar-more rest now later whole query next longer h split p j = record {
  plain = j.plain;
  met = λ set.
      ap (λ b. b && later set) (j.met set ∙ ap (λ b. is_met query set && b) (p.met set))
      ∙ and_assoc (is_met query set) (now set) (later set)
      ∙ ap (λ b. is_met query set && b) (sym (split set))
      ∙ h.met set;
}

pub IsPlainFor-all : (rest whole : TrigramSet → Bool) (query : Formula) → IsQuerySoFar rest whole query
    → ((set : TrigramSet) → rest set ≡ true) → IsPlainFor whole query
IsPlainFor-all rest whole query h none = record {
  plain = h.plain;
  met = λ set. sym (ap (λ b. is_met query set && b) (none set) ∙ and-true (is_met query set)) ∙ h.met set;
}

pub IsPlainFor-has : (trigram : ℕ) → IsPlainFor (λ set. set trigram) (has trigram)
unfolding is_met
IsPlainFor-has trigram = record { plain = tt; met = λ set. refl }

-- the trigram at a place of a text, and the rest
pub trigrams_step : (text : List ℕ) (i : ℕ) → i + 2 < length text → (set : TrigramSet)
    → has_all_trigrams (drop i text) set
    ≡ (set (trigram_of (get_or text i 0) (get_or text (i + 1) 0) (get_or text (i + 2) 0)) && has_all_trigrams (drop (i + 1) text) set)
unfolding has_all_trigrams
trigrams_step text i inside set =
    let one : i + 1 + 1 ≡ i + 2 = omega arith in
    let first = drop_more text i 0 (omega arith) in
    let second = drop_more text (i + 1) 0 (omega arith) in
    let third : drop (i + 1 + 1) text ≡ get_or text (i + 2) 0 ∷ drop (i + 2 + 1) text = ap (λ n. drop n text) one ∙ drop_more text (i + 2) 0 (omega arith) in
    ap (λ t. has_all_trigrams t set) first
    ∙ ap (λ t. holds_front (get_or text i 0 ∷ t) set && has_all_trigrams (drop (i + 1) text) set) (second ∙ ap (λ t. get_or text (i + 1) 0 ∷ t) third)

pub short_text : (text : List ℕ) (set : TrigramSet) → length text ≤ 2 → has_all_trigrams text set ≡ true
unfolding has_all_trigrams
short_text [] set h = refl
short_text (a ∷ []) set h = refl
short_text (a ∷ b ∷ []) set h = refl
short_text (a ∷ b ∷ c ∷ text) set h = absurd (omega arith)

-- one more trigram of a list
pub all_pushed : (set : TrigramSet) (trigrams : List ℕ) (trigram : ℕ) (rest : Bool)
    → (list_all set (trigrams ++ trigram ∷ []) && rest) ≡ (list_all set trigrams && (set trigram && rest))
all_pushed set trigrams trigram rest =
    ap (λ b. b && rest) (list_all-append set trigrams (trigram ∷ []))
    ∙ ap (λ b. (list_all set trigrams && b) && rest) (and-true (set trigram))
    ∙ and_assoc (list_all set trigrams) (set trigram) rest

pub all_in_turn : (a b : Bool) → b ≡ true → a ≡ (a && b)
all_in_turn a b e = sym (ap (λ c. a && c) e ∙ and-true a)

-- ---- joins of two lists of texts

has_all_of_one-append : (left right : Texts) (set : TrigramSet)
    → has_all_of_one (left ++ right) set ≡ (has_all_of_one left set || has_all_of_one right set)
has_all_of_one-append left right set = list_any-append (λ text. has_all_trigrams text set) left right

-- one text of the second list makes a join that has no trigram
pub short_suffix : (prefix : List ℕ) (right : List (Vec ℕ Global)) (i : ℕ) (x : Vec ℕ Global) → i < length right → x ≡ get_or right i x
    → length prefix + length x.items ≤ 2 → (set : TrigramSet) → has_all_of_one (map (λ suffix. prefix ++ suffix) (texts_of right)) set ≡ true
short_suffix prefix [] i x below is short set = absurd (omega arith)
short_suffix prefix (first ∷ right) zero x below is short set =
    ap (λ b. b || has_all_of_one (map (λ suffix. prefix ++ suffix) (texts_of right)) set)
    (ap (λ (v : Vec ℕ Global). has_all_trigrams (prefix ++ v.items) set) (sym is)
    ∙ short_text (prefix ++ x.items) set (omega (arith, length-append prefix x.items)))
short_suffix prefix (first ∷ right) (suc i) x below is short set =
    ap (λ b. has_all_trigrams (prefix ++ first.items) set || b) (short_suffix prefix right i x (omega arith) is short set)
    ∙ or-true (has_all_trigrams (prefix ++ first.items) set)

-- one text of the first list is followed by one with which it has no trigram
pub short_prefix : (left : List (Vec ℕ Global)) (right : Texts) (i : ℕ) (x : Vec ℕ Global) → i < length left → x ≡ get_or left i x
    → ((set : TrigramSet) → has_all_of_one (map (λ suffix. x.items ++ suffix) right) set ≡ true) → (set : TrigramSet)
    → has_all_of_one (joined_texts (texts_of left) right) set ≡ true
short_prefix [] right i x below is short set = absurd (omega arith)
short_prefix (first ∷ left) right zero x below is short set =
    has_all_of_one-append (map (λ suffix. first.items ++ suffix) right) (joined_texts (texts_of left) right) set
    ∙ ap (λ b. b || has_all_of_one (joined_texts (texts_of left) right) set)
    (ap (λ (v : Vec ℕ Global). has_all_of_one (map (λ suffix. v.items ++ suffix) right) set) (sym is) ∙ short set)
short_prefix (first ∷ left) right (suc i) x below is short set =
    has_all_of_one-append (map (λ suffix. first.items ++ suffix) right) (joined_texts (texts_of left) right) set
    ∙ ap (λ b. has_all_of_one (map (λ suffix. first.items ++ suffix) right) set || b) (short_prefix left right i x (omega arith) is short set)
    ∙ or-true (has_all_of_one (map (λ suffix. first.items ++ suffix) right) set)

no_right : (left : Texts) → joined_texts left [] ≡ []
no_right [] = refl
no_right (prefix ∷ left) = no_right left

pub plain_none_left : (left : List (Vec ℕ Global)) (right : Texts) → length left ≡ 0
    → IsPlainFor (has_all_of_one (joined_texts (texts_of left) right)) (formula_of query.None)
unfolding is_met
plain_none_left [] right none = rw formula_of-None (record { plain = tt; met = λ set. refl })
plain_none_left (prefix ∷ left) right none = absurd (omega arith)

pub plain_none_right : (left : Texts) (right : List (Vec ℕ Global)) → length right ≡ 0
    → IsPlainFor (has_all_of_one (joined_texts left (texts_of right))) (formula_of query.None)
unfolding is_met
plain_none_right left [] none = rw formula_of-None (record { plain = tt; met = λ set. sym (ap (λ ts. has_all_of_one ts set) (no_right left)) })
plain_none_right left (suffix ∷ right) none = absurd (omega arith)

pub plain_any : (texts : Texts) → ((set : TrigramSet) → has_all_of_one texts set ≡ true) → IsPlainFor (has_all_of_one texts) (formula_of query.Any)
unfolding is_met
plain_any texts all = rw formula_of-Any (record { plain = tt; met = λ set. sym (all set) })

pub plain_pairs : (pairs : Box Pairs Global) (texts : Texts) → texts_in pairs.value ≡ texts → IsPlainFor (has_all_of_one texts) (formula_of (query.Pairs pairs))
unfolding is_met
plain_pairs pairs texts is = rw (formula_of-Pairs pairs) (record { plain = tt; met = λ set. ap (λ ts. has_all_of_one ts set) is })
