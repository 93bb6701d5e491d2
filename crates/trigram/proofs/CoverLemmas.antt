-- What the analysis says about words: each operation, over arbitrary sets of words.
use Rattle.std.proofs.Common.{◌≡◌, ℕ, zero, suc, ◌+◌, ◌-◌, ◌<◌, ◌≤◌, Bool, true, false, cond, ◌&&◌, ◌||◌, ◌==◌, IsTrue, List, [], ◌∷◌, ◌++◌}
use Rattle.std.proofs.Common.{take, refl, sym, ap, subst, ◌∙◌, arith, ◌⊎◌, inl, inr, ⊎_elim, Option, Some, None, IfSome, if◌then◌else◌}
use Rattle.std.proofs.lemmas.Bool.{or_left, or_right, and_parts, and_from}
use Rattle.std.proofs.lemmas.Bool.Decides.{nat_tests}
use Rattle.std.proofs.lemmas.List.{append_assoc, append-nil}
use Rattle.ere.proofs.Words.{WordSet, IsPower}
use Rattle.query.specs.Trigrams.{TrigramSet, holds_front, has_all_trigrams}
use Rattle.trigram.specs.Texts.{Texts, has_text, union, joins, has_all_of_one, ending, kept_ends}
use Rattle.trigram.specs.Analysis.{SetTest, Analysis, known, loose, anything, just_empty, settle_loose, settle_known, are_kept, loosen}
use Rattle.trigram.specs.Analysis.{is_nullable, prefixes_of, suffixes_of, condition_beside, either, both, joined_prefixes, joined_suffixes, across}
use Rattle.trigram.specs.Analysis.{copies_of, optional, repeated}
use Rattle.trigram.proofs.MemberLemmas.{IsIn, has_text-IsIn, IsIn-union_left, IsIn-union_right, IsIn-joins, list_any-IsIn, IsPrefix, IsSuffix}
use Rattle.trigram.proofs.MemberLemmas.{IsPrefix-trans, IsSuffix-trans, kept_prefix, kept_suffix}

prefix_held : (a : ℕ) (u v : List ℕ) (set : TrigramSet) → IsTrue (holds_front (a ∷ (u ++ v)) set) → IsTrue (holds_front (a ∷ u) set)
prefix_held a [] v set h = refl
prefix_held a (b ∷ []) v set h = refl
prefix_held a (b ∷ c ∷ u) v set h = h

-- a set with all trigrams of a text has all trigrams of each prefix of it, and of each suffix
pub held_by_prefix : (u v : List ℕ) (set : TrigramSet) → IsTrue (has_all_trigrams (u ++ v) set) → IsTrue (has_all_trigrams u set)
unfolding has_all_trigrams
held_by_prefix [] v set h = refl
held_by_prefix (a ∷ u) v set h =
    let parts = and_parts (holds_front (a ∷ (u ++ v)) set) (has_all_trigrams (u ++ v) set) h in
    and_from (holds_front (a ∷ u) set) (has_all_trigrams u set) (prefix_held a u v set parts.0) (held_by_prefix u v set parts.1)

pub held_by_suffix : (u v : List ℕ) (set : TrigramSet) → IsTrue (has_all_trigrams (u ++ v) set) → IsTrue (has_all_trigrams v set)
unfolding has_all_trigrams
held_by_suffix [] v set h = h
held_by_suffix (a ∷ u) v set h = held_by_suffix u v set (and_parts (holds_front (a ∷ (u ++ v)) set) (has_all_trigrams (u ++ v) set) h).1

held_prefix : (p w : List ℕ) (set : TrigramSet) → IsPrefix p w → IsTrue (has_all_trigrams w set) → IsTrue (has_all_trigrams p set)
held_prefix p w set f h = held_by_prefix p f.0 set (subst (λ t. IsTrue (has_all_trigrams t set)) f.1 h)

held_suffix : (p w : List ℕ) (set : TrigramSet) → IsSuffix p w → IsTrue (has_all_trigrams w set) → IsTrue (has_all_trigrams p set)
held_suffix p w set f h = held_by_suffix f.0 p set (subst (λ t. IsTrue (has_all_trigrams t set)) f.1 h)

pub some_held : (texts : Texts) (p : List ℕ) (set : TrigramSet) → IsIn p texts → IsTrue (has_all_trigrams p set) → IsTrue (has_all_of_one texts set)
some_held texts p set i h = list_any-IsIn (λ text. has_all_trigrams text set) texts p i h

-- What is known about a word: its ends and a condition.
pub record IsCovered (nullable : Bool) (prefixes suffixes : Texts) (condition : SetTest) (word : List ℕ) : Type 0 where
  pub empty : word ≡ [] → IsTrue nullable
  pub prefix : (p : List ℕ) × IsIn p prefixes × IsPrefix p word
  pub suffix : (p : List ℕ) × IsIn p suffixes × IsSuffix p word
  pub held : (set : TrigramSet) → IsTrue (has_all_trigrams word set) → IsTrue (condition set)

-- What the analysis says is true for each word of a set.
abbrev pub Covers : Analysis → WordSet → Type 0
Covers (known texts) words = (word : List ℕ) → words word → IsIn word texts
Covers (loose nullable prefixes suffixes condition) words = (word : List ℕ) → words word → IsCovered nullable prefixes suffixes condition word

abbrev pub Concat : WordSet → WordSet → WordSet
Concat words others word = (prefix suffix : List ℕ) × (word ≡ prefix ++ suffix) × words prefix × others suffix

abbrev pub Either : WordSet → WordSet → WordSet
Either words others word = words word ⊎ others word

abbrev pub Repeated : WordSet → ℕ → Option ℕ → WordSet
Repeated words least greatest word = (count : ℕ) × (least ≤ count) × IfSome greatest (λ most. count ≤ most) × IsPower words count word

pub covers_weaker : (a : Analysis) (words fewer : WordSet) → ((w : List ℕ) → fewer w → words w) → Covers a words → Covers a fewer
covers_weaker (known texts) words fewer f h = λ w i. h w (f w i)
covers_weaker (loose n p s c) words fewer f h = λ w i. h w (f w i)

cover_settle : (n : Bool) (p s : Texts) (c : SetTest) (w : List ℕ) → IsCovered n p s c w
    → IsCovered n (kept_ends take p) (kept_ends ending s) (λ set. c set && (has_all_of_one p set && has_all_of_one s set)) w
cover_settle n p s c w h =
    let f = h.prefix in
    let b = h.suffix in
    let kf = kept_prefix p f.0 f.1 in
    let kb = kept_suffix s b.0 b.1 in
    record {
      empty = h.empty;
      prefix = (kf.0, kf.1, IsPrefix-trans kf.0 f.0 w kf.2 f.2);
      suffix = (kb.0, kb.1, IsSuffix-trans kb.0 b.0 w kb.2 b.2);
      held =
          λ set all.
          and_from (c set) (has_all_of_one p set && has_all_of_one s set) (h.held set all)
          (and_from (has_all_of_one p set) (has_all_of_one s set) (some_held p f.0 set f.1 (held_prefix f.0 w set f.2 all))
          (some_held s b.0 set b.1 (held_suffix b.0 w set b.2 all)));
    }

-- the words of an analysis by their ends; known texts then have no condition of their own
covered : (a : Analysis) (words : WordSet) → Covers a words → (w : List ℕ) → words w
    → IsCovered (is_nullable a) (prefixes_of a) (suffixes_of a) (condition_beside a) w
covered (known texts) words h w i = record {
  empty = λ e. has_text-IsIn texts [] (subst (λ v. IsIn v texts) e (h w i));
  prefix = (w, h w i, ([], sym (append-nil w)));
  suffix = (w, h w i, ([], refl));
  held = λ set all. refl;
}
covered (loose n p s c) words h w i = h w i

pub covers_loosen : (a : Analysis) (words : WordSet) → Covers a words → Covers (loosen a) words
covers_loosen (known texts) words h = λ w i. cover_settle (has_text texts []) texts texts (has_all_of_one texts) w (record {
  empty = λ e. has_text-IsIn texts [] (subst (λ v. IsIn v texts) e (h w i));
  prefix = (w, h w i, ([], sym (append-nil w)));
  suffix = (w, h w i, ([], refl));
  held = λ set all. some_held texts w set (h w i) all;
})
covers_loosen (loose n p s c) words h = h

pub covers_settle_known : (texts : Texts) (words : WordSet) → ((w : List ℕ) → words w → IsIn w texts) → Covers (settle_known texts) words
covers_settle_known texts words h = go (are_kept texts)
  where
    go : (b : Bool) → Covers (cond b (known texts) (loosen (known texts))) words
    go true = h
    go false = covers_loosen (known texts) words h

covers_either_any : (l r : Analysis) (words others : WordSet) → Covers l words → Covers r others
    → Covers
    (settle_loose (is_nullable l || is_nullable r) (union (prefixes_of l) (prefixes_of r)) (union (suffixes_of l) (suffixes_of r))
    (λ set. condition_beside l set || condition_beside r set)) (Either words others)
covers_either_any l r words others hl hr =
    λ w i.
    cover_settle (is_nullable l || is_nullable r) (union (prefixes_of l) (prefixes_of r)) (union (suffixes_of l) (suffixes_of r))
    (λ set. condition_beside l set || condition_beside r set) w
    (⊎_elim (λ j. on_left w (covered l words hl w j)) (λ j. on_right w (covered r others hr w j)) i)
  where
    on_left : (w : List ℕ) → IsCovered (is_nullable l) (prefixes_of l) (suffixes_of l) (condition_beside l) w
        → IsCovered (is_nullable l || is_nullable r) (union (prefixes_of l) (prefixes_of r)) (union (suffixes_of l) (suffixes_of r))
        (λ set. condition_beside l set || condition_beside r set) w
    on_left w h = record {
      empty = λ e. or_left (is_nullable l) (is_nullable r) (h.empty e);
      prefix = let f = h.prefix in (f.0, IsIn-union_left (prefixes_of l) (prefixes_of r) f.0 f.1, f.2);
      suffix = let f = h.suffix in (f.0, IsIn-union_left (suffixes_of l) (suffixes_of r) f.0 f.1, f.2);
      held = λ set all. or_left (condition_beside l set) (condition_beside r set) (h.held set all);
    }

    on_right : (w : List ℕ) → IsCovered (is_nullable r) (prefixes_of r) (suffixes_of r) (condition_beside r) w
        → IsCovered (is_nullable l || is_nullable r) (union (prefixes_of l) (prefixes_of r)) (union (suffixes_of l) (suffixes_of r))
        (λ set. condition_beside l set || condition_beside r set) w
    on_right w h = record {
      empty = λ e. or_right (is_nullable l) (is_nullable r) (h.empty e);
      prefix = let f = h.prefix in (f.0, IsIn-union_right (prefixes_of l) (prefixes_of r) f.0 f.1, f.2);
      suffix = let f = h.suffix in (f.0, IsIn-union_right (suffixes_of l) (suffixes_of r) f.0 f.1, f.2);
      held = λ set all. or_right (condition_beside l set) (condition_beside r set) (h.held set all);
    }

pub covers_either : (a b : Analysis) (words others : WordSet) → Covers a words → Covers b others → Covers (either a b) (Either words others)
covers_either (known x) (known y) words others h k =
    covers_settle_known (union x y) (Either words others)
    (λ w i. ⊎_elim (λ j. IsIn-union_left x y w (h w j)) (λ j. IsIn-union_right x y w (k w j)) i)
covers_either (known x) (loose m q t d) words others h k = covers_either_any (loosen (known x)) (loose m q t d) words others (covers_loosen (known x) words h) k
covers_either (loose n p s c) (known y) words others h k =
    covers_either_any (loose n p s c) (loosen (known y)) words others h (covers_loosen (known y) others k)
covers_either (loose n p s c) (loose m q t d) words others h k = covers_either_any (loose n p s c) (loose m q t d) words others h k

prefix_of_both : (a b : Analysis) (words others : WordSet) → Covers a words → Covers b others → (u v : List ℕ) → words u → others v
    → (p : List ℕ) × IsIn p (joined_prefixes a b) × IsPrefix p (u ++ v)
prefix_of_both (known x) b words others h k u v i j =
    let f = (covered b others k v j).prefix in
    (u ++ f.0, IsIn-joins x (prefixes_of b) u f.0 (h u i) f.1, (f.2.0, ap (λ t. u ++ t) f.2.1 ∙ sym (append_assoc u f.0 f.2.0)))
prefix_of_both (loose n p s c) b words others h k u v i j = go n
  where
    f : (q : List ℕ) × IsIn q p × IsPrefix q u
    f = (h u i).prefix

    longer : IsPrefix f.0 (u ++ v)
    longer = (f.2.0 ++ v, ap (λ t. t ++ v) f.2.1 ∙ append_assoc f.0 f.2.0 v)

    go : (e : Bool) → (q : List ℕ) × IsIn q (if e then union p (prefixes_of b) else p) × IsPrefix q (u ++ v)
    go true = (f.0, IsIn-union_left p (prefixes_of b) f.0 f.1, longer)
    go false = (f.0, f.1, longer)

suffix_of_both : (a b : Analysis) (words others : WordSet) → Covers a words → Covers b others → (u v : List ℕ) → words u → others v
    → (p : List ℕ) × IsIn p (joined_suffixes a b) × IsSuffix p (u ++ v)
suffix_of_both a (known y) words others h k u v i j =
    let f = (covered a words h u i).suffix in
    (f.0 ++ v, IsIn-joins (suffixes_of a) y f.0 v f.1 (k v j), (f.2.0, ap (λ t. t ++ v) f.2.1 ∙ append_assoc f.2.0 f.0 v))
suffix_of_both a (loose n p s c) words others h k u v i j = go n
  where
    f : (q : List ℕ) × IsIn q s × IsSuffix q v
    f = (k v j).suffix

    longer : IsSuffix f.0 (u ++ v)
    longer = (u ++ f.2.0, ap (λ t. u ++ t) f.2.1 ∙ sym (append_assoc u f.2.0 f.0))

    go : (e : Bool) → (q : List ℕ) × IsIn q (if e then union s (suffixes_of a) else s) × IsSuffix q (u ++ v)
    go true = (f.0, IsIn-union_left s (suffixes_of a) f.0 f.1, longer)
    go false = (f.0, f.1, longer)

held_across : (a b : Analysis) (words others : WordSet) → Covers a words → Covers b others → (u v : List ℕ) → words u → others v
    → (set : TrigramSet) → IsTrue (has_all_trigrams (u ++ v) set) → IsTrue (across a b set)
held_across (known x) (known y) words others h k u v i j set all = refl
held_across (known x) (loose m q t d) words others h k u v i j set all = refl
held_across (loose n p s c) (known y) words others h k u v i j set all = refl
held_across (loose n p s c) (loose m q t d) words others h k u v i j set all =
    let b = (h u i).suffix in
    let f = (k v j).prefix in
    let border : u ++ v ≡ b.2.0 ++ ((b.0 ++ f.0) ++ f.2.0) =
    ap (λ t. t ++ v) b.2.1 ∙ append_assoc b.2.0 b.0 v ∙ ap (λ t. b.2.0 ++ (b.0 ++ t)) f.2.1 ∙ ap (λ t. b.2.0 ++ t) (sym (append_assoc b.0 f.0 f.2.0)) in
    some_held (joins s q) (b.0 ++ f.0) set (IsIn-joins s q b.0 f.0 b.1 f.1)
    (held_by_prefix (b.0 ++ f.0) f.2.0 set (held_by_suffix b.2.0 ((b.0 ++ f.0) ++ f.2.0) set (subst (λ t. IsTrue (has_all_trigrams t set)) border all)))

empty_parts : (u v : List ℕ) → u ++ v ≡ [] → (u ≡ []) × (v ≡ [])
empty_parts [] v e = (refl, e)
empty_parts (a ∷ u) v e = cc

covers_both_any : (a b : Analysis) (words others : WordSet) → Covers a words → Covers b others
    → Covers
    (settle_loose (is_nullable a && is_nullable b) (joined_prefixes a b) (joined_suffixes a b)
    (λ set. condition_beside a set && (condition_beside b set && across a b set))) (Concat words others)
covers_both_any a b words others h k =
    λ w i.
    cover_settle (is_nullable a && is_nullable b) (joined_prefixes a b) (joined_suffixes a b)
    (λ set. condition_beside a set && (condition_beside b set && across a b set)) w
    (subst (λ t.
    IsCovered (is_nullable a && is_nullable b) (joined_prefixes a b) (joined_suffixes a b)
    (λ set. condition_beside a set && (condition_beside b set && across a b set)) t) (sym i.2) (together i.0 i.1 i.3 i.4))
  where
    together : (u v : List ℕ) → words u → others v
        → IsCovered (is_nullable a && is_nullable b) (joined_prefixes a b) (joined_suffixes a b)
        (λ set. condition_beside a set && (condition_beside b set && across a b set)) (u ++ v)
    together u v i j =
        let l = covered a words h u i in
        let r = covered b others k v j in
        record {
          empty = λ e. let parts = empty_parts u v e in and_from (is_nullable a) (is_nullable b) (l.empty parts.0) (r.empty parts.1);
          prefix = prefix_of_both a b words others h k u v i j;
          suffix = suffix_of_both a b words others h k u v i j;
          held =
              λ set all.
              and_from (condition_beside a set) (condition_beside b set && across a b set) (l.held set (held_by_prefix u v set all))
              (and_from (condition_beside b set) (across a b set) (r.held set (held_by_suffix u v set all))
              (held_across a b words others h k u v i j set all));
        }

pub covers_both : (a b : Analysis) (words others : WordSet) → Covers a words → Covers b others → Covers (both a b) (Concat words others)
covers_both (known x) (known y) words others h k =
    covers_settle_known (joins x y) (Concat words others)
    (λ w i. subst (λ t. IsIn t (joins x y)) (sym i.2) (IsIn-joins x y i.0 i.1 (h i.0 i.3) (k i.1 i.4)))
covers_both (known x) (loose m q t d) words others h k = covers_both_any (known x) (loose m q t d) words others h k
covers_both (loose n p s c) (known y) words others h k = covers_both_any (loose n p s c) (known y) words others h k
covers_both (loose n p s c) (loose m q t d) words others h k = covers_both_any (loose n p s c) (loose m q t d) words others h k

pub power_one : (words : WordSet) (w : List ℕ) → IsPower words 1 w → words w
unfolding IsPower
power_one words w h = subst words (sym (h.2 ∙ ap (λ t. t ++ h.1) h.3)) h.4

pub covers_copies : (a : Analysis) (words : WordSet) → Covers a words → (n : ℕ) → Covers (copies_of a n) (IsPower words (suc n))
unfolding copies_of IsPower
covers_copies a words h zero = covers_weaker a words (IsPower words (suc zero)) (power_one words) h
covers_copies a words h (suc n) = covers_both (copies_of a n) a (IsPower words (suc n)) words (covers_copies a words h n) h

cover_plus : (n : Bool) (p s : Texts) (c : SetTest) (words : WordSet) → ((w : List ℕ) → words w → IsCovered n p s c w)
    → (k : ℕ) (w : List ℕ) → IsPower words (suc k) w → IsCovered n p s c w
unfolding IsPower
cover_plus n p s c words h zero w i = h w (power_one words w i)
cover_plus n p s c words h (suc k) w i = subst (λ t. IsCovered n p s c t) (sym i.2) (together i.0 i.1 (cover_plus n p s c words h k i.0 i.3) (h i.1 i.4))
  where
    together : (u v : List ℕ) → IsCovered n p s c u → IsCovered n p s c v → IsCovered n p s c (u ++ v)
    together u v l r = record {
      empty = λ e. r.empty (empty_parts u v e).1;
      prefix = let f = l.prefix in (f.0, f.1, (f.2.0 ++ v, ap (λ t. t ++ v) f.2.1 ∙ append_assoc f.0 f.2.0 v));
      suffix = let f = r.suffix in (f.0, f.1, (u ++ f.2.0, ap (λ t. u ++ t) f.2.1 ∙ sym (append_assoc u f.2.0 f.0)));
      held = λ set all. r.held set (held_by_suffix u v set all);
    }

abbrev pub Plus : WordSet → WordSet
Plus words word = (others : ℕ) × IsPower words (suc others) word

pub covers_plus : (a : Analysis) (words : WordSet) → Covers a words → Covers (loosen a) (Plus words)
covers_plus (known texts) words h =
    λ w i.
    cover_plus (has_text texts []) (kept_ends take texts) (kept_ends ending texts)
    (λ set. has_all_of_one texts set && (has_all_of_one texts set && has_all_of_one texts set)) words
    (covers_loosen (known texts) words h) i.0 w i.1
covers_plus (loose n p s c) words h = λ w i. cover_plus n p s c words h i.0 w i.1

pub covers_anything : (words : WordSet) → Covers anything words
covers_anything words = λ w i. record {
  empty = λ e. refl;
  prefix = ([], inl refl, (w, refl));
  suffix = ([], inl refl, (w, sym (append-nil w)));
  held = λ set all. refl;
}

abbrev pub AtMost : WordSet → ℕ → WordSet
AtMost words most word = (count : ℕ) × (count ≤ most) × IsPower words count word

power_zero : (words : WordSet) (n : ℕ) (w : List ℕ) → n ≤ 0 → IsPower words n w → w ≡ []
unfolding IsPower
power_zero words zero w below h = h
power_zero words (suc n) w below h = absurd (omega arith)

power_at_most_one : (words : WordSet) (n : ℕ) (w : List ℕ) → n ≤ 1 → IsPower words n w → (w ≡ []) ⊎ words w
unfolding IsPower
power_at_most_one words zero w below h = inl h
power_at_most_one words (suc zero) w below h = inr (power_one words w h)
power_at_most_one words (suc (suc n)) w below h = absurd (omega arith)

covers_at_most_one : (a : Analysis) (words : WordSet) → Covers a words → Covers (optional a 1) (AtMost words 1)
covers_at_most_one (known x) words h =
    covers_settle_known (union x just_empty) (AtMost words 1) (λ w i.
    ⊎_elim (λ e. IsIn-union_right x just_empty w (inl (sym e))) (λ j. IsIn-union_left x just_empty w (h w j))
    (power_at_most_one words i.0 w i.1 i.2))
covers_at_most_one (loose n p s c) words h = covers_anything (AtMost words 1)

pub covers_optional : (a : Analysis) (words : WordSet) → Covers a words → (most : ℕ) → Covers (optional a most) (AtMost words most)
covers_optional a words h zero = λ w i. inl (sym (power_zero words i.0 w i.1 i.2))
covers_optional a words h (suc zero) = covers_at_most_one a words h
covers_optional a words h (suc (suc k)) = many
  where
    not_zero : (suc (suc k) == 0) ≡ false
    not_zero = grind (arith, nat_tests)

    not_one : (suc (suc k) == 1) ≡ false
    not_one = grind (arith, nat_tests)

    many : Covers (optional a (suc (suc k))) (AtMost words (suc (suc k)))
    many = rw (not_zero, not_one) (covers_anything (AtMost words (suc (suc k))))

pub power_split : (words : WordSet) (m k n : ℕ) (w : List ℕ) → n ≡ m + k → IsPower words n w → Concat (IsPower words m) (IsPower words k) w
unfolding IsPower
power_split words m zero n w e h =
    let same : n ≡ m = omega arith in
    (w, [], sym (append-nil w), subst (λ j. IsPower words j w) same h, refl)
power_split words m (suc k) n w e h =
    let same : n ≡ suc (m + k) = omega arith in
    step (subst (λ j. IsPower words j w) same h) (λ u i. power_split words m k (m + k) u refl i)
  where
    regroup : (f g b c : List ℕ) → f ≡ g ++ b → f ++ c ≡ g ++ (b ++ c)
    regroup f g b c e = ap (λ t. t ++ c) e ∙ append_assoc g b c

    joined : (f c : List ℕ) → w ≡ f ++ c → words c → Concat (IsPower words m) (IsPower words k) f → Concat (IsPower words m) (IsPower words (suc k)) w
    joined f c e last split = (split.0, split.1 ++ c, e ∙ regroup f split.0 split.1 c split.2, split.3, (split.1, c, refl, split.4, last))

    step : IsPower words (suc (m + k)) w → ((u : List ℕ) → IsPower words (m + k) u → Concat (IsPower words m) (IsPower words k) u)
        → Concat (IsPower words m) (IsPower words (suc k)) w
    step last again = joined last.0 last.1 last.2 last.4 (again last.0 last.3)

covers_at_least_two : (a : Analysis) (words : WordSet) → Covers a words → (least : ℕ) → 2 ≤ least
    → Covers (both (copies_of a (least - 2)) (loosen a)) (Repeated words least None)
covers_at_least_two a words h least two =
    covers_weaker (both (copies_of a (least - 2)) (loosen a)) (Concat (IsPower words (suc (least - 2))) (Plus words)) (Repeated words least None)
    (λ w i. let s = power_split words (suc (least - 2)) (suc (i.0 - least)) i.0 w (omega (arith, i.1, two)) i.3 in (s.0, s.1, s.2, s.3, (i.0 - least, s.4)))
    (covers_both (copies_of a (least - 2)) (loosen a) (IsPower words (suc (least - 2))) (Plus words) (covers_copies a words h (least - 2))
    (covers_plus a words h))

pub covers_at_least : (a : Analysis) (words : WordSet) → Covers a words → (least : ℕ) → Covers (repeated a least None) (Repeated words least None)
covers_at_least a words h zero = covers_anything (Repeated words 0 None)
covers_at_least a words h (suc zero) =
    covers_weaker (loosen a) (Plus words) (Repeated words 1 None)
    (λ w i. let same : i.0 ≡ suc (i.0 - 1) = omega (arith, i.1) in (i.0 - 1, subst (λ j. IsPower words j w) same i.3))
    (covers_plus a words h)
covers_at_least a words h (suc (suc k)) = many
  where
    not_zero : (suc (suc k) == 0) ≡ false
    not_zero = grind (arith, nat_tests)

    not_one : (suc (suc k) == 1) ≡ false
    not_one = grind (arith, nat_tests)

    many : Covers (repeated a (suc (suc k)) None) (Repeated words (suc (suc k)) None)
    many = rw (not_zero, not_one) (covers_at_least_two a words h (suc (suc k)) (omega arith))

covers_exactly : (a : Analysis) (words : WordSet) → Covers a words → (least most : ℕ) → 0 < least → least ≡ most
    → Covers (copies_of a (least - 1)) (Repeated words least (Some most))
covers_exactly a words h least most some same =
    covers_weaker (copies_of a (least - 1)) (IsPower words (suc (least - 1))) (Repeated words least (Some most))
    (λ w i. let is : i.0 ≡ suc (least - 1) = omega (arith, i.1, i.2, same, some) in subst (λ j. IsPower words j w) is i.3)
    (covers_copies a words h (least - 1))

covers_range : (a : Analysis) (words : WordSet) → Covers a words → (least most : ℕ) → 0 < least
    → Covers (both (copies_of a (least - 1)) (optional a (most - least))) (Repeated words least (Some most))
covers_range a words h least most some =
    covers_weaker (both (copies_of a (least - 1)) (optional a (most - least)))
    (Concat (IsPower words (suc (least - 1))) (AtMost words (most - least))) (Repeated words least (Some most))
    (λ w i.
    let s = power_split words (suc (least - 1)) (i.0 - least) i.0 w (omega (arith, i.1, some)) i.3 in
    (s.0, s.1, s.2, s.3, (i.0 - least, omega (arith, i.1, i.2), s.4)))
    (covers_both (copies_of a (least - 1)) (optional a (most - least)) (IsPower words (suc (least - 1))) (AtMost words (most - least))
    (covers_copies a words h (least - 1)) (covers_optional a words h (most - least)))

pub covers_between : (a : Analysis) (words : WordSet) → Covers a words → (least most : ℕ)
    → Covers (repeated a least (Some most)) (Repeated words least (Some most))
covers_between a words h zero most =
    covers_weaker (optional a most) (AtMost words most) (Repeated words 0 (Some most)) (λ w i. (i.0, i.2, i.3))
    (covers_optional a words h most)
covers_between a words h (suc k) most = go (suc k == most) refl
  where
    not_zero : (suc k == 0) ≡ false
    not_zero = grind (arith, nat_tests)

    equal : (suc k == most) ≡ true → suc k ≡ most
    equal e = grind (arith, nat_tests)

    go : (b : Bool) → (suc k == most) ≡ b → Covers (repeated a (suc k) (Some most)) (Repeated words (suc k) (Some most))
    go true e = rw (not_zero, e) (covers_exactly a words h (suc k) most (omega arith) (equal e))
    go false e = rw (not_zero, e) (covers_range a words h (suc k) most (omega arith))
