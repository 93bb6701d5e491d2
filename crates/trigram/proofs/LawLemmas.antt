-- The laws of the analysis, by induction on trees.
use Rattle.std.proofs.Common.{◌≡◌, ℕ, zero, suc, ◌+◌, ◌<◌, ◌≤◌, Bool, true, false, cond, ◌==◌, nat_lt, nat_le, IsTrue, List, [], ◌∷◌, ◌++◌}
use Rattle.std.proofs.Common.{length, map, filter, refl, sym, ap, subst, ◌∙◌, arith, ◌⊎◌, inl, inr, ⊎_elim, Option, Some, None, IfSome}
use Rattle.std.proofs.Common.{Contains, IsFalse}
use Rattle.std.specs.List.{range_with_len}
use Rattle.std.proofs.lemmas.Bool.{or_cases, or_left, or_right, and_parts, and_from, false≢true, true≢false, cases_eq, cases_Bool}
use Rattle.std.proofs.lemmas.Bool.Decides.{nat_tests}
use Rattle.std.proofs.lemmas.List.{append_assoc, append-nil}
use Rattle.std.proofs.lemmas.List.Folds.{list_any_at}
use Rattle.ere.specs.ByteSet.{has, is_line_byte}
use Rattle.ere.specs.Tree.{Tree, Trees}
use Rattle.ere.specs.Tree as tree
use Rattle.ere.specs.Limits.{IsProper, AreProper}
use Rattle.ere.proofs.Words.{WordSet, IsWord, IsWordOfEach, IsWordOfSome, IsWord-from_language, IsWord-from_without_anchors, without_anchors-from_word}
use Rattle.lines.specs.Lines.{lines_of}
use Rattle.query.specs.Trigrams.{TrigramSet, trigram_of, front_trigram, holds_front, trigrams_of_text, trigrams_of_body, has_all_trigrams}
use Rattle.trigram.specs.Texts.{Texts, has_text, with_text, with_texts, distinct}
use Rattle.trigram.specs.Analysis.{Analysis, known, loose, either, both, repeated, bytes_in, one_byte, just_empty, analysis_of, both_all}
use Rattle.trigram.specs.Analysis.{either_all, condition_of}
use Rattle.trigram.specs.Laws.{KnownTextsAreTheWords, MatchingLineMeetsCondition, TrigramsAreHeld, HasEachOnce, SetsHaveEachTextOnce}
use Rattle.trigram.proofs.MemberLemmas.{IsIn, IsIn-has_text, has_text-IsIn, IsIn-distinct, IsIn-from_distinct, IsIn-append_cases}
use Rattle.trigram.proofs.CoverLemmas.{Covers, Concat, Either, Repeated, covers_weaker, covers_either, covers_both, covers_at_least}
use Rattle.trigram.proofs.CoverLemmas.{covers_between, some_held, held_by_prefix, held_by_suffix}
use Rattle.trigram.proofs.ExactLemmas.{IsExact, exact_wider, exact_either, exact_both, exact_at_least, exact_between}

abbrev single_texts : List ℕ → Texts
single_texts bytes = map (λ b. b ∷ []) bytes

IsIn-single : (test : ℕ → Bool) (from count b : ℕ) → from ≤ b → b < from + count → test b ≡ true
    → IsIn (b ∷ []) (single_texts (filter test (range_with_len from count)))
IsIn-single test from zero b low high e = absurd (omega arith)
IsIn-single test from (suc count) b low high e =
    here (test from) refl
    (⊎_elim inl (λ next. inr (IsIn-single test (from + 1) count b (omega arith) (omega arith) e)) (first_or_later from b low))
  where
    first_or_later : (from b : ℕ) → from ≤ b → (from ≡ b) ⊎ (from + 1 ≤ b)
    first_or_later from b low = ⊎_elim inl (λ other. inr (omega arith)) (cases_eq from b)

    here : (t : Bool) → test from ≡ t → (from ≡ b) ⊎ IsIn (b ∷ []) (single_texts (filter test (range_with_len (from + 1) count)))
        → IsIn (b ∷ [])
        (single_texts (cond t (from ∷ filter test (range_with_len (from + 1) count)) (filter test (range_with_len (from + 1) count))))
    here true is i = ⊎_elim (λ same. inl (ap (λ n. n ∷ []) same)) inr i
    here false is i = ⊎_elim (λ same. absurd (true≢false (sym e ∙ ap test (sym same) ∙ is))) (λ later. later) i

IsIn-from_single : (test : ℕ → Bool) (from count : ℕ) (w : List ℕ) → IsIn w (single_texts (filter test (range_with_len from count)))
    → (b : ℕ) × (w ≡ b ∷ []) × IsTrue (test b)
IsIn-from_single test from zero w i = absurd i
IsIn-from_single test from (suc count) w i = here (test from) refl i (IsIn-from_single test (from + 1) count w)
  where
    here : (t : Bool) → test from ≡ t
        → IsIn w
        (single_texts (cond t (from ∷ filter test (range_with_len (from + 1) count)) (filter test (range_with_len (from + 1) count))))
        → (IsIn w (single_texts (filter test (range_with_len (from + 1) count))) → (b : ℕ) × (w ≡ b ∷ []) × IsTrue (test b))
        → (b : ℕ) × (w ≡ b ∷ []) × IsTrue (test b)
    here true is j again = ⊎_elim (λ same. (from, sym same, is)) again j
    here false is j again = again j

byte_below : (members : List Bool) (b : ℕ) → IsTrue (has members b) → b < 256
byte_below members b h =
    let line = (and_parts (is_line_byte b) _ h).0 in
    let low : nat_lt b 256 ≡ true = (and_parts (nat_lt b 256) _ line).0 in
    grind (arith, nat_tests)

covers_one_byte : (members : List Bool) → Covers (one_byte members) (λ word. (b : ℕ) × (word ≡ b ∷ []) × IsTrue (has members b))
unfolding bytes_in
covers_one_byte members = go (nat_le (length (bytes_in members)) 16)
  where
    not_empty : (w : List ℕ) (b : ℕ) → w ≡ b ∷ [] → w ≡ [] → ⊥
    not_empty w b e n = cc

    go : (t : Bool)
        → Covers (cond t (known (single_texts (bytes_in members))) (loose false just_empty just_empty (λ _. true)))
        (λ word. (b : ℕ) × (word ≡ b ∷ []) × IsTrue (has members b))
    go true =
        λ w i.
        subst (λ v. IsIn v (single_texts (bytes_in members))) (sym i.1)
        (IsIn-single (has members) 0 256 i.0 (omega arith) (omega (arith, byte_below members i.0 i.2)) i.2)
    go false = λ w i. record {
      empty = λ e. absurd (not_empty w i.0 i.1 e);
      prefix = ([], inl refl, (w, refl));
      suffix = ([], inl refl, (w, sym (append-nil w)));
      held = λ set all. refl;
    }

exact_one_byte : (members : List Bool) → IsExact (one_byte members) (λ word. (b : ℕ) × (word ≡ b ∷ []) × IsTrue (has members b))
unfolding bytes_in
exact_one_byte members = go (nat_le (length (bytes_in members)) 16)
  where
    go : (t : Bool)
        → IsExact (cond t (known (single_texts (bytes_in members))) (loose false just_empty just_empty (λ _. true)))
        (λ word. (b : ℕ) × (word ≡ b ∷ []) × IsTrue (has members b))
    go true = λ w i. IsIn-from_single (has members) 0 256 w i
    go false = tt

regroup : (words one others : WordSet) (w : List ℕ) → Concat words (Concat one others) w → Concat (Concat words one) others w
regroup words one others w h =
    let last = h.4 in
    (h.0 ++ last.0, last.1, h.2 ∙ ap (λ t. h.0 ++ t) last.2 ∙ sym (append_assoc h.0 last.0 last.1), (h.0, last.0, refl, h.3, last.3), last.4)

regroup_back : (words one others : WordSet) (w : List ℕ) → Concat (Concat words one) others w → Concat words (Concat one others) w
regroup_back words one others w h =
    let first = h.3 in
    (first.0, first.1 ++ h.1, h.2 ∙ ap (λ t. t ++ h.1) first.2 ∙ append_assoc first.0 first.1 h.1, first.3, (first.1, h.1, refl, first.4, h.4))

nothing_after : (words : WordSet) (w : List ℕ) → Concat words (λ v. v ≡ []) w → words w
nothing_after words w h = subst words (sym (h.2 ∙ ap (λ t. h.0 ++ t) h.4 ∙ append-nil h.0)) h.3

nothing_added : (words : WordSet) (w : List ℕ) → words w → Concat words (λ v. v ≡ []) w
nothing_added words w h = (w, [], sym (append-nil w), h, refl)

covers_repeat : (a : Analysis) (words : WordSet) → Covers a words → (least : ℕ) (greatest : Option ℕ)
    → Covers (repeated a least greatest) (Repeated words least greatest)
covers_repeat a words h least None = covers_at_least a words h least
covers_repeat a words h least (Some most) = covers_between a words h least most

exact_repeat : (a : Analysis) (words : WordSet) → IsExact a words → (least : ℕ) (greatest : Option ℕ)
    → IfSome greatest (λ most. least ≤ most) → IsExact (repeated a least greatest) (Repeated words least greatest)
exact_repeat a words h least None below = exact_at_least a words least
exact_repeat a words h least (Some most) below = exact_between a words h least most below

-- Each `mutual` block takes a set of words that it does not use, so that all its functions are in one universe.
mutual
  unfolding analysis_of IsWord

  covers_tree : (t : Tree) → WordSet → Covers (analysis_of t) (IsWord t)
  covers_tree tree.empty d = λ w i. inl (sym i)
  covers_tree (tree.set members) d = covers_one_byte members
  covers_tree tree.at_start d = λ w i. inl (sym i)
  covers_tree tree.at_end d = λ w i. inl (sym i)
  covers_tree (tree.cat tree.none) d = λ w i. inl (sym i)
  covers_tree (tree.cat (tree.more t ts)) d = covers_each ts (analysis_of t) (IsWord t) (covers_tree t d)
  covers_tree (tree.alt tree.none) d = λ w i. absurd i
  covers_tree (tree.alt (tree.more t ts)) d = covers_some ts (analysis_of t) (IsWord t) (covers_tree t d)
  covers_tree (tree.repeat body least greatest) d = covers_repeat (analysis_of body) (IsWord body) (covers_tree body d) least greatest

  covers_each : (ts : Trees) (a : Analysis) (words : WordSet) → Covers a words → Covers (both_all a ts) (Concat words (IsWordOfEach ts))
  covers_each tree.none a words h = covers_weaker a words (Concat words (IsWordOfEach tree.none)) (nothing_after words) h
  covers_each (tree.more t ts) a words h =
      covers_weaker (both_all (both a (analysis_of t)) ts) (Concat (Concat words (IsWord t)) (IsWordOfEach ts))
      (Concat words (IsWordOfEach (tree.more t ts))) (regroup words (IsWord t) (IsWordOfEach ts))
      (covers_each ts (both a (analysis_of t)) (Concat words (IsWord t))
      (covers_both a (analysis_of t) words (IsWord t) h (covers_tree t words)))

  covers_some : (ts : Trees) (a : Analysis) (words : WordSet) → Covers a words → Covers (either_all a ts) (Either words (IsWordOfSome ts))
  covers_some tree.none a words h = covers_weaker a words (Either words (IsWordOfSome tree.none)) (λ w i. ⊎_elim (λ j. j) (λ none. absurd none) i) h
  covers_some (tree.more t ts) a words h =
      covers_weaker (either_all (either a (analysis_of t)) ts) (Either (Either words (IsWord t)) (IsWordOfSome ts))
      (Either words (IsWordOfSome (tree.more t ts))) (λ w i. ⊎_elim (λ j. inl (inl j)) (λ r. ⊎_elim (λ j. inl (inr j)) inr r) i)
      (covers_some ts (either a (analysis_of t)) (Either words (IsWord t))
      (covers_either a (analysis_of t) words (IsWord t) h (covers_tree t words)))

mutual
  unfolding analysis_of IsWord IsProper

  exact_tree : (t : Tree) → WordSet → IsProper t → IsExact (analysis_of t) (IsWord t)
  exact_tree tree.empty d p = λ w i. ⊎_elim sym (λ none. absurd none) i
  exact_tree (tree.set members) d p = exact_one_byte members
  exact_tree tree.at_start d p = λ w i. ⊎_elim sym (λ none. absurd none) i
  exact_tree tree.at_end d p = λ w i. ⊎_elim sym (λ none. absurd none) i
  exact_tree (tree.cat tree.none) d p = λ w i. ⊎_elim sym (λ none. absurd none) i
  exact_tree (tree.cat (tree.more t ts)) d p = exact_each ts (analysis_of t) (IsWord t) p.1.1 (exact_tree t d p.1.0)
  exact_tree (tree.alt tree.none) d p = λ w i. absurd i
  exact_tree (tree.alt (tree.more t ts)) d p = exact_some ts (analysis_of t) (IsWord t) p.1.1 (exact_tree t d p.1.0)
  exact_tree (tree.repeat body least greatest) d p = exact_repeat (analysis_of body) (IsWord body) (exact_tree body d p.1) least greatest p.0

  exact_each : (ts : Trees) (a : Analysis) (words : WordSet) → AreProper ts → IsExact a words → IsExact (both_all a ts) (Concat words (IsWordOfEach ts))
  exact_each tree.none a words p h = exact_wider a words (Concat words (IsWordOfEach tree.none)) (nothing_added words) h
  exact_each (tree.more t ts) a words p h =
      exact_wider (both_all (both a (analysis_of t)) ts) (Concat (Concat words (IsWord t)) (IsWordOfEach ts))
      (Concat words (IsWordOfEach (tree.more t ts))) (regroup_back words (IsWord t) (IsWordOfEach ts))
      (exact_each ts (both a (analysis_of t)) (Concat words (IsWord t)) p.1
      (exact_both a (analysis_of t) words (IsWord t) h (exact_tree t words p.0)))

  exact_some : (ts : Trees) (a : Analysis) (words : WordSet) → AreProper ts → IsExact a words → IsExact (either_all a ts) (Either words (IsWordOfSome ts))
  exact_some tree.none a words p h = exact_wider a words (Either words (IsWordOfSome tree.none)) (λ w i. inl i) h
  exact_some (tree.more t ts) a words p h =
      exact_wider (either_all (either a (analysis_of t)) ts) (Either (Either words (IsWord t)) (IsWordOfSome ts))
      (Either words (IsWordOfSome (tree.more t ts)))
      (λ w i. ⊎_elim (λ l. ⊎_elim (λ j. inl j) (λ j. inr (inl j)) l) (λ j. inr (inr j)) i)
      (exact_some ts (either a (analysis_of t)) (Either words (IsWord t)) p.1
      (exact_either a (analysis_of t) words (IsWord t) h (exact_tree t words p.0)))

pub known_texts : KnownTextsAreTheWords
known_texts t texts proper is before word after = (
  λ h. without_anchors-from_word t before word after (subst (λ a. IsExact a (IsWord t)) is (exact_tree t (IsWord t) proper) word (IsIn-has_text texts word h)),
  λ h. has_text-IsIn texts word (subst (λ a. Covers a (IsWord t)) is (covers_tree t (IsWord t)) word (IsWord-from_without_anchors t before word after h)),
)

meets_condition : (a : Analysis) (words : WordSet) → Covers a words → (w : List ℕ) → words w → (set : TrigramSet)
    → IsTrue (has_all_trigrams w set) → IsTrue (condition_of a set)
meets_condition (known texts) words h w i set all = some_held texts w set (h w i) all
meets_condition (loose n p s c) words h w i set all = (h w i).held set all

prefix_in_set : (text : List ℕ) (set : TrigramSet) → ((g : ℕ) → IsTrue (front_trigram text g) → IsTrue (set g)) → IsTrue (holds_front text set)
prefix_in_set [] set h = refl
prefix_in_set (a ∷ []) set h = refl
prefix_in_set (a ∷ b ∷ []) set h = refl
prefix_in_set (a ∷ b ∷ c ∷ text) set h =
    let same : (trigram_of a b c == trigram_of a b c) ≡ true = grind (arith, nat_tests) in
    h (trigram_of a b c) same

set_has_prefix : (text : List ℕ) (set : TrigramSet) (g : ℕ) → IsTrue (holds_front text set) → IsTrue (front_trigram text g) → IsTrue (set g)
set_has_prefix [] set g h k = absurd (false≢true k)
set_has_prefix (a ∷ []) set g h k = absurd (false≢true k)
set_has_prefix (a ∷ b ∷ []) set g h k = absurd (false≢true k)
set_has_prefix (a ∷ b ∷ c ∷ text) set g h k =
    let same : trigram_of a b c ≡ g = grind (arith, nat_tests) in
    subst (λ n. IsTrue (set n)) same h

held_from_members : (text : List ℕ) (set : TrigramSet) → ((g : ℕ) → IsTrue (trigrams_of_text text g) → IsTrue (set g)) → IsTrue (has_all_trigrams text set)
unfolding has_all_trigrams trigrams_of_text
held_from_members [] set h = refl
held_from_members (b ∷ text) set h =
    and_from (holds_front (b ∷ text) set) (has_all_trigrams text set)
    (prefix_in_set (b ∷ text) set (λ g i. h g (or_left (front_trigram (b ∷ text) g) (trigrams_of_text text g) i)))
    (held_from_members text set (λ g i. h g (or_right (front_trigram (b ∷ text) g) (trigrams_of_text text g) i)))

members_from_held : (text : List ℕ) (set : TrigramSet) → IsTrue (has_all_trigrams text set) → (g : ℕ) → IsTrue (trigrams_of_text text g) → IsTrue (set g)
unfolding has_all_trigrams trigrams_of_text
members_from_held [] set h g i = absurd (false≢true i)
members_from_held (b ∷ text) set h g i =
    let parts = and_parts (holds_front (b ∷ text) set) (has_all_trigrams text set) h in
    ⊎_elim (λ prefix. set_has_prefix (b ∷ text) set g parts.0 prefix) (λ later. members_from_held text set parts.1 g later)
    (or_cases (front_trigram (b ∷ text) g) (trigrams_of_text text g) i)

pub trigrams_held : TrigramsAreHeld
trigrams_held text set = (members_from_held text set, held_from_members text set)

in_body : (body line : List ℕ) → Contains (lines_of body) line → (g : ℕ) → IsTrue (trigrams_of_text line g) → IsTrue (trigrams_of_body body g)
unfolding trigrams_of_body
in_body body line there g h = list_any_at (λ l. trigrams_of_text l g) (lines_of body) there.0 line there.1 (ap (λ l. trigrams_of_text l g) there.2 ∙ h)

pub matching_line : MatchingLineMeetsCondition
matching_line t body line there hit =
    let all = held_from_members line (trigrams_of_body body) (in_body body line there) in
    let whole = subst (λ l. IsTrue (has_all_trigrams l (trigrams_of_body body))) hit.is_line all in
    let word = held_by_prefix hit.word hit.after (trigrams_of_body body) (held_by_suffix hit.before (hit.word ++ hit.after) (trigrams_of_body body) whole) in
    meets_condition (analysis_of t) (IsWord t) (covers_tree t (IsWord t)) hit.word
    (IsWord-from_language t hit.before hit.word hit.after hit.in_language) (trigrams_of_body body) word

not_in : (texts : Texts) (word : List ℕ) → (IsIn word texts → ⊥) → IsFalse (has_text texts word)
not_in texts word n = ⊎_elim (λ yes. absurd (n (IsIn-has_text texts word yes))) (λ f. f) (cases_Bool (has_text texts word))

once_push : (texts : Texts) (text : List ℕ) → HasEachOnce texts → (IsIn text texts → ⊥) → HasEachOnce (texts ++ text ∷ [])
once_push [] text h n = (refl, tt)
once_push (t ∷ texts) text h n = (
  not_in (texts ++ text ∷ []) t (λ i.
      ⊎_elim (λ later. true≢false (sym (has_text-IsIn texts t later) ∙ h.0))
      (λ last. ⊎_elim (λ same. n (inl (sym same))) (λ none. absurd none) last) (IsIn-append_cases texts (text ∷ []) t i)),
  once_push texts text h.1 (λ i. n (inr i)),
)

once_with_text : (texts : Texts) (text : List ℕ) → HasEachOnce texts → HasEachOnce (with_text texts text)
once_with_text texts text h = go (has_text texts text) refl
  where
    go : (b : Bool) → has_text texts text ≡ b → HasEachOnce (cond b texts (texts ++ text ∷ []))
    go true e = h
    go false e = once_push texts text h (λ i. true≢false (sym (has_text-IsIn texts text i) ∙ e))

once_with_texts : (texts others : Texts) → HasEachOnce texts → HasEachOnce (with_texts texts others)
unfolding with_texts
once_with_texts texts [] h = h
once_with_texts texts (text ∷ others) h = once_with_texts (with_text texts text) others (once_with_text texts text h)

pub sets_once : SetsHaveEachTextOnce
sets_once texts = (
  once_with_texts [] texts tt,
  λ word. (
    λ h.
        has_text-IsIn texts word (IsIn-from_distinct texts word (IsIn-has_text (distinct texts) word h)),
    λ h. has_text-IsIn (distinct texts) word (IsIn-distinct texts word (IsIn-has_text texts word h)),
  ),
)
