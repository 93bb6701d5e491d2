-- A text, cut at the line of a position.
use Rattle.std.proofs.Common.{◌≡◌, ◌≢◌, ℕ, suc, ◌+◌, ◌-◌, ◌≤◌, ◌<◌, Bool, true, false, cond, inl, inr, refl, sym, ap, subst, ◌∙◌, arith}
use Rattle.std.proofs.Common.{List, [], ◌∷◌, ◌++◌, length, take, drop, Option, Some, None, slice_index, append_assoc, length-append}
use Rattle.std.proofs.Common.{length-drop, length-take, eqb-true, eq-eqb, ◌==◌, is_some, IsTrue}
use Rattle.std.specs.Prelude.{option_map}
use Rattle.std.proofs.lemmas.List.{append-nil, take-append-drop, take_all, get_or-take, get_or-drop, length-take-le, drop-drop, drop_all}
use Rattle.std.proofs.Math.Seq.{drop-cons, take-length}
use Rattle.std.proofs.lemmas.Bool.{cases_lt, true≢false, false≢true}
use Rattle.std.proofs.lemmas.Bool.Decides.{nat_tests}
use Rattle.std.proofs.lemmas.Option.{none-some, same_Some}
use Rattle.memchr.specs.Find.{is_byte, Nowhere, NoneBefore, Passes}
use Rattle.regex_hir.specs.Re.{Re}
use Rattle.regex_hir.specs.Find.{Match, find}
use Rattle.regex_hir.proofs.FindLemmas.{IsFirst-of_first_between}
use Rattle.ere.specs.Tree.{Tree}
use Rattle.ere.specs.Language.{ContainsMatch}
use Rattle.lines.specs.Lines.{lines_of, with_byte_in_front}
use Rattle.engine.specs.Translation.{StandsFor}
use Rattle.regex_vm.specs.Found.{span}
use Rattle.engine.specs.FirstLine.{line_feeds, IsWholeLines, EndsLine, HasNoFeed, IsLineStart, IsLineEnd, HasNoMatch, IsInside, IsFirstLine}
use Rattle.engine.proofs.LineLemmas.{NoFeed, lines-append, lines-first, lines-last, whole_tail, part_not_whole, NoFeed-push}
use Rattle.engine.proofs.MatchLemmas.{no_match_before, match_here, found_in}

-- ---- what the engine finds

pub found_nothing : (o : Option Match) → None ≡ option_map span o → o ≡ None
found_nothing None e = refl
found_nothing (Some m) e = absurd (none-some (span m) e)

start_within : (re : Re) (text : List ℕ) (from : ℕ) (m : Match) → find re text from ≡ Some m → m.start ≤ length text
unfolding find
start_within re text from m e = (IsFirst-of_first_between _ from (length text) m e).to

-- a match that the engine finds
pub record IsFound (re : Re) (text : List ℕ) (from start end : ℕ) : Type 0 where
  pub m : Match
  pub is : find re text from ≡ Some m
  pub starts : m.start ≡ start
  pub ends : m.trace.end ≡ end
  pub inside : start ≤ length text

pub found_match : (re : Re) (text : List ℕ) (from start end : ℕ) → Some (start, end) ≡ option_map span (find re text from)
    → IsFound re text from start end
found_match re text from start end e = go (find re text from) refl e
  where
    go : (o : Option Match) → find re text from ≡ o → Some (start, end) ≡ option_map span o → IsFound re text from start end
    go None is e = absurd (none-some (start, end) (sym e))
    go (Some m) is e =
        let same = same_Some (start, end) (m.start, m.trace.end) e in
        let starts : m.start ≡ start = sym (ap (λ (p : ℕ × ℕ). p.0) same) in
        record {
          m = m;
          is = is;
          starts = starts;
          ends = sym (ap (λ (p : ℕ × ℕ). p.1) same);
          inside = subst (λ n. n ≤ length text) starts (start_within re text from m is);
        }

-- ---- the end of a line

rest_is : (text : List ℕ) (from : ℕ) → take (length text - from) (drop from text) ≡ drop from text
rest_is text from = take_all (length text - from) (drop from text) (omega (arith, length-drop from text))

at_rest : (text : List ℕ) (from k : ℕ) → slice_index (take (length text - from) (drop from text)) k ≡ slice_index text (from + k)
at_rest text from k = ap (λ t. slice_index t k) (rest_is text from) ∙ get_or-drop from text k 0

no_feed_after : (text : List ℕ) (from n : ℕ) → Nowhere (Passes (is_byte 10) (take (length text - from) (drop from text))) 0 n → HasNoFeed text from (from + n)
no_feed_after text from n none k low high feed =
    let place : from + (k - from) ≡ k = omega arith in
    none (k - from) (omega arith) (omega arith) (eq-eqb _ 10 (at_rest text from (k - from) ∙ ap (slice_index text) place ∙ feed))

pub end_some : (text : List ℕ) (from at : ℕ) → from ≤ length text
    → NoneBefore (Passes (is_byte 10) (take (length text - from) (drop from text))) 0 (length (take (length text - from) (drop from text)))
    at × Passes (is_byte 10) (take (length text - from) (drop from text)) at → IsLineEnd text from (from + at)
end_some text from at low h =
    let inside : from + at < length text = omega (arith, h.0.high, ap length (rest_is text from), length-drop from text) in
    let feed : slice_index text (from + at) ≡ 10 = sym (at_rest text from at) ∙ eqb-true _ 10 h.1 in
    record {
      high = omega arith;
      inside = omega arith;
      line_ends = inr (drop (suc (from + at)) text, drop-cons text (from + at) 0 inside ∙ ap (λ b. b ∷ drop (suc (from + at)) text) feed);
      no_feed = no_feed_after text from at h.0.before;
    }

pub end_none : (text : List ℕ) (from : ℕ) → from ≤ length text
    → Nowhere (Passes (is_byte 10) (take (length text - from) (drop from text))) 0 (length (take (length text - from) (drop from text)))
    → IsLineEnd text from (length text)
end_none text from low none =
    let size : from + length (take (length text - from) (drop from text)) ≡ length text = omega (arith, ap length (rest_is text from), length-drop from text) in
    record {
      high = low;
      inside = omega arith;
      line_ends = inl (drop_all (length text) text (omega arith));
      no_feed = subst (HasNoFeed text from) size (no_feed_after text from (length (take (length text - from) (drop from text))) none);
    }

-- ---- how many line feeds

lines_count_next : (text part : List ℕ) (b : ℕ) (t : Bool) → (b == 10) ≡ t → NoFeed part
    → (b ≡ 10 → line_feeds text ≡ length (lines_of text)) → (b ≢ 10 → line_feeds text ≡ length (lines_of ((part ++ b ∷ []) ++ text)))
    → cond t (suc (line_feeds text)) (line_feeds text) ≡ length (lines_of (part ++ b ∷ text))
lines_count_next text part b true e none feed_next other_next =
    let feed : b ≡ 10 = grind (arith, nat_tests) in
    subst (λ x. suc (line_feeds text) ≡ length (lines_of (part ++ x ∷ text))) (sym feed)
    (ap suc (feed_next feed) ∙ ap length (sym (lines-first part text none)))
lines_count_next text part b false e none feed_next other_next =
    other_next (λ feed. true≢false (sym (eq-eqb b 10 feed) ∙ e)) ∙ ap (λ w. length (lines_of w)) (append_assoc part (b ∷ []) text)

nothing_counted : 0 ≡ length (lines_of [])
unfolding lines_of
nothing_counted = refl

lines_count : (text part : List ℕ) → NoFeed part → IsWholeLines (part ++ text) → line_feeds text ≡ length (lines_of (part ++ text))
unfolding line_feeds
lines_count [] [] none whole_lines = nothing_counted
lines_count [] (b ∷ part) none whole_lines = absurd (part_not_whole b part none (subst IsWholeLines (append-nil (b ∷ part)) whole_lines))
lines_count (b ∷ text) part none whole_lines =
    lines_count_next text part b (b == 10) refl none
    (λ feed. lines_count text [] tt (whole_tail (b ∷ []) text (whole_tail part (b ∷ text) whole_lines)))
    (λ other. lines_count text (part ++ b ∷ []) (NoFeed-push part b none other) (subst IsWholeLines (sym (append_assoc part (b ∷ []) text)) whole_lines))

pub count_lines : (front : List ℕ) → IsWholeLines front → line_feeds front ≡ length (lines_of front)
count_lines front whole_lines = lines_count front [] tt whole_lines

pub line_feeds_append : (front back : List ℕ) → line_feeds (front ++ back) ≡ line_feeds front + line_feeds back
unfolding line_feeds
line_feeds_append [] back = omega arith
line_feeds_append (b ∷ front) back = go (b == 10) (line_feeds_append front back)
  where
    go : (t : Bool) → line_feeds (front ++ back) ≡ line_feeds front + line_feeds back
        → cond t (suc (line_feeds (front ++ back))) (line_feeds (front ++ back))
        ≡ cond t (suc (line_feeds front)) (line_feeds front) + line_feeds back
    go true h = omega (arith, h)
    go false h = h

pub line_feeds_few : (text : List ℕ) → line_feeds text ≤ length text
unfolding line_feeds
line_feeds_few [] = omega arith
line_feeds_few (b ∷ text) = go (b == 10) (line_feeds_few text)
  where
    go : (t : Bool) → line_feeds text ≤ length text → cond t (suc (line_feeds text)) (line_feeds text) ≤ suc (length text)
    go true h = omega (arith, h)
    go false h = omega (arith, h)

-- a text, cut in two
pub line_feeds_cut : (text : List ℕ) (n : ℕ) → line_feeds (take n text) + line_feeds (drop n text) ≡ line_feeds text
line_feeds_cut text n = sym (line_feeds_append (take n text) (drop n text)) ∙ ap line_feeds (take-append-drop n text)

-- ---- the parts

pub from_places : (line : List ℕ) → ((k : ℕ) → k < length line → slice_index line k ≢ 10) → NoFeed line
from_places [] each = tt
from_places (b ∷ line) each = (each 0 (omega arith), from_places line (λ k low. each (suc k) (omega arith)))

no_feed_part : (text : List ℕ) (start end : ℕ) → HasNoFeed text start end → NoFeed (take (end - start) (drop start text))
no_feed_part text start end none =
    from_places (take (end - start) (drop start text)) (λ k low feed.
    let short : k < end - start = omega (arith, low, length-take (end - start) (drop start text)) in
    none (start + k) (omega arith) (omega arith) (sym (get_or-take (end - start) (drop start text) k 0 short ∙ get_or-drop start text k 0) ∙ feed))

both_feedless : (text : List ℕ) (start from end : ℕ) → HasNoFeed text start from → HasNoFeed text from end → HasNoFeed text start end
both_feedless text start from end one two k low high = elim (cases_lt k from) [ inl before ↦ one k low before | inr after ↦ two k after high ]

-- a line of a text, and the lines before and after it
lines_split : (front line after : List ℕ) → IsWholeLines front → NoFeed line → EndsLine after → 0 < length (line ++ after)
    → lines_of (front ++ (line ++ after)) ≡ lines_of front ++ line ∷ lines_of (drop 1 after)
unfolding lines_of
lines_split front line after whole_lines none line_ends some =
    lines-append (line ++ after) front [] tt whole_lines ∙ ap (λ ls. lines_of front ++ ls) (one line after none line_ends some)
  where
    one : (line after : List ℕ) → NoFeed line → EndsLine after → 0 < length (line ++ after) → lines_of (line ++ after) ≡ line ∷ lines_of (drop 1 after)
    one line after none (inr (text, e)) some = ap (λ t. lines_of (line ++ t)) e ∙ (lines-first line text none ∙ ap (λ t. line ∷ lines_of (drop 1 t)) (sym e))
    one [] after none (inl e) some = absurd (omega (arith, ap length e, some))
    one (b ∷ line) after none (inl e) some =
        ap (λ t. lines_of ((b ∷ line) ++ t)) e
        ∙ (ap lines_of (append-nil (b ∷ line)) ∙ (lines-last b line none ∙ ap (λ t. (b ∷ line) ∷ lines_of (drop 1 t)) (sym e)))

front_few : (b : ℕ) (lines : List (List ℕ)) → length (with_byte_in_front b lines) ≤ suc (length lines)
front_few b [] = omega arith
front_few b (line ∷ lines) = omega arith

pub lines_few : (text : List ℕ) → length (lines_of text) ≤ length text
unfolding lines_of
lines_few [] = omega arith
lines_few (b ∷ text) = next (b == 10) (lines_few text)
  where
    next : (t : Bool) → length (lines_of text) ≤ length text → length (cond t ([] ∷ lines_of text) (with_byte_in_front b (lines_of text))) ≤ suc (length text)
    next true h = omega arith
    next false h = omega (arith, front_few b (lines_of text))

pub inside_text : (text : List ℕ) (from start end lines : ℕ) → IsLineStart text from start → IsLineEnd text from end
    → lines ≡ length (lines_of (take start text)) → IsInside text (record { before = lines; start = start; end = end })
inside_text text from start end lines is ends count = record {
  few = omega (arith, count, lines_few (take start text), length-take-le start text (omega (arith, is.low, ends.high, ends.inside)));
  ordered = omega (arith, is.low, ends.high);
  inside = ends.inside;
}

module _ (tree : Tree) (re : Re) (stands : StandsFor tree re) (text : List ℕ) (m : Match) (found : find re text 0 ≡ Some m) where
  pub nothing_after : (start : ℕ) → IsLineStart text m.start start → start ≡ length text → HasNoMatch tree text
  nothing_after start is e =
      let whole_lines : IsWholeLines text = subst IsWholeLines (ap (λ n. take n text) e ∙ take-length text) is.whole_lines in
      no_match_before tree re stands text [] m whole_lines (omega (arith, is.low)) (ap (λ t. find re t 0) (append-nil text) ∙ found)

  pub first_of_line : (start end lines : ℕ) → start < length text → IsLineStart text m.start start → IsLineEnd text m.start end
      → lines ≡ length (lines_of (take start text)) → IsFirstLine tree text (record { before = lines; start = start; end = end })
  first_of_line start end lines some is ends count =
      let whole : text ≡ take start text ++ (take (end - start) (drop start text) ++ drop (end - start) (drop start text)) =
      sym (take-append-drop start text) ∙ ap (λ t. take start text ++ t) (sym (take-append-drop (end - start) (drop start text))) in
      let front_size : length (take start text) ≡ start = length-take-le start text (omega (arith, is.low, ends.high, ends.inside)) in
      let line_size : length (take (end - start) (drop start text)) ≡ end - start =
      length-take-le (end - start) (drop start text) (omega (arith, length-drop start text, ends.inside)) in
      let place : start + (end - start) ≡ end = omega (arith, is.low, ends.high) in
      let line_ends : EndsLine (drop (end - start) (drop start text)) =
      subst EndsLine (ap (λ n. drop n text) (sym place) ∙ sym (drop-drop (end - start) start text)) ends.line_ends in
      let no_feed : NoFeed (take (end - start) (drop start text)) =
      no_feed_part text start end (both_feedless text start m.start end is.no_feed ends.no_feed) in
      let past : start + (end - start + 1) ≡ end + 1 = omega (arith, place) in
      record {
        front = take start text;
        line = take (end - start) (drop start text);
        after = drop (end - start) (drop start text);
        whole = whole;
        whole_lines = is.whole_lines;
        starts = sym front_size;
        ends = omega (arith, front_size, line_size, place);
        counted = count;
        lines =
            ap lines_of whole
            ∙ lines_split (take start text) (take (end - start) (drop start text)) (drop (end - start) (drop start text)) is.whole_lines
            no_feed line_ends
            (omega (
              arith,
              ap length (take-append-drop (end - start) (drop start text)),
              length-append (take (end - start) (drop start text)) (drop (end - start) (drop start text)),
              length-drop start text,
              some,
            ))
            ∙ ap (λ rest. lines_of (take start text) ++ take (end - start) (drop start text) ∷ lines_of rest)
            (drop-drop 1 (end - start) (drop start text) ∙ drop-drop (end - start + 1) start text ∙ ap (λ n. drop n text) past);
        at = refl;
        none_before =
            no_match_before tree re stands (take start text) (drop start text) m is.whole_lines (omega (arith, front_size, is.low))
            (ap (λ t. find re t 0) (take-append-drop start text) ∙ found);
        match =
            match_here tree re stands (take start text) (take (end - start) (drop start text)) (drop (end - start) (drop start text)) m
            is.whole_lines no_feed line_ends (omega (arith, front_size, is.low))
            (omega (arith, front_size, line_size, place, ends.high)) (ap (λ t. find re t 0) (sym whole) ∙ found);
      }

module _ (tree : Tree) (re : Re) (stands : StandsFor tree re) (line : List ℕ) (none : (k : ℕ) → k < length line → slice_index line k ≢ 10) where
  found_here : (o : Option Match) → find re line 0 ≡ o → is_some o ≡ true → ContainsMatch tree line
  found_here None e t = absurd (false≢true t)
  found_here (Some m) e t =
      match_here tree re stands [] line [] m (inl refl) (from_places line none) (inl refl) (omega arith)
      (omega (arith, start_within re line 0 m e)) (ap (λ t. find re t 0) (append-nil line) ∙ e)

  -- the engine matches in a line by itself exactly where the tree does
  pub line_matches : (found : Bool) → found ≡ is_some (find re line 0) → (IsTrue found → ContainsMatch tree line) × (ContainsMatch tree line → IsTrue found)
  line_matches found is = (λ h. found_here (find re line 0) refl (sym is ∙ h), λ c. is ∙ found_in tree re stands line (from_places line none) c)
