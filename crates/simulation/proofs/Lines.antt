-- A line that is read byte by byte.
use Rattle.std.proofs.Common.{◌≡◌, ℕ, suc, ◌+◌, ◌-◌, ◌*◌, ◌/◌, ◌<◌, ◌≤◌, Bool, true, false, not, ◌&&◌, ◌==◌, if◌then◌else◌, IsFalse, IsTrue, List, length, get_or, take, drop, ◌⊎◌, ◌↔◌, inl, inr}
use Rattle.std.proofs.Common.{refl, sym, subst, ap, ◌∙◌, arith, nat_lt, bit_and}
use Rattle.std.proofs.Common.{set as set_word, ◌||◌, MatchOption, Option, Some, None, is_some}
use Rattle.std.proofs.Math.Nat.{div-one}
use Rattle.ere.specs.Bits.{has_bit}
use Rattle.ere.proofs.Bits.{tests_bit}
use Rattle.std.proofs.lemmas.Bool.Decides.{nat_tests}
use Rattle.std.proofs.lemmas.List.{get_or-drop, get_or-take, get_or_past, length-take}
use Rattle.ere.specs.Tree.{Tree}
use Rattle.ere.specs.Language.{ContainsMatch}
use Rattle.spans.specs.Sides.{is_word_after}
use Rattle.spans.specs.Spans.{Spans}
use Rattle.spans.proofs.Bits.{false≢true, empty_word, position_in, position_set_same}
use Rattle.spans.proofs.Meaning.{hit_of_spans, spans_of_hit}
use Rattle.simulation.specs.declared.ends.WordRange.{WordRange}
use Rattle.simulation.specs.declared.node.Gaps.{Gaps}
use Rattle.simulation.specs.Nodes.{Shape, nothing, set, run, both, either, loop, times, is_gap, Reads}
use Rattle.simulation.specs.Pending.{at, first_of, second_of, Pending, Tells, IsKept, IsReady, Advances, size_of}
use Rattle.simulation.specs.Packing.{IsPacked}
use Rattle.simulation.specs.Private.Reading.{AreClear, Ends, HasRoom, HasWanted, IsLastEnd, IsNextEnd, IsReadTo, IsStart, IsWanted, NoneEndsAfter}
use Rattle.simulation.proofs.Cuts.{own_fit}
use Rattle.simulation.proofs.Steps.{told}
use Rattle.simulation.proofs.Tests.{and_left, and_right, or_cases, or_left, or_right}
use Rattle.simulation.proofs.Repeats.{gap_between, reads_inside}
use Rattle.simulation.proofs.Forward.{reads_forward, at_or_past, le_or_lt}

pub clear_all : (cells : List ℕ) → ((k : ℕ) → k < length cells → get_or cells k 0 ≡ 0) → AreClear cells
clear_all cells low i = go (nat_lt i (length cells)) refl
  where
    go : (t : Bool) → nat_lt i (length cells) ≡ t → get_or cells i 0 ≡ 0
    go true e = let inside : i < length cells = grind (arith, nat_tests) in low i inside
    go false e = let past : length cells ≤ i = grind (arith, nat_tests) in get_or_past cells i 0 past

clear_take : (n : ℕ) (cells : List ℕ) → AreClear cells → AreClear (take n cells)
clear_take n cells clear i = go (nat_lt i n) refl
  where
    go : (t : Bool) → nat_lt i n ≡ t → get_or (take n cells) i 0 ≡ 0
    go true e = let low : i < n = grind (arith, nat_tests) in get_or-take n cells i 0 low ∙ clear i
    go false e = let past : n ≤ i = grind (arith, nat_tests) in get_or_past (take n cells) i 0 (omega (arith, length-take n cells))

clear_drop : (n : ℕ) (cells : List ℕ) → AreClear cells → AreClear (drop n cells)
clear_drop n cells clear i = get_or-drop n cells i 0 ∙ clear (n + i)

clear_cell : (cells : List ℕ) (k : ℕ) → AreClear cells → IsTrue (at cells k) → ⊥
clear_cell cells k clear h = false≢true (sym (empty_word cells k (clear (k / 64))) ∙ h)

-- Where no cell is set nothing is pending.
none_pending : (line : List ℕ) (here : ℕ) (node : Shape) (copies : ℕ) (cells : List ℕ) (k to : ℕ) → AreClear cells → Pending line here node copies cells k to → ⊥
unfolding Pending
none_pending line here nothing copies cells k to clear p = p
none_pending line here (set members) copies cells k to clear p = clear_cell cells k clear p.0
none_pending line here (run masks places) copies cells k to clear p = clear_cell cells (p.0 * places.stride + k) clear p.2
none_pending line here (both left right sizes before after) copies cells k to clear (inl p) =
    none_pending line here left copies (first_of sizes cells) k p.0 (clear_take sizes.first (drop sizes.own cells) (clear_drop sizes.own cells clear)) p.1
none_pending line here (both left right sizes before after) copies cells k to clear (inr p) =
    none_pending line here right copies (second_of sizes cells) k to (clear_drop sizes.first (drop sizes.own cells) (clear_drop sizes.own cells clear)) p
none_pending line here (either left right sizes) copies cells k to clear (inl p) =
    none_pending line here left copies (first_of sizes cells) k to (clear_take sizes.first (drop sizes.own cells) (clear_drop sizes.own cells clear)) p
none_pending line here (either left right sizes) copies cells k to clear (inr p) =
    none_pending line here right copies (second_of sizes cells) k to (clear_drop sizes.first (drop sizes.own cells) (clear_drop sizes.own cells clear)) p
none_pending line here (loop body own) copies cells k to clear p = none_pending line here body copies cells k p.0 clear p.2
none_pending line here (times body counts) copies cells k to clear p =
    none_pending line here body (counts.copies * counts.stride) (drop counts.own cells) (p.0 * counts.stride + k) p.1 (clear_drop counts.own cells clear) p.4

clear_tells : (line : List ℕ) (here : ℕ) (node : Shape) (copies : ℕ) (cells : List ℕ) → AreClear cells → Tells line here node copies cells
clear_tells line here node copies cells clear = record {
  set = λ k low is. absurd (clear_cell cells k clear is);
  pending = λ k low p. absurd (none_pending line here node copies cells k here clear p);
}

clear_kept : (line : List ℕ) (here : ℕ) (node : Shape) (copies : ℕ) (cells : List ℕ) → AreClear cells → IsKept line here node copies cells
unfolding IsKept
clear_kept line here nothing copies cells clear = clear_tells line here nothing copies cells clear
clear_kept line here (set members) copies cells clear = clear_tells line here (set members) copies cells clear
clear_kept line here (run masks places) copies cells clear = clear_tells line here (run masks places) copies cells clear
clear_kept line here (both left right sizes before after) copies cells clear = (
  clear_tells line here (both left right sizes before after) copies cells clear,
  clear_kept line here left copies (first_of sizes cells) (clear_take sizes.first (drop sizes.own cells) (clear_drop sizes.own cells clear)),
  clear_kept line here right copies (second_of sizes cells) (clear_drop sizes.first (drop sizes.own cells) (clear_drop sizes.own cells clear)),
)
clear_kept line here (either left right sizes) copies cells clear = (
  clear_tells line here (either left right sizes) copies cells clear,
  clear_kept line here left copies (first_of sizes cells) (clear_take sizes.first (drop sizes.own cells) (clear_drop sizes.own cells clear)),
  clear_kept line here right copies (second_of sizes cells) (clear_drop sizes.first (drop sizes.own cells) (clear_drop sizes.own cells clear)),
)
clear_kept line here (loop body own) copies cells clear = clear_kept line here body copies cells clear
clear_kept line here (times body counts) copies cells clear = (
  clear_tells line here (times body counts) copies cells clear,
  clear_kept line here body (counts.copies * counts.stride) (drop counts.own cells) (clear_drop counts.own cells clear),
)

pub read_none : (line : List ℕ) (here : ℕ) (node : Shape) (wanted : WordRange) (cells : List ℕ) → here ≡ wanted.first → AreClear cells
    → IsReadTo line here node wanted cells
read_none line here node wanted cells at_first clear = record {
  least = omega arith;
  kept = clear_kept line here node 1 cells clear;
  sound = λ to p. absurd (none_pending line here node 1 cells 0 to clear p);
  begun = λ start to begins early late r. let least = begins.least in absurd (omega arith);
}

pub read_more : (line : List ℕ) (here next : ℕ) (node : Shape) (wanted : WordRange) (held : Bool) (entered cells read : List ℕ) → next ≡ suc here
    → IsReadTo line here node wanted cells → Advances line here node 1 entered cells read → at entered 0 ≡ held
    → IsTrue held ↔ IsStart line wanted here → IsReadTo line next node wanted read
read_more line here next node wanted held entered cells read next_is before step held_is starts = subst (λ n. IsReadTo line n node wanted read) (sym next_is)
    (record { least = let least = before.least in omega arith; kept = step.kept; sound = sound; begun = begun })
  where
    low : 0 < 1
    low = omega arith

    sound : (to : ℕ) → Pending line (suc here) node 1 read 0 to → (start : ℕ) × IsStart line wanted start × Reads line node start to
    sound to p = elim (step.sound 0 to low p) [ inl old ↦ before.sound to old | inr new ↦ (here, starts.0 (sym held_is ∙ new.0), new.1) ]

    begun : (start to : ℕ) → IsStart line wanted start → start < suc here → suc here ≤ to → Reads line node start to
        → Pending line (suc here) node 1 read 0 to
    begun start to begins early late r =
        elim (at_or_past start here (let down : start ≤ here = omega arith in down)) [
          | inl same ↦
              step.begins 0 to low (held_is ∙ starts.1 (subst (λ n. IsStart line wanted n) same begins)) (subst (λ n. Reads line node n to) same r)
          | inr past ↦
              (let on : here < to = omega arith in
              let down : here ≤ to = omega arith in
              step.goes_on 0 to low on (before.begun start to begins past down r))
        ]

-- The first cell says whether a word ends here that is looked for, if it is free there.
pub end_here : (line : List ℕ) (here : ℕ) (node : Shape) (wanted : WordRange) (cells : List ℕ) → IsReadTo line here node wanted cells → IsTrue (at cells 0)
    → IsFalse (wanted.whole_words && is_word_after line here) → Ends line node wanted here
end_here line here node wanted cells read held free =
    let low : 0 < 1 = omega arith in
    let word = read.sound here ((told line here node 1 cells read.kept).set 0 low held) in
    (word.0, record { begins = word.1; word = word.2; free = free })

pub set_here : (line : List ℕ) (here : ℕ) (node : Shape) (wanted : WordRange) (cells : List ℕ) → IsReadTo line here node wanted cells → Ends line node wanted here
    → IsTrue (at cells 0)
set_here line here node wanted cells read ends =
    let low : 0 < 1 = omega arith in
    let on = reads_forward line node ends.0 here ends.1.word in
    let down : here ≤ here = omega arith in
    (told line here node 1 cells read.kept).pending 0 low (read.begun ends.0 here ends.1.begins on down ends.1.word)

not_true : (t : Bool) → IsTrue (not t) → IsFalse t
not_true true e = absurd (false≢true e)
not_true false e = refl

pub none_next : (line : List ℕ) (from here next : ℕ) (node : Shape) (wanted : WordRange) (cells : List ℕ) (ended : Bool) → next ≡ suc here
    → ((other : ℕ) → from < other → Ends line node wanted other → here < other) → IsReadTo line next node wanted cells
    → ended ≡ (at cells 0 && not (wanted.whole_words && is_word_after line next)) → ended ≡ false
    → (other : ℕ) → from < other → Ends line node wanted other → next < other
none_next line from here next node wanted cells ended next_is none read ended_is unset other after ends =
    let behind = none other after ends in
    elim (at_or_past next other (let down : next ≤ other = omega arith in down)) [
      | inr past ↦ past
      | inl same ↦
          (let there = subst (λ n. Ends line node wanted n) (sym same) ends in
          absurd (false≢true (sym unset ∙ ended_is ∙ ap (λ t. t && not (wanted.whole_words && is_word_after line next)) (set_here line next node wanted cells read there)
          ∙ ap not there.1.free)))
    ]

pub end_found : (line : List ℕ) (from here next : ℕ) (node : Shape) (wanted : WordRange) (cells : List ℕ) (ended : Bool) → next ≡ suc here → from ≤ here
    → ((other : ℕ) → from < other → Ends line node wanted other → here < other) → IsReadTo line next node wanted cells
    → ended ≡ (at cells 0 && not (wanted.whole_words && is_word_after line next)) → IsTrue ended
    → IsNextEnd line node wanted from next
end_found line from here next node wanted cells ended next_is on none read ended_is is = record {
  after = omega arith;
  ends =
      end_here line next node wanted cells read (and_left (at cells 0) (not (wanted.whole_words && is_word_after line next)) (sym ended_is ∙ is))
      (not_true (wanted.whole_words && is_word_after line next) (and_right (at cells 0) (not (wanted.whole_words && is_word_after line next)) (sym ended_is ∙ is)));
  next = λ other after ends. let behind = none other after ends in omega arith;
}

-- Where no cell is set, and no word can begin any more, none ends later.
pub none_later : (line : List ℕ) (from here : ℕ) (node : Shape) (wanted : WordRange) (cells : List ℕ)
    → ((other : ℕ) → from < other → Ends line node wanted other → here < other) → IsReadTo line here node wanted cells → wanted.past ≤ here → AreClear cells
    → NoneEndsAfter line node wanted from
none_later line from here node wanted cells none read past clear end after ends =
    let behind = none end after ends in
    let below = ends.1.begins.below in
    let early : ends.0 < here = omega arith in
    let late : here ≤ end = omega arith in
    none_pending line here node 1 cells 0 end clear (read.begun ends.0 end ends.1.begins early late ends.1.word)

pub none_past : (line : List ℕ) (from here : ℕ) (node : Shape) (wanted : WordRange) → ((other : ℕ) → from < other → Ends line node wanted other → here < other)
    → length line ≤ here → NoneEndsAfter line node wanted from
none_past line from here node wanted none past end after ends =
    let behind = none end after ends in
    let inside = reads_inside line node ends.0 end ends.1.word in
    omega arith

pub last_of : (line : List ℕ) (node : Shape) (wanted : WordRange) (last : ℕ) → Ends line node wanted last → NoneEndsAfter line node wanted last
    → IsLastEnd line node wanted last
last_of line node wanted last ends none = record { ends = ends; last = λ other there. up other there (le_or_lt other last) }
  where
    up : (other : ℕ) → Ends line node wanted other → (other ≤ last) ⊎ (last < other) → other ≤ last
    up other there (inl low) = low
    up other there (inr high) = absurd (none other high there)

-- A word that is looked for ends after the least position.
pub ends_after : (line : List ℕ) (node : Shape) (wanted : WordRange) (start end : ℕ) → IsWanted line node wanted start end → wanted.first < end
ends_after line node wanted start end is =
    let least = is.begins.least in
    let on = reads_forward line node start end is.word in
    omega arith

-- less of the line is left after it
pub nearer : (line : List ℕ) (node : Shape) (wanted : WordRange) (from end : ℕ) → IsNextEnd line node wanted from end
    → length line - end < length line - from
nearer line node wanted from end next =
    let after = next.after in
    let inside = reads_inside line node next.ends.0 end next.ends.1.word in
    omega arith

pub none_at_all : (line : List ℕ) (node : Shape) (wanted : WordRange) → NoneEndsAfter line node wanted wanted.first → HasWanted line node wanted → ⊥
none_at_all line node wanted none (start, (end, is)) = none end (ends_after line node wanted start end is) (start, is)

-- The empty word in a line is at its start or its end too.
gap_at_ends : (gaps : Gaps) (line : List ℕ) (place : ℕ) → (IsTrue gaps.inside → IsTrue gaps.start × IsTrue gaps.end) → place ≤ length line
    → IsTrue (is_gap gaps line place) → IsTrue (is_gap gaps line 0) ⊎ IsTrue (is_gap gaps line (length line))
gap_at_ends gaps line place steady low h =
    elim (gap_between gaps line 0 place (length line) (omega arith) low (omega arith) h) [
      | inl inside ↦ start (steady inside).0 (length line == 0) refl
      | inr ends ↦ ends
    ]
  where
    start : IsTrue gaps.start → (none_long : Bool) → (length line == 0) ≡ none_long → IsTrue (is_gap gaps line 0) ⊎ IsTrue (is_gap gaps line (length line))
    start s true e =
        let first : place ≡ 0 = let no_byte : length line ≡ 0 = grind (arith, nat_tests) in omega arith in
        inl (subst (λ n. IsTrue (is_gap gaps line n)) first h)
    start s false e = inl (ap (λ b. if b then gaps.alone else gaps.start) e ∙ s)

-- A match is a word or a gap at the start or the end.
pub match_to : (line : List ℕ) (tree : Tree) (node : Shape) (gaps : Gaps) → IsPacked (λ line. Spans line tree) node gaps → ContainsMatch tree line
    → (IsTrue (is_gap gaps line 0) ⊎ IsTrue (is_gap gaps line (length line))) ⊎ HasWanted line node (record { first = 0; past = length line; whole_words = false })
match_to line tree node gaps packed hit =
    let spans = spans_of_hit line tree hit in
    elim (at_or_past spans.0 spans.1 (packed.forward line spans.0 spans.1 spans.3)) [
      | inl same ↦
          inl (gap_at_ends gaps line spans.0 packed.steady spans.2 (packed.gap line spans.0 (subst (λ n. Spans line tree spans.0 n) (sym same) spans.3)))
      | inr past ↦
          (let word = packed.complete line spans.0 spans.1 past spans.3 in
          let inside = reads_inside line node spans.0 spans.1 word in
          let begins : IsStart line (record { first = 0; past = length line; whole_words = false }) spans.0 =
          record { least = omega arith; below = omega arith; free = refl } in
          inr (spans.0, (spans.1, record { begins = begins; word = word; free = refl })))
    ]

pub match_of_gap : (line : List ℕ) (tree : Tree) (node : Shape) (gaps : Gaps) (place : ℕ) → IsPacked (λ line. Spans line tree) node gaps → place ≤ length line
    → IsTrue (is_gap gaps line place) → ContainsMatch tree line
match_of_gap line tree node gaps place packed low g = hit_of_spans line tree place place low (packed.empty line place g)

pub match_of_word : (line : List ℕ) (tree : Tree) (node : Shape) (gaps : Gaps) (wanted : WordRange) → IsPacked (λ line. Spans line tree) node gaps
    → HasWanted line node wanted → ContainsMatch tree line
match_of_word line tree node gaps wanted packed (start, (end, is)) =
    let past = reads_forward line node start end is.word in
    let inside = reads_inside line node start end is.word in
    hit_of_spans line tree start end (omega arith) (packed.sound line start end is.word)

pub first_is : (cells : List ℕ) → (bit_and (get_or cells 0 0) 1 == 1) ≡ at cells 0
first_is cells =
    let low : 0 < 64 = omega arith in
    ap (λ n. bit_and n 1 == 1) (sym (div-one (get_or cells 0 0))) ∙ tests_bit (get_or cells 0 0) 0 ∙ sym (position_in cells 0 0 low)

-- The first cell of some words.
pub first_held : (held : Bool) (word : ℕ) (cells : List ℕ) → 0 < length cells → ((bit : ℕ) → has_bit word bit ≡ (held && has_bit 1 bit))
    → at (set_word cells 0 word) 0 ≡ held
first_held held word cells some word_is =
    let low : 0 < 64 = omega arith in
    position_set_same cells 0 word 0 some low ∙ word_is 0 ∙ whole held
  where
    whole : (t : Bool) → (t && has_bit 1 0) ≡ t
    whole true = refl
    whole false = refl

pub ready_to_read : (line : List ℕ) (here : ℕ) (node : Shape) (wanted : WordRange) (entered cells new_entered new_cells : List ℕ) → HasRoom node entered cells
    → length new_entered ≡ length entered → length new_cells ≡ length cells → here < length line → IsReadTo line here node wanted new_cells
    → IsReady line here node 1 new_entered new_cells
ready_to_read line here node wanted entered cells new_entered new_cells room same_entered same_cells inside read =
    record { whole = room.whole; inside = inside; entered_all = same_entered ∙ room.entered_all; cells_all = same_cells ∙ room.cells_all; kept = read.kept }

pub found_after_gap : (line : List ℕ) (tree : Tree) (node : Shape) (gaps : Gaps) → IsPacked (λ line. Spans line tree) node gaps
    → IsTrue (is_gap gaps line 0 || is_gap gaps line (length line)) → ContainsMatch tree line
found_after_gap line tree node gaps packed h =
    elim (or_cases (is_gap gaps line 0) (is_gap gaps line (length line)) h) [
      | inl g ↦ match_of_gap line tree node gaps 0 packed (omega arith) g
      | inr g ↦ match_of_gap line tree node gaps (length line) packed (omega arith) g
    ]

pub found_by_word : (line : List ℕ) (tree : Tree) (node : Shape) (gaps : Gaps) (there found : Bool) → IsPacked (λ line. Spans line tree) node gaps
    → there ≡ (is_gap gaps line 0 || is_gap gaps line (length line)) → there ≡ false
    → IsTrue found ↔ HasWanted line node (record { first = 0; past = length line; whole_words = false }) → IsTrue found ↔ ContainsMatch tree line
found_by_word line tree node gaps there found packed there_is none word = (
  λ is. match_of_word line tree node gaps (record { first = 0; past = length line; whole_words = false }) packed (word.0 is),
  λ hit.
      elim (match_to line tree node gaps packed hit) [
        | inl ends ↦
            absurd (false≢true (sym none ∙ there_is
            ∙ elim ends [
              | inl g ↦ or_left (is_gap gaps line 0) (is_gap gaps line (length line)) g
              | inr g ↦ or_right (is_gap gaps line 0) (is_gap gaps line (length line)) g
            ]))
        | inr has ↦ word.1 has
      ],
)

-- Some cell is there for one copy.
pub some_cell : (node : Shape) (cells : List ℕ) → length cells ≡ size_of node 1 → 0 < length cells
some_cell node cells long = let fit : 1 ≤ size_of node 1 = own_fit node 1 in omega arith

pub found_at_all : (line : List ℕ) (node : Shape) (wanted : WordRange) (cells : List ℕ) (found : Option ℕ)
    → MatchOption found (NoneEndsAfter line node wanted wanted.first)
    (λ end. IsNextEnd line node wanted wanted.first end × IsReadTo line end node wanted cells)
    → IsTrue (is_some found) ↔ HasWanted line node wanted
found_at_all line node wanted cells None none = (λ is. absurd (false≢true is), λ has. absurd (none_at_all line node wanted none has))
found_at_all line node wanted cells (Some end) next = (λ is. (next.0.ends.0, (end, next.0.ends.1)), λ has. refl)

pub found_next : (line : List ℕ) (node : Shape) (wanted : WordRange) (from end : ℕ) (cells : List ℕ) (found : Option ℕ) → found ≡ Some end
    → MatchOption found (NoneEndsAfter line node wanted from) (λ e. IsNextEnd line node wanted from e × IsReadTo line e node wanted cells)
    → IsNextEnd line node wanted from end × IsReadTo line end node wanted cells
found_next line node wanted from end cells found is next =
    subst (λ o. MatchOption o (NoneEndsAfter line node wanted from) (λ e. IsNextEnd line node wanted from e × IsReadTo line e node wanted cells)) is next

pub found_none : (line : List ℕ) (node : Shape) (wanted : WordRange) (from : ℕ) (cells : List ℕ) (found : Option ℕ) → found ≡ None
    → MatchOption found (NoneEndsAfter line node wanted from) (λ e. IsNextEnd line node wanted from e × IsReadTo line e node wanted cells)
    → NoneEndsAfter line node wanted from
found_none line node wanted from cells found is next =
    subst (λ o. MatchOption o (NoneEndsAfter line node wanted from) (λ e. IsNextEnd line node wanted from e × IsReadTo line e node wanted cells)) is next
