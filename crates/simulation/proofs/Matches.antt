-- What a simulation finds in a line, in the words of the tree.
use Rattle.std.proofs.Common.{◌≡◌, ℕ, ◌+◌, ◌<◌, ◌≤◌, Bool, true, false, IsTrue, ◌↔◌, List, length, MatchBool, MatchOption, Option, Some, None, inl, inr, refl, sym, subst, arith}
use Rattle.ere.specs.Tree.{Tree}
use Rattle.spans.specs.FirstSpan.{IsMatchAt}
use Rattle.spans.specs.Passes.{HasNoEmpty, HasNoSpanAt, IsFirstEmpty, IsLongestEnd, NoSpanBegins, SomeSpanBegins}
use Rattle.spans.specs.Spans.{Spans}
use Rattle.spans.proofs.Bits.{false≢true}
use Rattle.spans.proofs.Sides.{free_end, free_start, match_of_free}
use Rattle.simulation.specs.declared.ends.WordRange.{WordRange}
use Rattle.simulation.specs.declared.node.Gaps.{Gaps}
use Rattle.simulation.specs.Packing.{IsPacked}
use Rattle.simulation.specs.Nodes.{begins_at_start, Shape}
use Rattle.simulation.specs.Private.Reading.{least_past, HasNoFreeGap, HasWanted, IsFirstGap, IsFreeGap, IsLastEnd, IsStart, IsWanted}
use Rattle.simulation.proofs.Anchors.{none_lost, past_of, words_in}
use Rattle.simulation.proofs.Forward.{le_or_lt, reads_forward}
use Rattle.simulation.proofs.Repeats.{reads_inside}

-- A match that is not empty is a word that is looked for, and the other way round.
wanted_of_match : (line : List ℕ) (tree : Tree) (node : Shape) (gaps : Gaps) (wanted : WordRange) (start end : ℕ) → IsPacked (λ line. Spans line tree) node gaps
    → IsMatchAt line tree wanted.whole_words start end → start < end → wanted.first ≤ start → start < wanted.past
    → IsWanted line node wanted start end
wanted_of_match line tree node gaps wanted start end packed m some low below =
    let begins : IsStart line wanted start =
    record { least = low; below = below; free = free_start line tree wanted.whole_words start end m } in
    record { begins = begins; word = packed.complete line start end some m.word; free = free_end line tree wanted.whole_words start end m }

match_of_wanted : (line : List ℕ) (tree : Tree) (node : Shape) (gaps : Gaps) (wanted : WordRange) (start end : ℕ) → IsPacked (λ line. Spans line tree) node gaps
    → IsWanted line node wanted start end → IsMatchAt line tree wanted.whole_words start end
match_of_wanted line tree node gaps wanted start end packed is =
    let forward = reads_forward line node start end is.word in
    let inside = reads_inside line node start end is.word in
    match_of_free line tree wanted.whole_words start end (omega arith) (packed.sound line start end is.word) is.begins.free is.free

-- An empty match is a free empty word.
gap_of_match : (line : List ℕ) (tree : Tree) (node : Shape) (gaps : Gaps) (whole_words : Bool) (at end : ℕ) → IsPacked (λ line. Spans line tree) node gaps
    → IsMatchAt line tree whole_words at end → at ≡ end → IsFreeGap gaps line whole_words at
gap_of_match line tree node gaps whole_words at end packed m same =
    let inside = m.inside in
    let here : IsMatchAt line tree whole_words at at = subst (λ n. IsMatchAt line tree whole_words at n) (sym same) m in
    record {
      inside = omega arith;
      gap = packed.gap line at here.word;
      free_before = free_start line tree whole_words at at here;
      free_after = free_end line tree whole_words at at here;
    }

match_of_gap : (line : List ℕ) (tree : Tree) (node : Shape) (gaps : Gaps) (whole_words : Bool) (at : ℕ) → IsPacked (λ line. Spans line tree) node gaps
    → IsFreeGap gaps line whole_words at → IsMatchAt line tree whole_words at at
match_of_gap line tree node gaps whole_words at packed free =
    match_of_free line tree whole_words at at free.inside (packed.empty line at free.gap) free.free_before free.free_after

-- A match that is not empty begins in a range, or none does.
pub found_span : (line : List ℕ) (tree : Tree) (node : Shape) (gaps : Gaps) (at_start found whole_words : Bool) (first past cut : ℕ)
    → IsPacked (λ line. Spans line tree) node gaps → at_start ≡ begins_at_start node → cut ≡ least_past at_start past
    → IsTrue found ↔ HasWanted line node (words_in first cut whole_words)
    → MatchBool found (SomeSpanBegins line tree whole_words first past) (NoSpanBegins line tree whole_words first past)
found_span line tree node gaps at_start true whole_words first past cut packed starts cut_is found =
    let has = found.0 refl in
    let is = has.1.1 in
    let below = is.begins.below in
    let least = past_of at_start past cut cut_is in (
      has.0,
      has.1.0,
      omega arith,
      record {
        begins = is.begins.least;
        some = reads_forward line node has.0 has.1.0 is.word;
        is_match = match_of_wanted line tree node gaps (words_in first cut whole_words) has.0 has.1.0 packed is;
      },
    )
found_span line tree node gaps at_start false whole_words first past cut packed starts cut_is found = λ start end s.
    elim (le_or_lt past start) [
      | inl behind ↦ behind
      | inr before ↦
          absurd (false≢true (found.1 (
            start,
            (
              end,
              none_lost line node at_start whole_words first past cut start end starts cut_is
                  (wanted_of_match line tree node gaps (words_in first past whole_words) start end packed s.is_match s.some s.begins before),
            ),
          )))
    ]

-- The last end of the words that begin at a position is that of the longest match there.
pub found_end : (line : List ℕ) (tree : Tree) (node : Shape) (gaps : Gaps) (at_start : Bool) (found : Option ℕ) (whole_words : Bool) (start past cut : ℕ)
    → IsPacked (λ line. Spans line tree) node gaps → at_start ≡ begins_at_start node → past ≡ start + 1 → cut ≡ least_past at_start past
    → MatchOption found (HasWanted line node (words_in start cut whole_words) → ⊥) (IsLastEnd line node (words_in start cut whole_words))
    → MatchOption found (HasNoSpanAt line tree whole_words start) (IsLongestEnd line tree whole_words start)
found_end line tree node gaps at_start None whole_words start past cut packed starts past_is cut_is none = λ end s.
    none (
      start,
      (
        end,
        none_lost line node at_start whole_words start past cut start end starts cut_is
            (wanted_of_match line tree node gaps (words_in start past whole_words) start end packed s.is_match s.some (omega arith) (omega arith)),
      ),
    )
found_end line tree node gaps at_start (Some end) whole_words start past cut packed starts past_is cut_is last = record {
  is_span = record { begins = omega arith; some = reads_forward line node start end here.word; is_match = match_of_wanted line tree node gaps only start end packed here };
  longest = λ other s.
      last.last other (
        start,
        none_lost line node at_start whole_words start past cut start other starts cut_is
            (wanted_of_match line tree node gaps (words_in start past whole_words) start other packed s.is_match s.some (omega arith) (omega arith)),
      );
}
  where
    only : WordRange
    only = words_in start cut whole_words

    here : IsWanted line node only start end
    here =
        let low = last.ends.1.begins.least in
        let below = last.ends.1.begins.below in
        let least = past_of at_start past cut cut_is in
        let same : last.ends.0 ≡ start = omega arith in
        subst (λ n. IsWanted line node only n end) same last.ends.1

-- Nothing that is not empty begins at the line's end.
pub none_at_end : (line : List ℕ) (tree : Tree) (whole_words : Bool) (start : ℕ) → length line ≤ start → HasNoSpanAt line tree whole_words start
none_at_end line tree whole_words start past end s =
    let some = s.some in
    let inside = s.is_match.inside in
    omega arith

-- The first free empty word is the first empty match.
pub found_empty : (line : List ℕ) (tree : Tree) (node : Shape) (gaps : Gaps) (found : Option ℕ) (whole_words : Bool) → IsPacked (λ line. Spans line tree) node gaps
    → MatchOption found (HasNoFreeGap gaps line whole_words) (IsFirstGap gaps line whole_words)
    → MatchOption found (HasNoEmpty line tree whole_words) (IsFirstEmpty line tree whole_words)
found_empty line tree node gaps None whole_words packed none = λ at m. none at (gap_of_match line tree node gaps whole_words at at packed m refl)
found_empty line tree node gaps (Some first) whole_words packed is = record {
  is_match = match_of_gap line tree node gaps whole_words first packed is.free;
  leftmost = λ other m. is.first other (gap_of_match line tree node gaps whole_words other other packed m refl);
}
