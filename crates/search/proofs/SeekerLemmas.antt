-- The first span of a line, and where its first match begins: by starts that a finder gives, and by halving.
use Rattle.std.proofs.Common.{◌≡◌, ℕ, ◌+◌, ◌-◌, ◌≤◌, ◌<◌, Bool, true, false, List, length, Option, Some, None, IfSome, MatchOption, unwrap_or}
use Rattle.std.proofs.Common.{inl, inr, sym, subst, ◌∙◌, arith}
use Rattle.std.specs.Prelude.{MatchBool}
use Rattle.std.proofs.lemmas.Bool.{cases_lt, false≢true}
use Rattle.ere.specs.Tree.{Tree}
use Rattle.engine.specs.Patterns.{IsFinderOf}
use Rattle.engine.specs.NextMatch.{HasNoMatchFrom, IsNextMatch}
use Rattle.engine.specs.declared.finding.Finder.{Finder}
use Rattle.spans.specs.FirstSpan.{HasNoSpan, IsFirstSpan, IsMatchAt, IsSpan}
use Rattle.spans.specs.FirstStart.{HasNoStart, IsFirstStart}
use Rattle.spans.specs.Passes.{HasNoEmpty, HasNoSpanAt, IsFirstEmpty, IsLongestEnd, NoSpanBegins, SomeSpanBegins}
use Rattle.spans.specs.declared.span.Span.{Span as SpanValue}
use Rattle.prepare.specs.Prepared.{request_of}
use Rattle.search.specs.Private.Seekers.{CanShow, IsLeastStart, IsTried, Seeks, shows_matches}
use Rattle.views.specs.Rows.{shown_tree}
use Rattle.search.specs.declared.gathered.Wanted.{Wanted}
use Rattle.search.specs.declared.seeker.Seeker.{Seeker as SeekerValue}
use Rattle.search.specs.declared.seeker.Tried.{Tried as TriedValue}
use Rattle.search.specs.declared.seeker.Tried.TheVariants.{Span, From}

-- ---- results

pub some_of : {X : Type 0} (A : Type 0) (B : X → Type 0) (found : Option X) (x : X) → found ≡ Some x → MatchOption found A B → B x
some_of A B found x is m = subst (λ o. MatchOption o A B) is m

pub none_of : {X : Type 0} (A : Type 0) (B : X → Type 0) (found : Option X) → found ≡ None → MatchOption found A B → A
none_of A B found is m = subst (λ o. MatchOption o A B) is m

pub case-true : (b : Bool) (P Q : Type 0) → b ≡ true → MatchBool b P Q → P
case-true b P Q e h = subst (λ x. MatchBool x P Q) e h

pub case-false : (b : Bool) (P Q : Type 0) → b ≡ false → MatchBool b P Q → Q
case-false b P Q e h = subst (λ x. MatchBool x P Q) e h

-- ---- a seeker

pub finder_in : (tree : Tree) (seeker : SeekerValue) (finder : Finder) → seeker.finder ≡ Some finder → Seeks tree seeker → IsFinderOf tree finder
finder_in tree seeker finder is seeks = subst (λ o. IfSome o (IsFinderOf tree)) is seeks.finder

pub can_show_none : (wanted : Wanted) → shows_matches wanted.view ≡ false → CanShow wanted None
unfolding CanShow
can_show_none wanted none = none

pub can_show : (wanted : Wanted) (seeker : SeekerValue) (tree : Tree) → tree ≡ shown_tree (request_of wanted.prepared.now) → Seeks tree seeker
    → CanShow wanted (Some seeker)
unfolding CanShow
can_show wanted seeker tree same seeks = subst (λ t. Seeks t seeker) same seeks

pub seeks_shown : (wanted : Wanted) (found : Option SeekerValue) (seeker : SeekerValue) → found ≡ Some seeker → CanShow wanted found
    → Seeks (shown_tree (request_of wanted.prepared.now)) seeker
unfolding CanShow
seeks_shown wanted found seeker is shows = subst (λ o. CanShow wanted o) is shows

-- If columns or spans are shown, there is a seeker.
pub has_seeker : (wanted : Wanted) (found : Option SeekerValue) → shows_matches wanted.view ≡ true → found ≡ None → CanShow wanted found → ⊥
unfolding CanShow
has_seeker wanted found matches is shows = false≢true (sym (subst (λ o. CanShow wanted o) is shows) ∙ matches)

-- ---- where whole words are not asked for, by a finder alone

pub first_by_finder : (line : List ℕ) (tree : Tree) (start end : ℕ) → IsNextMatch line tree 0 start end → IsFirstStart line tree false start
first_by_finder line tree start end is = record { begins = (end, is.is_match); leftmost = λ before earlier. is.leftmost before (omega arith) earlier }

module _ (line : List ℕ) (tree : Tree) (whole_words : Bool) where
  -- the same span, looked for from another position on
  span_from : (from other start end : ℕ) → other ≤ start → IsSpan line tree whole_words from start end → IsSpan line tree whole_words other start end
  span_from from other start end low s = record { begins = low; some = s.some; is_match = s.is_match }

  -- ---- halving

  -- Of the spans from a position on, none begins before `low`, and some begins before `high`.
  pub record IsHalved (from past low high : ℕ) : Type 0 where
    pub after : from ≤ low
    pub inside : high ≤ past
    pub least : NoSpanBegins line tree whole_words from low
    pub some : SomeSpanBegins line tree whole_words low high

  pub halved_first : (from past : ℕ) → SomeSpanBegins line tree whole_words from past → IsHalved from past from past
  halved_first from past some = record { after = omega arith; inside = omega arith; least = λ start end s. s.begins; some = some }

  pub halved_low : (from past low middle high : ℕ) → IsHalved from past low high → middle ≤ high
      → SomeSpanBegins line tree whole_words low middle → IsHalved from past low middle
  halved_low from past low middle high h below some =
      record { after = h.after; inside = omega (arith, h.inside); least = h.least; some = some }

  -- If none begins in a block, all begin behind it.
  pub begin_behind : (from low middle : ℕ) → NoSpanBegins line tree whole_words from low → NoSpanBegins line tree whole_words low middle
      → NoSpanBegins line tree whole_words from middle
  begin_behind from low middle least none start end s = none start end (span_from from low start end (least start end s) s)

  pub halved_high : (from past low middle high : ℕ) → IsHalved from past low high → low ≤ middle
      → NoSpanBegins line tree whole_words low middle → IsHalved from past middle high
  halved_high from past low middle high h above none =
      let least = begin_behind from low middle h.least none in
      let start = h.some.0 in
      let end = h.some.1 in
      let s = h.some.3 in
      let behind = least start end (span_from low from start end (omega (arith, h.after, s.begins)) s) in
      record {
        after = omega (arith, h.after);
        inside = h.inside;
        least = least;
        some = (start, end, h.some.2, span_from low middle start end behind s);
      }

  pub least_of : (from past low high : ℕ) → IsHalved from past low high → high - low ≤ 1 → IsLeastStart line tree whole_words from past low
  least_of from past low high h narrow =
      let start = h.some.0 in
      let end = h.some.1 in
      let s = h.some.3 in
      let below = h.some.2 in
      let begins = s.begins in
      let same : start ≡ low = omega arith in
      record {
        begins =
            (end, subst (λ n. IsSpan line tree whole_words from n end) same (span_from low from start end (omega (arith, h.after)) s));
        before = omega (arith, h.inside);
        least = h.least;
      }

  -- The least start of a block is the least of all, if none begins before the block.
  pub least_in_block : (from past first end start : ℕ) → from ≤ first → end ≤ past → NoSpanBegins line tree whole_words from first
      → IsLeastStart line tree whole_words first end start → IsLeastStart line tree whole_words from past start
  least_in_block from past first end start after inside none is = record {
    begins = (is.begins.0, span_from first from start is.begins.0 (omega (arith, is.begins.1.begins)) is.begins.1);
    before = omega (arith, is.before);
    least = λ other last s. is.least other last (span_from from first other last (none other last s) s);
  }

  -- If all begin at a position or later, all begin at one before it or later.
  pub none_left : (from past first : ℕ) → NoSpanBegins line tree whole_words from first → past ≤ first → NoSpanBegins line tree whole_words from past
  none_left from past first least high start end s = let behind = least start end s in omega arith

  -- ---- spans

  no_more : (from next : ℕ) → NoSpanBegins line tree whole_words from next → length line ≤ next → HasNoSpan line tree whole_words from
  no_more from next least high start end s = let behind = least start end s in omega (arith, s.some, s.is_match.inside)

  pub first_of_start : (from start end : ℕ) → from ≤ start → NoSpanBegins line tree whole_words from start
      → IsLongestEnd line tree whole_words start end → IsFirstSpan line tree whole_words from (record { start = start; end = end })
  first_of_start from start end after least longest = record {
    is_span = span_from start from start end after longest.is_span;
    leftmost = least;
    longest = λ other s. longest.longest other (span_from from start start other (omega arith) s);
  }

  pub first_of_least : (from start end : ℕ) → IsLeastStart line tree whole_words from (length line) start
      → IsLongestEnd line tree whole_words start end → IsFirstSpan line tree whole_words from (record { start = start; end = end })
  first_of_least from start end is longest = first_of_start from start end is.begins.1.begins is.least longest

  -- A span begins at the least start, so one ends.
  pub some_end : (from past start : ℕ) → IsLeastStart line tree whole_words from past start → HasNoSpanAt line tree whole_words start → ⊥
  some_end from past start is none = none is.begins.0 (span_from from start start is.begins.0 (omega arith) is.begins.1)

  pub none_halved : (from : ℕ) → NoSpanBegins line tree whole_words from (length line) → HasNoSpan line tree whole_words from
  none_halved from least = no_more from (length line) least (omega arith)

  -- If none begins before a position, the first span from there on is the first one.
  pub first_behind : (from next : ℕ) (found : Option SpanValue) → (from ≤ next) × NoSpanBegins line tree whole_words from next
      → MatchOption found (HasNoSpan line tree whole_words next) (IsFirstSpan line tree whole_words next)
      → MatchOption found (HasNoSpan line tree whole_words from) (IsFirstSpan line tree whole_words from)
  first_behind from next None none nothing = λ start end s. nothing start end (span_from from next start end (none.1 start end s) s)
  first_behind from next (Some span) none first = record {
    is_span = span_from next from span.start span.end (omega (arith, none.0, first.is_span.begins)) first.is_span;
    leftmost = λ start end s. first.leftmost start end (span_from from next start end (none.1 start end s) s);
    longest = λ end s. first.longest end (span_from from next span.start end first.is_span.begins s);
  }

  pub tried_span : (from : ℕ) (tried : TriedValue) (span : SpanValue) → tried ≡ Span span → IsTried line tree whole_words from tried
      → IsFirstSpan line tree whole_words from span
  unfolding IsTried
  tried_span from tried span is known = subst (λ t. IsTried line tree whole_words from t) is known

  pub tried_from : (from : ℕ) (tried : TriedValue) (next : ℕ) → tried ≡ From next → IsTried line tree whole_words from tried
      → (from ≤ next) × NoSpanBegins line tree whole_words from next
  unfolding IsTried
  tried_from from tried next is known = subst (λ t. IsTried line tree whole_words from t) is known

  -- ---- starts that a finder gives

  -- A span is a match, also where whole words are not asked for.
  plain : (start end : ℕ) → IsMatchAt line tree whole_words start end → IsMatchAt line tree false start end
  plain start end m = record { ordered = m.ordered; inside = m.inside; word = m.word; whole = λ e. absurd (false≢true e) }

  -- If no match begins from a position on, no span does.
  pub none_found : (from next : ℕ) → NoSpanBegins line tree whole_words from next → HasNoMatchFrom line tree next
      → NoSpanBegins line tree whole_words from (length line)
  none_found from next least none start end s = absurd (none start (least start end s) end (plain start end s.is_match))

  -- No span begins before the next match.
  pub begin_at_start : (from next start to : ℕ) → NoSpanBegins line tree whole_words from next → IsNextMatch line tree next start to
      → NoSpanBegins line tree whole_words from start
  begin_at_start from next start to least is other end s =
      elim (cases_lt other start) [
        | inl before ↦ absurd (is.leftmost other (least other end s) before end (plain other end s.is_match))
        | inr behind ↦ behind
      ]

  -- If no span begins at the position, all begin after it.
  pub begin_after : (from start : ℕ) → NoSpanBegins line tree whole_words from start → HasNoSpanAt line tree whole_words start
      → NoSpanBegins line tree whole_words from (start + 1)
  begin_after from start least none other end s =
      elim (cases_lt start other) [
        | inl behind ↦ omega (arith, behind)
        | inr before ↦ (let low = least other end s in
            let same : other ≡ start = omega arith in
            absurd (none end (subst (λ n. IsSpan line tree whole_words start n end) same (span_from from start other end low s))))
      ]

  -- ---- where the first match begins

  -- A match that is not empty is a span.
  span_of : (start end : ℕ) → IsMatchAt line tree whole_words start end → start < end → IsSpan line tree whole_words 0 start end
  span_of start end m some = record { begins = omega arith; some = some; is_match = m }

  empty_of : (start end : ℕ) → IsMatchAt line tree whole_words start end → end ≤ start → IsMatchAt line tree whole_words start start
  empty_of start end m none =
      let ordered = m.ordered in
      let same : end ≡ start = omega arith in
      subst (λ n. IsMatchAt line tree whole_words start n) same m

  -- Before the first empty match, or before the line's end if there is none, each match is a span.
  spans_before : (empty : Option ℕ) (past : ℕ) → past ≡ unwrap_or empty (length line)
      → MatchOption empty (HasNoEmpty line tree whole_words) (IsFirstEmpty line tree whole_words)
      → (start end : ℕ) → start < past → IsMatchAt line tree whole_words start end → IsSpan line tree whole_words 0 start end
  spans_before empty past is empties start end below m =
      elim (cases_lt start end) [
        | inl some ↦ span_of start end m some
        | inr none ↦ absurd (no_empty empty is empties (empty_of start end m none))
      ]
    where
      no_empty : (empty : Option ℕ) → past ≡ unwrap_or empty (length line)
          → MatchOption empty (HasNoEmpty line tree whole_words) (IsFirstEmpty line tree whole_words) → IsMatchAt line tree whole_words start start → ⊥
      no_empty None is none here = none start here
      no_empty (Some first) is first_is here = let after = first_is.leftmost start here in omega (arith, is)

  pub first_by_halving : (empty : Option ℕ) (past start : ℕ) → past ≡ unwrap_or empty (length line)
      → MatchOption empty (HasNoEmpty line tree whole_words) (IsFirstEmpty line tree whole_words)
      → IsLeastStart line tree whole_words 0 past start → IsFirstStart line tree whole_words start
  first_by_halving empty past start is empties least = record {
    begins = (least.begins.0, least.begins.1.is_match);
    leftmost = λ before earlier end m.
        (let below : before < past = omega (arith, earlier, least.before) in
        let behind = least.least before end (spans_before empty past is empties before end below m) in
        omega arith);
  }

  -- If no span begins before the first empty match, that match is the first one.
  pub empty_first : (empty : Option ℕ) (past : ℕ) → past ≡ unwrap_or empty (length line)
      → MatchOption empty (HasNoEmpty line tree whole_words) (IsFirstEmpty line tree whole_words) → NoSpanBegins line tree whole_words 0 past
      → MatchOption empty (HasNoStart line tree whole_words) (IsFirstStart line tree whole_words)
  empty_first None past is none no_spans = λ start end m.
      elim (cases_lt start end) [
        | inl some ↦ (let behind = no_spans start end (span_of start end m some) in
            let inside = m.inside in
            omega (arith, is))
        | inr empty ↦ none start (empty_of start end m empty)
      ]
  empty_first (Some first) past is first_is no_spans = record {
    begins = (first, first_is.is_match);
    leftmost = λ before earlier end m.
        (let below : before < past = omega (arith, is, earlier) in
        let behind = no_spans before end (spans_before (Some first) past is first_is before end below m) in
        omega arith);
  }
