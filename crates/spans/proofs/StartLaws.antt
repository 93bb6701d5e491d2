-- Laws of where matches begin.
use Rattle.std.proofs.Common.{◌≡◌, ℕ, ◌≤◌, Bool, true, false, IsTrue, MatchOption, Option, Some, None, List, length, refl, arith}
use Rattle.std.proofs.lemmas.Bool.{false≢true}
use Rattle.ere.specs.Edges.{ContainsWholeWord}
use Rattle.ere.specs.Language.{ContainsMatch}
use Rattle.ere.specs.Tree.{Tree}
use Rattle.spans.specs.FirstSpan.{IsMatchAt, IsWhole}
use Rattle.spans.specs.FirstStart.{HasNoStart, IsFirstStart}
use Rattle.spans.specs.Spans.{Spans}
use Rattle.spans.proofs.Meaning.{hit_of_spans, spans_of_hit, spans_within}
use Rattle.spans.proofs.SpanLaws.{whole_by_positions}

match_at : (line : List ℕ) (tree : Tree) (whole_words : Bool) (start end : ℕ) → start ≤ length line → Spans line tree start end
    → (IsTrue whole_words → IsWhole line start end) → IsMatchAt line tree whole_words start end
match_at line tree whole_words start end inside word whole =
    let within = spans_within line tree start end inside word in
    record { ordered = within.0; inside = within.1; word = word; whole = whole }

-- where a match begins, it is within the line
start_inside : (line : List ℕ) (tree : Tree) (whole_words : Bool) (start end : ℕ) → IsMatchAt line tree whole_words start end → start ≤ length line
start_inside line tree whole_words start end here =
    let ordered = here.ordered in
    let inside = here.inside in
    omega arith

none_of_match : (line : List ℕ) (tree : Tree) → HasNoStart line tree false → ContainsMatch tree line → ⊥
none_of_match line tree none hit =
    let leads = spans_of_hit line tree hit in
    none leads.0 leads.1 (match_at line tree false leads.0 leads.1 leads.2 leads.3 (λ e. absurd (false≢true e)))

none_of_whole : (line : List ℕ) (tree : Tree) → HasNoStart line tree true → ContainsWholeWord tree line → ⊥
none_of_whole line tree none hit =
    let leads = (whole_by_positions tree line).0 hit in
    none leads.0 leads.1 (match_at line tree true leads.0 leads.1 leads.2 leads.3 (λ e. leads.4))

pub no_start_plain : (tree : Tree) (line : List ℕ) → (HasNoStart line tree false → ContainsMatch tree line → ⊥)
    × ((ContainsMatch tree line → ⊥) → HasNoStart line tree false)
no_start_plain tree line = (
  λ none. none_of_match line tree none,
  λ never start end here. never (hit_of_spans line tree start end (start_inside line tree false start end here) here.word),
)

pub no_start_whole : (tree : Tree) (line : List ℕ) → (HasNoStart line tree true → ContainsWholeWord tree line → ⊥)
    × ((ContainsWholeWord tree line → ⊥) → HasNoStart line tree true)
no_start_whole tree line = (
  λ none. none_of_whole line tree none,
  λ never start end here.
      never ((whole_by_positions tree line).1 (start, end, start_inside line tree true start end here, here.word, here.whole refl)),
)

-- Where there are starts, the first one is found.
found_if_some : (line : List ℕ) (tree : Tree) (whole_words : Bool) (found : Option ℕ)
    → MatchOption found (HasNoStart line tree whole_words) (IsFirstStart line tree whole_words) → (HasNoStart line tree whole_words → ⊥)
    → (start : ℕ) × (found ≡ Some start) × IsFirstStart line tree whole_words start
found_if_some line tree whole_words None none some = absurd (some none)
found_if_some line tree whole_words (Some start) first some = (start, refl, first)

pub found_plain : (tree : Tree) (line : List ℕ) (found : Option ℕ) → MatchOption found (HasNoStart line tree false) (IsFirstStart line tree false)
    → ContainsMatch tree line → (start : ℕ) × (found ≡ Some start) × IsFirstStart line tree false start
found_plain tree line found h hit = found_if_some line tree false found h (λ none. none_of_match line tree none hit)

pub found_whole : (tree : Tree) (line : List ℕ) (found : Option ℕ) → MatchOption found (HasNoStart line tree true) (IsFirstStart line tree true)
    → ContainsWholeWord tree line → (start : ℕ) × (found ≡ Some start) × IsFirstStart line tree true start
found_whole tree line found h hit = found_if_some line tree true found h (λ none. none_of_whole line tree none hit)
