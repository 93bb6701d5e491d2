-- Nodes whose words begin at the line's start only.
use Rattle.std.proofs.Common.{◌≡◌, ℕ, ◌<◌, ◌≤◌, Bool, true, false, not, ◌||◌, ◌&&◌, ◌==◌, if◌then◌else◌, IsTrue, List, length, ◌↔◌, inl, inr, refl, sym, ap, ◌∙◌, arith}
use Rattle.std.proofs.lemmas.Bool.Decides.{nat_tests}
use Rattle.spans.proofs.Bits.{false≢true}
use Rattle.simulation.specs.declared.ends.WordRange.{WordRange}
use Rattle.simulation.specs.declared.node.RepeatCounts.{RepeatCounts}
use Rattle.simulation.specs.declared.node.Gaps.{Gaps}
use Rattle.simulation.specs.declared.node.RunLayout.{RunLayout}
use Rattle.simulation.specs.declared.node.Sizes.{Sizes}
use Rattle.simulation.specs.Nodes.{Shape, nothing, set, run, both, either, loop, times, begins_at_start, is_gap, Chain, Reads}
use Rattle.simulation.specs.Private.Reading.{least_past, HasWanted, IsStart, IsWanted}
use Rattle.simulation.proofs.Forward.{reads_forward}
use Rattle.simulation.proofs.Repeats.{reads_inside}
use Rattle.simulation.proofs.Tests.{and_left, and_right, or_cases}

-- What the first of two tests decides, and what the second.
pub and_stops : (one first second : Bool) → one ≡ first → one ≡ false → one ≡ (first && second)
and_stops false false second same none = refl
and_stops false true second same none = absurd (false≢true same)
and_stops true first second same none = absurd (false≢true (sym none))

pub and_goes_on : (one two first second : Bool) → one ≡ first → one ≡ true → two ≡ second → two ≡ (first && second)
and_goes_on true two true second same is next = next
and_goes_on true two false second same is next = absurd (false≢true (sym same))
and_goes_on false two first second same is next = absurd (false≢true is)

pub or_stops : (first second : Bool) → first ≡ true → first ≡ (first || second)
or_stops true second is = refl
or_stops false second is = absurd (false≢true is)

pub or_goes_on : (first two second : Bool) → first ≡ false → two ≡ second → two ≡ (first || second)
or_goes_on true two second none next = absurd (false≢true (sym none))
or_goes_on false two second none next = next

pub starts_nothing : (node : Shape) → node ≡ nothing → true ≡ begins_at_start node
unfolding begins_at_start
starts_nothing node e = ap begins_at_start (sym e)

pub starts_set : (node : Shape) (members : List Bool) → node ≡ set members → false ≡ begins_at_start node
unfolding begins_at_start
starts_set node members e = ap begins_at_start (sym e)

pub starts_run : (node : Shape) (masks : List ℕ) (places : RunLayout) → node ≡ run masks places → false ≡ begins_at_start node
unfolding begins_at_start
starts_run node masks places e = ap begins_at_start (sym e)

pub starts_both : (node left right : Shape) (sizes : Sizes) (before after : Gaps) → node ≡ both left right sizes before after
    → (begins_at_start left && (not before.inside || begins_at_start right)) ≡ begins_at_start node
unfolding begins_at_start
starts_both node left right sizes before after e = ap begins_at_start (sym e)

pub starts_either : (node left right : Shape) (sizes : Sizes) → node ≡ either left right sizes
    → (begins_at_start left && begins_at_start right) ≡ begins_at_start node
unfolding begins_at_start
starts_either node left right sizes e = ap begins_at_start (sym e)

pub starts_loop : (node body : Shape) (own : ℕ) → node ≡ loop body own → begins_at_start body ≡ begins_at_start node
unfolding begins_at_start
starts_loop node body own e = ap begins_at_start (sym e)

pub starts_times : (node body : Shape) (counts : RepeatCounts) → node ≡ times body counts → begins_at_start body ≡ begins_at_start node
unfolding begins_at_start
starts_times node body counts e = ap begins_at_start (sym e)

-- A gap before the line's end that is not inside is at its start.
gap_at_start : (gaps : Gaps) (line : List ℕ) (at : ℕ) → at < length line → IsTrue (not gaps.inside) → IsTrue (is_gap gaps line at) → at ≡ 0
gap_at_start gaps line at inside none h = go (at == 0) refl
  where
    not_true : (t : Bool) → IsTrue (not t) → IsTrue t → ⊥
    not_true true n i = false≢true n
    not_true false n i = false≢true i

    go : (t : Bool) → (at == 0) ≡ t → at ≡ 0
    go true e = grind (arith, nat_tests)
    go false e =
        let apart : (at == length line) ≡ false = grind (arith, nat_tests) in
        let is : is_gap gaps line at ≡ gaps.inside =
        ap (λ t. if t then (if length line == 0 then gaps.alone else gaps.start) else (if at == length line then gaps.end else gaps.inside)) e
        ∙ ap (λ t. if t then gaps.end else gaps.inside) apart in
        absurd (not_true gaps.inside none (sym is ∙ h))

only_at_start : (line : List ℕ) (node : Shape) (from to : ℕ) → IsTrue (begins_at_start node) → Reads line node from to → from ≡ 0
unfolding begins_at_start Chain Reads
only_at_start line nothing from to is h = absurd h
only_at_start line (set members) from to is h = absurd (false≢true is)
only_at_start line (run masks places) from to is h = absurd (false≢true is)
only_at_start line (both left right sizes before after) from to is (inl h) =
    only_at_start line left from h.0 (and_left (begins_at_start left) (not before.inside || begins_at_start right) is) h.1
only_at_start line (both left right sizes before after) from to is (inr (inl h)) =
    let on = reads_forward line right from to h.1 in
    let within = reads_inside line right from to h.1 in
    elim (or_cases (not before.inside) (begins_at_start right) (and_right (begins_at_start left) (not before.inside || begins_at_start right) is)) [
      | inl none ↦ gap_at_start before line from (omega arith) none h.0
      | inr starts ↦ only_at_start line right from to starts h.1
    ]
only_at_start line (both left right sizes before after) from to is (inr (inr h)) =
    only_at_start line left from to (and_left (begins_at_start left) (not before.inside || begins_at_start right) is) h.0
only_at_start line (either left right sizes) from to is (inl h) =
    only_at_start line left from to (and_left (begins_at_start left) (begins_at_start right) is) h
only_at_start line (either left right sizes) from to is (inr h) =
    only_at_start line right from to (and_right (begins_at_start left) (begins_at_start right) is) h
only_at_start line (loop body own) from to is h = only_at_start line body from h.1.0 is h.1.1
only_at_start line (times body counts) from to is h = only_at_start line body from h.1.0 is h.1.1

-- the words that begin at positions from one on and before another
abbrev pub words_in : ℕ → ℕ → Bool → WordRange
words_in first past whole_words = record { first = first; past = past; whole_words = whole_words }

pub past_of : (at_start : Bool) (past cut : ℕ) → cut ≡ least_past at_start past → cut ≤ past
past_of true past cut e = omega arith
past_of false past cut e = omega arith

-- Where all begin at the line's start, none is lost.
pub none_lost : (line : List ℕ) (node : Shape) (at_start whole_words : Bool) (first past cut start end : ℕ) → at_start ≡ begins_at_start node
    → cut ≡ least_past at_start past → IsWanted line node (words_in first past whole_words) start end
    → IsWanted line node (words_in first cut whole_words) start end
none_lost line node at_start whole_words first past cut start end same cut_is is =
    let begins : IsStart line (words_in first cut whole_words) start =
    record { least = is.begins.least; below = below at_start same cut_is; free = is.begins.free } in
    record { begins = begins; word = is.word; free = is.free }
  where
    below : (t : Bool) → t ≡ begins_at_start node → cut ≡ least_past t past → start < cut
    below true e c =
        let zero = only_at_start line node start end (sym e) is.word in
        let low = is.begins.below in
        omega arith
    below false e c = let low = is.begins.below in omega arith

pub none_lost_at_all : (line : List ℕ) (node : Shape) (at_start found whole_words : Bool) (first past cut : ℕ) → at_start ≡ begins_at_start node
    → cut ≡ least_past at_start past → IsTrue found ↔ HasWanted line node (words_in first cut whole_words)
    → IsTrue found ↔ HasWanted line node (words_in first past whole_words)
none_lost_at_all line node at_start found whole_words first past cut same cut_is has = (
  λ is. let word = has.0 is in (word.0, (word.1.0, wider word.0 word.1.0 word.1.1)),
  λ word. has.1 (word.0, (word.1.0, none_lost line node at_start whole_words first past cut word.0 word.1.0 same cut_is word.1.1)),
)
  where
    wider : (start end : ℕ) → IsWanted line node (words_in first cut whole_words) start end → IsWanted line node (words_in first past whole_words) start end
    wider start end is =
        let low = is.begins.below in
        let least = past_of at_start past cut cut_is in
        let begins : IsStart line (words_in first past whole_words) start =
        record { least = is.begins.least; below = omega arith; free = is.begins.free } in
        record { begins = begins; word = is.word; free = is.free }
