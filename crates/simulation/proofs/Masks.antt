-- Marks of the places of a row, in a word for all of their copies.
use Rattle.std.proofs.Common.{◌≡◌, ◌≢◌, ℕ, suc, ◌+◌, ◌-◌, ◌*◌, ◌<◌, ◌≤◌, ◌^◌, Bool, true, false, not, ◌&&◌, ◌==◌, if◌then◌else◌, nat_lt, List, [], ◌∷◌, ◌++◌, length, slice_index, slice_index_or, set}
use Rattle.std.specs.Int.{bit_not}
use Rattle.std.proofs.Common.{w64, inl, inr, refl, sym, ap, subst, ◌∙◌, arith}
use Rattle.std.proofs.lemmas.Bool.Decides.{nat_tests}
use Rattle.std.proofs.lemmas.List.{get_or-set_same, get_or-set_other, length-set, length_push, get_or_past}
use Rattle.std.proofs.Math.Nat.{mul-le-mul_left}
use Rattle.ere.specs.Bits.{has_bit}
use Rattle.ere.specs.ByteSet.{has}
use Rattle.ere.proofs.Bits.{has_not, has_zero}
use Rattle.spans.proofs.Bits.{and_all}
use Rattle.simulation.specs.declared.run.Mark.TheVariants.{Has}
use Rattle.simulation.specs.declared.run.RowSet.{RowSet}
use Rattle.simulation.specs.Pending.{IsSpread}
use Rattle.simulation.specs.Private.Rows.{is_marked, Marks, IsMarked, AreMasks}
use Rattle.simulation.proofs.Forward.{at_or_past}

-- A bit for each copy if `on`, and no other.
pub marks_low : (on : Bool) (result low copies b : ℕ) → copies < 64 → b < copies → has_bit result b ≡ (on && has_bit low b)
    → has_bit low b ≡ has_bit (bit_not w64 0) b → has_bit result b ≡ on
marks_low on result low copies b few inside result_is low_is =
    let small : 0 < 2 ^ 64 = omega arith in
    let bit : b < 64 = omega arith in
    result_is ∙ ap (λ t. on && t) (low_is ∙ has_not 0 b small bit ∙ ap not (has_zero b)) ∙ and_all on

-- One more place moves the others up.
marks_more : (word next copies : ℕ) (test : RowSet → Bool) (row : List RowSet) (place : RowSet) → length row * copies + copies ≤ 64
    → ((b : ℕ) → b < copies → has_bit next b ≡ test place) → ((b : ℕ) → copies + b < 64 → has_bit next (copies + b) ≡ has_bit word b)
    → Marks word copies test row → Marks next copies test (row ++ (place ∷ []))
marks_more word next copies test [] place fits low high marks =
    (λ copy inside. (let same : 0 * copies + copy ≡ copy = omega arith in ap (has_bit next) same ∙ low copy inside), tt)
marks_more word next copies test (other ∷ row) place fits low high (here, rest) = (
  λ copy inside.
      (let same : length (row ++ (place ∷ [])) * copies + copy ≡ copies + (length row * copies + copy) =
      ap (λ n. n * copies + copy) (length_push row place) ∙ omega arith in
      ap (has_bit next) same ∙ high (length row * copies + copy) (omega arith) ∙ here copy inside),
  marks_more word next copies test row place (omega arith) low high rest,
)

-- The places up to one are marked.
pub marked_more : (word next bits copies all : ℕ) (test : RowSet → Bool) (row : List RowSet) (place : RowSet) → length row < all → all * copies + copies ≤ 64
    → ((b : ℕ) → b < 64 → has_bit next b ≡ (if nat_lt b copies then has_bit bits b else has_bit word (b - copies)))
    → ((b : ℕ) → b < copies → has_bit bits b ≡ test place) → IsMarked word copies test row → IsMarked next copies test (row ++ (place ∷ []))
marked_more word next bits copies all test row place few fits bits_are here marked = record {
  marks = marks_more word next copies test row place (omega (arith, rows)) low high marked.marks;
  none = λ bit past inside.
      let long : length (row ++ (place ∷ [])) * copies ≡ copies + length row * copies = ap (λ n. n * copies) (length_push row place) ∙ omega arith in
      let same : copies + (bit - copies) ≡ bit = omega arith in
      subst (λ n. has_bit next n ≡ false) same (high (bit - copies) (omega arith) ∙ marked.none (bit - copies) (omega arith) (omega arith));
}
  where
    rows : length row * copies + copies ≤ all * copies
    rows = let up : copies * suc (length row) ≤ copies * all = mul-le-mul_left copies few in omega arith

    low : (b : ℕ) → b < copies → has_bit next b ≡ test place
    low b inside =
        let below : nat_lt b copies ≡ true = grind (arith, nat_tests) in
        bits_are b (omega arith) ∙ ap (λ t. if t then has_bit bits b else has_bit word (b - copies)) below ∙ here b inside

    high : (b : ℕ) → copies + b < 64 → has_bit next (copies + b) ≡ has_bit word b
    high b inside =
        let past : nat_lt (copies + b) copies ≡ false = grind (arith, nat_tests) in
        let same : copies + b - copies ≡ b = omega arith in
        bits_are (copies + b) inside ∙ ap (λ t. if t then has_bit bits (copies + b) else has_bit word (copies + b - copies)) past ∙ ap (has_bit word) same

-- The mark of the first place.
pub first_mark : (word copies : ℕ) (test : RowSet → Bool) (row : List RowSet) (place : RowSet) → 0 < copies → Marks word copies test (place ∷ row)
    → has_bit word (length row * copies) ≡ test place
first_mark word copies test row place some marks =
    let same : length row * copies + 0 ≡ length row * copies = omega arith in
    subst (λ n. has_bit word n ≡ test place) same (marks.0 0 some)

-- All copies of a place have its mark.
pub marks_alike : (word copies : ℕ) (test : RowSet → Bool) (row : List RowSet) → 0 < copies → Marks word copies test row → (left copy : ℕ) → left < length row
    → copy < copies → has_bit word (left * copies + copy) ≡ has_bit word (left * copies)
marks_alike word copies test [] some marks left copy low inside = absurd (omega arith)
marks_alike word copies test (place ∷ row) some marks left copy low inside =
    elim (at_or_past left (length row) (omega arith)) [
      | inl same ↦
          subst (λ n. has_bit word (n * copies + copy) ≡ has_bit word (n * copies)) (sym same)
          (marks.0 copy inside ∙ sym (first_mark word copies test row place some marks))
      | inr past ↦ marks_alike word copies test row some marks.1 left copy past inside
    ]

pub marked_spread : (word copies after : ℕ) (test : RowSet → Bool) (row : List RowSet) → 0 < copies → suc after ≡ length row → IsMarked word copies test row
    → IsSpread word after copies
marked_spread word copies after test row some all marked = record {
  same = λ left copy within inside. marks_alike word copies test row some marked.marks left copy (omega arith) inside;
  none = λ bit past inside.
      let long : suc after * copies ≡ length row * copies = ap (λ n. n * copies) all in
      marked.none bit (omega arith) inside;
}

-- The masks of the bytes below one.
pub record AreMasksTo (masks : List ℕ) (end copies : ℕ) (row : List RowSet) : Type 0 where
  pub all : length masks ≡ 256
  pub each : (byte : ℕ) → byte < end → IsMarked (slice_index masks byte) copies (is_marked (Has byte)) row

pub masks_more : (masks : List ℕ) (end word copies : ℕ) (row : List RowSet) → end < 256 → AreMasksTo masks end copies row
    → IsMarked word copies (is_marked (Has end)) row → AreMasksTo (set masks end word) (end + 1) copies row
masks_more masks end word copies row inside before here = record {
  all = length-set masks end word ∙ before.all;
  each = λ byte under.
      elim (at_or_past byte end (omega arith)) [
        | inl same ↦
            (let there : end < length masks = omega (arith, before.all) in
            subst (λ n. IsMarked (slice_index (set masks end word) n) copies (is_marked (Has n)) row) (sym same)
            (subst (λ w. IsMarked w copies (is_marked (Has end)) row) (sym (get_or-set_same masks end word 0 there)) here))
        | inr past ↦
            (let other : byte ≢ end = omega arith in
            subst (λ w. IsMarked w copies (is_marked (Has byte)) row) (sym (get_or-set_other masks end byte word 0 other)) (before.each byte past))
      ];
}

has_past : (members : List Bool) (byte : ℕ) → 256 ≤ byte → has members byte ≡ false
has_past members byte past =
    let is : nat_lt byte 256 ≡ false = grind (arith, nat_tests) in
    ap (λ t. (t && (not (byte == 0) && not (byte == 10))) && slice_index_or members byte false) is

no_marks : (byte copies : ℕ) (row : List RowSet) → 256 ≤ byte → Marks 0 copies (is_marked (Has byte)) row
no_marks byte copies [] past = tt
no_marks byte copies (place ∷ row) past =
    (λ copy inside. has_zero (length row * copies + copy) ∙ sym (has_past place.members byte past), no_marks byte copies row past)

-- The masks also of what is no byte.
pub each_marks : (masks : List ℕ) (copies : ℕ) (row : List RowSet) → AreMasks masks copies row → (byte : ℕ)
    → Marks (slice_index masks byte) copies (is_marked (Has byte)) row
each_marks masks copies row made byte = go (nat_lt byte 256) refl
  where
    go : (t : Bool) → nat_lt byte 256 ≡ t → Marks (slice_index masks byte) copies (is_marked (Has byte)) row
    go true e = let small : byte < 256 = grind (arith, nat_tests) in (made.each byte small).marks
    go false e =
        let past : 256 ≤ byte = grind (arith, nat_tests) in
        subst (λ w. Marks w copies (is_marked (Has byte)) row) (sym (get_or_past masks byte 0 (omega (arith, made.all)))) (no_marks byte copies row past)
