-- From one piece of a body to the next.
use Rattle.std.proofs.Common.{◌≡◌, ℕ, suc, ◌+◌, ◌-◌, ◌<◌, ◌≤◌, inl, inr, slice_index, List, [], ◌∷◌, ◌++◌, length, take, drop, sym, ◌∙◌, ap, arith, add-one}
use Rattle.std.proofs.lemmas.Bool.{cases_lt}
use Rattle.std.proofs.lemmas.List.{length-take, length-drop, take_all, take-append-drop, get_or-drop}
use Rattle.std.proofs.Math.Seq.{take-suc}
use Rattle.lines.specs.Lines.{lines_of}
use Rattle.engine.specs.FirstLine.{EndsLine, IsWholeLines, HasNoFeed, IsLineEnd}
use Rattle.engine.proofs.LineLemmas.{lines-append}
use Rattle.engine.proofs.CutLemmas.{lines_few}
use Rattle.search.specs.Private.Pieces.{IsPiece}
use Rattle.views.specs.Found.{found, numbered}

-- what is after the first `end` bytes of a text
abbrev pub rest_of : List ℕ → ℕ → List ℕ
rest_of text end = take (length text - end) (drop end text)

rest_is : (text : List ℕ) (end : ℕ) → rest_of text end ≡ drop end text
rest_is text end = take_all (length text - end) (drop end text) (omega (arith, length-drop end text))

pub numbered-append : (name : List ℕ) (line : ℕ) (xs ys : List (List ℕ))
    → numbered name line (xs ++ ys) ≡ numbered name line xs ++ numbered name (line + length xs) ys
unfolding numbered
numbered-append name line [] ys = let same : line ≡ line + 0 = omega arith in ap (λ n. numbered name n ys) same
numbered-append name line (x ∷ xs) ys =
    let moved : suc line + length xs ≡ line + suc (length xs) = omega arith in
    ap (λ ls. found name line x ∷ ls)
    (numbered-append name (suc line) xs ys ∙ ap (λ n. numbered name (suc line) xs ++ numbered name n ys) moved)

module _ (text : List ℕ) (end : ℕ) (whole_lines : IsWholeLines (take end text)) where
  lines_cut : lines_of text ≡ lines_of (take end text) ++ lines_of (rest_of text end)
  lines_cut =
      ap lines_of (sym (take-append-drop end text))
      ∙ (lines-append (drop end text) (take end text) [] tt whole_lines
      ∙ ap (λ t. lines_of (take end text) ++ lines_of t) (sym (rest_is text end)))

-- ---- the first piece of a text

-- no line ends within so many bytes, nor up to where the line of the next one ends
none_before : (most : ℕ) (text : List ℕ) (end : ℕ) → HasNoFeed text 0 most → IsLineEnd text most end → HasNoFeed text 0 end
none_before most text end none is k low below = elim (cases_lt k most) [ inl first ↦ none k low first | inr later ↦ is.no_feed k later below ]

-- the first line has no line feed
pub line_at_end : (most : ℕ) (text : List ℕ) → HasNoFeed text 0 most → IsLineEnd text most (length text) → IsPiece most text (length text)
line_at_end most text none is = record {
  inside = omega arith;
  some = λ h. h;
  whole_lines = λ h. absurd (omega (arith, h));
  few = λ _ k low below. none_before most text (length text) none is k low (omega arith);
}

-- the first line has a line feed
pub line_with_feed : (most : ℕ) (text : List ℕ) (end : ℕ) → HasNoFeed text 0 most → IsLineEnd text most end → end < length text
    → IsPiece most text (end + 1)
line_with_feed most text end none is inside = record {
  inside = omega arith;
  some = λ _. omega arith;
  whole_lines = λ _. inr (take end text, ap (λ n. take n text) (add-one end) ∙ (take-suc text end 0 inside ∙ ap (λ b. take end text ++ b ∷ []) (feed is.line_ends)));
  few = λ _ k low below. none_before most text end none is k low (omega arith);
}
  where
    feed : EndsLine (drop end text) → slice_index text end ≡ 10
    feed (inl none_left) = absurd (omega (arith, inside, ap length none_left, length-drop end text))
    feed (inr (back, e)) =
        let same : end + 0 ≡ end = omega arith in
        ap (slice_index text) (sym same) ∙ (sym (get_or-drop end text 0 0) ∙ ap (λ t. slice_index t 0) e)

-- ---- the next piece

-- each line takes at least one byte
module _ (text : List ℕ) (end line lines most : ℕ) (count : lines ≡ length (lines_of (take end text))) (inside : end ≤ length text)
    (room : line + length text ≤ most) where
  pub room_for_lines : line + lines ≤ most
  room_for_lines = omega (arith, count, inside, room, lines_few (take end text), length-take end text)

  pub room_after : line + lines + length (rest_of text end) ≤ most
  room_after =
      omega (
        arith,
        count,
        inside,
        room,
        lines_few (take end text),
        length-take end text,
        length-take (length text - end) (drop end text),
        length-drop end text,
      )

-- the lines of the first piece, and those of the rest
pub numbered-pieces : (name : List ℕ) (line : ℕ) (text : List ℕ) (end : ℕ) → IsWholeLines (take end text) → (lines : ℕ)
    → lines ≡ length (lines_of (take end text))
    → numbered name line (lines_of text) ≡ numbered name line (lines_of (take end text)) ++ numbered name (line + lines) (lines_of (rest_of text end))
numbered-pieces name line text end whole_lines lines count =
    ap (λ ls. numbered name line ls) (lines_cut text end whole_lines)
    ∙ (numbered-append name line (lines_of (take end text)) (lines_of (rest_of text end))
    ∙ ap (λ n. numbered name line (lines_of (take end text)) ++ numbered name (line + n) (lines_of (rest_of text end))) (sym count))
