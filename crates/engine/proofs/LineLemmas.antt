-- Where in a text its lines are.
use Rattle.std.proofs.Common.{◌≡◌, ◌≢◌, ℕ, zero, suc, ◌+◌, ◌≤◌, ◌<◌, ◌⊎◌, Bool, true, false, cond, inl, inr, refl, sym, ap, subst, ◌∙◌}
use Rattle.std.proofs.Common.{arith, List, [], ◌∷◌, ◌++◌, length, Some, None, slice_get, slice_index, append_assoc, length-append, ◌==◌}
use Rattle.std.proofs.Common.{eq-eqb}
use Rattle.std.specs.List.{AllByRecursion}
use Rattle.std.proofs.lemmas.List.{append-nil}
use Rattle.std.proofs.lemmas.Bool.{true≢false}
use Rattle.std.proofs.lemmas.Bool.Decides.{nat_tests}
use Rattle.regex_hir.specs.Looks.{holds, holds_between}
use Rattle.regex_hir.specs.declared.look.Look.TheVariants.{StartLf, EndLf}
use Rattle.regex_hir.proofs.TextLemmas.{byte_before-zero, byte_before-add-one}
use Rattle.lines.specs.Lines.{lines_of, with_byte_in_front}
use Rattle.engine.specs.Translation.{IsLineAt}
use Rattle.engine.specs.FirstLine.{IsWholeLines, EndsLine}

abbrev pub NoFeed : List ℕ → Type 0
NoFeed line = AllByRecursion (λ b. b ≢ 10) line

get_after : (before text : List ℕ) (k : ℕ) → slice_get (before ++ text) (length before + k) ≡ slice_get text k
get_after [] text k = let same : 0 + k ≡ k = omega arith in ap (slice_get text) same
get_after (b ∷ before) text k =
    let moved : suc (length before) + k ≡ suc (length before + k) = omega arith in
    ap (slice_get (b ∷ (before ++ text))) moved ∙ get_after before text k

get_inside : (line after : List ℕ) (k : ℕ) → k < length line → slice_get (line ++ after) k ≡ Some (slice_index line k)
get_inside [] after k low = absurd (omega arith)
get_inside (b ∷ line) after zero low = refl
get_inside (b ∷ line) after (suc k) low = get_inside line after k (omega arith)

pub no_feed_at : (line : List ℕ) (k : ℕ) → NoFeed line → k < length line → slice_index line k ≢ 10
no_feed_at [] k none low = absurd (omega arith)
no_feed_at (b ∷ line) zero none low = none.0
no_feed_at (b ∷ line) (suc k) none low = no_feed_at line k none.1 (omega arith)

start_holds : (hay : List ℕ) → holds StartLf hay 0 ≡ true
unfolding holds holds_between
start_holds hay = rw (byte_before-zero hay) refl

start_holds_after : (hay : List ℕ) (i : ℕ) → slice_get hay i ≡ Some 10 → holds StartLf hay (i + 1) ≡ true
unfolding holds holds_between
start_holds_after hay i e = rw (byte_before-add-one hay i ∙ e) refl

end_holds : (hay : List ℕ) (i : ℕ) → slice_get hay i ≡ None → holds EndLf hay i ≡ true
unfolding holds holds_between
end_holds hay i e = rw e refl

end_holds_before : (hay : List ℕ) (i : ℕ) → slice_get hay i ≡ Some 10 → holds EndLf hay i ≡ true
unfolding holds holds_between
end_holds_before hay i e = rw e refl

-- a line in its place
pub line_at : (hay before line after : List ℕ) → hay ≡ before ++ (line ++ after) → IsWholeLines before → NoFeed line → EndsLine after
    → IsLineAt hay (length before) line
line_at hay before line after is whole_lines none line_ends = record {
  same = λ k low. ap (λ h. slice_get h (length before + k)) is ∙ (get_after before (line ++ after) k ∙ get_inside line after k low);
  no_feed = λ k low. no_feed_at line k none low;
  begins = begins whole_lines;
  ends = ends line_ends;
}
  where
    begins : IsWholeLines before → holds StartLf hay (length before) ≡ true
    begins (inl e) = let zero_is : 0 ≡ length before = sym (ap length e) in subst (λ i. holds StartLf hay i ≡ true) zero_is (start_holds hay)
    begins (inr (text, e)) =
        let whole : hay ≡ text ++ 10 ∷ (line ++ after) = is ∙ ap (λ b. b ++ (line ++ after)) e ∙ append_assoc text (10 ∷ []) (line ++ after) in
        let zero_more : length text + 0 ≡ length text = omega arith in
        let feed : slice_get hay (length text) ≡ Some 10 =
        ap (λ h. slice_get h (length text)) whole ∙ ap (slice_get (text ++ 10 ∷ (line ++ after))) (sym zero_more)
        ∙ get_after text (10 ∷ (line ++ after)) 0 in
        let size : length text + 1 ≡ length before = omega (arith, ap length e, length-append text (10 ∷ [])) in
        subst (λ i. holds StartLf hay i ≡ true) size (start_holds_after hay (length text) feed)

    behind_is : slice_get hay (length before + length line) ≡ slice_get after 0
    behind_is =
        let whole : hay ≡ (before ++ line) ++ after = is ∙ sym (append_assoc before line after) in
        let size : length before + length line ≡ length (before ++ line) + 0 = omega (arith, length-append before line) in
        ap (λ h. slice_get h (length before + length line)) whole ∙ ap (slice_get ((before ++ line) ++ after)) size ∙ get_after (before ++ line) after 0

    ends : EndsLine after → holds EndLf hay (length before + length line) ≡ true
    ends (inl e) = end_holds hay (length before + length line) (behind_is ∙ ap (λ b. slice_get b 0) e)
    ends (inr (text, e)) = end_holds_before hay (length before + length line) (behind_is ∙ ap (λ b. slice_get b 0) e)

-- ---- lines one after another

pub lines-first : (line rest : List ℕ) → NoFeed line → lines_of (line ++ 10 ∷ rest) ≡ line ∷ lines_of rest
unfolding lines_of
lines-first [] rest none = refl
lines-first (b ∷ line) rest none =
    let other : (b == 10) ≡ false = let differ : b ≢ 10 = none.0 in grind (arith, nat_tests) in
    rw (other, lines-first line rest none.1) refl

pub lines-last : (b : ℕ) (line : List ℕ) → NoFeed (b ∷ line) → lines_of (b ∷ line) ≡ (b ∷ line) ∷ []
unfolding lines_of
lines-last b [] none = let other : (b == 10) ≡ false = let differ : b ≢ 10 = none.0 in grind (arith, nat_tests) in rw other refl
lines-last b (c ∷ line) none =
    let other : (b == 10) ≡ false = let differ : b ≢ 10 = none.0 in grind (arith, nat_tests) in
    ap (λ t. cond t ([] ∷ lines_of (c ∷ line)) (with_byte_in_front b (lines_of (c ∷ line)))) other ∙ ap (with_byte_in_front b) (lines-last c line none.1)

pub whole_tail : (front back : List ℕ) → IsWholeLines (front ++ back) → IsWholeLines back
whole_tail [] back whole_lines = whole_lines
whole_tail (b ∷ front) back (inl e) = absurd (omega (arith, ap length e))
whole_tail (b ∷ front) back (inr ([], e)) = inl (nothing (front ++ back) front back refl (ap tail e))
  where
    tail : List ℕ → List ℕ
    tail [] = []
    tail (x ∷ xs) = xs

    nothing : (whole front back : List ℕ) → whole ≡ front ++ back → whole ≡ [] → back ≡ []
    nothing whole [] back is none = sym is ∙ none
    nothing whole (x ∷ front) back is none = absurd (omega (arith, ap length (sym is ∙ none)))
whole_tail (b ∷ front) back (inr (x ∷ text, e)) = whole_tail front back (inr (text, ap tail e))
  where
    tail : List ℕ → List ℕ
    tail [] = []
    tail (x ∷ xs) = xs

-- A line is in the text, and ends below a position.
pub record IsLocated (hay : List ℕ) (most : ℕ) (line : List ℕ) : Type 0 where
  pub at : ℕ
  pub is : IsLineAt hay at line
  pub within : at + length line ≤ length hay
  pub low : at + length line < most

pub NoFeed-push : (part : List ℕ) (b : ℕ) → NoFeed part → b ≢ 10 → NoFeed (part ++ b ∷ [])
NoFeed-push [] b none other = (other, tt)
NoFeed-push (c ∷ part) b none other = (none.0, NoFeed-push part b none.1 other)

pub part_not_whole : (b : ℕ) (part : List ℕ) → NoFeed (b ∷ part) → IsWholeLines (b ∷ part) → ⊥
part_not_whole b part none (inl e) = absurd (omega (arith, ap length e))
part_not_whole b part none (inr (text, e)) = last text (subst NoFeed e none)
  where
    last : (text : List ℕ) → NoFeed (text ++ 10 ∷ []) → ⊥
    last [] none = none.0 refl
    last (c ∷ text) none = last text none.1

nothing_shown : (P : List ℕ → Type 0) → AllByRecursion P (lines_of [])
unfolding lines_of
nothing_shown P = tt

whole_with_feed : (before part : List ℕ) → IsWholeLines (before ++ (part ++ 10 ∷ []))
whole_with_feed before part = inr (before ++ part, sym (append_assoc before part (10 ∷ [])))

module _ (hay : List ℕ) (tail : List ℕ) (most : ℕ) where
  -- what is to be shown for the lines of a part of the text
  abbrev pub Shown : List ℕ → List ℕ → Type 0
  Shown before whole =
      hay ≡ before ++ (whole ++ tail) → length before + length whole ≤ most
      → IsWholeLines whole ⊎ ((tail ≡ []) × (length before + length whole < most))
      → AllByRecursion (IsLocated hay most) (lines_of whole)

  last_shown : (before : List ℕ) (b : ℕ) (part : List ℕ) → IsWholeLines before → NoFeed (b ∷ part) → Shown before (b ∷ part)
  last_shown before b part whole_lines none is room (inl all_whole) = absurd (part_not_whole b part none all_whole)
  last_shown before b part whole_lines none is room (inr (empty, low)) =
      subst (AllByRecursion (IsLocated hay most)) (sym (lines-last b part none)) (
        record {
          at = length before;
          is = line_at hay before (b ∷ part) tail is whole_lines none (inl empty);
          within = omega (arith, ap length is, length-append before ((b ∷ part) ++ tail), length-append (b ∷ part) tail);
          low = low;
        },
        tt,
      )

  first_shown : (before part text : List ℕ) → IsWholeLines before → NoFeed part → Shown (before ++ (part ++ 10 ∷ [])) text → Shown before (part ++ 10 ∷ text)
  first_shown before part text whole_lines none rest is room end =
      subst (AllByRecursion (IsLocated hay most)) (sym (lines-first part text none)) (
        record {
          at = length before;
          is =
              line_at hay before part ((10 ∷ text) ++ tail) (is ∙ ap (λ t. before ++ t) (append_assoc part (10 ∷ text) tail)) whole_lines
              none (inr (text ++ tail, refl));
          within =
              omega (
                arith,
                ap length is,
                length-append before ((part ++ 10 ∷ text) ++ tail),
                length-append (part ++ 10 ∷ text) tail,
                length-append part (10 ∷ text),
              );
          low = omega (arith, room, length-append part (10 ∷ text));
        },
        rest (is ∙ moved) (omega (arith, sizes, room)) (next end),
      )
    where
      moved : before ++ ((part ++ 10 ∷ text) ++ tail) ≡ (before ++ (part ++ 10 ∷ [])) ++ (text ++ tail)
      moved =
          ap (λ t. before ++ t) (append_assoc part (10 ∷ text) tail ∙ sym (append_assoc part (10 ∷ []) (text ++ tail)))
          ∙ sym (append_assoc before (part ++ 10 ∷ []) (text ++ tail))

      sizes : length (before ++ (part ++ 10 ∷ [])) + length text ≡ length before + length (part ++ 10 ∷ text)
      sizes = omega (arith, length-append before (part ++ 10 ∷ []), length-append part (10 ∷ []), length-append part (10 ∷ text))

      next : IsWholeLines (part ++ 10 ∷ text) ⊎ ((tail ≡ []) × (length before + length (part ++ 10 ∷ text) < most))
          → IsWholeLines text ⊎ ((tail ≡ []) × (length (before ++ (part ++ 10 ∷ [])) + length text < most))
      next (inl all_whole) = inl (whole_tail (10 ∷ []) text (whole_tail part (10 ∷ text) all_whole))
      next (inr (empty, low)) = inr (empty, omega (arith, sizes, low))

  shown_next : (text before part : List ℕ) (b : ℕ) (t : Bool) → (b == 10) ≡ t → IsWholeLines before → NoFeed part
      → (b ≡ 10 → Shown (before ++ (part ++ 10 ∷ [])) text) → (b ≢ 10 → Shown before ((part ++ b ∷ []) ++ text))
      → Shown before (part ++ b ∷ text)
  shown_next text before part b true e whole_lines none feed_next other_next =
      let feed : b ≡ 10 = grind (arith, nat_tests) in
      subst (λ x. Shown before (part ++ x ∷ text)) (sym feed) (first_shown before part text whole_lines none (feed_next feed))
  shown_next text before part b false e whole_lines none feed_next other_next =
      subst (Shown before) (append_assoc part (b ∷ []) text) (other_next (λ feed. true≢false (sym (eq-eqb b 10 feed) ∙ e)))

  pub shown : (text before part : List ℕ) → IsWholeLines before → NoFeed part → Shown before (part ++ text)
  shown [] before [] whole_lines none = λ is room end. nothing_shown (IsLocated hay most)
  shown [] before (b ∷ part) whole_lines none = subst (Shown before) (sym (append-nil (b ∷ part))) (last_shown before b part whole_lines none)
  shown (b ∷ text) before part whole_lines none =
      shown_next text before part b (b == 10) refl whole_lines none
      (λ p. shown text (before ++ (part ++ 10 ∷ [])) [] (whole_with_feed before part) tt)
      (λ other. shown text before (part ++ b ∷ []) whole_lines (NoFeed-push part b none other))

lines-append-next : (back front part : List ℕ) (b : ℕ) → NoFeed part → (t : Bool) → (b == 10) ≡ t
    → (b ≡ 10 → lines_of (front ++ back) ≡ lines_of front ++ lines_of back)
    → (b ≢ 10 → lines_of (((part ++ b ∷ []) ++ front) ++ back) ≡ lines_of ((part ++ b ∷ []) ++ front) ++ lines_of back)
    → lines_of ((part ++ b ∷ front) ++ back) ≡ lines_of (part ++ b ∷ front) ++ lines_of back
lines-append-next back front part b none true e feed_next other_next =
    let feed : b ≡ 10 = grind (arith, nat_tests) in
    subst (λ x. lines_of ((part ++ x ∷ front) ++ back) ≡ lines_of (part ++ x ∷ front) ++ lines_of back) (sym feed)
    (ap lines_of (append_assoc part (10 ∷ front) back) ∙ lines-first part (front ++ back) none ∙ ap (λ ls. part ∷ ls) (feed_next feed)
    ∙ ap (λ ls. ls ++ lines_of back) (sym (lines-first part front none)))
lines-append-next back front part b none false e feed_next other_next =
    subst (λ w. lines_of (w ++ back) ≡ lines_of w ++ lines_of back) (append_assoc part (b ∷ []) front)
    (other_next (λ feed. true≢false (sym (eq-eqb b 10 feed) ∙ e)))

nothing_first : (back : List ℕ) → lines_of back ≡ lines_of [] ++ lines_of back
unfolding lines_of
nothing_first back = refl

-- the lines after whole lines are those of the rest
pub lines-append : (back front part : List ℕ) → NoFeed part → IsWholeLines (part ++ front)
    → lines_of ((part ++ front) ++ back) ≡ lines_of (part ++ front) ++ lines_of back
lines-append back [] [] none whole_lines = nothing_first back
lines-append back [] (b ∷ part) none whole_lines = absurd (part_not_whole b part none (subst IsWholeLines (append-nil (b ∷ part)) whole_lines))
lines-append back (b ∷ front) part none whole_lines =
    lines-append-next back front part b none (b == 10) refl
    (λ feed. lines-append back front [] tt (whole_tail (b ∷ []) front (whole_tail part (b ∷ front) whole_lines)))
    (λ other.
    lines-append back front (part ++ b ∷ []) (NoFeed-push part b none other)
    (subst IsWholeLines (sym (append_assoc part (b ∷ []) front)) whole_lines))
