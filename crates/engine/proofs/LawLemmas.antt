-- The first line of a text that contains a match is determined.
use Rattle.std.proofs.Common.{◌≡◌, ◌≢◌, ℕ, suc, ◌+◌, ◌<◌, Bool, true, false, cond, refl, sym, ap, subst, ◌∙◌, arith, List, [], ◌∷◌, ◌++◌}
use Rattle.std.proofs.Common.{length, ◌==◌, eq-eqb}
use Rattle.std.specs.List.{AllByRecursion}
use Rattle.std.proofs.lemmas.Bool.{true≢false}
use Rattle.ere.specs.Tree.{Tree}
use Rattle.ere.specs.Language.{ContainsMatch}
use Rattle.lines.specs.Lines.{lines_of, with_byte_in_front}
use Rattle.engine.specs.declared.finding.FirstLine.{FirstLine}
use Rattle.engine.specs.FirstLine.{IsWholeLines, HasNoMatch, IsFirstLine}
use Rattle.engine.proofs.LineLemmas.{part_not_whole, whole_tail}

-- ---- the size of whole lines

-- how many bytes lines have, with a line feed each
abbrev size_of_lines : List (List ℕ) → ℕ
size_of_lines [] = 0
size_of_lines (line ∷ lines) = suc (length line + size_of_lines lines)

with_byte_size : (b : ℕ) (lines : List (List ℕ)) → 0 < size_of_lines lines → size_of_lines (with_byte_in_front b lines) ≡ suc (size_of_lines lines)
with_byte_size b [] some = absurd (omega arith)
with_byte_size b (line ∷ lines) some = omega arith

more_follows : (b : ℕ) (text : List ℕ) → IsWholeLines (b ∷ text) → b ≢ 10 → 0 < length text
more_follows b [] whole_lines other = absurd (part_not_whole b [] (other, tt) whole_lines)
more_follows b (c ∷ text) whole_lines other = omega arith

whole_size_next : (b : ℕ) (text : List ℕ) (t : Bool) → (b == 10) ≡ t → IsWholeLines (b ∷ text) → length text ≡ size_of_lines (lines_of text)
    → suc (length text) ≡ size_of_lines (cond t ([] ∷ lines_of text) (with_byte_in_front b (lines_of text)))
whole_size_next b text true e whole_lines same = omega (arith, same)
whole_size_next b text false e whole_lines same =
    let some : 0 < length text = more_follows b text whole_lines (λ feed. true≢false (sym (eq-eqb b 10 feed) ∙ e)) in
    ap suc same ∙ sym (with_byte_size b (lines_of text) (omega (arith, some, same)))

whole_size : (text : List ℕ) → IsWholeLines text → length text ≡ size_of_lines (lines_of text)
unfolding lines_of
whole_size [] whole_lines = refl
whole_size (b ∷ text) whole_lines = whole_size_next b text (b == 10) refl whole_lines (whole_size text (whole_tail (b ∷ []) text whole_lines))

-- ---- the first line of some with a match

one_split : (P : List ℕ → Type 0) (lines lines' later later' : List (List ℕ)) (line line' : List ℕ) → AllByRecursion (λ l. P l → ⊥) lines
    → P line → AllByRecursion (λ l. P l → ⊥) lines' → P line' → lines ++ line ∷ later ≡ lines' ++ line' ∷ later' → (lines ≡ lines') × (line ≡ line')
one_split P [] [] later later' line line' none here none' here' same = (refl, cc)
one_split P [] (l' ∷ lines') later later' line line' none here none' here' same =
    let first : line ≡ l' = cc in
    absurd (none'.0 (subst P first here))
one_split P (l ∷ lines) [] later later' line line' none here none' here' same =
    let first : line' ≡ l = cc in
    absurd (none.0 (subst P first here'))
one_split P (l ∷ lines) (l' ∷ lines') later later' line line' none here none' here' same =
    let first : l ≡ l' = cc in
    let more = one_split P lines lines' later later' line line' none.1 here none'.1 here' (cc) in
    (ap (λ ls. l ∷ ls) more.0 ∙ ap (λ first. first ∷ lines') first, more.1)

none_there : (P : List ℕ → Type 0) (lines later : List (List ℕ)) (line : List ℕ) → AllByRecursion (λ l. P l → ⊥) (lines ++ line ∷ later) → P line → ⊥
none_there P [] later line none here = none.0 here
none_there P (l ∷ lines) later line none here = none_there P lines later line none.1 here

same_places : (found found' : FirstLine) → found.before ≡ found'.before → found.start ≡ found'.start → found.end ≡ found'.end → found ≡ found'
same_places found found' before start end =
    ap (λ n. record found { before = n }) before ∙ ap (λ n. record found { before = found'.before; start = n }) start
    ∙ ap (λ n. record found { before = found'.before; start = found'.start; end = n }) end

pub one_first_line : (tree : Tree) (text : List ℕ) (found found' : FirstLine) → IsFirstLine tree text found → IsFirstLine tree text found'
    → found ≡ found'
one_first_line tree text found found' is is' =
    let parts = one_split (ContainsMatch tree) (lines_of is.front) (lines_of is'.front) _ _ is.line is'.line is.none_before is.match
    is'.none_before is'.match (sym is.lines ∙ is'.lines) in
    let front : length is.front ≡ length is'.front =
    whole_size is.front is.whole_lines ∙ ap size_of_lines parts.0 ∙ sym (whole_size is'.front is'.whole_lines) in
    let line : length is.line ≡ length is'.line = ap length parts.1 in
    same_places found found' (is.counted ∙ ap length parts.0 ∙ sym is'.counted) (is.starts ∙ front ∙ sym is'.starts)
    (omega (arith, is.ends, is'.ends, front, line))

pub no_first_line : (tree : Tree) (text : List ℕ) (found : FirstLine) → IsFirstLine tree text found → HasNoMatch tree text → ⊥
no_first_line tree text found is none =
    none_there (ContainsMatch tree) (lines_of is.front) _ is.line (subst (AllByRecursion (λ l. ContainsMatch tree l → ⊥)) is.lines none) is.match
