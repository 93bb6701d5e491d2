-- Trees with the same lines.
use Rattle.std.proofs.Common.{length, get_or, take, drop, ◌≤◌, ◌-◌, ◌≡◌, ℕ, zero, suc, ◌==◌, true, arith, List, [], ◌∷◌, ◌++◌, refl, sym, ◌∙◌, ap, subst, append_assoc, map}
use Rattle.std.specs.Prelude.{Option, Some, None}
use Rattle.std.specs.List.{AllByRecursion}
use Rattle.std.proofs.lemmas.Bool.{eqb-true}
use Rattle.std.proofs.lemmas.List.{append-nil, take_all}
use Rattle.ere.specs.declared.tree.Ere.{Ere}
use Rattle.ere.specs.Tree.{Tree, Trees, more, cat, repeat, form, trees_of}
use Rattle.ere.specs.Language.{ContainsMatch, InLanguage, InEach, InCopies}
use Rattle.lines.specs.Lines.{lines_of}
use Rattle.engine.specs.FirstLine.{HasNoMatch, IsFirstLine}
use Rattle.engine.specs.declared.finding.FirstLine.{FirstLine}
use Rattle.engine.specs.declared.finding.Finder.{Finder}
use Rattle.engine.specs.Patterns.{IsFinderOf, IsLineFinderOf}
use Rattle.engine.specs.SameLines.{CanBeEmpty, HaveSameLines}

pub same_as_its : (one two three : Tree) → HaveSameLines one two → HaveSameLines two three → HaveSameLines one three
same_as_its one two three left right = λ line. (λ m. (right line).0 ((left line).0 m), λ m. (left line).1 ((right line).1 m))

-- no copies of a tree
pub no_copies : (tree : Tree) (least : ℕ) (greatest : Option ℕ) → (least == 0) ≡ true → CanBeEmpty (repeat tree least greatest)
unfolding InLanguage InCopies
no_copies tree zero None is = λ before after. (zero, omega arith, tt, refl)
no_copies tree zero (Some most) is = λ before after. (zero, omega arith, omega arith, refl)
no_copies tree (suc least) greatest is = (let none : suc least ≡ 0 = eqb-true (suc least) 0 is in absurd (omega (arith, none)))

-- A tree that can be empty is left out in front of others.
pub without_front : (tree : Tree) (trees : Trees) → CanBeEmpty tree → HaveSameLines (cat (more tree trees)) (cat trees)
unfolding InLanguage InEach
without_front tree trees empty = λ line. (rest_of line, whole_of line)
  where
    rest_of : (line : List ℕ) → ContainsMatch (cat (more tree trees)) line → ContainsMatch (cat trees) line
    rest_of line m =
        let front = m.in_language.0 in
        let back = m.in_language.1 in
        record {
          before = m.before ++ front;
          word = back;
          after = m.after;
          is_line =
              m.is_line
              ∙ (ap (λ word. m.before ++ (word ++ m.after)) m.in_language.2
              ∙ (ap (λ rest. m.before ++ rest) (append_assoc front back m.after) ∙ sym (append_assoc m.before front (back ++ m.after))));
          in_language = m.in_language.4;
        }

    whole_of : (line : List ℕ) → ContainsMatch (cat trees) line → ContainsMatch (cat (more tree trees)) line
    whole_of line m = record {
      before = m.before;
      word = m.word;
      after = m.after;
      is_line = m.is_line;
      in_language = (
        [],
        m.word,
        refl,
        empty m.before (m.word ++ m.after),
        subst (λ before. InEach trees before m.word m.after) (sym (append-nil m.before)) m.in_language,
      );
    }

-- One more member is left out.
pub without_first : (all members : List Ere) (first : Ere) → 1 ≤ length members → first ≡ get_or members 0 first → CanBeEmpty (form first)
    → HaveSameLines (cat (trees_of (map form all))) (cat (trees_of (map form members)))
    → HaveSameLines (cat (trees_of (map form all))) (cat (trees_of (map form (take (length members - 1) (drop 1 members)))))
without_first all [] first some is empty so_far = absurd (omega (arith, some))
without_first all (member ∷ others) first some is empty so_far =
    let rest : take (length (member ∷ others) - 1) (drop 1 (member ∷ others)) ≡ others =
    take_all (length (member ∷ others) - 1) others (omega arith) in
    subst (λ left. HaveSameLines (cat (trees_of (map form all))) (cat (trees_of (map form left)))) (sym rest)
    (same_as_its (cat (trees_of (map form all))) (cat (trees_of (map form (member ∷ others)))) (cat (trees_of (map form others))) so_far
    (without_front (form member) (trees_of (map form others)) (subst (λ tree. CanBeEmpty (form tree)) is empty)))

-- ---- what a finder for lines says

no_line : (tree other : Tree) → HaveSameLines tree other → (lines : List (List ℕ))
    → AllByRecursion (λ line. ContainsMatch other line → ⊥) lines → AllByRecursion (λ line. ContainsMatch tree line → ⊥) lines
no_line tree other same [] nowhere = nowhere
no_line tree other same (line ∷ lines) nowhere = (λ m. nowhere.0 ((same line).0 m), no_line tree other same lines nowhere.1)

pub no_match_either : (tree other : Tree) (text : List ℕ) → HaveSameLines tree other → HasNoMatch other text → HasNoMatch tree text
no_match_either tree other text same nowhere = no_line tree other same (lines_of text) nowhere

pub first_of_either : (tree other : Tree) (text : List ℕ) (found : FirstLine) → HaveSameLines tree other → IsFirstLine other text found
    → IsFirstLine tree text found
first_of_either tree other text found same is = record {
  front = is.front;
  line = is.line;
  after = is.after;
  whole = is.whole;
  whole_lines = is.whole_lines;
  starts = is.starts;
  ends = is.ends;
  counted = is.counted;
  lines = is.lines;
  at = is.at;
  none_before = no_match_either tree other is.front same is.none_before;
  match = (same is.line).1 is.match;
}

-- A finder goes on to be one for the lines of a tree.
pub line_finder_kept : (tree : Tree) (old new : Finder) → ((other : Tree) → IsFinderOf other old → IsFinderOf other new) → IsLineFinderOf tree old
    → IsLineFinderOf tree new
line_finder_kept tree old new kept is = record {
  other = is.other;
  same = is.same;
  of = kept is.other is.of;
}
