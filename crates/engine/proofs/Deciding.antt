-- It can be decided whether a line contains a match of a tree: by the engine's pattern for the tree.
use Rattle.std.proofs.Common.{◌≡◌, ◌≢◌, ℕ, zero, suc, ◌+◌, ◌<◌, ◌≤◌, ◌⊎◌, ◌&&◌, Bool, true, false, inl, inr, refl, sym, ap, ◌∙◌, arith}
use Rattle.std.proofs.Common.{List, [], ◌∷◌, ◌++◌, ◌==◌, length, Some, None, is_some, slice_index, nat_lt, IsTrue}
use Rattle.std.specs.Prelude.{if◌then◌else◌}
use Rattle.std.specs.List.{AllByRecursion}
use Rattle.std.proofs.lemmas.Bool.{cases_lt, false≢true}
use Rattle.std.proofs.lemmas.Bool.Decides.{nat_tests}
use Rattle.regex_class.specs.Ranges.{in_ranges}
use Rattle.regex_hir.specs.declared.look.Look.TheVariants.{StartLf, EndLf}
use Rattle.regex_hir.specs.Re.{Re, empty as re_empty, byte_in, look}
use Rattle.regex_hir.specs.Meaning.{cat_all, alt_all, repeat as re_repeat}
use Rattle.regex_hir.specs.Find.{find}
use Rattle.ere.specs.ByteSet.{has}
use Rattle.ere.specs.Language.{ContainsMatch}
use Rattle.ere.specs.Tree.{Tree, empty, set, at_start, at_end, cat, alt, repeat, Trees, none, more}
use Rattle.lines.specs.Lines.{lines_of, with_byte_in_front}
use Rattle.engine.specs.Translation.{StandsFor, StandForEach}
use Rattle.engine.proofs.ClassLemmas.{ranges_start, ranges_more, ranges_same}
use Rattle.engine.proofs.CutLemmas.{line_matches}
use Rattle.engine.proofs.LineLemmas.{NoFeed}
use Rattle.engine.proofs.NodeLemmas.{empty_stands, set_stands, start_stands, end_stands, cat_stands, alt_stands, repeat_stands, impossible_stands}

-- ---- the engine's pattern

-- the bytes of a set below a number, as ranges
ranges_below : List Bool → ℕ → List (ℕ × ℕ)
ranges_below members zero = []
ranges_below members (suc i) = if has members i then ranges_below members i ++ (i, i) ∷ [] else ranges_below members i

held_below : (members : List Bool) (i b : ℕ) → in_ranges (ranges_below members i) b ≡ (nat_lt b i && has members b)
unfolding ranges_below
held_below members zero b = ranges_start members [] refl b
held_below members (suc i) b = go (held_below members i) (has members i) refl
  where
    next : nat_lt b (i + 1) ≡ nat_lt b (suc i)
    next = let same : i + 1 ≡ suc i = omega arith in ap (λ n. nat_lt b n) same

    go : ((b : ℕ) → in_ranges (ranges_below members i) b ≡ (nat_lt b i && has members b)) → (held : Bool) → has members i ≡ held
        → in_ranges (if held then ranges_below members i ++ (i, i) ∷ [] else ranges_below members i) b ≡ (nat_lt b (suc i) && has members b)
    go below true e = ranges_more members (ranges_below members i) i e below b ∙ ap (λ t. t && has members b) next
    go below false e = ranges_same members (ranges_below members i) i e below b ∙ ap (λ t. t && has members b) next

held : (members : List Bool) (most b : ℕ) → most ≡ 256 → in_ranges (ranges_below members most) b ≡ has members b
held members most b e = held_below members most b ∙ go (nat_lt b most) refl
  where
    go : (low : Bool) → nat_lt b most ≡ low → (low && has members b) ≡ has members b
    go true is = refl
    go false is = let above : nat_lt b 256 ≡ false = ap (λ n. nat_lt b n) (sym e) ∙ is in rw above refl

bounded : (body : Tree) (least most : ℕ) → ((re : Re) × StandsFor body re) → (most < least) ⊎ (least ≤ most)
    → (re : Re) × StandsFor (repeat body least (Some most)) re
bounded body least most re (inl low) = (alt_all [], impossible_stands body least most low)
bounded body least most re (inr high) = (re_repeat least (Some most) true re.0, repeat_stands body re.0 least (Some most) true high re.1)

mutual
  unfolding StandForEach

  pattern_for : (tree : Tree) → (re : Re) × StandsFor tree re
  pattern_for empty = (re_empty, empty_stands)
  pattern_for (set members) = (byte_in (ranges_below members 256), set_stands members (ranges_below members 256) (λ b. held members 256 b refl))
  pattern_for at_start = (look StartLf, start_stands)
  pattern_for at_end = (look EndLf, end_stands)
  pattern_for (cat members) = let res = patterns_for members in (cat_all res.0, cat_stands members res.0 res.1)
  pattern_for (alt members) = let res = patterns_for members in (alt_all res.0, alt_stands members res.0 res.1)
  pattern_for (repeat body least None) =
      let re = pattern_for body in (re_repeat least None true re.0, repeat_stands body re.0 least None true tt re.1)
  pattern_for (repeat body least (Some most)) = bounded body least most (pattern_for body) (cases_lt most least)

  patterns_for : (trees : Trees) → (res : List Re) × StandForEach trees res
  patterns_for none = ([], tt)
  patterns_for (more tree trees) = let re = pattern_for tree in let res = patterns_for trees in (re.0 ∷ res.0, (re.1, res.1))

-- ---- lines

pub decides : (tree : Tree) (line : List ℕ) → NoFeed line → ContainsMatch tree line ⊎ (ContainsMatch tree line → ⊥)
decides tree line feedless = go (is_some (find re.0 line 0)) (line_matches tree re.0 re.1 line (places line feedless) (is_some (find re.0 line 0)) refl)
  where
    re : (re : Re) × StandsFor tree re
    re = pattern_for tree

    places : (line : List ℕ) → NoFeed line → (k : ℕ) → k < length line → slice_index line k ≢ 10
    places [] feedless k low = absurd (omega arith)
    places (b ∷ line) feedless zero low = feedless.0
    places (b ∷ line) feedless (suc k) low = places line feedless.1 k (omega arith)

    go : (found : Bool) → (IsTrue found → ContainsMatch tree line) × (ContainsMatch tree line → IsTrue found)
        → ContainsMatch tree line ⊎ (ContainsMatch tree line → ⊥)
    go true m = inl (m.0 refl)
    go false m = inr (λ c. false≢true (m.1 c))

-- no line of a text has a line feed
pub lines-feedless : (text : List ℕ) → AllByRecursion NoFeed (lines_of text)
unfolding lines_of
lines-feedless [] = tt
lines-feedless (b ∷ text) = go (b == 10) refl (lines-feedless text)
  where
    front : (lines : List (List ℕ)) → b ≢ 10 → AllByRecursion NoFeed lines → AllByRecursion NoFeed (with_byte_in_front b lines)
    front [] other each = ((other, tt), tt)
    front (line ∷ lines) other each = ((other, each.0), each.1)

    go : (feed : Bool) → (b == 10) ≡ feed → AllByRecursion NoFeed (lines_of text)
        → AllByRecursion NoFeed (if feed then [] ∷ lines_of text else with_byte_in_front b (lines_of text))
    go true e each = (tt, each)
    go false e each = front (lines_of text) (let other : b ≢ 10 = grind (arith, nat_tests) in other) each
