-- From one line with a match to the next.
use Rattle.std.proofs.Common.{◌≡◌, ℕ, suc, ◌+◌, ◌-◌, ◌≤◌, List, [], ◌∷◌, ◌++◌, length, take, drop, refl, sym, ◌∙◌, ap, subst, arith, append_assoc}
use Rattle.std.proofs.Common.{length-drop, length-take}
use Rattle.std.specs.List.{AllByRecursion}
use Rattle.std.proofs.lemmas.List.{append-nil, length-append, take_all}
use Rattle.ere.specs.Tree.{Tree}
use Rattle.ere.specs.Language.{ContainsMatch}
use Rattle.lines.specs.Lines.{lines_of}
use Rattle.engine.specs.FirstLine.{IsFirstLine, IsInside}
use Rattle.engine.specs.declared.finding.FirstLine.{FirstLine}
use Rattle.views.specs.declared.places.Place.{Place}
use Rattle.prepare.specs.Pattern.{with_match}
use Rattle.views.specs.Found.{found, numbered}
use Rattle.search.specs.Selects.{IsAsked, Selects, done, keep, skip}
use Rattle.search.specs.Private.Added.{HasTextAt, AddsPlaces}
use Rattle.views.proofs.LineLemmas.{numbered-empty}
use Rattle.search.proofs.PieceLemmas.{numbered-append}
use Rattle.search.proofs.PlaceLemmas.{part_of_body, one_place}

keep_at : (tree : Tree) (name : List ℕ) (line : ℕ) (front : List (List ℕ)) (text : List ℕ)
    → AllByRecursion (λ other. ContainsMatch tree other → ⊥) front → ContainsMatch tree text
    → Selects (IsAsked (with_match tree)) (numbered name line (front ++ text ∷ [])) (found name (line + length front) text ∷ [])
unfolding numbered
keep_at tree name line [] text none hit =
    let here : line ≡ line + 0 = omega arith in
    subst (λ n. Selects (IsAsked (with_match tree)) (found name line text ∷ []) (found name n text ∷ [])) here (keep hit done)
keep_at tree name line (other ∷ front) text none hit =
    let place : suc line + length front ≡ line + suc (length front) = omega arith in
    skip none.0 (subst (λ n. Selects (IsAsked (with_match tree)) (numbered name (suc line) (front ++ text ∷ [])) (found name n text ∷ [])) place
    (keep_at tree name (suc line) front text none.1 hit))

pub none_numbered : (tree : Tree) (name : List ℕ) (line : ℕ) (texts : List (List ℕ))
    → AllByRecursion (λ other. ContainsMatch tree other → ⊥) texts → Selects (IsAsked (with_match tree)) (numbered name line texts) []
unfolding numbered
none_numbered tree name line [] none = done
none_numbered tree name line (text ∷ texts) none = skip none.0 (none_numbered tree name (suc line) texts none.1)

-- the lines up to the first one with a match
abbrev pub lines_through : {tree : Tree} {text : List ℕ} {first : FirstLine} → IsFirstLine tree text first → List (List ℕ)
lines_through is = lines_of is.front ++ is.line ∷ []

module _ (tree : Tree) (name : List ℕ) (line : ℕ) (text : List ℕ) (first : FirstLine) (is : IsFirstLine tree text first) where
  -- the one with a match is selected
  pub selects_first : Selects (IsAsked (with_match tree)) (numbered name line (lines_through is))
      (found name (line + first.before) (take (first.end - first.start) (drop first.start text)) ∷ [])
  selects_first =
      let same : found name (line + length (lines_of is.front)) is.line
      ≡ found name (line + first.before) (take (first.end - first.start) (drop first.start text)) =
      ap (λ n. found name (line + n) is.line) (sym is.counted) ∙ ap (λ t. found name (line + first.before) t) is.at in
      subst (λ f. Selects (IsAsked (with_match tree)) (numbered name line (lines_through is)) (f ∷ [])) same
      (keep_at tree name line (lines_of is.front) is.line is.none_before is.match)

  -- these lines, and those that are left
  pub numbered-through : (rest : List ℕ) → rest ≡ drop (first.end + 1) text
      → numbered name line (lines_of text) ≡ numbered name line (lines_through is) ++ numbered name (line + first.before + 1) (lines_of rest)
  numbered-through rest left =
      let grouped : lines_of is.front ++ is.line ∷ lines_of rest ≡ lines_through is ++ lines_of rest =
      sym (append_assoc (lines_of is.front) (is.line ∷ []) (lines_of rest)) in
      let count : line + length (lines_through is) ≡ line + first.before + 1 =
      omega (arith, is.counted, length-append (lines_of is.front) (is.line ∷ [])) in
      ap (λ ls. numbered name line ls) (is.lines ∙ (ap (λ t. lines_of is.front ++ is.line ∷ lines_of t) (sym left) ∙ grouped))
      ∙ (numbered-append name line (lines_through is) (lines_of rest)
      ∙ ap (λ n. numbered name line (lines_through is) ++ numbered name n (lines_of rest)) count)

  pub numbered-to_end : first.end ≡ length text → numbered name line (lines_of text) ≡ numbered name line (lines_through is)
  numbered-to_end e =
      let none : length (drop (first.end + 1) text) ≡ 0 = omega (arith, length-drop (first.end + 1) text) in
      numbered-through (drop (first.end + 1) text) refl
      ∙ (ap (λ hits. numbered name line (lines_through is) ++ hits)
      (numbered-empty name (line + first.before + 1) (drop (first.end + 1) text) none)
      ∙ append-nil (numbered name line (lines_through is)))

-- the place of the first line with a match
pub first_place : (tree : Tree) (document : ℕ) (name body : List ℕ) (line at : ℕ) (text : List ℕ) (first : FirstLine)
    (is : IsFirstLine tree text first) → IsInside text first → HasTextAt body at text → (old new : List Place)
    → new ≡ old ++ record { document = document; line = line + first.before; start = at + first.start; end = at + first.end } ∷ []
    → AddsPlaces (with_match tree) document name body (numbered name line (lines_through is)) old new
first_place tree document name body line at text first is inside there old new grown =
    one_place (with_match tree) document name body (numbered name line (lines_through is))
    (record { document = document; line = line + first.before; start = at + first.start; end = at + first.end }) old new
    (record {
      document = refl;
      ordered = omega (arith, inside.ordered);
      inside = omega (arith, inside.inside, there.inside);
    })
    (subst (λ t. Selects (IsAsked (with_match tree)) (numbered name line (lines_through is)) (found name (line + first.before) t ∷ []))
    (sym (part_of_body body at text there first.start first.end inside.ordered inside.inside))
    (selects_first tree name line text first is)) grown

-- what is left after the first line with a match
pub left_after : (text : List ℕ) (first : FirstLine) → take (length text - (first.end + 1)) (drop (first.end + 1) text) ≡ drop (first.end + 1) text
left_after text first = take_all (length text - (first.end + 1)) (drop (first.end + 1) text) (omega (arith, length-drop (first.end + 1) text))

pub room_left : (line most : ℕ) (text : List ℕ) (first : FirstLine) → IsInside text first → (first.end ≡ length text → ⊥)
    → line + length text ≤ most → line + first.before + 1 + length (take (length text - (first.end + 1)) (drop (first.end + 1) text)) ≤ most
room_left line most text first is other room =
    omega (
      arith,
      other,
      is.inside,
      is.ordered,
      is.few,
      length-take (length text - (first.end + 1)) (drop (first.end + 1) text),
      length-drop (first.end + 1) text,
    )
