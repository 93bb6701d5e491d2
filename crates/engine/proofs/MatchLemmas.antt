-- What the engine's first match says about the lines of a text.
use Rattle.std.proofs.Common.{◌≡◌, ℕ, ◌+◌, ◌-◌, ◌≤◌, inl, inr, refl, sym, ap, subst, ◌∙◌, arith, List, [], ◌∷◌, ◌++◌, length, Some, None, IsSome, is_some, true}
use Rattle.std.specs.List.{AllByRecursion}
use Rattle.std.proofs.lemmas.List.{append-nil}
use Rattle.regex_hir.specs.Re.{Re}
use Rattle.regex_hir.specs.Find.{Match, find}
use Rattle.regex_hir.specs.Matches.{Matches}
use Rattle.std.proofs.lemmas.Option.{none-some}
use Rattle.regex_hir.proofs.OptionLemmas.{value_of_IsSome}
use Rattle.regex_hir.proofs.FindLemmas.{find_sound, find_complete}
use Rattle.ere.specs.Tree.{Tree}
use Rattle.ere.specs.Language.{ContainsMatch}
use Rattle.lines.specs.Lines.{lines_of}
use Rattle.spans.proofs.Meaning.{hit_of_spans, spans_of_hit}
use Rattle.engine.specs.Translation.{IsLineAt, StandsFor}
use Rattle.engine.specs.FirstLine.{IsWholeLines, EndsLine}
use Rattle.engine.proofs.LineLemmas.{NoFeed, line_at, shown}

all_weaker : {P Q : List ℕ → Type 0} (lines : List (List ℕ)) → ((line : List ℕ) → P line → Q line) → AllByRecursion P lines → AllByRecursion Q lines
all_weaker [] f h = tt
all_weaker (line ∷ lines) f h = (f line h.0, all_weaker lines f h.1)

module _ (tree : Tree) (re : Re) (stands : StandsFor tree re) where
  -- a hit is a match of the engine
  engine_match : (hay line : List ℕ) (at : ℕ) → IsLineAt hay at line → ContainsMatch tree line → (i : ℕ) × (j : ℕ) × (i ≤ at + length line) × Matches hay re i j
  unfolding StandsFor
  engine_match hay line at is hit =
      let s = spans_of_hit line tree hit in
      let t = (stands hay line at is).there s.0 s.1 s.2 s.3 in
      (at + s.0, at + s.1, omega (arith, s.2), t.1)

  -- if the engine finds nothing, no line is a hit
  pub no_match : (text : List ℕ) → find re text 0 ≡ None → AllByRecursion (λ line. ContainsMatch tree line → ⊥) (lines_of text)
  no_match text nothing =
      all_weaker (lines_of text) (λ line place hit.
      let m = engine_match text line place.at place.is hit in
      let some : IsSome (find re text 0) = find_complete re text 0 m.0 m.1 (omega arith) (omega (arith, m.2, place.within)) m.3 in
      let v = value_of_IsSome (find re text 0) some in
      none-some v.0 (sym nothing ∙ v.1))
      (shown text [] (length text + 1) text [] [] (inl refl) tt (sym (append-nil text)) (omega arith) (inr (refl, omega arith)))

  -- no line that ends before the first match is a hit
  pub no_match_before : (front back : List ℕ) (m : Match) → IsWholeLines front → length front ≤ m.start → find re (front ++ back) 0 ≡ Some m
      → AllByRecursion (λ line. ContainsMatch tree line → ⊥) (lines_of front)
  no_match_before front back m whole_lines low is =
      all_weaker (lines_of front) (λ line place hit.
      let found = engine_match (front ++ back) line place.at place.is hit in
      (find_sound re (front ++ back) 0 m is).2 found.0 found.1 (omega arith) (omega (arith, found.2, place.low, low)) found.3)
      (shown (front ++ back) back (length front) front [] [] (inl refl) tt refl (omega arith) (inl whole_lines))

  -- the line of the first match is a hit
  pub match_here : (front line after : List ℕ) (m : Match) → IsWholeLines front → NoFeed line → EndsLine after → length front ≤ m.start
      → m.start ≤ length front + length line → find re (front ++ (line ++ after)) 0 ≡ Some m → ContainsMatch tree line
  unfolding StandsFor
  match_here front line after m whole_lines none line_ends low high is =
      let from : m.start ≡ length front + (m.start - length front) = omega arith in
      let inside : m.start - length front ≤ length line = omega arith in
      let found = (find_sound re (front ++ (line ++ after)) 0 m is).1 in
      let b =
      (stands (front ++ (line ++ after)) line (length front)
      (line_at (front ++ (line ++ after)) front line after refl whole_lines none line_ends)).back (m.start - length front)
      m.trace.end inside (subst (λ i. Matches (front ++ (line ++ after)) re i m.trace.end) from found) in
      hit_of_spans line tree (m.start - length front) b.0 inside b.3

  -- if a line by itself contains a match, the engine finds one
  pub found_in : (line : List ℕ) → NoFeed line → ContainsMatch tree line → is_some (find re line 0) ≡ true
  found_in line none c =
      let m = engine_match line line 0 (line_at line [] line [] (sym (append-nil line)) (inl refl) none (inl refl)) c in
      let v = value_of_IsSome (find re line 0) (find_complete re line 0 m.0 m.1 (omega arith) (omega (arith, m.2)) m.3) in
      ap is_some v.1
