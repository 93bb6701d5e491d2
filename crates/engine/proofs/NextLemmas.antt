-- The engine's next match in a line, in the words of the tree.
use Rattle.std.proofs.Common.{◌≡◌, ◌≢◌, ℕ, ◌+◌, ◌≤◌, ◌<◌, ◌∙◌, false, inl, refl, sym, subst, arith, List, [], length, slice_index}
use Rattle.std.proofs.Common.{None}
use Rattle.std.specs.Prelude.{option_map}
use Rattle.std.proofs.lemmas.Bool.{false≢true}
use Rattle.std.proofs.lemmas.List.{append-nil}
use Rattle.std.proofs.lemmas.Option.{none-some}
use Rattle.regex_hir.specs.Re.{Re}
use Rattle.regex_hir.specs.Find.{find}
use Rattle.regex_hir.specs.Matches.{Matches}
use Rattle.regex_hir.proofs.OptionLemmas.{value_of_IsSome}
use Rattle.regex_hir.proofs.FindLemmas.{find_sound, find_complete}
use Rattle.regex_vm.specs.Found.{span}
use Rattle.ere.specs.Tree.{Tree}
use Rattle.spans.specs.FirstSpan.{IsMatchAt}
use Rattle.spans.specs.Spans.{Spans}
use Rattle.spans.proofs.Meaning.{spans_within}
use Rattle.engine.specs.NextMatch.{HasNoMatchFrom, IsNextMatch}
use Rattle.engine.specs.Translation.{Agrees, StandsFor}
use Rattle.engine.proofs.CutLemmas.{IsFound, found_nothing, from_places}
use Rattle.engine.proofs.LineLemmas.{line_at}

module _ (tree : Tree) (re : Re) (stands : StandsFor tree re) (line : List ℕ) (none : (k : ℕ) → k < length line → slice_index line k ≢ 10) where
  agrees : Agrees (length line) 0 (Spans line tree) (Matches line re)
  unfolding StandsFor
  agrees = stands line line 0 (line_at line [] line [] (sym (append-nil line)) (inl refl) (from_places line none) (inl refl))

  -- where a match of the tree begins, one of the engine does
  of_tree : (start end : ℕ) → IsMatchAt line tree false start end → (to : ℕ) × Matches line re start to
  of_tree start end m =
      let within : start ≤ length line = omega (arith, m.ordered, m.inside) in
      let there = agrees.there start end within m.word in
      let same : 0 + start ≡ start = omega arith in
      (0 + end, subst (λ n. Matches line re n (0 + end)) same there.1)

  -- a match of the engine is one of the tree
  of_engine : (start end : ℕ) → start ≤ length line → Matches line re start end → IsMatchAt line tree false start end
  of_engine start end within m =
      let same : start ≡ 0 + start = omega arith in
      let back = agrees.back start end within (subst (λ n. Matches line re n end) same m) in
      let to : back.0 ≡ end = omega (arith, back.1) in
      let inside = spans_within line tree start back.0 within back.3 in
      subst (λ n. IsMatchAt line tree false start n) to
      (record { ordered = inside.0; inside = inside.1; word = back.3; whole = λ whole. absurd (false≢true whole) })

  pub none_next : (from : ℕ) → None ≡ option_map span (find re line from) → HasNoMatchFrom line tree from
  none_next from nothing start after end m =
      let begins = of_tree start end m in
      let within : start ≤ length line = omega (arith, m.ordered, m.inside) in
      let v = value_of_IsSome (find re line from) (find_complete re line from start begins.0 after within begins.1) in
      none-some v.0 (sym (found_nothing (find re line from) nothing) ∙ v.1)

  pub next_match : (from start end : ℕ) → IsFound re line from start end → IsNextMatch line tree from start end
  next_match from start end found =
      let sound = find_sound re line from found.m found.is in
      record {
        after = subst (λ n. from ≤ n) found.starts sound.0;
        is_match =
            of_engine start end found.inside
            (subst (λ n. Matches line re start n) found.ends (subst (λ n. Matches line re n found.m.trace.end) found.starts sound.1));
        leftmost = λ before after earlier to other.
            (let begins = of_tree before to other in
            sound.2 before begins.0 after (subst (λ n. before < n) (sym found.starts) earlier) begins.1);
      }
