-- Lines from pieces, and the lines that are skipped.
use Rattle.std.proofs.Common.{◌≡◌, ℕ, ◌+◌, List, [], ◌∷◌, ◌++◌, length, take, Option, None, Ok, Bool, true, false, IsTrue, IsFalse, refl}
use Rattle.std.proofs.Common.{sym, ap, subst, ◌∙◌, append_assoc, append-nil, true≢false}
use Rattle.std.specs.declared.result.Result.{Result}
use Rattle.std.specs.Option.{OnSome}
use Rattle.std.specs.Io.KnownBytes.{Consumes, IsAtEnd}
use Rattle.std.proofs.KnownBytes.{Consumes-trans}
use Rattle.script.specs.Items.{ItemsFrom, done, blank_line, ended, last, IsLine, is_blank}
use Rattle.input.specs.declared.error.StreamError.{StreamError}
use Rattle.input.specs.declared.line.After.{After}
use Rattle.input.specs.declared.line.After.TheVariants.{More, LineFeed, InputEnd}
use Rattle.input.specs.declared.line.LineStart.{LineStart}
use Rattle.input.specs.Private.Lines.{IsPiece, Grows, IsLineTaken, Skips, TakesLine, IsNextLine, line_feed_if}
use Rattle.input.proofs.EndLemmas.{end_later}

pub line-append : (front back : List ℕ) → IsLine front → IsLine back → IsLine (front ++ back)
line-append [] back p q = q
line-append (b ∷ front) back p q = (p.0, line-append front back p.1 q)

pub grows_by_piece : (after : After) (shown line old new : List ℕ) (taken : ℕ) (was left : Option (List ℕ)) → IsPiece shown line taken after
    → new ≡ old ++ line → (length shown ≡ 0 → OnSome was (IsAtEnd left)) → Grows old (Ok after) new (take taken shown) was left
grows_by_piece More shown line old new taken was left is grown end = (subst IsLine (sym is.1) is.0, grown ∙ ap (λ l. old ++ l) (sym is.1))
grows_by_piece LineFeed shown line old new taken was left is grown end = (line, is.1, is.0, grown)
grows_by_piece InputEnd shown line old new taken was left is grown end =
    (ap (λ n. take n shown) is.1, grown ∙ ap (λ l. old ++ l) is.0 ∙ append-nil old, end is.2)

module _ (start mid left : Option (List ℕ)) (old new bytes : List ℕ) (is : IsLine old) (before : Consumes start mid old)
    (taken : Consumes mid left bytes) (r : Result After StreamError) (grown : Grows old r new bytes mid left) where
  pub line_goes_on : r ≡ Ok More → IsLine new × Consumes start left new
  line_goes_on e =
      let more = subst (λ r. Grows old r new bytes mid left) e grown in (
        subst IsLine (sym more.1) (line-append old bytes is more.0),
        subst (Consumes start left) (sym more.1) (Consumes-trans start mid left old bytes before taken),
      )

  pub line_closed : r ≡ Ok LineFeed → (all : List ℕ) × Consumes start left all × IsLineTaken (Ok true) new all start left
  line_closed e =
      let (line, whole, is_line, more) = subst (λ r. Grows old r new bytes mid left) e grown in (
        old ++ bytes,
        Consumes-trans start mid left old bytes before taken,
        (
          subst IsLine (sym more) (line-append old line is is_line),
          ap (λ l. old ++ l) whole ∙ sym (append_assoc old line (10 ∷ [])) ∙ ap (λ l. l ++ 10 ∷ []) (sym more),
          λ not_closed. absurd (true≢false not_closed),
        ),
      )

  pub line_ended : r ≡ Ok InputEnd → (all : List ℕ) × Consumes start left all × IsLineTaken (Ok false) new all start left
  line_ended e =
      let (nothing, same, end) = subst (λ r. Grows old r new bytes mid left) e grown in (
        old ++ bytes,
        Consumes-trans start mid left old bytes before taken,
        (
          subst IsLine (sym same) is,
          ap (λ l. old ++ l) nothing ∙ ap (λ l. l ++ []) (sym same),
          λ not_closed. end_later start mid left old before end,
        ),
      )

blank_end : (n : ℕ) (line : List ℕ) → IsLine line → IsTrue (is_blank line) → ItemsFrom n line []
blank_end n [] is blank = done
blank_end n (b ∷ line) is blank = blank_line (b ∷ line) [] (last refl is (λ e. cc) refl) blank done

module _ (start mid left : Option (List ℕ)) (first number : ℕ) (skipped line bytes : List ℕ) (before : Consumes start mid skipped)
    (skips : Skips first skipped number) (taken : Consumes mid left bytes) where
  all_taken : Consumes start left (skipped ++ bytes)
  all_taken = Consumes-trans start mid left skipped bytes before taken

  pub skips_more : (closed : Bool) → closed ≡ true → IsLineTaken (Ok closed) line bytes mid left → IsTrue (is_blank line)
      → (all : List ℕ) × Consumes start left all × Skips first all (number + 1)
  skips_more closed e is' blank =
      let is = subst (λ b. IsLineTaken (Ok b) line bytes mid left) e is' in (
        skipped ++ bytes,
        all_taken,
        λ rest items h.
            let same : (skipped ++ bytes) ++ rest ≡ skipped ++ (line ++ 10 ∷ rest) =
            append_assoc skipped bytes rest ∙ ap (λ l. skipped ++ (l ++ rest)) is.1
            ∙ ap (λ l. skipped ++ l) (append_assoc line (10 ∷ []) rest) in
            subst (λ t. ItemsFrom first t items) (sym same) (skips (line ++ 10 ∷ rest) items (blank_line line rest (ended refl is.0) blank h)),
      )

  pub skips_all : (closed : Bool) → closed ≡ false → IsLineTaken (Ok closed) line bytes mid left → IsTrue (is_blank line)
      → (all : List ℕ) × Consumes start left all × IsNextLine first (Ok None) line all start left
  skips_all closed e is' blank =
      let is = subst (λ b. IsLineTaken (Ok b) line bytes mid left) e is' in
      let same : skipped ++ bytes ≡ skipped ++ line = ap (λ l. skipped ++ l) (is.1 ∙ append-nil line) in (
        skipped ++ bytes,
        all_taken,
        (
          subst (λ t. ItemsFrom first t []) (sym same) (skips line [] (blank_end number line is.0 blank)),
          end_later start mid left skipped before (is.2 refl),
        ),
      )

  pub takes_line : (closed : Bool) (found : LineStart) → found.line ≡ number → found.closed ≡ closed
      → IsLineTaken (Ok closed) line bytes mid left → IsFalse (is_blank line)
      → (all : List ℕ) × Consumes start left all × TakesLine first found line all start left
  takes_line closed found is_number is_closed is not_blank = (
    skipped ++ bytes,
    all_taken,
    record {
      skipped = skipped;
      whole = ap (λ l. skipped ++ l) (is.1 ∙ ap (λ b. line ++ line_feed_if b) (sym is_closed));
      is_line = is.0;
      not_blank = not_blank;
      skips = subst (Skips first skipped) (sym is_number) skips;
      end = λ not_closed. end_later start mid left skipped before (is.2 (sym is_closed ∙ not_closed));
    },
  )
