-- Bytes that are read or passed over, piece by piece.
use Rattle.std.proofs.Common.{◌≡◌, ◌==◌, ℕ, ◌+◌, ◌-◌, ◌≤◌, List, ◌++◌, length, take, Option, Ok, Bool, false, nat_lt, cond, sym, ap, subst}
use Rattle.std.proofs.Common.{◌∙◌, arith, length-append}
use Rattle.std.specs.Option.{OnSome}
use Rattle.std.specs.Io.KnownBytes.{Consumes, IsAtEnd}
use Rattle.std.proofs.KnownBytes.{Consumes-trans}
use Rattle.std.proofs.lemmas.List.Sums.{sum_by-append, count_by-le-length}
use Rattle.std.proofs.lemmas.Bool.Decides.{nat_tests}
use Rattle.script.specs.Items.{line_feeds}
use Rattle.input.specs.declared.body.Passed.{Passed}
use Rattle.input.specs.declared.body.Closing.{Closing}
use Rattle.input.specs.declared.body.Closing.TheVariants.{LineFeed, OtherByte, InputEnd}
use Rattle.input.specs.Private.Bytes.{IsUpTo, Counts, Passes, IsNextByte, Closes}
use Rattle.input.proofs.EndLemmas.{end_later}

pub line_feeds-append : (front back : List ℕ) → line_feeds (front ++ back) ≡ line_feeds front + line_feeds back
line_feeds-append front back = sum_by-append (λ b. cond (b == 10) 1 0) front back

pub few_line_feeds : (bytes : List ℕ) → line_feeds bytes ≤ length bytes
few_line_feeds bytes = count_by-le-length (λ b. b == 10) bytes

module _ (start mid left : Option (List ℕ)) (size : ℕ) (old new bytes : List ℕ) (few : length old ≤ size) (before : Consumes start mid old)
    (taken : Consumes mid left bytes) where
  pub fills_more : new ≡ old ++ bytes → length bytes ≤ size - length old → (length new ≤ size) × Consumes start left new
  fills_more grown within = (
    omega (arith, ap length grown ∙ length-append old bytes, few, within),
    subst (Consumes start left) (sym grown) (Consumes-trans start mid left old bytes before taken),
  )

  pub fills_to_end : new ≡ old ++ bytes → length bytes ≤ size - length old → OnSome mid (IsAtEnd left) → Consumes start left new × IsUpTo new size start left
  fills_to_end grown within end =
      let (few', all) = fills_more grown within in
      (all, (few', λ short. end_later start mid left old before end))

module _ (start mid left : Option (List ℕ)) (size : ℕ) (done bytes : List ℕ) (first second : Passed) (before : Consumes start mid done)
    (counted : Counts first done) (taken : Consumes mid left bytes) where
  pub passes_more : Counts second bytes → length bytes ≤ size - first.count → first.count ≤ size → (both : Passed)
      → both.count ≡ first.count + second.count → both.line_feeds ≡ first.line_feeds + second.line_feeds
      → (all : List ℕ) × Consumes start left all × Counts both all × (both.count ≤ size)
  passes_more more few within both count feeds = (
    done ++ bytes,
    Consumes-trans start mid left done bytes before taken,
    (
      omega (arith, count, counted.0, more.0, length-append done bytes),
      omega (arith, feeds, counted.1, more.1, line_feeds-append done bytes),
    ),
    omega (arith, count, more.0, few, within),
  )

  pub passes_to_end : Counts second bytes → length bytes ≤ size - first.count → first.count ≤ size → OnSome mid (IsAtEnd left)
      → (both : Passed) → both.count ≡ first.count + second.count → both.line_feeds ≡ first.line_feeds + second.line_feeds
      → (all : List ℕ) × Consumes start left all × Passes size (Ok both) all start left
  passes_to_end more few within end both count feeds =
      let (all, all_taken, is, small) = passes_more more few within both count feeds in
      (all, all_taken, (is, (omega (arith, is.0, small), λ short. end_later start mid left done before end)))

pub none_if_not_more : (n : ℕ) (more : Bool) → more ≡ nat_lt 0 n → more ≡ false → n ≡ 0
none_if_not_more n more is not_more = grind (arith, nat_tests)

pub closes_by_next_byte : (closing : Closing) (shown : List ℕ) (taken : ℕ) (was left : Option (List ℕ)) → IsNextByte shown closing taken
    → (length shown ≡ 0 → OnSome was (IsAtEnd left)) → Closes closing (take taken shown) was left
closes_by_next_byte LineFeed shown taken was left front end = front
closes_by_next_byte OtherByte shown taken was left front end = front
closes_by_next_byte InputEnd shown taken was left front end = (ap (λ n. take n shown) front.0, end front.1)
