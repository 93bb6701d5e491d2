-- Hits of one document, as its rows are formed from them: their numbers rise, and their lines have no line feed.
use Rattle.std.proofs.Common.{◌≡◌, ℕ, zero, suc, ◌+◌, ◌≤◌, ◌<◌, Bool, true, false, Option, Some, None, List, [], ◌∷◌, ◌++◌, map, length, take, slice_index, refl, sym, subst, arith}
use Rattle.std.specs.Prelude.{All, if◌then◌else◌}
use Rattle.std.specs.List.{AllByRecursion}
use Rattle.std.specs.List.Sorted.{IsStrictlyIncreasing}
use Rattle.std.proofs.lemmas.List.Elements.{All-nil, All-cons}
use Rattle.engine.proofs.Deciding.{lines-feedless}
use Rattle.engine.proofs.LineLemmas.{NoFeed, no_feed_at}
use Rattle.documents.specs.declared.document.SharedDocument.{SharedDocument}
use Rattle.lines.specs.Lines.{lines_of}
use Rattle.search.specs.Private.Added.{AddsUpTo}
use Rattle.search.specs.Private.Documents.{lines_of_taken}
use Rattle.search.specs.Private.Gathered.{shown_hits}
use Rattle.search.specs.Private.Seekers.{IsOneLine}
use Rattle.request.specs.declared.options.View.{View}
use Rattle.views.specs.Found.{Hit}
use Rattle.views.specs.View.{shows_names}
use Rattle.search.specs.Selects.{Selects, done, keep, skip}
use Rattle.views.specs.Found.{numbered}
use Rattle.views.specs.Rows.{limited}
use Rattle.search.proofs.GatherLemmas.{All-limited}
use Rattle.search.proofs.SelectsLemmas.{All-Selects}
use Rattle.search.proofs.ViewLemmas.{All-left}

-- ---- numbers

-- The numbers of the hits rise, from this one on.
abbrev Rises : ℕ → List Hit → Type 0
Rises low [] = Unit {0}
Rises low (x ∷ xs) = (low ≤ x.line) × Rises (suc x.line) xs

rises-lower : (low line : ℕ) (xs : List Hit) → low ≤ line → Rises line xs → Rises low xs
rises-lower low line [] h r = tt
rises-lower low line (x ∷ xs) h r = (omega (arith, r.0), r.1)

rises-numbered : (name : List ℕ) (line : ℕ) (texts : List (List ℕ)) → Rises line (numbered name line texts)
unfolding numbered
rises-numbered name line [] = tt
rises-numbered name line (text ∷ texts) = (omega arith, rises-numbered name (suc line) texts)

rises-Selects : {Has : Hit → Type 0} {all kept : List Hit} (low : ℕ) → Selects Has all kept → Rises low all → Rises low kept
rises-Selects low done r = tt
rises-Selects low (keep {x} h s) r = (r.0, rises-Selects (suc x.line) s r.1)
rises-Selects low (skip {x} {kept} h s) r = rises-lower low (suc x.line) kept (omega (arith, r.0)) (rises-Selects (suc x.line) s r.1)

rises-left : (low : ℕ) (xs ys : List Hit) → Rises low (xs ++ ys) → Rises low xs
rises-left low [] ys r = tt
rises-left low (x ∷ xs) ys r = (r.0, rises-left (suc x.line) xs ys r.1)

rises-first : (low n : ℕ) (xs : List Hit) → Rises low xs → Rises low (take n xs)
rises-first low zero xs r = tt
rises-first low (suc n) [] r = tt
rises-first low (suc n) (x ∷ xs) r = (r.0, rises-first (suc x.line) n xs r.1)

rises-limited : (low : ℕ) (limit : Option ℕ) (xs : List Hit) → Rises low xs → Rises low (limited limit xs)
rises-limited low None xs r = r
rises-limited low (Some most) xs r = rises-first low most xs r

increasing : (low k next : ℕ) (xs : List Hit) → Rises low xs → next ≡ suc k → next < length (map (λ (h : Hit). h.line) xs)
    → slice_index (map (λ (h : Hit). h.line) xs) k < slice_index (map (λ (h : Hit). h.line) xs) next
increasing low k next [] r e inside = absurd (omega (arith, inside))
increasing low zero (suc zero) (x ∷ []) r e inside = absurd (omega (arith, inside))
increasing low zero (suc zero) (x ∷ y ∷ xs) r e inside = omega (arith, r.1.0)
increasing low zero (suc (suc n)) (x ∷ xs) r e inside = absurd (omega arith)
increasing low (suc k) (suc next) (x ∷ xs) r e inside = increasing (suc x.line) k next xs r.1 (omega arith) (omega (arith, inside))
increasing low k zero (x ∷ xs) r e inside = absurd (omega arith)

-- ---- lines

one-lines : (lines : List (List ℕ)) → AllByRecursion NoFeed lines → AllByRecursion IsOneLine lines
one-lines [] each = tt
one-lines (line ∷ lines) each = (λ k low. no_feed_at line k each.0 low, one-lines lines each.1)

one-numbered : (name : List ℕ) (line : ℕ) (texts : List (List ℕ)) → AllByRecursion IsOneLine texts
    → AllByRecursion (λ (h : Hit). IsOneLine h.text) (numbered name line texts)
unfolding numbered
one-numbered name line [] each = tt
one-numbered name line (text ∷ texts) each = (each.0, one-numbered name (suc line) texts each.1)

all-from : (P : Hit → Type 0) (xs : List Hit) → AllByRecursion P xs → All P xs
all-from P [] h = All-nil P
all-from P (x ∷ xs) h = All-cons P x xs h.0 (all-from P xs h.1)

-- ---- what a scan adds to nothing

module _ (Has : Hit → Type 0) (d : SharedDocument) (most : Option ℕ) (hits : List Hit) (adds : AddsUpTo most Has (lines_of_taken d) [] hits)
    (shown : View) (left : Option ℕ) where
  abbrev cut : Option ℕ
  cut = if shows_names shown then None else left

  is_cut : limited cut hits ≡ shown_hits shown left hits
  is_cut = go (shows_names shown)
    where
      go : (b : Bool) → limited (if b then None else left) hits ≡ (if b then hits else limited left hits)
      go true = refl
      go false = refl

  pub rising : IsStrictlyIncreasing (map (λ h. h.line) (shown_hits shown left hits))
  rising =
      let all = rises-Selects 1 adds.selected (rises-numbered d.name 1 (lines_of d.held)) in
      let first = subst (λ hs. Rises 1 hs) (sym adds.appended) (rises-left 1 adds.added adds.rest all) in
      subst (λ hs. IsStrictlyIncreasing (map (λ (h : Hit). h.line) hs)) is_cut
      (λ k inside. increasing 1 k (k + 1) (limited cut hits) (rises-limited 1 cut hits first) (omega arith) inside)

  pub feedless : All (λ h. IsOneLine h.text) (shown_hits shown left hits)
  feedless =
      let P = λ (h : Hit). IsOneLine h.text in
      let all = All-Selects P adds.selected (one-numbered d.name 1 (lines_of d.held) (one-lines (lines_of d.held) (lines-feedless d.held))) in
      let first = subst (λ hs. AllByRecursion P hs) (sym adds.appended) (All-left P adds.added adds.rest all) in
      subst (λ hs. All P hs) is_cut (all-from P (limited cut hits) (All-limited P cut hits first))
