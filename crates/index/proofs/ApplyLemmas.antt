-- The contents of an index after a put or a remove.
use Rattle.std.proofs.Common.{ℕ, ◌+◌, ◌*◌, ◌<◌, ◌≤◌, ◌==◌, not, Bool, List, [], ◌∷◌, ◌++◌, map, length, sym, subst, arith}
use Rattle.std.specs.Prelude.{All}
use Rattle.std.specs.List.Sorted.{IsStrictlyIncreasing}
use Rattle.std.proofs.lemmas.List.{map-append}
use Rattle.std.proofs.lemmas.List.Elements.{All-head, All-tail, All-nil, All-push, All-weaker, All-filter, All-map}
use Rattle.posting.proofs.Rising.{rising-push}
use Rattle.documents.specs.Text.{IsBody}
use Rattle.index.specs.Private.Numbered.{Document, document, body_bytes}
use Rattle.index.specs.Private.Contents.{AreContents}
use Rattle.index.specs.Private.Slots.{without_number, with_body_at}
use Rattle.index.proofs.DocumentLemmas.{numbers-replaced, All-replaced}
use Rattle.documents.proofs.RisingLemmas.{rise-filter}
use Rattle.index.proofs.StoredLemmas.{Numbered, Numbered-rise, body_bytes-cons}

-- The number is from 1 to the version, and the body is a body.
abbrev IsGoodContent : ℕ → Document → Type 0
IsGoodContent version d = (0 < d.number) × (d.number ≤ version) × IsBody d.body

later_good : (version : ℕ) (d : Document) → IsGoodContent version d → IsGoodContent (version + 1) d
later_good version d good = (good.0, omega (arith, good.1), good.2)

pub AreContents-none : AreContents 0 []
AreContents-none = record { rise = λ k inside. absurd (omega arith); good = All-nil (λ d. IsGoodContent 0 d) }

pub AreContents-later : (version : ℕ) (ds : List Document) → AreContents version ds → AreContents (version + 1) ds
AreContents-later version ds are = record {
  rise = are.rise;
  good = All-weaker (λ d. IsGoodContent version d) (λ d. IsGoodContent (version + 1) d) (later_good version) ds are.good;
}

pub AreContents-without : (version : ℕ) (ds : List Document) (number : ℕ) → AreContents version ds → AreContents version (without_number number ds)
AreContents-without version ds number are = record {
  rise = rise-filter (λ d. d.number) (λ d. not (d.number == number)) ds are.rise;
  good = All-filter (λ d. not (d.number == number)) (λ d. IsGoodContent version d) ds are.good;
}

pub AreContents-replace : (version : ℕ) (ds : List Document) (number : ℕ) (body : List ℕ) → IsBody body → AreContents version ds
    → AreContents (version + 1) (map (with_body_at number body) ds)
AreContents-replace version ds number body is_body are = record {
  rise = subst IsStrictlyIncreasing (sym (numbers-replaced chosen body ds)) are.rise;
  good =
      All-replaced chosen body (λ d. IsGoodContent (version + 1) d) ds (λ d good. (good.0, good.1, is_body))
      (All-weaker (λ d. IsGoodContent version d) (λ d. IsGoodContent (version + 1) d) (later_good version) ds are.good);
}
  where
    chosen : Document → Bool
    chosen d = d.number == number

pub AreContents-new : (version : ℕ) (ds : List Document) (name body : List ℕ) → IsBody body → AreContents version ds
    → AreContents (version + 1) (ds ++ document (version + 1) name body ∷ [])
AreContents-new version ds name body is_body are =
    let low : All (λ d. d.number < version + 1) ds = λ k d inside. (let good = are.good k d inside in omega (arith, good.1)) in
    record {
      rise =
          rw (map-append (λ d. d.number) ds (document (version + 1) name body ∷ []))
          (rising-push (map (λ d. d.number) ds) (version + 1) are.rise (All-map (λ n. n < version + 1) (λ d. d.number) ds low));
      good =
          All-push (λ d. IsGoodContent (version + 1) d) ds (document (version + 1) name body)
          (All-weaker (λ d. IsGoodContent version d) (λ d. IsGoodContent (version + 1) d) (later_good version) ds are.good)
          (omega arith, omega arith, is_body);
    }

-- ---- how many contents there can be

count-above : (ds : List Document) (low version : ℕ) → Numbered ds → All (λ d. d.number ≤ version) ds → All (λ d. low < d.number) ds
    → low ≤ version → length ds + low ≤ version
count-above [] low version numbered most above under = omega arith
count-above (d ∷ ds) low version numbered most above under =
    let here = All-head (λ e. low < e.number) d ds above in
    let top = All-head (λ e. e.number ≤ version) d ds most in
    let rest = count-above ds d.number version numbered.1 (All-tail (λ e. e.number ≤ version) d ds most) numbered.0 top in
    omega arith

length-contents : (version : ℕ) (ds : List Document) → AreContents version ds → length ds ≤ version
length-contents version ds are =
    let all =
    count-above ds 0 version (Numbered-rise ds are.rise) (λ k d inside. (let good = are.good k d inside in good.1))
    (λ k d inside. (let good = are.good k d inside in good.0)) (omega arith) in
    omega arith

pub bytes_at_most : (ds : List Document) → All (λ d. length d.body ≤ 67108864) ds → body_bytes ds ≤ 67108864 * length ds
bytes_at_most [] short = omega arith
bytes_at_most (d ∷ ds) short =
    let here = All-head (λ e. length e.body ≤ 67108864) d ds short in
    let rest = bytes_at_most ds (All-tail (λ e. length e.body ≤ 67108864) d ds short) in
    omega (arith, here, rest, body_bytes-cons d ds)

pub bytes-contents : (version : ℕ) (ds : List Document) → AreContents version ds → body_bytes ds ≤ 67108864 * version
bytes-contents version ds are =
    let most = bytes_at_most ds (λ k d inside. (let good = are.good k d inside in good.2.short)) in
    let count = length-contents version ds are in
    omega arith
