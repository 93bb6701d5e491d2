-- Documents that are kept for their names.
use Rattle.std.proofs.Common.{◌≡◌, ◌≢◌, ℕ, zero, suc, ◌<◌, Bool, true, false, not, ◌||◌, List, [], ◌∷◌, ◌++◌, length}
use Rattle.std.proofs.Common.{slice_index, refl, sym, ◌∙◌, ap, subst, arith, append_assoc}
use Rattle.std.specs.List.{list_any}
use Rattle.std.proofs.lemmas.List.{append-nil}
use Rattle.std.proofs.lemmas.Bool.{false≢true, true≢false}
use Rattle.engine.proofs.LineLemmas.{NoFeed}
use Rattle.documents.specs.Text.{IsName, is_name_byte}
use Rattle.documents.specs.declared.document.SharedDocument.{SharedDocument}
use Rattle.search.specs.Selects.{Selects, done, keep, skip}

-- ---- a name is a line

no_bad_feed : (bytes : List ℕ) → list_any (λ b. not (is_name_byte b)) bytes ≡ false → (k : ℕ) → k < length bytes → slice_index bytes k ≢ 10
no_bad_feed [] good k low = absurd (omega arith)
no_bad_feed (b ∷ bytes) good k low = go (is_name_byte b) refl good (no_bad_feed bytes) k low
  where
    go : (t : Bool) → is_name_byte b ≡ t → (not t || list_any (λ b. not (is_name_byte b)) bytes) ≡ false
        → (list_any (λ b. not (is_name_byte b)) bytes ≡ false → (k : ℕ) → k < length bytes → slice_index bytes k ≢ 10) → (k : ℕ)
        → k < length (b ∷ bytes) → slice_index (b ∷ bytes) k ≢ 10
    go false is bad deeper k low = λ feed. absurd (true≢false bad)
    go true is rest deeper zero low = λ feed. false≢true (ap is_name_byte (sym feed) ∙ is)
    go true is rest deeper (suc k) low = deeper rest k (omega arith)

pub no_feed_in_name : (bytes : List ℕ) → IsName bytes → (k : ℕ) → k < length bytes → slice_index bytes k ≢ 10
no_feed_in_name bytes is = no_bad_feed bytes is.printable

feedless_bytes : (bytes : List ℕ) → list_any (λ b. not (is_name_byte b)) bytes ≡ false → NoFeed bytes
feedless_bytes [] good = tt
feedless_bytes (b ∷ bytes) good = go (is_name_byte b) refl good (feedless_bytes bytes)
  where
    go : (t : Bool) → is_name_byte b ≡ t → (not t || list_any (λ b. not (is_name_byte b)) bytes) ≡ false
        → (list_any (λ b. not (is_name_byte b)) bytes ≡ false → NoFeed bytes) → NoFeed (b ∷ bytes)
    go false is bad deeper = absurd (true≢false bad)
    go true is rest deeper = (λ feed. false≢true (ap is_name_byte (sym feed) ∙ is), deeper rest)

pub feedless : (bytes : List ℕ) → IsName bytes → NoFeed bytes
feedless bytes is = feedless_bytes bytes is.printable

-- ---- documents that are kept

-- what is kept so far, followed by what is kept of the documents that are left, is all that is kept
abbrev pub KeepsSoFar : (SharedDocument → Type 0) → List SharedDocument → List SharedDocument → List SharedDocument → Type 0
KeepsSoFar Has all kept left = (more : List SharedDocument) → Selects Has left more → Selects Has all (kept ++ more)

module _ (Has : SharedDocument → Type 0) (all kept left rest : List SharedDocument) (first : SharedDocument) (next : left ≡ first ∷ rest)
    (so_far : KeepsSoFar Has all kept left) where
  pub keeps_one : (new : List SharedDocument) → Has first → new ≡ kept ++ first ∷ [] → KeepsSoFar Has all new rest
  keeps_one new has grown = λ more s.
      subst (λ ks. Selects Has all ks) (sym (ap (λ ks. ks ++ more) grown ∙ append_assoc kept (first ∷ []) more))
      (so_far (first ∷ more) (subst (λ ds. Selects Has ds (first ∷ more)) (sym next) (keep has s)))

  pub keeps_none : (Has first → ⊥) → KeepsSoFar Has all kept rest
  keeps_none other = λ more s. so_far more (subst (λ ds. Selects Has ds more) (sym next) (skip other s))

pub keeps_end : (Has : SharedDocument → Type 0) (all kept left : List SharedDocument) → left ≡ [] → KeepsSoFar Has all kept left → Selects Has all kept
keeps_end Has all kept left none so_far =
    subst (λ ks. Selects Has all ks) (append-nil kept) (so_far [] (subst (λ ds. Selects Has ds []) (sym none) done))
