-- Keys, and the sets that a list of keys has.
use Rattle.std.proofs.Common.{◌≡◌, ℕ, ◌<◌, Bool, true, false, ◌&&◌, ◌||◌, ◌==◌, List, [], ◌∷◌, ◌++◌, map, refl, sym, ap, ◌∙◌, arith, append_assoc}
use Rattle.std.specs.Prelude.{All}
use Rattle.std.proofs.lemmas.Bool.Decides.{nat_tests}
use Rattle.std.proofs.lemmas.List.{append-nil}
use Rattle.std.proofs.lemmas.List.Elements.{All-head, All-tail}
use Rattle.segments.specs.Contents.{has}
use Rattle.segments.specs.Private.Table.{PlaceSet}
use Rattle.segments.specs.Private.Keys.{key, trigram_in, place_in, keys_of}
use Rattle.segments.specs.Private.Places.{trigrams_at}
use Rattle.segments.proofs.SetLemmas.{has-append}

pub trigram_in-key : (t p : ℕ) → p < 4294967296 → trigram_in (key t p) ≡ t
trigram_in-key t p small = omega arith

pub place_in-key : (t p : ℕ) → p < 4294967296 → place_in (key t p) ≡ p
place_in-key t p small = omega arith

pub key_again : (k : ℕ) → key (trigram_in k) (place_in k) ≡ k
key_again k = omega arith

pub place_in-small : (k : ℕ) → place_in k < 4294967296
place_in-small k = omega arith

pub same_key : (t u p q : ℕ) → p < 4294967296 → q < 4294967296 → (key t p == key u q) ≡ (t == u && p == q)
same_key t u p q small small' = grind (arith, nat_tests)

pub keys_of-none : keys_of [] ≡ []
unfolding keys_of
keys_of-none = refl

pub keys_of-push : (sets : List PlaceSet) (s : PlaceSet) → keys_of (sets ++ s ∷ []) ≡ keys_of sets ++ map (key s.trigram) s.places
unfolding keys_of
keys_of-push [] s = append-nil (map (key s.trigram) s.places)
keys_of-push (r ∷ sets) s =
    ap (λ ks. map (key r.trigram) r.places ++ ks) (keys_of-push sets s)
    ∙ sym (append_assoc (map (key r.trigram) r.places) (keys_of sets) (map (key s.trigram) s.places))

-- a key among those of one set
pub has-map_key : (t : ℕ) (places : List ℕ) (u p : ℕ) → All (λ q. q < 4294967296) places → p < 4294967296
    → has (map (key t) places) (key u p) ≡ (t == u && has places p)
has-map_key t [] u p small small' = none (t == u)
  where
    none : (b : Bool) → false ≡ (b && false)
    none true = refl
    none false = refl
has-map_key t (q ∷ places) u p small small' =
    ap (λ b. b || has (map (key t) places) (key u p)) (same_key t u q p (All-head (λ r. r < 4294967296) q places small) small')
    ∙ ap (λ b. (t == u && q == p) || b) (has-map_key t places u p (All-tail (λ r. r < 4294967296) q places small) small')
    ∙ sym (both (t == u) (q == p) (has places p))
  where
    both : (a b c : Bool) → (a && (b || c)) ≡ ((a && b) || (a && c))
    both true b c = refl
    both false b c = refl

-- a place has a trigram exactly if their key is there
pub has-trigrams_at : (sets : List PlaceSet) (t p : ℕ) → All (λ s. All (λ q. q < 4294967296) s.places) sets → p < 4294967296
    → has (trigrams_at sets p) t ≡ has (keys_of sets) (key t p)
unfolding keys_of
has-trigrams_at [] t p small small' = refl
has-trigrams_at (s ∷ sets) t p small small' =
    cases (has s.places p) refl (has-trigrams_at sets t p (All-tail (λ (r : PlaceSet). All (λ q. q < 4294967296) r.places) s sets small) small')
    ∙ ap (λ b. b || has (keys_of sets) (key t p)) (sym (has-map_key s.trigram s.places t p (All-head (λ (r : PlaceSet). All (λ q. q < 4294967296) r.places) s sets small) small'))
    ∙ sym (has-append (map (key s.trigram) s.places) (keys_of sets) (key t p))
  where
    and_true : (a : Bool) → a ≡ (a && true)
    and_true true = refl
    and_true false = refl

    and_false : (a : Bool) → false ≡ (a && false)
    and_false true = refl
    and_false false = refl

    cases : (b : Bool) → has s.places p ≡ b → has (trigrams_at sets p) t ≡ has (keys_of sets) (key t p)
        → has (trigrams_at (s ∷ sets) p) t ≡ ((s.trigram == t && has s.places p) || has (keys_of sets) (key t p))
    cases true e later = rw e (ap (λ b. s.trigram == t || b) later ∙ ap (λ b. b || has (keys_of sets) (key t p)) (and_true (s.trigram == t)))
    cases false e later = rw e (later ∙ ap (λ b. b || has (keys_of sets) (key t p)) (and_false (s.trigram == t)))
