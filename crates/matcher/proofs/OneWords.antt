-- Sets of positions that are one word.
use Rattle.std.proofs.Common.{◌≡◌, ◌≢◌, ℕ, zero, suc, ◌+◌, ◌*◌, ◌/◌, ◌^◌, ◌≤◌, ◌<◌, Bool, true, false, not, ◌&&◌, ◌||◌, ◌==◌, nat_le}
use Rattle.std.proofs.Common.{nat_lt, IsTrue, MatchBool, List, [], ◌∷◌, length, refl, sym, ap, subst, ◌∙◌, arith}
use Rattle.std.proofs.lemmas.List.{get_or_past}
use Rattle.std.proofs.lemmas.Bool.Decides.{nat_tests}
use Rattle.std.proofs.Math.Bool.{or-false}
use Rattle.std.proofs.lemmas.Bool.{and_right}
use Rattle.ere.specs.Tree as tree
use Rattle.ere.specs.Bits.{has_bit}
use Rattle.spans.specs.PositionSets.{has_position}
use Rattle.matcher.specs.Private.Moves.{absent, HasNone, IsEither, IsNew, Moves}
use Rattle.matcher.specs.Private.Moving.{passes, arrives, comes, flood}
use Rattle.spans.specs.Spans.{Spans, Steps}
use Rattle.ere.proofs.Bits.{has_zero}
use Rattle.spans.proofs.Bits.{position_in, empty_word}
use Rattle.matcher.proofs.Joining.{some_position, added_grows}
use Rattle.matcher.proofs.Shifting.{none_passes, comes_word, moves_shifted, moves_swept}

-- the bits of the word are the positions, and there are no others
pub one_in : (word k : ℕ) → k < 64 → has_position (word ∷ []) k ≡ has_bit word k
one_in word k inside =
    let place : 0 * 64 + k ≡ k = omega arith in
    subst (λ n. has_position (word ∷ []) n ≡ has_bit word k) place (position_in (word ∷ []) 0 k inside)

pub one_out : (word k : ℕ) → 64 ≤ k → has_position (word ∷ []) k ≡ false
one_out word k far =
    let past : 1 ≤ k / 64 = omega arith in
    empty_word (word ∷ []) k (get_or_past (word ∷ []) (k / 64) 0 past)

pub one_each : (word : ℕ) (held : ℕ → Bool) → ((k : ℕ) → k < 64 → has_bit word k ≡ held k) → ((k : ℕ) → 64 ≤ k → held k ≡ false) → (k : ℕ)
    → has_position (word ∷ []) k ≡ held k
one_each word held inside outside k = go (nat_lt k 64) refl
  where
    go : (t : Bool) → nat_lt k 64 ≡ t → has_position (word ∷ []) k ≡ held k
    go true e = let low : k < 64 = grind (arith, nat_tests) in one_in word k low ∙ inside k low
    go false e = let far : 64 ≤ k = grind (arith, nat_tests) in one_out word k far ∙ sym (outside k far)

pub one_none : HasNone (0 ∷ [])
one_none = record { none = one_each 0 (λ _. false) (λ k l. has_zero k) (λ k l. refl) }

pub one_taken : (word : ℕ) → IsEither (word ∷ []) (0 ∷ []) (word ∷ [])
one_taken word = record { each = λ k. rw (one_none.none k) (sym (or-false (has_position (word ∷ []) k))) }

pub one_empty : (word : ℕ) → word < 2 ^ 64 → MatchBool (word == 0) (HasNone (word ∷ [])) ((k : ℕ) × IsTrue (has_position (word ∷ []) k))
one_empty word small = go (word == 0) refl
  where
    go : (t : Bool) → (word == 0) ≡ t → MatchBool t (HasNone (word ∷ [])) ((k : ℕ) × IsTrue (has_position (word ∷ []) k))
    go true e = let none : 0 ≡ word = grind (arith, nat_tests) in subst (λ w. HasNone (w ∷ [])) none one_none
    go false e = let some : word ≢ 0 = grind (arith, nat_tests) in some_position (word ∷ []) 0 some small

pub one_through : (word last : ℕ) → last ≤ 63 → ((b : ℕ) → has_bit word b ≡ nat_le b last) → (k : ℕ) → has_position (word ∷ []) k ≡ nat_le k last
one_through word last low each = one_each word (λ k. nat_le k last) (λ k l. each k) outside
  where
    outside : (k : ℕ) → 64 ≤ k → nat_le k last ≡ false
    outside k far = let past : last < k = omega arith in grind (arith, nat_tests)

pub one_kept : (old new position : ℕ) → ((b : ℕ) → has_bit new b ≡ (b == position && has_bit old b)) → (k : ℕ)
    → has_position (new ∷ []) k ≡ (k == position && has_position (old ∷ []) k)
one_kept old new position each =
    one_each new (λ k. k == position && has_position (old ∷ []) k) (λ k l. each k ∙ ap (λ t. k == position && t) (sym (one_in old k l)))
    (λ k far. and_right (k == position) (has_position (old ∷ []) k) (one_out old k far))

pub one_either : (left right both : ℕ) → ((b : ℕ) → has_bit both b ≡ (has_bit left b || has_bit right b)) → IsEither (left ∷ []) (right ∷ []) (both ∷ [])
one_either left right both each =
    record {
      each =
          one_each both (λ k. has_position (left ∷ []) k || has_position (right ∷ []) k)
          (λ k l. each k ∙ sym (rw (one_in left k l, one_in right k l) refl))
          (λ k far. rw (one_out left k far, one_out right k far) refl);
    }

pub one_new : (next found fresh : ℕ) → ((b : ℕ) → b < 64 → has_bit fresh b ≡ (has_bit next b && not (has_bit found b)))
    → IsNew (next ∷ []) (found ∷ []) (fresh ∷ [])
one_new next found fresh each =
    record {
      each =
          one_each fresh (λ k. has_position (next ∷ []) k && not (has_position (found ∷ []) k))
          (λ k l. each k l ∙ sym (rw (one_in next k l, one_in found k l) refl)) (λ k far. rw (one_out next k far) refl);
    }

pub one_grows : (old next both fresh : ℕ) → fresh < 2 ^ 64 → ((b : ℕ) → has_bit both b ≡ (has_bit old b || has_bit next b))
    → ((b : ℕ) → b < 64 → has_bit fresh b ≡ (has_bit next b && not (has_bit old b)))
    → MatchBool (not (fresh == 0)) (absent (both ∷ []) < absent (old ∷ [])) (HasNone (fresh ∷ []))
one_grows old next both fresh small joins news =
    added_grows (old ∷ []) (next ∷ []) (both ∷ []) (fresh ∷ []) refl (one_either old next both joins) (one_new next old fresh news)
    (fresh == 0) (one_empty fresh small)

module _ (line : List ℕ) (members : List Bool) (short : length line ≤ 63) where
  pub one_shifted : (old passing new : ℕ) → ((b : ℕ) → b < 64 → has_bit passing b ≡ (has_bit old b && passes members line (0 + b)))
      → has_bit new 0 ≡ has_bit 0 0 → ((b : ℕ) → b < 63 → has_bit new (b + 1) ≡ has_bit passing b)
      → Moves (Spans line (tree.set members)) (old ∷ []) (new ∷ [])
  one_shifted old passing new followed lowest others =
      moves_shifted line members (old ∷ []) (new ∷ []) (one_each new (arrives members line (old ∷ [])) inside outside)
    where
      inside : (k : ℕ) → k < 64 → has_bit new k ≡ arrives members line (old ∷ []) k
      inside zero l = lowest ∙ has_zero 0
      inside (suc k) l =
          let next : suc k ≡ k + 1 = omega arith in
          let place : 0 + k ≡ k = omega arith in
          ap (λ n. has_bit new n) next ∙ others k (omega arith) ∙ followed k (omega arith)
          ∙ ap (λ n. has_bit old k && passes members line n) place
          ∙ ap (λ t. t && passes members line k) (sym (one_in old k (omega arith)))

      outside : (k : ℕ) → 64 ≤ k → arrives members line (old ∷ []) k ≡ false
      outside zero far = refl
      outside (suc k) far = and_right (has_position (old ∷ []) k) (passes members line k) (none_passes members line k (omega arith))

  pub one_swept : (old new : ℕ) → ((b : ℕ) → b < 64 → has_bit new b ≡ flood (has_bit old) (λ n. passes members line (0 + n)) b)
      → Moves (λ from to. (count : ℕ) × Steps (Spans line (tree.set members)) count from to) (old ∷ []) (new ∷ [])
  one_swept old new floods =
      moves_swept line members (old ∷ []) (new ∷ []) (one_each new (flood (has_position (old ∷ [])) (passes members line)) inside outside)
    where
      held : (b : ℕ) → b < 64 → has_bit old b ≡ (has_position (old ∷ []) (0 + b) || has_bit 0 b)
      held b low =
          let place : b ≡ 0 + b = omega arith in
          sym (one_in old b low) ∙ ap (λ n. has_position (old ∷ []) n) place ∙ sym (or-false (has_position (old ∷ []) (0 + b)))
          ∙ ap (λ t. has_position (old ∷ []) (0 + b) || t) (sym (has_zero b))

      inside : (k : ℕ) → k < 64 → has_bit new k ≡ flood (has_position (old ∷ [])) (passes members line) k
      inside k l =
          let place : 0 + k ≡ k = omega arith in
          floods k l
          ∙ comes_word (has_position (old ∷ [])) (passes members line) old 0 0 (λ b low. held b low) (λ b some. has_zero b) (has_zero 0)
          k l ∙ ap (λ n. flood (has_position (old ∷ [])) (passes members line) n) place

      outside : (k : ℕ) → 64 ≤ k → flood (has_position (old ∷ [])) (passes members line) k ≡ false
      outside zero far = absurd (omega arith)
      outside (suc k) far =
          let none : comes (has_position (old ∷ [])) (passes members line) (suc k) ≡ false =
          and_right (has_position (old ∷ []) k || comes (has_position (old ∷ [])) (passes members line) k) (passes members line k)
          (none_passes members line k (omega arith)) in
          rw (one_out old (suc k) far, none) refl
