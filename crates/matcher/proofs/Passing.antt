-- Which bytes of a line are in a set, as bits of a word.
use Rattle.std.proofs.Common.{◌≡◌, ℕ, zero, suc, ◌+◌, ◌-◌, ◌^◌, ◌≤◌, ◌<◌, Bool, true, false, not, ◌&&◌, ◌||◌, ◌==◌, nat_le, nat_lt, IsTrue}
use Rattle.std.proofs.Common.{List, length, get_or, refl, sym, ap, ◌∙◌, arith}
use Rattle.std.proofs.lemmas.Bool.Decides.{nat_tests}
use Rattle.ere.specs.ByteSet.{has}
use Rattle.ere.specs.Bits.{has_bit}
use Rattle.matcher.specs.Private.Moving.{passes, IsPassing, IsPassingFrom}
use Rattle.ere.proofs.Bits.{has_zero}
use Rattle.spans.proofs.Bits.{has_no_more}

pub passes_is : (members : List Bool) (line : List ℕ) (at : ℕ) → at < length line → passes members line at ≡ has members (get_or line at 0)
passes_is members line at inside = let test : nat_lt at (length line) ≡ true = grind (arith, nat_tests) in rw test refl

pub passing_none : (members : List Bool) (line : List ℕ) (at count : ℕ) → ((bit : ℕ) → bit < count → passes members line (at + bit) ≡ false)
    → IsPassing members line 0 at count
passing_none members line at count none = record { each = λ b l. has_zero b ∙ sym (none b l) }

-- One more position is looked at, before those looked at so far.
pub passing_more : (members : List Bool) (line : List ℕ) (found carried next at count after more : ℕ) → after ≡ at + 1 → more ≡ count + 1
    → more ≤ 64 → at < length line
    → IsPassing members line found after count → has_bit carried 0 ≡ has members (get_or line at 0) → has_bit next 0 ≡ has_bit carried 0
    → ((b : ℕ) → b < 63 → has_bit next (b + 1) ≡ has_bit found b)
    → IsPassing members line next at more
passing_more members line found carried next at count after more next_place longer inside in_line h held lowest others = record { each = each }
  where
    each : (b : ℕ) → b < more → has_bit next b ≡ passes members line (at + b)
    each zero l =
        let place : at ≡ at + 0 = omega arith in
        lowest ∙ held ∙ sym (passes_is members line at in_line) ∙ ap (λ n. passes members line n) place
    each (suc b) l =
        let bit : suc b ≡ b + 1 = omega arith in
        let place : after + b ≡ at + suc b = omega arith in
        ap (λ n. has_bit next n) bit ∙ others b (omega arith) ∙ h.each b (omega arith) ∙ ap (λ n. passes members line n) place

pub passing_at : (members : List Bool) (line : List ℕ) (word at other count as_many : ℕ) → at ≡ other → count ≡ as_many
    → IsPassing members line word at count → IsPassing members line word other as_many
passing_at members line word at other count as_many same many h = rw (← same, ← many) h

-- The bits found so far, and those of the rest that pass, are all bits of the word that pass.
pub picked_first : (pass : ℕ → Bool) (word b : ℕ) → (has_bit 0 b || (has_bit word b && pass b)) ≡ (has_bit word b && pass b)
picked_first pass word b = ap (λ t. t || (has_bit word b && pass b)) (has_zero b)

pub picked_more : (pass : ℕ → Bool) (found next rest left bit b : ℕ) (passing : Bool) → IsTrue (has_bit rest bit) → passing ≡ pass bit
    → has_bit next b ≡ (has_bit found b || (passing && b == bit)) → has_bit left b ≡ (has_bit rest b && not (b == bit))
    → (has_bit next b || (has_bit left b && pass b)) ≡ (has_bit found b || (has_bit rest b && pass b))
picked_more pass found next rest left bit b passing held test more fewer =
    ap (λ t. t || (has_bit left b && pass b)) more ∙ ap (λ t. (has_bit found b || (passing && b == bit)) || (t && pass b)) fewer
    ∙ go (b == bit) refl
  where
    here : (f p r : Bool) → IsTrue r → ((f || (p && true)) || ((r && false) && p)) ≡ (f || (r && p))
    here true p true h = refl
    here false true true h = refl
    here false false true h = refl
    here f p false h = absurd (cc)

    there : (f p q r : Bool) → ((f || (p && false)) || ((r && true) && q)) ≡ (f || (r && q))
    there true p q r = refl
    there false true q true = refl
    there false true q false = refl
    there false false q true = refl
    there false false q false = refl

    go : (t : Bool) → (b == bit) ≡ t
        → ((has_bit found b || (passing && b == bit)) || ((has_bit rest b && not (b == bit)) && pass b))
        ≡ (has_bit found b || (has_bit rest b && pass b))
    go true e =
        let same : b ≡ bit = grind (arith, nat_tests) in
        let held_here : IsTrue (has_bit rest b) = ap (λ n. has_bit rest n) same ∙ held in
        let pass_here : passing ≡ pass b = test ∙ ap pass (sym same) in
        rw (e, pass_here) (here (has_bit found b) (pass b) (has_bit rest b) held_here)
    go false e = rw e (there (has_bit found b) passing (pass b) (has_bit rest b))

pub picked_all : (pass : ℕ → Bool) (word found rest b : ℕ) → rest ≡ 0
    → (has_bit found b || (has_bit rest b && pass b)) ≡ (has_bit word b && pass b) → has_bit found b ≡ (has_bit word b && pass b)
picked_all pass word found rest b none h =
    sym (or_none (has_bit found b)) ∙ ap (λ t. has_bit found b || (t && pass b)) (sym (ap (λ n. has_bit n b) none ∙ has_zero b)) ∙ h
  where
    or_none : (t : Bool) → (t || false) ≡ t
    or_none true = refl
    or_none false = refl

-- Sixteen more positions are looked at, from bit `at` on.
module _ (members : List Bool) (line : List ℕ) (found held moved both base at from : ℕ) (low : at ≤ from) (high : from ≤ at + 16)
    (in_line : base + at + 16 ≤ length line) (h : IsPassingFrom members line found base from) (small : held < 2 ^ 16)
    (looked_at : (k : ℕ) → k < 16 → has_bit held k ≡ has members (get_or line (base + at + k) 0)) where
  shown : (b : ℕ) → at ≤ b → b < at + 16 → has_bit held (b - at) ≡ passes members line (base + b)
  shown b from_at below =
      let place : base + at + (b - at) ≡ base + b = omega arith in
      looked_at (b - at) (omega arith) ∙ ap (λ n. has members (get_or line n 0)) place ∙ sym (passes_is members line (base + b) (omega arith))

  pub sixteen_more : ((b : ℕ) → b < 64 → has_bit moved b ≡ (nat_le at b && has_bit held (b - at)))
      → ((b : ℕ) → has_bit both b ≡ (has_bit found b || has_bit moved b)) → IsPassingFrom members line both base at
  sixteen_more moves joins =
      record {
        each =
            λ b inside.
            joins b ∙ ap (λ t. t || has_bit moved b) (h.each b inside)
            ∙ ap (λ t. (nat_le from b && passes members line (base + b)) || t) (moves b inside)
            ∙ go b (nat_le at b) (nat_lt b (at + 16)) refl refl;
      }
    where
      all : (t p : Bool) → ((t && p) || (true && p)) ≡ (true && p)
      all true true = refl
      all true false = refl
      all false p = refl

      rest : (p : Bool) → (p || false) ≡ p
      rest true = refl
      rest false = refl

      go : (b : ℕ) (t u : Bool) → nat_le at b ≡ t → nat_lt b (at + 16) ≡ u
          → ((nat_le from b && passes members line (base + b)) || (nat_le at b && has_bit held (b - at)))
          ≡ (nat_le at b && passes members line (base + b))
      go b false u e f = let before : nat_le from b ≡ false = grind (arith, nat_tests) in rw (e, before) refl
      go b true true e f =
          let from_at : at ≤ b = grind (arith, nat_tests) in
          let below : b < at + 16 = grind (arith, nat_tests) in
          rw (e, shown b from_at below) (all (nat_le from b) (passes members line (base + b)))
      go b true false e f =
          let past : nat_le from b ≡ true = grind (arith, nat_tests) in
          let far : at + 16 ≤ b = grind (arith, nat_tests) in
          rw (e, past, has_no_more held (b - at) small (omega arith)) (rest (passes members line (base + b)))

-- No position passes from the end of the line on.
pub from_end : (members : List Bool) (line : List ℕ) (base end : ℕ) → ((bit : ℕ) → end ≤ bit → bit < 64 → length line ≤ base + bit)
    → IsPassingFrom members line 0 base end
from_end members line base end past = record { each = λ b inside. has_zero b ∙ go b inside (nat_le end b) refl }
  where
    go : (b : ℕ) → b < 64 → (t : Bool) → nat_le end b ≡ t → false ≡ (nat_le end b && passes members line (base + b))
    go b inside false e = rw e refl
    go b inside true e =
        let from : end ≤ b = grind (arith, nat_tests) in
        let out : length line ≤ base + b = past b from inside in
        let none : nat_lt (base + b) (length line) ≡ false = grind (arith, nat_tests) in
        rw (e, none) refl

pub from_start : (members : List Bool) (line : List ℕ) (word base from : ℕ) → from ≡ 0 → IsPassingFrom members line word base from
    → (bit : ℕ) → bit < 64 → has_bit word bit ≡ passes members line (base + bit)
from_start members line word base from none h bit inside =
    let all : nat_le from bit ≡ true = grind (arith, nat_tests) in h.each bit inside ∙ ap (λ t. t && passes members line (base + bit)) all
