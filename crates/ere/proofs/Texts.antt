-- Texts from an offset on.
use Rattle.std.proofs.Common.{◌≡◌, ℕ, ◌+◌, ◌<◌, IsTrue, List, [], ◌∷◌, length, get_or, drop, refl, sym, ap, ◌∙◌, subst, arith}
use Rattle.std.proofs.lemmas.List.{drop_more, get_or-drop, drop_all}
use Rattle.std.proofs.lemmas.Bool.{eqb-true, eq-eqb}
use native.Mathlib.Decide.{dec_lt}
use Rattle.ere.specs.Brackets.{begins_with}

-- the first byte, and what is after it
pub front : (text : List ℕ) (at : ℕ) → at < length text → drop at text ≡ get_or text at 0 ∷ drop (at + 1) text
front text at inside = drop_more text at 0 inside

-- A byte is at an offset.
pub record Stands (text : List ℕ) (at byte : ℕ) : Type 0 where
  pub inside : at < length text
  pub is : get_or text at 0 ≡ byte
  pub from : drop at text ≡ byte ∷ drop (at + 1) text

pub Stands-read : (text : List ℕ) (at byte : ℕ) → at < length text → get_or text at 0 ≡ byte → Stands text at byte
Stands-read text at byte inside e = record { inside = inside; is = e; from = front text at inside ∙ ap (λ b. b ∷ drop (at + 1) text) e }

pub first_is : (byte b : ℕ) (text : List ℕ) → IsTrue (begins_with byte (b ∷ text)) → b ≡ byte
first_is byte b text h = eqb-true b byte h

pub first_begins : (byte : ℕ) (text : List ℕ) → IsTrue (begins_with byte (byte ∷ text))
first_begins byte text = eq-eqb byte byte refl

pub begins_inside : (text : List ℕ) (at byte : ℕ) → IsTrue (begins_with byte (drop at text)) → at < length text
begins_inside text at byte h = go (dec_lt at (length text))
  where
    go : Dec (at < length text) → at < length text
    go (yes p) = p
    go (no q) = let none : IsTrue (begins_with byte []) = subst (λ t. IsTrue (begins_with byte t)) (drop_all at text (omega arith)) h in absurd (cc)

pub Stands-begins : (text : List ℕ) (at byte : ℕ) → IsTrue (begins_with byte (drop at text)) → Stands text at byte
Stands-begins text at byte h =
    let inside = begins_inside text at byte h in
    Stands-read text at byte inside (first_is byte (get_or text at 0) (drop (at + 1) text) (subst (λ t. IsTrue (begins_with byte t)) (front text at inside) h))

-- Byte i of the text from an offset on is byte `at + i` of the text.
pub read_at : (text : List ℕ) (at i : ℕ) (from : List ℕ) → drop at text ≡ from → get_or text (at + i) 0 ≡ get_or from i 0
read_at text at i from e = sym (get_or-drop at text i 0) ∙ ap (λ t. get_or t i 0) e
