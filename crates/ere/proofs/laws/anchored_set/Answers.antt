use Rattle.std.proofs.Common.{◌≡◌, ℕ, List, [], ◌∷◌, ◌++◌, Bool, IsTrue, refl, sym, ap, ◌∙◌}
use Rattle.ere.specs.ByteSet.{has}
use Rattle.ere.specs.Language.{ContainsMatch, InLanguage, InEach}
use Rattle.ere.specs.Tree.{at_start, at_end, cat, set, more, none}
use Rattle.ere.proofs.laws.anchored_set.Goals as goal

one_byte : (line before word after f1 b1 f2 b2 f3 b3 : List ℕ) (b : ℕ) → line ≡ before ++ (word ++ after) → before ≡ [] → word ≡ f1 ++ b1
    → f1 ≡ [] → b1 ≡ f2 ++ b2 → f2 ≡ b ∷ [] → b2 ≡ f3 ++ b3 → f3 ≡ [] → b3 ≡ [] → b3 ++ after ≡ [] → line ≡ b ∷ []
one_byte line before word after f1 b1 f2 b2 f3 b3 b e before_is word_is f1_is b1_is f2_is b2_is f3_is b3_is after_is =
    let none : after ≡ [] = ap (λ v. v ++ after) (sym b3_is) ∙ after_is in
    e ∙ rw (before_is, word_is, f1_is, b1_is, f2_is, b2_is, f3_is, b3_is, none) refl

to_line : (members : List Bool) (line : List ℕ) → ContainsMatch (cat (more at_start (more (set members) (more at_end none)))) line
    → (b : ℕ) × (line ≡ b ∷ []) × IsTrue (has members b)
unfolding InLanguage InEach
to_line members line h =
    let first = h.in_language in
    let second = first.4 in
    let third = second.4 in (
      second.3.0,
      one_byte line h.before h.word h.after first.0 first.1 second.0 second.1 third.0 third.1 second.3.0 h.is_line first.3.0 first.2
          first.3.1 second.2 second.3.1 third.2 third.3.0 third.4 third.3.1,
      second.3.2,
    )

from_line : (members : List Bool) (line : List ℕ) → (b : ℕ) × (line ≡ b ∷ []) × IsTrue (has members b)
    → ContainsMatch (cat (more at_start (more (set members) (more at_end none)))) line
unfolding InLanguage InEach
from_line members line h = record {
  before = [];
  word = h.0 ∷ [];
  after = [];
  is_line = h.1;
  in_language = ([], h.0 ∷ [], refl, (refl, refl), (h.0 ∷ [], [], refl, (h.0, refl, h.2), ([], [], refl, (refl, refl), refl)));
}

pub returns : goal.returns
returns c = λ members line. (λ h. to_line members line h, λ h. from_line members line h)
