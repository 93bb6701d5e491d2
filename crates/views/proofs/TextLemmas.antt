-- Texts that grow at their end.
use Rattle.std.proofs.Common.{◌≡◌, ℕ, Bool, List, [], ◌∷◌, ◌++◌, take, length, refl, sym, ◌∙◌, ap, append_assoc}
use Rattle.std.proofs.lemmas.List.{take_at, append-nil}
use Rattle.std.specs.Prelude.{flat_map}
use Rattle.views.specs.Found.{Hit}
use Rattle.views.specs.Text.{text_of_hit, Begins}

pub Begins-append : (old more new : List ℕ) → new ≡ old ++ more → Begins old new
Begins-append old more new e = ap (λ t. take (length old) t) e ∙ take_at old more (length old) refl

-- parts one after another, as they are grouped in the text
pub four : (a b c d : List ℕ) → a ++ (b ++ (c ++ (d ++ []))) ≡ ((a ++ b) ++ c) ++ d
four a b c d = simp (append-nil, append_assoc)

pub two : (a b : List ℕ) → a ++ (b ++ []) ≡ a ++ b
two a b = simp append-nil

pub seven : (a b c d e f g : List ℕ) → a ++ (b ++ (c ++ (d ++ (e ++ (f ++ (g ++ [])))))) ≡ (((((a ++ b) ++ c) ++ d) ++ e) ++ f) ++ g
seven a b c d e f g = simp (append-nil, append_assoc)

pub six : (a b c d e f : List ℕ) → a ++ (b ++ (c ++ (d ++ (e ++ (f ++ []))))) ≡ ((((a ++ b) ++ c) ++ d) ++ e) ++ f
six a b c d e f = simp (append-nil, append_assoc)

-- five texts one after another
pub grown : (old a b c d end v w x y z : List ℕ) → v ≡ old ++ a → w ≡ v ++ b → x ≡ w ++ c → y ≡ x ++ d → z ≡ y ++ (end ++ [])
    → z ≡ old ++ ((((a ++ b) ++ c) ++ d) ++ end)
grown old a b c d end v w x y z first second third fourth last =
    last
    ∙ (ap (λ t. t ++ (end ++ [])) (fourth ∙ ap (λ t. t ++ d) (third ∙ ap (λ t. t ++ c) (second ∙ ap (λ t. t ++ b) first)))
    ∙ simp (append-nil, append_assoc))

-- ---- the lines of hits, one after another

-- the text so far: the old one, and lines which are those of all hits, but for the hits that are left
pub record WritesSoFar (zeroed : Bool) (old : List ℕ) (all left : List Hit) (now : List ℕ) : Type 0 where
  pub added : List ℕ
  pub appended : now ≡ old ++ added
  pub text : added ++ flat_map (text_of_hit zeroed) left ≡ flat_map (text_of_hit zeroed) all

pub writes_begin : (zeroed : Bool) (old : List ℕ) (all : List Hit) → WritesSoFar zeroed old all all old
writes_begin zeroed old all = record { added = []; appended = sym (append-nil old); text = refl }

module _ (zeroed : Bool) (old : List ℕ) (all left rest : List Hit) (now new : List ℕ) where
  pub writes_one : (hit : Hit) → left ≡ hit ∷ rest → new ≡ now ++ text_of_hit zeroed hit → WritesSoFar zeroed old all left now
      → WritesSoFar zeroed old all rest new
  writes_one hit next grown so_far = record {
    added = so_far.added ++ text_of_hit zeroed hit;
    appended = grown ∙ (ap (λ t. t ++ text_of_hit zeroed hit) so_far.appended ∙ append_assoc old so_far.added (text_of_hit zeroed hit));
    text =
        append_assoc so_far.added (text_of_hit zeroed hit) (flat_map (text_of_hit zeroed) rest)
        ∙ (ap (λ hits. so_far.added ++ flat_map (text_of_hit zeroed) hits) (sym next) ∙ so_far.text);
  }

pub writes_end : (zeroed : Bool) (old : List ℕ) (all left : List Hit) (now : List ℕ) → left ≡ [] → WritesSoFar zeroed old all left now
    → now ≡ old ++ flat_map (text_of_hit zeroed) all
writes_end zeroed old all left now none so_far =
    so_far.appended
    ∙ ap (λ t. old ++ t)
    (sym (append-nil so_far.added) ∙ (ap (λ hits. so_far.added ++ flat_map (text_of_hit zeroed) hits) (sym none) ∙ so_far.text))
