-- A number that is moved in the set of one trigram.
use Rattle.std.specs.Prelude.{◌≡◌, ℕ, Bool, true, false, not, ◌&&◌, ◌||◌, ◌==◌, List}
use Rattle.posting.specs.Postings.{NumberSet, holds}

-- At most the set of the trigram changed, and only for the number: it may have gone if the trigram is no new one, and come if it is no
-- old one.
pub record MovesIn (before after : List NumberSet) (number trigram : ℕ) (is_old is_new : Bool) : Type 0 where
  pub kept : (t n : ℕ) → holds before t n ≡ true → (holds after t n || ((trigram == t && not is_new) && number == n)) ≡ true
  pub grown : (t n : ℕ) → holds after t n ≡ true → (holds before t n || ((trigram == t && not is_old) && number == n)) ≡ true

pub record IsMovedIn (table : List NumberSet) (number trigram : ℕ) (is_old is_new : Bool) : Type 0 where
  pub put : is_new ≡ true → is_old ≡ false → holds table trigram number ≡ true
  pub gone : is_new ≡ false → holds table trigram number ≡ false
