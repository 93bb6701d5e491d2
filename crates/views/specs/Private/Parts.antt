-- What a part has.
use Rattle.std.specs.Prelude.{ℕ, ◌≤◌, List, length}
use Rattle.views.specs.Found.{Hit}

pub record IsPart (text : List ℕ) (skipped : ℕ) (hits : List Hit) (count : ℕ) : Type 0 where
  pub from : skipped ≤ length text
  pub formed : count ≤ length hits
