-- The text of rows.
use Rattle.std.proofs.Common.{◌≡◌, Bool, List, [], ◌∷◌, ◌++◌}
use Rattle.std.proofs.lemmas.Grind.{flat_map-append}
use Rattle.std.proofs.lemmas.List.{append-nil}
use Rattle.views.specs.Text.{text_of_row, text_of_rows}
use Rattle.views.specs.View.{Row}

pub text_of_both : (zero : Bool) (rows others : List Row) → text_of_rows zero (rows ++ others) ≡ text_of_rows zero rows ++ text_of_rows zero others
text_of_both zero rows others = flat_map-append (text_of_row zero) rows others

pub text_of_one : (zero : Bool) (row : Row) → text_of_rows zero (row ∷ []) ≡ text_of_row zero row
text_of_one zero row = append-nil (text_of_row zero row)
