-- The rows of one document.
use Rattle.std.specs.Prelude.{◌≡◌, ℕ, Bool, true, false, List, [], ◌∷◌, length, map}
use Rattle.request.specs.declared.options.View.{View}
use Rattle.request.specs.declared.options.View.TheVariants as view
use Rattle.prepare.specs.Request.{Request}
use Rattle.views.specs.Found.{Hit}
use Rattle.views.specs.View.{Row, hit, name, count, stretches}
use Rattle.views.specs.Rows.{IsColumnRow, IsSpansRow, RowsOf}

-- The row has the spans of the line's matches, or the column of the first one.
abbrev pub IsMatchRow : Bool → Request → Hit → Row → Type 0
IsMatchRow true request = IsSpansRow request
IsMatchRow false request = IsColumnRow request

-- What is shown of a document with this name and this body, of which these hits are shown. With lines near them the first stretch,
-- too, has a gap before it.
unfoldable pub AreRowsOf : Request → View → List ℕ → List ℕ → List Hit → List Row → Type 0
AreRowsOf request view.Lines of body hits rows = rows ≡ map hit hits
AreRowsOf request (view.Context most) of body hits rows = rows ≡ stretches most hits of body
AreRowsOf request view.Column of body hits rows = RowsOf (IsColumnRow request) hits rows
AreRowsOf request view.Spans of body hits rows = RowsOf (IsSpansRow request) hits rows
AreRowsOf request view.Names of body hits rows = rows ≡ name of ∷ []
AreRowsOf request view.Counts of body hits rows = rows ≡ count of (length hits) ∷ []
AreRowsOf request view.Header of body hits rows = rows ≡ []
