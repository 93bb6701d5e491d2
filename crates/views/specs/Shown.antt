-- What a client gets of an answer: its first line, and the text of its rows.
use Rattle.std.specs.Prelude.{ℕ, Bool, if◌then◌else◌, List, [], ◌++◌, Option, Some, None, codes, decimal}
use Rattle.request.specs.declared.options.View.{View}
use Rattle.request.specs.declared.options.View.TheVariants as view
use Rattle.views.specs.declared.shown.FoundBy.{FoundBy}
use Rattle.views.specs.declared.shown.FoundBy.TheVariants.{Engine, Matcher, Simulation}
use Rattle.views.specs.declared.shown.Times.{Times}
use Rattle.views.specs.Text.{line_end}
use Rattle.views.specs.View.{shows_names}

-- count: how many lines, or names, are shown. more: whether there are others. rows: how many rows there are. text: their text.
-- documents and candidates: as an answer has them. found_by and times: how it was made, if that is shown.
pub record Shown : Type 0 where
  pub view : View
  pub version : ℕ
  pub count : ℕ
  pub more : Bool
  pub rows : ℕ
  pub text : List ℕ
  pub documents : ℕ
  pub candidates : ℕ
  pub found_by : FoundBy
  pub times : Option Times

-- the same, with these times
abbrev pub timed : Times → Shown → Shown
timed times shown = record shown { times = Some times }

-- ---- its text

abbrev pub text_of_rows_count : View → ℕ → List ℕ
text_of_rows_count (view.Context most) rows = codes " rows " ++ decimal rows
text_of_rows_count _ rows = []

unfoldable pub text_of_stats : Shown → List ℕ
text_of_stats shown = codes " candidates " ++ decimal shown.candidates ++ codes " of " ++ decimal shown.documents

-- the word of a way
abbrev pub text_of_way : FoundBy → List ℕ
text_of_way Engine = codes "engine"
text_of_way Matcher = codes "matcher"
text_of_way Simulation = codes "simulation"

-- microseconds, and the way by which lines were found
abbrev pub text_of_times : FoundBy → Option Times → List ℕ
text_of_times found_by (Some times) =
    codes " waited " ++ decimal times.waited ++ codes " worked " ++ decimal times.worked ++ codes " by " ++ text_of_way found_by
text_of_times found_by None = []

unfoldable pub text_of_head : ℕ → Bool → Shown → List ℕ
text_of_head search stats shown =
    codes "search " ++ decimal search ++ codes " version " ++ decimal shown.version
    ++ (if shows_names shown.view then codes " names " else codes " lines ") ++ decimal shown.count
    ++ (if shown.more then codes " and more" else []) ++ text_of_rows_count shown.view shown.rows
    ++ (if stats then text_of_stats shown else []) ++ text_of_times shown.found_by shown.times ++ line_end

-- a line for the search, then the rows
unfoldable pub text_of_shown : ℕ → Bool → Shown → List ℕ
text_of_shown search stats shown = text_of_head search stats shown ++ shown.text
