-- What is shown, part after part.
use Rattle.std.specs.Prelude.{ℕ, List, flat_map}
use Rattle.views.specs.declared.shown.ShownContents.{ShownContents}
use Rattle.views.specs.Shown.{Shown}

-- the text of all parts
abbrev pub text_of_parts : List (List ℕ) → List ℕ
text_of_parts parts = flat_map (λ text. text) parts

abbrev pub shown_of : ShownContents → Shown
shown_of contents = record {
  view = contents.view;
  version = contents.version;
  count = contents.count;
  more = contents.more;
  rows = contents.rows;
  text = text_of_parts contents.parts.items;
  documents = contents.documents;
  candidates = contents.candidates;
  found_by = contents.found_by;
  times = contents.times;
}
