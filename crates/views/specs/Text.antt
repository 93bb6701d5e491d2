-- The text of what is shown of an answer (this program's choice; `NAME:LINE:TEXT`, `NAME-LINE-TEXT` and `--` follow grep's form).
use Rattle.std.specs.Prelude.{◌≡◌, ℕ, ◌+◌, Bool, if◌then◌else◌, List, [], ◌∷◌, ◌++◌, take, length, flat_map, codes, decimal}
use Rattle.spans.specs.declared.span.Span.{Span}
use Rattle.views.specs.Found.{Hit}
use Rattle.views.specs.View.{Row, hit, at_column, with_spans, near, gap, name, count}

-- a line feed
abbrev pub line_end : List ℕ
line_end = 10 ∷ []

-- what comes after a name: this byte, or a zero byte in its place
abbrev pub after_name : Bool → ℕ → List ℕ
after_name zero byte = (if zero then 0 else byte) ∷ []

-- a name, a line's number and what is between them, and the byte after the number
abbrev pub text_of_place : Bool → ℕ → Hit → List ℕ
text_of_place zero byte found = found.name ++ after_name zero byte ++ decimal found.line ++ byte ∷ []

-- NAME:LINE:TEXT
unfoldable pub text_of_hit : Bool → Hit → List ℕ
text_of_hit zero found = text_of_place zero 58 found ++ found.text ++ line_end

-- the columns of a span's first and last byte, counted from 1
abbrev pub text_of_span : Span → List ℕ
text_of_span span = decimal (span.start + 1) ++ codes "-" ++ decimal span.end

unfoldable pub text_of_spans : List Span → List ℕ
text_of_spans [] = []
text_of_spans (span ∷ []) = text_of_span span
text_of_spans (span ∷ other ∷ spans) = text_of_span span ++ codes "," ++ text_of_spans (other ∷ spans)

unfoldable pub text_of_row : Bool → Row → List ℕ
text_of_row zero (hit found) = text_of_hit zero found
text_of_row zero (at_column column found) = text_of_place zero 58 found ++ decimal column ++ codes ":" ++ found.text ++ line_end
text_of_row zero (with_spans spans found) = text_of_place zero 58 found ++ text_of_spans spans ++ codes ":" ++ found.text ++ line_end
text_of_row zero (near line) = text_of_place zero 45 line ++ line.text ++ line_end
text_of_row zero gap = codes "--" ++ line_end
text_of_row zero (name of) = of ++ (if zero then 0 ∷ [] else []) ++ line_end
text_of_row zero (count of n) = of ++ after_name zero 58 ++ decimal n ++ line_end

abbrev pub text_of_rows : Bool → List Row → List ℕ
text_of_rows zero rows = flat_map (text_of_row zero) rows

-- a line for each hit
abbrev pub text_of_hits : Bool → List Hit → List ℕ
text_of_hits zero hits = flat_map (text_of_hit zero) hits

-- the new text begins with the old
abbrev pub Begins : List ℕ → List ℕ → Type 0
Begins old new = take (length old) new ≡ old
