-- The text and the status of a transcript (this program's choice; the statuses follow grep's).
use Rattle.std.specs.Prelude.{ℕ, Bool, true, false, nat_lt, if◌then◌else◌, List, [], ◌++◌, flat_map, codes, decimal}
use Rattle.std.specs.List.{list_any}
use Rattle.views.specs.Shown.{text_of_shown}
use Rattle.views.specs.Text.{line_end}
use Rattle.ere.specs.declared.error.EreError.{EreError}
use Rattle.transcript.specs.declared.entry.Entry.{Entry}
use Rattle.transcript.specs.declared.entry.Entry.TheVariants.{Accepted, Refused, Published, Found, SearchRefused, Status}
use Rattle.transcript.specs.declared.entry.Reason.{Reason}
use Rattle.transcript.specs.declared.entry.SearchReason.{SearchReason}
use Rattle.transcript.specs.declared.entry.SearchReason.TheVariants as search
use Rattle.ere.specs.Faults.{reason_of}
use Rattle.transcript.specs.Reasons.{text_of_reason}

-- what is wrong with a pattern, and at which byte
abbrev pub text_of_fault : EreError → List ℕ
text_of_fault error = reason_of error.kind ++ codes " at " ++ decimal error.at

-- why a search is refused
abbrev pub text_of_search_reason : SearchReason → List ℕ
text_of_search_reason (search.Pattern error) = text_of_fault error
text_of_search_reason (search.NamePattern error) = codes "name pattern: " ++ text_of_fault error
text_of_search_reason (search.NamePatternAt at error) = codes "name pattern " ++ decimal at ++ codes ": " ++ text_of_fault error
text_of_search_reason (search.Options words) = words.items
text_of_search_reason search.Cancelled = codes "cancelled"
text_of_search_reason search.TooSlow = codes "too slow"
text_of_search_reason search.OutOfMemory = codes "out of memory"

-- the line that refuses an item
abbrev pub line_refusal : ℕ → Reason → List ℕ
line_refusal line reason = codes "line " ++ decimal line ++ codes " refused: " ++ text_of_reason reason ++ line_end

-- the line that refuses a search
abbrev pub search_refusal : ℕ → SearchReason → List ℕ
search_refusal number reason = codes "search " ++ decimal number ++ codes " refused: " ++ text_of_search_reason reason ++ line_end

unfoldable pub status_line : (line version documents bytes accepted most open_searches : ℕ) → List ℕ
status_line line version documents bytes accepted most open_searches =
    codes "line " ++ decimal line ++ codes " status version " ++ decimal version ++ codes " documents " ++ decimal documents
    ++ codes " bytes " ++ decimal bytes ++ codes " accepted " ++ decimal accepted ++ codes " of " ++ decimal most
    ++ codes " open " ++ decimal open_searches ++ line_end

-- Accepted commands and publishes print nothing.
abbrev pub text_of_entry : Bool → Entry → List ℕ
text_of_entry stats (Accepted line commands) = []
text_of_entry stats (Refused line reason) = line_refusal line reason
text_of_entry stats (Published line version) = []
text_of_entry stats (Found number reader turn answer) = text_of_shown number stats answer
text_of_entry stats (SearchRefused number reason) = search_refusal number reason
text_of_entry stats (Status line version documents bytes accepted most open_searches) =
    status_line line version documents bytes accepted most open_searches

abbrev pub text_of_transcript : Bool → List Entry → List ℕ
text_of_transcript stats entries = flat_map (text_of_entry stats) entries

-- whether the entry refuses something
abbrev pub is_refusal : Entry → Bool
is_refusal (Accepted line commands) = false
is_refusal (Refused line reason) = true
is_refusal (Published line version) = false
is_refusal (Found number reader turn answer) = false
is_refusal (SearchRefused number reason) = true
is_refusal (Status line version documents bytes accepted most open_searches) = false

-- whether the entry is an answer that shows something
abbrev pub has_hit : Entry → Bool
has_hit (Accepted line commands) = false
has_hit (Refused line reason) = false
has_hit (Published line version) = false
has_hit (Found number reader turn answer) = nat_lt 0 answer.count
has_hit (SearchRefused number reason) = false
has_hit (Status line version documents bytes accepted most open_searches) = false

-- 2 if anything was refused, otherwise 0 if some search has a hit, otherwise 1
abbrev pub status_of : List Entry → ℕ
status_of entries = if list_any is_refusal entries then 2 else (if list_any has_hit entries then 0 else 1)
