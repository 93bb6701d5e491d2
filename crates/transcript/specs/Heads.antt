-- The text of an entry in two parts: for an answer its first line and the others, and for any other entry the whole text.
use Rattle.std.specs.Prelude.{ℕ, Bool, List, []}
use Rattle.views.specs.Shown.{text_of_head}
use Rattle.transcript.specs.declared.entry.Entry.{Entry}
use Rattle.transcript.specs.declared.entry.Entry.TheVariants.{Accepted, Refused, Published, Found, SearchRefused, Status}
use Rattle.transcript.specs.Transcript.{line_refusal, search_refusal, status_line}

-- the first line of an answer, or the whole text of any other entry
abbrev pub head_of_entry : Bool → Entry → List ℕ
head_of_entry stats (Accepted line commands) = []
head_of_entry stats (Refused line reason) = line_refusal line reason
head_of_entry stats (Published line version) = []
head_of_entry stats (Found number reader turn answer) = text_of_head number stats answer
head_of_entry stats (SearchRefused number reason) = search_refusal number reason
head_of_entry stats (Status line version documents bytes accepted most open_searches) =
    status_line line version documents bytes accepted most open_searches

-- the other lines of an answer; nothing for any other entry
abbrev pub lines_of_entry : Entry → List ℕ
lines_of_entry (Accepted line commands) = []
lines_of_entry (Refused line reason) = []
lines_of_entry (Published line version) = []
lines_of_entry (Found number reader turn answer) = answer.text
lines_of_entry (SearchRefused number reason) = []
lines_of_entry (Status line version documents bytes accepted most open_searches) = []
