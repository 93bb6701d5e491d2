-- What the sinks of a run and of a session do with news.
use Rattle.std.specs.Prelude.{◌≡◌, ◌||◌, ℕ, Bool, if◌then◌else◌, List, Option, Some, codes, take}
use Rattle.std.specs.List.{list_any}
use Rattle.std.specs.Io.KnownBytes.{Appends}
use Rattle.transcript.specs.declared.entry.Entry.{Entry}
use Rattle.transcript.specs.Transcript.{is_refusal, has_hit, text_of_entry}
use Rattle.transcript.specs.Written.{AppendsFront}
use Rattle.tsearch.specs.declared.marks.Marks.{Marks}
use Rattle.tsearch.specs.declared.run.Options.{Options}
use Rattle.event_loop.specs.declared.sink.News.{News}
use Rattle.event_loop.specs.declared.sink.News.TheVariants as news
use Rattle.tsearch.specs.Legal.{IsLegal}

-- after one more entry
abbrev pub marks_with : Marks → Entry → Marks
marks_with marks entry = record { refused = marks.refused || is_refusal entry; hit = marks.hit || has_hit entry }

abbrev pub marks_of : List Entry → Marks
marks_of entries = record { refused = list_any is_refusal entries; hit = list_any has_hit entries }

abbrev pub status_by : Marks → ℕ
status_by marks = if marks.refused then 2 else (if marks.hit then 0 else 1)

-- The entry was written.
abbrev pub WritesEntry : Bool → Marks → Option (List ℕ) → Entry → Bool → Marks → Option (List ℕ) → Type 0
WritesEntry stats marks out entry stats' marks' out' =
    (stats' ≡ stats) × (marks' ≡ marks_with marks entry) × Appends out out' (text_of_entry stats entry)

-- The text of the news was written, and the marks say what it says of the status. There is none of a search that is open.
abbrev pub Writes : Bool → Marks → Option (List ℕ) → News → Bool → Marks → Option (List ℕ) → Type 0
Writes stats marks out (news.Entry entry) stats' marks' out' = WritesEntry stats marks out entry stats' marks' out'
Writes stats marks out (news.Open search) stats' marks' out' = (stats' ≡ stats) × (marks' ≡ marks) × (out' ≡ out)
Writes stats marks out (news.Answer entry) stats' marks' out' = WritesEntry stats marks out entry stats' marks' out'

-- A beginning of it was.
abbrev pub WritesFront : Bool → Option (List ℕ) → News → Option (List ℕ) → Type 0
WritesFront stats out (news.Entry entry) out' = AppendsFront out out' (text_of_entry stats entry)
WritesFront stats out (news.Open search) out' = out' ≡ out
WritesFront stats out (news.Answer entry) out' = AppendsFront out out' (text_of_entry stats entry)

-- what the text of the entry of any search begins with
abbrev pub beginning : List ℕ
beginning = codes "search "

-- So many bytes of that are out, and no entry was written since.
abbrev pub IsAhead : ℕ → Bool → Marks → Option (List ℕ) → Bool → Marks → Option (List ℕ) → Type 0
IsAhead ahead stats marks out stats' marks' out' = (stats' ≡ stats) × (marks' ≡ marks) × Appends out out' (take ahead beginning)

-- The entries are those of a legal transcript for the script, if its bytes are known.
abbrev pub IsLegalFor : Option (List ℕ) → Options → (List ℕ → List ℕ → Type 0) → ℕ → ℕ → List Entry → Type 0
IsLegalFor input options Holds failed failed' entries = (script : List ℕ) → input ≡ Some script → IsLegal script options Holds failed failed' entries
