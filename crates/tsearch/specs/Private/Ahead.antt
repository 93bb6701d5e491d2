-- What is written ahead of the entry of a search is a beginning of its text. The proofs are here, and not among the proofs, because
-- the laws of a sink cite them.
use Rattle.std.proofs.Common.{◌≡◌, ℕ, Bool, List, ◌++◌, Option, refl, sym, ap, ◌∙◌, append_assoc, take, drop, arith}
use Rattle.std.proofs.lemmas.List.{take-append-drop}
use Rattle.std.specs.Prelude.{codes, decimal}
use Rattle.std.specs.Io.KnownBytes.{Appends}
use Rattle.std.proofs.KnownBytes.{Appends-nil}
use Rattle.views.specs.Shown.{text_of_head}
use Rattle.views.specs.Text.{line_end}
use Rattle.transcript.specs.declared.entry.Entry.{Entry}
use Rattle.transcript.specs.declared.entry.Entry.TheVariants.{Accepted, Refused, Published, Found, SearchRefused, Status}
use Rattle.transcript.specs.Heads.{head_of_entry, lines_of_entry}
use Rattle.transcript.specs.Transcript.{text_of_entry, text_of_search_reason}
use Rattle.transcript.specs.Written.{AppendsFront}
use Rattle.transcript.proofs.WriteLemmas.{entry-parts}
use Rattle.steps.specs.StepRows.{searches_in}
use Rattle.tsearch.specs.Private.Sinks.{beginning}

-- the first line of the entry of a search, and its text
pub head_begins : (stats : Bool) (entry : Entry) → searches_in entry ≡ 1 → (rest : List ℕ) × (head_of_entry stats entry ≡ beginning ++ rest)
unfolding text_of_head
head_begins stats (Accepted line commands) one = absurd (omega (arith, one))
head_begins stats (Refused line reason) one = absurd (omega (arith, one))
head_begins stats (Published line version) one = absurd (omega (arith, one))
head_begins stats (Found number reader turn answer) one = (_, refl)
head_begins stats (SearchRefused number reason) one =
    (decimal number ++ codes " refused: " ++ text_of_search_reason reason ++ line_end, refl)
head_begins stats (Status line version documents bytes accepted most open_searches) one = absurd (omega (arith, one))

pub text_begins : (stats : Bool) (entry : Entry) → searches_in entry ≡ 1 → (rest : List ℕ) × (text_of_entry stats entry ≡ beginning ++ rest)
text_begins stats entry one =
    let head = head_begins stats entry one in (
      head.0 ++ lines_of_entry entry,
      entry-parts stats entry ∙ ap (λ t. t ++ lines_of_entry entry) head.1 ∙ append_assoc beginning head.0 (lines_of_entry entry),
    )

-- that text, from any place of its beginning on
pub text_from : (ahead : ℕ) (stats : Bool) (entry : Entry) (one : searches_in entry ≡ 1)
    → text_of_entry stats entry ≡ take ahead beginning ++ (drop ahead beginning ++ (text_begins stats entry one).0)
text_from ahead stats entry one =
    let text = text_begins stats entry one in
    text.1 ∙ ap (λ t. t ++ text.0) (sym (take-append-drop ahead beginning)) ∙ append_assoc (take ahead beginning) (drop ahead beginning) text.0

pub none_ahead : (out : Option (List ℕ)) → Appends out out (take 0 beginning)
none_ahead out = Appends-nil out

pub awaits : (ahead : ℕ) (stats : Bool) (start out : Option (List ℕ)) (entry : Entry) → searches_in entry ≡ 1
    → Appends start out (take ahead beginning) → AppendsFront start out (text_of_entry stats entry)
awaits ahead stats start out entry one is = record {
  front = take ahead beginning;
  rest = drop ahead beginning ++ (text_begins stats entry one).0;
  whole = text_from ahead stats entry one;
  appended = is;
}
