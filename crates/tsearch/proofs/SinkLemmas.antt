-- What the sinks of a run and of a session have at the end.
use Rattle.std.proofs.Common.{◌≡◌, ℕ, ◌+◌, Bool, true, false, List, [], ◌∷◌, ◌++◌, Option, None, refl, sym, ap, ◌∙◌, subst, arith, append_assoc, append-nil}
use Rattle.std.specs.Prelude.{◌||◌}
use Rattle.std.specs.List.{list_any}
use Rattle.std.specs.Io.KnownBytes.{Appends}
use Rattle.std.proofs.KnownBytes.{Appends-nil, Appends-trans}
use Rattle.std.proofs.lemmas.Grind.{flat_map-append}
use Rattle.std.proofs.lemmas.List.Folds.{list_any-append}
use Rattle.script.specs.Items.{Item, search, search_in, find}
use Rattle.transcript.specs.declared.entry.Entry.{Entry}
use Rattle.transcript.specs.declared.entry.Entry.TheVariants as entry_of
use Rattle.transcript.specs.declared.entry.Entry.TheVariants.{SearchRefused}
use Rattle.transcript.specs.declared.entry.SearchReason.TheVariants.{OutOfMemory}
use Rattle.transcript.specs.Transcript.{is_refusal, has_hit, text_of_entry, text_of_transcript}
use Rattle.transcript.specs.Written.{AppendsFront}
use Rattle.steps.specs.Rows.{Row, entries_of, version_in, last_or, searches_of, count_searches}
use Rattle.steps.specs.StepRows.{IsOfSearch, open_of, open_in, searches_in, with_its_entry}
use Rattle.steps.specs.StepRows as rows_of
use Rattle.service.specs.Collected.{CollectedState, IsCollected, number_in, place_in, place_by, slot_by}
use Rattle.service.proofs.CollectedLemmas.{AreAnswered, slots_at_end, collected_more, collected_same, collected_filled}
use Rattle.tsearch.specs.declared.marks.Marks.{Marks}
use Rattle.event_loop.specs.declared.sink.News.{News}
use Rattle.event_loop.specs.declared.sink.News.TheVariants as news
use Rattle.event_loop.specs.Running.{Told, told_nothing, entered, opened, passed, answered, ToldFront, entries_by}
use Rattle.event_loop.specs.Running as running
use Rattle.event_loop.specs.Collects.{Collects}
use Rattle.tsearch.specs.Private.Sinks.{Writes, WritesFront, marks_of, marks_with}

-- The entries of a run are collected.

number_of_search : (number : ℕ) (entry : Entry) → IsOfSearch number entry → number_in entry ≡ number
number_of_search number _ (rows_of.found reader turn answer) = refl
number_of_search number _ (rows_of.refused why) = refl

-- where an entry has its place
place_of_entry : (at : ℕ) (entry : Entry) → place_in at entry ≡ place_by at (searches_in entry)
place_of_entry at (entry_of.Accepted line commands) = refl
place_of_entry at (entry_of.Refused line why) = refl
place_of_entry at (entry_of.Published line version) = refl
place_of_entry at (entry_of.Found number reader turn answer) = refl
place_of_entry at (entry_of.SearchRefused number why) = refl
place_of_entry at (entry_of.Status line version documents bytes accepted most waiting) = refl

module _ {O : Type 0} where
  abbrev pub collects : CollectedState → O → News → CollectedState → O → Type 0
  collects old out new_s new out' = Collects old new_s new

  pub told_collected : (first : CollectedState) (begin : O) → IsCollected [] first → (rows : List Row) (written : List Entry) (c : CollectedState) (out : O)
      → Told collects first begin rows written c out → IsCollected rows c
  told_collected first begin empty _ _ _ _ told_nothing = empty
  told_collected first begin empty rows' _ c' out' (entered {rows} {written = written} {sink = c} {out = out} before row entry is own does more said) =
      subst (λ r. IsCollected r c') (sym more)
      (subst (IsCollected (rows ++ row ∷ [])) (sym does)
      (collected_more rows row c entry (told_collected first begin empty rows written c out before)
      (ap (λ e. slot_by e (searches_of row.numbered.item) (count_searches rows + 1)) is) (λ at. place_of_entry at entry ∙ ap (place_by at) own)))
  told_collected first begin empty rows' written c' out' (opened {rows} {sink = c} {out = out} before row is one does more) =
      subst (λ r. IsCollected r c') (sym more)
      (subst (IsCollected (rows ++ row ∷ [])) (sym does)
      (collected_more rows row c (SearchRefused (count_searches rows + 1) OutOfMemory) (told_collected first begin empty rows written c out before)
      (ap (λ e. slot_by e (searches_of row.numbered.item) (count_searches rows + 1)) is ∙ ap (λ n. slot_by None n (count_searches rows + 1)) one)
      (λ at. sym (ap (place_by at) one))))
  told_collected first begin empty rows' written c out (passed {rows} before row is none more) =
      subst (λ r. IsCollected r c) (sym more) (collected_same rows row c (told_collected first begin empty rows written c out before) is none)
  told_collected first begin empty rows' _ c' out' (answered {rows} {written = written} {sink = c} {out = out} before front row back entry whole is one its does filled_in said) =
      let number : number_in entry ≡ count_searches front + 1 = number_of_search _ entry its in
      subst (λ r. IsCollected r c') (sym filled_in)
      (subst (IsCollected (front ++ with_its_entry entry row ∷ back)) (sym (does (omega arith)))
      (collected_filled front row back entry is one its c (subst (λ r. IsCollected r c) whole (told_collected first begin empty rows written c out before))))

-- Rows of which no search is open are all answered.

no_search : (count least : ℕ) (item : Item) → open_of count least item None ≡ [] → searches_of item ≡ 0
no_search count least (search case text) empty = cc
no_search count least (search_in case name_text text) empty = cc
no_search count least (find text) empty = cc
no_search count least item empty = refl

both_empty : {X : Type 0} (xs ys : List X) → xs ++ ys ≡ [] → (xs ≡ []) × (ys ≡ [])
both_empty [] ys empty = (refl, empty)
both_empty (x ∷ xs) ys empty = cc

are_answered : (count least : ℕ) (rows : List Row) → open_in count least rows ≡ [] → AreAnswered rows
are_answered count least [] empty = tt
are_answered count least (row ∷ rows) empty =
    let both = both_empty (open_of count least row.numbered.item row.entry) _ empty in (
      λ no_entry. no_search count least row.numbered.item (ap (open_of count least row.numbered.item) (sym no_entry) ∙ both.0),
      are_answered (count + searches_of row.numbered.item) (last_or least (version_in row.entry)) rows both.1,
    )

-- So the entries that are collected are theirs.
pub collected_whole : (rows : List Row) (c : CollectedState) → IsCollected rows c → open_in 0 0 rows ≡ [] → c.entries ≡ entries_of rows
collected_whole rows c is empty = is.entries ∙ slots_at_end 0 rows (are_answered 0 0 rows empty)

-- The text of a session is written.

-- the text and the marks of one more entry
more_text : (stats : Bool) (entries : List Entry) (entry : Entry)
    → text_of_transcript stats (entries ++ entry ∷ []) ≡ text_of_transcript stats entries ++ text_of_entry stats entry
more_text stats entries entry =
    flat_map-append (text_of_entry stats) entries (entry ∷ [])
    ∙ ap (λ t. text_of_transcript stats entries ++ t) (append-nil (text_of_entry stats entry))

or_false : (b : Bool) → (b || false) ≡ b
or_false true = refl
or_false false = refl

more_marks : (entries : List Entry) (entry : Entry) → marks_with (marks_of entries) entry ≡ marks_of (entries ++ entry ∷ [])
more_marks entries entry = λ i. record { refused = one is_refusal i; hit = one has_hit i }
  where
    one : (p : Entry → Bool) → (list_any p entries || p entry) ≡ list_any p (entries ++ entry ∷ [])
    one p = ap (λ b. list_any p entries || b) (sym (or_false (p entry))) ∙ sym (list_any-append p entries (entry ∷ []))

-- all of it is a beginning of it
pub written_all : (start now : Option (List ℕ)) (text : List ℕ) → Appends start now text → AppendsFront start now text
written_all start now text appended = record { front = text; rest = []; whole = sym (append-nil text); appended = appended }

-- The entries are written, and the marks are theirs.
pub record AreWritten (stats : Bool) (start : Option (List ℕ)) (entries : List Entry) (stats' : Bool) (marks : Marks) (now : Option (List ℕ)) : Type 0 where
  pub same : stats' ≡ stats
  pub marked : marks ≡ marks_of entries
  pub written : Appends start now (text_of_transcript stats entries)

-- one more entry is
written_more : (stats : Bool) (start : Option (List ℕ)) (entries : List Entry) (entry : Entry) (stats' stats'' : Bool) (marks marks' : Marks)
    (was now : Option (List ℕ)) → AreWritten stats start entries stats' marks was
    → (stats'' ≡ stats') × (marks' ≡ marks_with marks entry) × Appends was now (text_of_entry stats' entry)
    → AreWritten stats start (entries ++ entry ∷ []) stats'' marks' now
written_more stats start entries entry stats' stats'' marks marks' was now before (kept, marked, appended) = record {
  same = kept ∙ before.same;
  marked = marked ∙ ap (λ m. marks_with m entry) before.marked ∙ more_marks entries entry;
  written =
      subst (Appends start now) (sym (more_text stats entries entry))
      (Appends-trans start was now (text_of_transcript stats entries) (text_of_entry stats entry) before.written
      (subst (λ b. Appends was now (text_of_entry b entry)) before.same appended));
}

written_front : (stats : Bool) (entries : List Entry) (entry : Entry) (start was now : Option (List ℕ))
    → Appends start was (text_of_transcript stats entries) → AppendsFront was now (text_of_entry stats entry)
    → AppendsFront start now (text_of_transcript stats (entries ++ entry ∷ []))
written_front stats entries entry start was now before one = record {
  front = text_of_transcript stats entries ++ one.front;
  rest = one.rest;
  whole =
      more_text stats entries entry ∙ ap (λ t. text_of_transcript stats entries ++ t) one.whole
      ∙ sym (append_assoc (text_of_transcript stats entries) one.front one.rest);
  appended = Appends-trans start was now (text_of_transcript stats entries) one.front before one.appended;
}

-- A sink that writes: W shows whether it writes numbers too, and its marks, and O what has been written.
module _ {W O : Type 0} (stats : W → Bool) (marks : W → Marks) (contents : O → Option (List ℕ)) where
  abbrev pub writes : W → O → News → W → O → Type 0
  writes old out told new out' = Writes (stats old) (marks old) (contents out) told (stats new) (marks new) (contents out')

  abbrev pub writes_front : W → O → News → W → O → Type 0
  writes_front old out told new out' = WritesFront (stats old) (contents out) told (contents out')

  module _ (first : W) (begin : O) (unmarked : marks first ≡ marks_of []) where
    pub told_written : (rows : List Row) (written : List Entry) (sink : W) (out : O) → Told writes first begin rows written sink out
        → AreWritten (stats first) (contents begin) written (stats sink) (marks sink) (contents out)
    told_written _ _ _ _ told_nothing = record { same = refl; marked = unmarked; written = Appends-nil (contents begin) }
    told_written rows' written' sink' out' (entered {rows} {written = written} {sink = sink} {out = out} before row entry is own does more said) =
        subst (λ w. AreWritten (stats first) (contents begin) w (stats sink') (marks sink') (contents out')) (sym said)
        (written_more (stats first) (contents begin) written entry (stats sink) (stats sink') (marks sink) (marks sink') (contents out) (contents out')
        (told_written rows written sink out before) does)
    told_written rows' written sink' out' (opened {rows} {sink = sink} {out = out} before row is one does more) =
        let were = told_written rows written sink out before in
        record {
          same = does.0 ∙ were.same;
          marked = does.1 ∙ were.marked;
          written = subst (λ o. Appends (contents begin) o (text_of_transcript (stats first) written)) (sym does.2) were.written;
        }
    told_written rows' written sink out (passed {rows} before row is none more) = told_written rows written sink out before
    told_written rows' written' sink' out' (answered {rows} {written = written} {sink = sink} {out = out} before front row back entry whole is one its does filled_in said) =
        subst (λ w. AreWritten (stats first) (contents begin) w (stats sink') (marks sink') (contents out')) (sym said)
        (written_more (stats first) (contents begin) written entry (stats sink) (stats sink') (marks sink) (marks sink') (contents out) (contents out')
        (told_written rows written sink out before) does)

    pub front_written : (written : List Entry) (sink : W) (out : O) → ToldFront writes writes_front first begin written sink out
        → AppendsFront (contents begin) (contents out) (text_of_transcript (stats first) written)
    front_written written sink out (running.whole {rows} told) =
        written_all (contents begin) (contents out) (text_of_transcript (stats first) written) (told_written rows written sink out told).written
    front_written written' sink' out' (running.in_part {rows} {written} {sink = sink} {out = out} told last fails is) =
        subst (λ w. AppendsFront (contents begin) (contents out') (text_of_transcript (stats first) w)) (sym is) (by last fails)
      where
        were : AreWritten (stats first) (contents begin) written (stats sink) (marks sink) (contents out)
        were = told_written rows written sink out told

        by : (last : News) → writes_front sink out last sink' out'
            → AppendsFront (contents begin) (contents out') (text_of_transcript (stats first) (written ++ entries_by last))
        by (news.Entry entry) fails =
            written_front (stats first) written entry (contents begin) (contents out) (contents out') were.written
            (subst (λ b. AppendsFront (contents out) (contents out') (text_of_entry b entry)) were.same fails)
        by (news.Open number) same =
            subst (λ w. AppendsFront (contents begin) (contents out') (text_of_transcript (stats first) w)) (sym (append-nil written))
            (subst (λ o. AppendsFront (contents begin) o (text_of_transcript (stats first) written)) (sym same)
            (written_all (contents begin) (contents out) (text_of_transcript (stats first) written) were.written))
        by (news.Answer entry) fails =
            written_front (stats first) written entry (contents begin) (contents out) (contents out') were.written
            (subst (λ b. AppendsFront (contents out) (contents out') (text_of_entry b entry)) were.same fails)
