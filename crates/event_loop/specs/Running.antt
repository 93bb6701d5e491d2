-- A run or a session between two steps.
use Rattle.std.specs.Prelude.{◌≡◌, ℕ, ◌+◌, List, [], ◌∷◌, ◌++◌, Some, None, IsPermutation}
use Rattle.script.specs.Items.{Item, Numbered, numbered}
use Rattle.input.specs.declared.read_item.ReadItem.{ReadItem}
use Rattle.input.specs.Owned.{ShowsOwned}
use Rattle.steps.specs.Entries.{failures_of}
use Rattle.steps.specs.LegalRows.{Limits}
use Rattle.steps.specs.Rows.{Row, items_of, entries_of, searches_of, count_searches}
use Rattle.steps.specs.Steps.{Given, RunState, Runs}
use Rattle.steps.specs.StepRows.{AreRows, IsOfSearch, searches_in, with_its_entry}
use Rattle.service.specs.Service.{ServiceState, Fits, Gives, IsCounted, SetsAside, first_service, run_of}
use Rattle.transcript.specs.declared.entry.Entry.{Entry}
use Rattle.event_loop.specs.declared.sink.News.{News}
use Rattle.event_loop.specs.declared.sink.News.TheVariants as news

-- before the first item
abbrev pub first_run : Limits → ℕ → RunState
first_run limits readers = run_of (first_service limits readers) [] []

-- the entries that news bring
abbrev pub entries_by : News → List Entry
entries_by (news.Entry entry) = entry ∷ []
entries_by (news.Open search) = []
entries_by (news.Answer entry) = entry ∷ []

-- The state before the first item: what bounds the run, how often the source had failed, and where the entries go.
pub record Start (W O : Type 0) : Type 0 where
  pub limits : Limits
  pub failed : ℕ
  pub sink : W
  pub out : O

-- the state before the first item, of its parts
abbrev pub start_at : {W O : Type 0} → Limits → ℕ → W → O → Start W O
start_at limits failed sink out = record { limits = limits; failed = failed; sink = sink; out = out }

-- The state between two events.
pub record Now (W O : Type 0) : Type 0 where
  pub service : ServiceState
  pub failed : ℕ
  pub sink : W
  pub out : O

-- the state between two events, of its parts
abbrev pub now : {W O : Type 0} → ServiceState → ℕ → W → O → Now W O
now service failed sink out = record { service = service; failed = failed; sink = sink; out = out }

-- From its first state on, a sink was told of these rows, whose entries were written in this order. Does: what it does at news.
pub data Told {W O : Type 0} (Does : W → O → News → W → O → Type 0) (first : W) (begin : O) : List Row → List Entry → W → O → Type 0 where
  told_nothing : Told Does first begin [] [] first begin
  -- one more row, with its entry, of an open search, or of an item that has none
  entered : {rows rows' : List Row} {written written' : List Entry} {sink sink' : W} {out out' : O} → Told Does first begin rows written sink out
      → (row : Row) (entry : Entry) → row.entry ≡ Some entry → searches_in entry ≡ searches_of row.numbered.item
      → Does sink out (news.Entry entry) sink' out' → rows' ≡ rows ++ row ∷ [] → written' ≡ written ++ entry ∷ []
      → Told Does first begin rows' written' sink' out'
  opened : {rows rows' : List Row} {written : List Entry} {sink sink' : W} {out out' : O} → Told Does first begin rows written sink out
      → (row : Row) → row.entry ≡ None → searches_of row.numbered.item ≡ 1 → Does sink out (news.Open (count_searches rows + 1)) sink' out'
      → rows' ≡ rows ++ row ∷ [] → Told Does first begin rows' written sink' out'
  passed : {rows rows' : List Row} {written : List Entry} {sink : W} {out : O} → Told Does first begin rows written sink out
      → (row : Row) → row.entry ≡ None → searches_of row.numbered.item ≡ 0 → rows' ≡ rows ++ row ∷ [] → Told Does first begin rows' written sink out
  -- the entry of an open search
  answered : {rows rows' : List Row} {written written' : List Entry} {sink sink' : W} {out out' : O} → Told Does first begin rows written sink out
      → (before : List Row) (row : Row) (after : List Row) (entry : Entry) → rows ≡ before ++ row ∷ after → row.entry ≡ None
      → searches_of row.numbered.item ≡ 1 → IsOfSearch (count_searches before + 1) entry → Does sink out (news.Answer entry) sink' out'
      → rows' ≡ before ++ with_its_entry entry row ∷ after → written' ≡ written ++ entry ∷ [] → Told Does first begin rows' written' sink' out'

-- It was told of all these entries, or of the last in part. Fails: what it does then.
pub data ToldFront {W O : Type 0} (Does Fails : W → O → News → W → O → Type 0) (first : W) (begin : O) : List Entry → W → O → Type 0 where
  whole : {rows : List Row} {written : List Entry} {sink : W} {out : O} → Told Does first begin rows written sink out
      → ToldFront Does Fails first begin written sink out
  in_part : {rows : List Row} {written written' : List Entry} {sink sink' : W} {out out' : O} → Told Does first begin rows written sink out
      → (last : News) → Fails sink out last sink' out' → written' ≡ written ++ entries_by last → ToldFront Does Fails first begin written' sink' out'

-- These items were taken, by legal steps that led to the state of the service. Their rows have what the steps wrote, and the
-- sink was told of them.
pub record IsRunning {W O : Type 0} (Does : W → O → News → W → O → Type 0) (Holds : List ℕ → List ℕ → Type 0) (readers : ℕ) (start : Start W O)
    (items : List Numbered) (at : Now W O) : Type 0 where
  pub rows : List Row
  pub published : List ℕ
  pub answers : List Given
  pub written : List Entry
  pub runs : Runs Holds start.limits readers (first_run start.limits readers) items written (run_of at.service published answers)
  pub same : IsPermutation (entries_of rows) written
  pub taken : items_of rows ≡ items
  pub are_rows : AreRows Holds start.limits readers (run_of at.service published answers) rows
  pub fits : Fits readers at.service published answers
  pub limits : at.service.limits ≡ start.limits
  pub told : Told Does start.sink start.out rows written at.sink at.out
  pub failures : IsCounted (failures_of written) start.failed at.failed

-- It cannot go on: the sink may have been told of the last entry in part.
pub record IsStopped {W O : Type 0} (Does Fails : W → O → News → W → O → Type 0) (Holds : List ℕ → List ℕ → Type 0) (readers : ℕ) (start : Start W O)
    (items : List Numbered) (failed : ℕ) (sink : W) (out : O) : Type 0 where
  pub written : List Entry
  pub end : RunState
  pub runs : Runs Holds start.limits readers (first_run start.limits readers) items written end
  pub told : ToldFront Does Fails start.sink start.out written sink out
  pub failures : IsCounted (failures_of written) start.failed failed

-- An open search may have got its entry, of which the sink was told.
pub data Answers {W O : Type 0} (Does : W → O → News → W → O → Type 0) (old : ServiceState) (sink : W) (out : O) (new : ServiceState) (sink' : W)
    (out' : O) : Type 0 where
  nothing : SetsAside old new → sink' ≡ sink → out' ≡ out → Answers Does old sink out new sink' out'
  one : (entry : Entry) → Gives old entry new → Does sink out (news.Answer entry) sink' out' → Answers Does old sink out new sink' out'

-- An open search got its entry, of which the sink may have been told in part.
pub record AnswersFront {W O : Type 0} (Fails : W → O → News → W → O → Type 0) (old : ServiceState) (sink : W) (out : O) (new : ServiceState)
    (sink' : W) (out' : O) : Type 0 where
  pub entry : Entry
  pub gives : Gives old entry new
  pub fails : Fails sink out (news.Answer entry) sink' out'

-- Whatever was taken before, this item is taken now.
abbrev pub TakesOne : {W O : Type 0} → (W → O → News → W → O → Type 0) → (List ℕ → List ℕ → Type 0) → ℕ → ReadItem → Now W O → Now W O → Type 0
TakesOne {W} {O} Does Holds readers read old new =
    (start : Start W O) (items : List Numbered) (shown : Item) → ShowsOwned read.item shown → IsRunning Does Holds readers start items old
    → IsRunning Does Holds readers start (items ++ numbered read.line shown ∷ []) new

-- It is taken, and then nothing goes on.
abbrev pub FailsAtOne : {W O : Type 0} → (W → O → News → W → O → Type 0) → (W → O → News → W → O → Type 0) → (List ℕ → List ℕ → Type 0) → ℕ → ReadItem
    → Now W O → ℕ → W → O → Type 0
FailsAtOne {W} {O} Does Fails Holds readers read old failed sink out =
    (start : Start W O) (items : List Numbered) (shown : Item) → ShowsOwned read.item shown → IsRunning Does Holds readers start items old
    → IsStopped Does Fails Holds readers start (items ++ numbered read.line shown ∷ []) failed sink out
