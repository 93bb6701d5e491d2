-- At its end a run is legal, and a session is served or cut short.
use Rattle.std.proofs.Common.{◌≡◌, ℕ, Bool, List, [], ◌++◌, Option, Some, sym, ap, ◌∙◌, subst, append_assoc}
use Rattle.std.specs.Prelude.{IsPermutation}
use Rattle.std.specs.Io.KnownBytes.{Appends}
use Rattle.std.proofs.KnownBytes.{Appends-nil}
use Rattle.script.specs.Items.{Numbered, IsItemsOf}
use Rattle.input.specs.Read.{HasItems}
use Rattle.input.proofs.FeedLemmas.{some_of_input}
use Rattle.steps.specs.Entries.{failures_of}
use Rattle.steps.specs.LegalRows.{Limits, IsFailedTimes}
use Rattle.steps.specs.Steps.{RunState, Runs, begins}
use Rattle.steps.proofs.RunLemmas.{same_failures}
use Rattle.steps.proofs.StepLemmas.{each_is_legal, are_in_turn}
use Rattle.service.specs.Collected.{CollectedState, IsCollected}
use Rattle.service.specs.Service.{ServiceState, IsCounted, run_of}
use Rattle.transcript.specs.declared.entry.Entry.{Entry}
use Rattle.transcript.specs.Transcript.{text_of_transcript}
use Rattle.transcript.specs.Written.{AppendsFront}
use Rattle.tsearch.specs.declared.marks.Marks.{Marks}
use Rattle.tsearch.specs.declared.run.Options.{Options}
use Rattle.tsearch.specs.declared.serving.LiveOptions.{LiveOptions}
use Rattle.tsearch.specs.Legal.{IsLegal}
use Rattle.tsearch.specs.Legal as legal
use Rattle.tsearch.specs.Served.{AreSteps, IsServed, IsBroken, limits_in}
use Rattle.event_loop.specs.Running.{now, start_at, first_run}
use Rattle.event_loop.specs.Serving.{IsCutOff, IsDone}
use Rattle.tsearch.specs.Private.Sinks.{status_by, marks_of}
use Rattle.event_loop.proofs.RunLemmas.{none_failed}
use Rattle.event_loop.proofs.ServingLemmas.{first_is_first, shown_split}
use Rattle.tsearch.proofs.SinkLemmas.{collects, told_collected, collected_whole, writes, writes_front, told_written, front_written, written_all}

module _ {O : Type 0} (Holds : List ℕ → List ℕ → Type 0) (options : Options) (script : List ℕ) (failed : ℕ) (first : CollectedState) (begin : O)
    (empty : IsCollected [] first) (service : ServiceState) (failed' : ℕ) (c : CollectedState) (out : O) where
  abbrev limits : Limits
  limits = legal.limits_in options

  done_is_legal : IsDone collects Holds options.readers (Some script) (start_at limits failed first begin) (now service failed' c out)
      → IsLegal script options Holds failed failed' c.entries
  done_is_legal done =
      let run = done.running in
      let whole = collected_whole run.rows c (told_collected first begin empty run.rows run.written c out run.told) (sym run.are_rows.awaited ∙ done.settled) in
      record {
        rows = run.rows;
        items = subst (IsItemsOf script) (sym run.taken) done.all;
        whole = whole;
        each = each_is_legal Holds limits options.readers (run_of service run.published run.answers) run.rows run.are_rows done.settled;
        turns = are_in_turn Holds limits options.readers (run_of service run.published run.answers) run.rows run.are_rows;
        failures = subst (λ n. IsFailedTimes n failed failed') (sym (same_failures run.rows run.written run.same)) run.failures.rises;
        begin = first_run limits options.readers;
        end = run_of service run.published run.answers;
        written = run.written;
        first = first_is_first limits options.readers;
        runs =
            subst (λ (items : List Numbered). Runs Holds limits options.readers (first_run limits options.readers) items run.written (run_of service run.published run.answers))
            (sym run.taken) run.runs;
        settled = done.settled;
        same = subst (λ (entries : List Entry). IsPermutation entries run.written) (sym whole) run.same;
      }

  pub is_legal : (limits' : Limits) → limits' ≡ limits
      → IsDone collects Holds options.readers (Some script) (start_at limits' failed first begin) (now service failed' c out)
      → IsLegal script options Holds failed failed' c.entries
  is_legal limits' same done =
      done_is_legal
      (subst (λ l. IsDone collects Holds options.readers (Some script) (start_at l failed first begin) (now service failed' c out)) same done)

module _ (Holds : List ℕ → List ℕ → Type 0) (options : LiveOptions) (input : Option (List ℕ)) (failed : ℕ) where
  steps_of : (items : List Numbered) (entries : List Entry) (end : RunState) (failed' : ℕ)
      → Runs Holds (limits_in options) options.readers (first_run (limits_in options) options.readers) items entries end
      → IsCounted (failures_of entries) failed failed' → AreSteps options Holds failed failed' items entries end
  steps_of items entries end failed' runs counted = record {
    begin = first_run (limits_in options) options.readers;
    first = first_is_first (limits_in options) options.readers;
    runs = runs;
    failures = counted.rises;
  }

  -- It never began.
  pub never_begun : (output : Option (List ℕ)) → IsBroken options Holds failed failed input output output
  never_begun output = record {
    items = [];
    others = (some_of_input input).0;
    entries = [];
    end = first_run (limits_in options) options.readers;
    are_items = (some_of_input input).1;
    steps = steps_of [] [] (first_run (limits_in options) options.readers) failed begins (none_failed failed);
    written = written_all output output [] (Appends-nil output);
  }

  module _ {W O : Type 0} (stats : W → Bool) (marks : W → Marks) (contents : O → Option (List ℕ)) (limits : Limits) (first : W) (begin : O)
      (same : limits ≡ limits_in options) (its : stats first ≡ options.stats) (unmarked : marks first ≡ marks_of []) where
    pub is_served : (service : ServiceState) (failed' : ℕ) (sink : W) (out : O) (status : ℕ) → status ≡ status_by (marks sink)
        → IsDone (writes stats marks contents) Holds options.readers input (start_at limits failed first begin) (now service failed' sink out)
        → IsServed options Holds failed failed' input (contents begin) (contents out) status
    is_served service failed' sink out status is done =
        let run = done.running in
        let written = told_written stats marks contents first begin unmarked run.rows run.written sink out run.told in
        record {
          items = done.items;
          entries = run.written;
          end = run_of service run.published run.answers;
          are_items = done.all;
          steps =
              steps_of done.items run.written (run_of service run.published run.answers) failed'
              (subst (λ l. Runs Holds l options.readers (first_run l options.readers) done.items run.written (run_of service run.published run.answers)) same run.runs)
              run.failures;
          settled = done.settled;
          written = subst (λ b. Appends (contents begin) (contents out) (text_of_transcript b run.written)) its written.written;
          is_status = is ∙ ap status_by written.marked;
        }

    pub is_broken : (failed' : ℕ) (sink : W) (out : O)
        → IsCutOff (writes stats marks contents) (writes_front stats marks contents) Holds options.readers input (start_at limits failed first begin) failed' sink out
        → IsBroken options Holds failed failed' input (contents begin) (contents out)
    is_broken failed' sink out cut =
        let of = cut.read in
        let split = shown_split cut.taken cut.untaken of.items of.shown in
        let stopped = cut.stopped split.0 split.3 in
        record {
          items = split.0;
          others = split.1 ++ of.others;
          entries = stopped.written;
          end = stopped.end;
          are_items = subst (HasItems input) (ap (λ l. l ++ of.others) split.2 ∙ append_assoc split.0 split.1 of.others) of.first;
          steps =
              steps_of split.0 stopped.written stopped.end failed'
              (subst (λ l. Runs Holds l options.readers (first_run l options.readers) split.0 stopped.written stopped.end) same stopped.runs) stopped.failures;
          written =
              subst (λ b. AppendsFront (contents begin) (contents out) (text_of_transcript b stopped.written)) its
              (front_written stats marks contents first begin unmarked stopped.written sink out stopped.told);
        }
