-- The next item of an input: lines that are skipped, and then the item.
use Rattle.std.proofs.Common.{◌≡◌, ℕ, List, ◌++◌, Option, is_none, unwrap_or, true}
use Rattle.std.proofs.Common.{sym, ap, subst, ◌∙◌}
use Rattle.std.specs.Io.KnownBytes.{Consumes}
use Rattle.script.specs.Items.{numbered}
use Rattle.input.specs.declared.line.LineStart.{LineStart}
use Rattle.input.specs.declared.stream.Step.{Step}
use Rattle.input.specs.Stream.{StreamState, stream_at, Takes, IsItemOf}
use Rattle.input.specs.Private.Lines.{TakesLine, line_feed_if}
use Rattle.input.specs.Private.Taking.{TakesStep}
use Rattle.input.proofs.TakingLemmas.{item_after_skipped}

module _ (old inside new : StreamState) (start : LineStart) (line bytes : List ℕ) (same : inside ≡ old) where
  -- an item whose line a line feed closes, with what follows the line
  pub takes_step : (step : Step) → new ≡ stream_at (unwrap_or step.next inside.line) (is_none step.next)
      → (more : List ℕ) (was mid left : Option (List ℕ)) → Consumes was mid bytes
      → TakesLine inside.line start line bytes was mid → start.closed ≡ true → TakesStep start.line line step more mid left
      → Takes old (record { line = start.line; item = step.item }) new (bytes ++ more) was left
  takes_step step is_new more was mid left consumed taken closed is = record {
    item = is.item;
    shows = is.shows;
    whole =
        let whole =
        item_after_skipped inside.line start.line taken.skipped line bytes more is.item
        (taken.whole ∙ ap (λ closed. taken.skipped ++ (line ++ line_feed_if closed)) closed) taken.skips step.next was mid left consumed is.whole in
        let next =
        subst (λ (p : StreamState). IsItemOf p.ended inside.line (bytes ++ more) (numbered start.line is.item) p.line was left)
        (sym is_new) whole in
        subst (λ (p : StreamState). IsItemOf new.ended p.line (bytes ++ more) (numbered start.line is.item) new.line was left) same next;
  }
