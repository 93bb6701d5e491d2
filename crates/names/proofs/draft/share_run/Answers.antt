use Rattle.std.proofs.Common.{◌+◌, ◌++◌, map, sym, ap, ◌∙◌, arith}
use Rattle.std.proofs.lemmas.List.{append-nil}
use Rattle.names.specs.Private.Entries.{Entry, entries_bytes}
use Rattle.names.proofs.RunLemmas.{run_none, shared_step, bytes_step}
use Rattle.names.proofs.draft.share_run.Goals as goal

pub loop-at-init : goal.loop-at-init
loop-at-init c = record {
  contents =
      sym (ap (λ run. c.reserve.new.self.items ++ map (λ (e : Entry). e.1) run) (run_none c.args.chunk.now c.args.from) ∙ append-nil c.reserve.new.self.items);
  bytes = sym (ap (λ run. c.args.bytes + entries_bytes run) (run_none c.args.chunk.now c.args.from) ∙ omega arith);
}

pub loop-at-preserved : goal.loop-at-preserved
loop-at-preserved c = record {
  contents =
      shared_step c.reserve.new.self.items c.loop-at.contents.items c.push.new.self.items c.args.chunk.now c.args.from c.loop-at.at c.in_ok-content.content (omega arith)
      (omega arith) c.loop-at.invariant.contents (λ d. c.in_ok-content.ensures ∙ c.content.ensures d) c.in_ok-push.ensures.items;
  bytes =
      bytes_step c.args.bytes c.loop-at.total c.in-Some.more c.args.chunk.now c.args.from c.loop-at.at c.in_ok-content.content (omega arith) (omega arith)
      c.loop-at.invariant.bytes (λ d. c.in_ok-content.ensures ∙ c.content.ensures d) (let some = c.in-Some.ensures in omega (arith, some, c.length.ensures));
}
