use Rattle.prepare.specs.Tests.{test_of}
use Rattle.search.specs.Private.Known.{EntryHasBody, HasBody, IsEntry}
use Rattle.search.proofs.KnownLemmas.{at-place, entries-more}
use Rattle.search.proofs.known.entries_by.Goals as goal

pub loop-document-preserved : goal.loop-document-preserved
loop-document-preserved g c =
    let at = c.loop-document in
    let test = test_of c.args.wanted.now.prepared.now.line in
    let new = c.push.new.self.items in
    record {
      entries =
          entries-more (IsEntry test) at.entries.items new c.in_ok-entry.entry c.in_ok-push.ensures.items c.in_ok-entry.ensures.entry
          at.invariant.entries;
      bodies =
          λ body have.
          entries-more (EntryHasBody body) at.entries.items new c.in_ok-entry.entry c.in_ok-push.ensures.items
          (c.in_ok-entry.ensures.bodies body
          (at-place (HasBody body) c.args.documents.now at.document-index c.document-item.result c.loop-document-test.true c.document-item.is have))
          (at.invariant.bodies body have);
      way = c.entry_of.ensures.way;
    }
