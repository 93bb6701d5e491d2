use Rattle.std.proofs.Common.{length, ◌∙◌, ap, subst}
use Rattle.std.proofs.lemmas.List.Elements.{All-contains}
use Rattle.std.proofs.lemmas.Result.{on_ok_weaker}
use Rattle.prepare.specs.Tests.{test_of}
use Rattle.search.specs.Private.Known.{HasEnough, IsEntry}
use Rattle.search.proofs.KnownLemmas.{finds-known}
use Rattle.search.proofs.gathered.find_hits.Goals as goal

pub list_entry-requires : goal.list_entry-requires
list_entry-requires g c =
    let wanted = c.args.wanted.now in
    record {
      inside =
          (All-contains (IsEntry (test_of wanted.prepared.now.line)) wanted.known.now.entries.items c.in-Some.entry.now c.requires.known
          c.in-Some.ensures.0).inside;
    }

pub returns-then-has_enough-clause-hits : goal.returns-then-has_enough-clause-hits
returns-then-has_enough-clause-hits g c =
    let enough =
    subst (λ n. HasEnough c.args.most n c.in-Some.entry.now) (c.len.ensures ∙ ap length c.lines.ensures) (c.has_enough.ensures c.if-has_enough.true) in
    on_ok_weaker c.list_entry.result
    (finds-known c.args.wanted.now c.args.document.now c.args.most c.args.hits.now c.list_entry.new.hits c.in-Some.entry.now c.requires.known
    c.in-Some.ensures.0 c.in-Some.ensures.1 enough) c.list_entry.ensures.hits
