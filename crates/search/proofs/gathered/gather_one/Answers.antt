use Rattle.std.proofs.Common.{drop, length, sym, ◌∙◌, ap, subst}
use Rattle.search.specs.Private.Added.{AddsUpTo}
use Rattle.search.specs.Private.Documents.{lines_of_taken}
use Rattle.search.specs.Private.Gathered.{asked, beyond, kept_of}
use Rattle.views.specs.Rows.{limited}
use Rattle.search.specs.Selects.{IsAsked}
use Rattle.prepare.specs.Tests.{test_of}
use Rattle.search.proofs.FitLemmas.{rising, feedless}
use Rattle.search.proofs.GathersLemmas.{gathers-document}
use Rattle.search.proofs.UpToLemmas.{adds-own, both-parts}
use Rattle.search.proofs.gathered.gather_one.Goals as goal

pub add_rows-requires-clause-rising : goal.add_rows-requires-clause-rising
add_rows-requires-clause-rising g c =
    let wanted = c.args.wanted.now in
    let found = c.in_ok-find_hits.ensures.hits in
    let d = found.own in
    let Has = IsAsked (test_of wanted.prepared.now.line) in
    let full = c.find_hits.new.hits in
    let before = c.len-before.result in
    let left = c.left_of-left.result in
    let size = c.len-before.ensures ∙ ap length c.lines.ensures in
    let adds =
    adds-own (asked wanted.view left) before size
    (subst (λ most. AddsUpTo most Has (lines_of_taken d) c.args.gathered.now.hits full)
    (c.in_ok-most.ensures.sum ∙ ap (λ most. beyond before most) c.asked.ensures) found.adds) in
    rising Has d (asked wanted.view left) (drop before full) adds wanted.view left

pub add_rows-requires-clause-lines : goal.add_rows-requires-clause-lines
add_rows-requires-clause-lines g c =
    let wanted = c.args.wanted.now in
    let found = c.in_ok-find_hits.ensures.hits in
    let d = found.own in
    let Has = IsAsked (test_of wanted.prepared.now.line) in
    let full = c.find_hits.new.hits in
    let before = c.len-before.result in
    let left = c.left_of-left.result in
    let size = c.len-before.ensures ∙ ap length c.lines.ensures in
    let adds =
    adds-own (asked wanted.view left) before size
    (subst (λ most. AddsUpTo most Has (lines_of_taken d) c.args.gathered.now.hits full)
    (c.in_ok-most.ensures.sum ∙ ap (λ most. beyond before most) c.asked.ensures) found.adds) in
    feedless Has d (asked wanted.view left) (drop before full) adds wanted.view left

pub returns-clause-gathers : goal.returns-clause-gathers
returns-clause-gathers g c = λ told.
    let wanted = c.args.wanted.now in
    let found = c.in_ok-find_hits.ensures.hits in
    let d = c.args.document.now in
    let scanned : AddsUpTo c.in_ok-most.most (IsAsked (test_of wanted.prepared.now.line)) (lines_of_taken d) c.args.gathered.now.hits c.find_hits.new.hits =
    subst (λ e. AddsUpTo c.in_ok-most.most (IsAsked (test_of wanted.prepared.now.line)) (lines_of_taken e) c.args.gathered.now.hits c.find_hits.new.hits)
    (found.told told) found.adds in
    let Has = IsAsked (test_of wanted.prepared.now.line) in
    let full = c.find_hits.new.hits in
    let before = c.len-before.result in
    let left = c.left_of-left.result in
    let size = c.len-before.ensures ∙ ap length c.lines.ensures in
    let adds =
    adds-own (asked wanted.view left) before size
    (subst (λ most. AddsUpTo most Has (lines_of_taken d) c.args.gathered.now.hits full)
    (c.in_ok-most.ensures.sum ∙ ap (λ most. beyond before most) c.asked.ensures) scanned) in
    let added = c.in_ok-add_rows.ensures.rows in
    let whole = both-parts c.args.gathered.now.hits full scanned.added before size scanned.appended in
    gathers-document wanted d c.args.gathered.now _ left (drop before full) added.rows c.requires.more c.left_of-left.ensures adds added.are_rows
    (c.keep.ensures ∙ ap (λ hits. kept_of wanted.view (limited wanted.limit hits)) (added.hits ∙ sym whole)) added.text added.row_count added.count
    added.more
