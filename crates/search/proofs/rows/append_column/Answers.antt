use Rattle.std.proofs.Common.{◌+◌}
use Rattle.spans.specs.FirstStart.{HasNoStart, IsFirstStart}
use Rattle.views.specs.Hits.{hit_of}
use Rattle.prepare.specs.Prepared.{request_of}
use Rattle.views.specs.Text.{text_of_row}
use Rattle.views.specs.View.{at_column, hit}
use Rattle.views.specs.Rows.{shown_tree}
use Rattle.search.proofs.RowLemmas.{has_column, no_column, words_are}
use Rattle.search.proofs.SeekerLemmas.{none_of, some_of}
use Rattle.search.proofs.rows.append_column.Goals as goal

pub first_start-requires-clause-seeks : goal.first_start-requires-clause-seeks
first_start-requires-clause-seeks g c = (shown_tree (request_of c.args.prepared.now), c.requires.seeks)

pub returns-in_ok-append_at_column-in-Some-clause-row : goal.returns-in_ok-append_at_column-in-Some-clause-row
unfolding text_of_row
returns-in_ok-append_at_column-in-Some-clause-row g c =
    let found = hit_of c.args.found.now in
    let request = request_of c.args.prepared.now in
    let tree = shown_tree request in
    let words = c.args.prepared.now.words in (
      at_column (c.in-Some.start + 1) found,
      has_column request found words c.in-Some.start (words_are c.args.prepared.now)
          (some_of (HasNoStart found.text tree words) (IsFirstStart found.text tree words) c.in_ok-start.field-0 c.in-Some.start c.in-Some.is
          (c.in_ok-start.ensures.found tree c.requires.seeks)),
      c.in_ok-append_at_column-in-Some.ensures,
    )

pub returns-in_ok-append_hit-in-None-clause-row : goal.returns-in_ok-append_hit-in-None-clause-row
unfolding text_of_row
returns-in_ok-append_hit-in-None-clause-row g c =
    let found = hit_of c.args.found.now in
    let request = request_of c.args.prepared.now in
    let tree = shown_tree request in
    let words = c.args.prepared.now.words in (
      hit found,
      no_column request found words (words_are c.args.prepared.now)
          (none_of (HasNoStart found.text tree words) (IsFirstStart found.text tree words) c.in_ok-start.field-0 c.in-None.is
          (c.in_ok-start.ensures.found tree c.requires.seeks)),
      c.in_ok-append_hit-in-None.ensures.ok,
    )
