use Rattle.std.proofs.Common.{refl}
use Rattle.views.specs.Hits.{hit_of}
use Rattle.views.specs.Text.{text_of_place, text_of_row, text_of_spans}
use Rattle.views.specs.View.{with_spans}
use Rattle.search.proofs.RowLemmas.{shown_text}
use Rattle.search.proofs.rows.append_with_spans.Goals as goal

pub returns-clause-row : goal.returns-clause-row
unfolding text_of_row
returns-clause-row g c =
    let found = hit_of c.args.found.now in
    let shown = c.in_ok-append_spans.ensures.spans in
    let grown = c.in_ok-append_all.ensures.ok in (
      with_spans shown.0 found,
      (shown.0, shown.1, refl),
      shown_text c.args.out.now.items c.append_place.new.out.items c.append_spans.new.out.items c.append_all.new.out.items
          (text_of_place c.args.prepared.now.zero 58 found) (text_of_spans shown.0) c.as_slice.result.now c.args.found.now.text.now
          c.as_slice-2.result.now c.in_ok-append_place.ensures shown.2 c.as_slice.ensures c.as_slice-2.ensures grown,
    )
