use Rattle.std.proofs.Common.{◌≡◌, ◌++◌, sym, subst}
use Rattle.std.specs.Prelude.{OnOk}
use Rattle.views.specs.Hits.{hit_of}
use Rattle.prepare.specs.Prepared.{request_of}
use Rattle.views.specs.Text.{text_of_row}
use Rattle.views.specs.View.{Row}
use Rattle.search.specs.Private.Rows.{IsMatchRow}
use Rattle.search.proofs.rows.append_match.Goals as goal

pub returns-else-spans-clause-row : goal.returns-else-spans-clause-row
returns-else-spans-clause-row g c =
    subst (λ spans. OnOk c.append_column.result ((row : Row) × IsMatchRow spans (request_of c.args.prepared.now) (hit_of c.args.found.now) row
    × (c.append_column.new.out.items ≡ c.args.out.now.items ++ text_of_row c.args.prepared.now.zero row))) (sym c.if-spans.false)
    c.append_column.ensures.row
