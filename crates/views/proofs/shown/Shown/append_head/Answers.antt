use Rattle.std.proofs.Common.{◌≡◌, ◌++◌, ◌∙◌, ap, sym, cond, []}
use Rattle.std.specs.Prelude.{codes, decimal}
use Rattle.std.proofs.lemmas.List.{append-nil}
use Rattle.std.proofs.lemmas.Result.{on_ok_weaker}
use Rattle.views.specs.Shown.{text_of_head, text_of_rows_count, text_of_stats, text_of_times}
use Rattle.views.specs.Text.{line_end}
use Rattle.views.specs.View.{shows_names}
use Rattle.views.proofs.TextLemmas.{seven, grown}
use Rattle.views.proofs.shown.Shown.append_head.Goals as goal
use Rattle.views.proofs.shown.Shown.append_head.Goals.{then-stats+in_ok-append_stats, else-stats}

pub returns-clause-ok : goal.returns-clause-ok
unfolding text_of_head
returns-clause-ok c =
    let now = c.args.self.now in
    let old = c.args.out.now.items in
    let a : c.as_slice.result.now ≡ codes "search " = c.as_slice.ensures in
    let number : c.as_bytes.result.now ≡ decimal c.args.search = c.as_bytes.ensures.value ∙ c.format.ensures.text in
    let b : c.as_slice-2.result.now ≡ codes " version " = c.as_slice-2.ensures in
    let version : c.as_bytes-2.result.now ≡ decimal now.version =
    c.as_bytes-2.ensures.value ∙ (c.format-2.ensures.text ∙ ap decimal c.version.ensures) in
    let counted : c.what_is_counted.result.now ≡ cond (shows_names now.view) (codes " names ") (codes " lines ") =
    c.what_is_counted.ensures ∙ ap (λ v. cond (shows_names v) (codes " names ") (codes " lines ")) c.view.ensures in
    let count : c.as_bytes-3.result.now ≡ decimal now.count =
    c.as_bytes-3.ensures.value ∙ (c.format-3.ensures.text ∙ ap decimal c.count.ensures) in
    let more : c.and_more.result.now ≡ cond now.more (codes " and more") [] =
    c.and_more.ensures ∙ ap (λ b. cond b (codes " and more") []) c.has_more.ensures in
    let begun =
    seven c.as_slice.result.now c.as_bytes.result.now c.as_slice-2.result.now c.as_bytes-2.result.now c.what_is_counted.result.now
    c.as_bytes-3.result.now c.and_more.result.now
    ∙ (λ i. (((((a i ++ number i) ++ b i) ++ version i) ++ counted i) ++ count i) ++ more i) in
    let first = c.in_ok-append_all.ensures.ok ∙ ap (λ t. old ++ t) begun in
    let rows = c.in_ok-append_rows.ensures.ok in
    let stats : c.if-stats.out.items ≡ c.append_rows.new.out.items ++ cond c.args.stats (text_of_stats now) [] = elim c.if-stats.branch [
      | then-stats+in_ok-append_stats w ↦ ap (λ v. v.items) w.out-is
          ∙ (w.in_ok-append_stats.ensures.ok ∙ ap (λ t. c.append_rows.new.out.items ++ cond t (text_of_stats now) []) (sym w.if-stats.true))
      | else-stats w ↦ ap (λ v. v.items) w.out-is
          ∙ (sym (append-nil c.append_rows.new.out.items)
          ∙ ap (λ t. c.append_rows.new.out.items ++ cond t (text_of_stats now) []) (sym w.if-stats.false))
    ] in
    let times = c.in_ok-append_times.ensures.ok in
    let end : c.as_slice-3.result.now ≡ line_end = c.as_slice-3.ensures in
    on_ok_weaker c.append_all-2.result (λ e.
    grown old _ (text_of_rows_count now.view now.rows) (cond c.args.stats (text_of_stats now) []) (text_of_times now.found_by now.times) line_end
    c.append_all.new.out.items c.append_rows.new.out.items c.if-stats.out.items c.append_times.new.out.items c.append_all-2.new.out.items
    first rows stats times (e ∙ ap (λ t. c.append_times.new.out.items ++ (t ++ [])) end)) c.append_all-2.ensures.ok
