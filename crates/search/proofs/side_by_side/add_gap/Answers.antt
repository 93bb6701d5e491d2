use Rattle.std.proofs.Common.{◌≡◌, ◌++◌, ◌∷◌, [], length, sym, ◌∙◌, ap, subst, arith}
use Rattle.std.proofs.lemmas.Grind.{flat_map-append}
use Rattle.std.proofs.lemmas.List.{append-nil}
use Rattle.views.specs.Parts.{text_of_parts}
use Rattle.search.specs.Private.Gathered.{HasGap, gap_rows, shows_context}
use Rattle.views.specs.Text.{text_of_rows}
use Rattle.views.specs.View.{gap}
use Rattle.search.proofs.JoinLemmas.{gap-text}
use Rattle.search.proofs.side_by_side.add_gap.Goals as goal

pub returns-then-not-has_gap-clause-text : goal.returns-then-not-has_gap-clause-text
returns-then-not-has_gap-clause-text c =
    let wanted = c.args.wanted.now in
    let old = text_of_parts c.args.all.now.parts.items in
    let rows = gap_rows (shows_context wanted.view) c.args.all.now.rows c.args.after in
    let none : rows ≡ [] = subst (λ b. HasGap b rows) c.if-not-has_gap.true c.has_gap.ensures in
    sym (append-nil old) ∙ ap (λ rs. old ++ text_of_rows wanted.prepared.now.zero rs) (sym none)

pub returns-then-not-has_gap-clause-rows : goal.returns-then-not-has_gap-clause-rows
returns-then-not-has_gap-clause-rows c =
    let rows = gap_rows (shows_context c.args.wanted.now.view) c.args.all.now.rows c.args.after in
    let none : rows ≡ [] = subst (λ b. HasGap b rows) c.if-not-has_gap.true c.has_gap.ensures in
    let size : length rows ≡ 0 = ap length none in
    omega (arith, size)

pub returns-clause-text : goal.returns-clause-text
returns-clause-text c =
    let wanted = c.args.wanted.now in
    let old = c.args.all.now.parts.items in
    let rows = gap_rows (shows_context wanted.view) c.args.all.now.rows c.args.after in
    let one : rows ≡ gap ∷ [] = subst (λ b. HasGap b rows) c.if-not-has_gap.false c.has_gap.ensures in
    let part = c.text_part.result in
    ap (λ parts. text_of_parts parts) c.in_ok-push.ensures.items
    ∙ (flat_map-append (λ text. text) old (part ∷ [])
    ∙ ap (λ t. text_of_parts old ++ t) (gap-text wanted.prepared.now.zero rows part one (c.text_part.ensures ∙ c.in_ok-gap.ensures.items)))

pub returns-clause-rows : goal.returns-clause-rows
returns-clause-rows c =
    let rows = gap_rows (shows_context c.args.wanted.now.view) c.args.all.now.rows c.args.after in
    let one : rows ≡ gap ∷ [] = subst (λ b. HasGap b rows) c.if-not-has_gap.false c.has_gap.ensures in
    let size : length rows ≡ 1 = ap length one in
    omega (arith, size, c.in_ok-all.ensures.sum)
