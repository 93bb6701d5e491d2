use Rattle.std.proofs.Common.{◌≡◌, ◌++◌, length, drop, min, take, ap, ◌∙◌, arith}
use Rattle.std.proofs.lemmas.List.{drop_min}
use Rattle.views.specs.Text.{text_of_hits}
use Rattle.search.proofs.JoinLemmas.{part-whole}
use Rattle.search.proofs.side_by_side.part_of.Goals as goal

pub returns-clause-part : goal.returns-clause-part
returns-clause-part g c =
    let hits = c.args.gathered.hits in
    let old = c.args.gathered.text.items in
    let low : c.min-from.result ≡ min c.args.from (length old) = omega (arith, c.min-from.ensures, c.len.ensures, c.args.gathered.text.ok) in
    part-whole c.args.zero hits c.in_ok-formed.formed c.args.from c.min-from.result old c.append_first.new.out.items
    (omega (arith, low))
    (ap (λ n. drop n old) low ∙ drop_min c.args.from old)
    (c.in_ok-formed.ensures.text ∙ ap (λ hs. old ++ text_of_hits c.args.zero (take c.in_ok-formed.formed hs)) c.lines.ensures)
