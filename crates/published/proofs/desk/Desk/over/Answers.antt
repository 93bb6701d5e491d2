use Rattle.std.proofs.Common.{[], sym, ap, ◌∙◌, arith, length}
use Rattle.published.proofs.DeskLemmas.{begins_same, named_same}
use Rattle.published.proofs.DocumentNames.{has_document-none}
use Rattle.published.proofs.desk.Desk.over.Goals as goal

pub invariant_of-result : goal.invariant_of-result
invariant_of-result c =
    let r = c.requires in
    let all = ap (λ s. s.accepted) r.copies in
    let begins = begins_same c.args.front.commands c.args.copies.accepted (all ∙ sym r.empty) in
    let named = named_same c.args.names [] c.args.copies.accepted all (λ name. r.names name ∙ sym (has_document-none name)) in
    (ap (λ s. s.shown.opening) r.copies, (r.head, (begins, (sym (ap length all), (omega arith, (r.limit, (named, tt)))))))
