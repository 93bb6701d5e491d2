use Rattle.std.proofs.Common.{ap, sym, ◌∙◌, refl, filter, []}
use Rattle.posting.specs.ListValue.{has}
use Rattle.posting.proofs.Members.{filter_none}
use Rattle.posting.proofs.postings.Postings.narrow_by.Goals as goal

pub returns-in-Empty-clause-chosen : goal.returns-in-Empty-clause-chosen
returns-in-Empty-clause-chosen g c =
    c.new.ensures
    ∙ sym (ap (λ members. filter (has members) c.args.within.now.members) (sym c.in-Empty.ensures)
    ∙ filter_none (has []) c.args.within.now.members (λ k d inside. refl))
