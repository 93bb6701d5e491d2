use Rattle.std.proofs.Common.{◌∙◌}
use Rattle.names.proofs.NumberLemmas.{searched_for, is_among}
use Rattle.names.proofs.numbers.is_among.Goals as goal

pub returns : goal.returns
returns c =
    let ns = c.args.numbers.now in
    let r = c.binary_search.result in
    c.is_ok.ensures.value ∙ is_among ns c.args.number r (searched_for ns c.args.number r c.requires c.binary_search.ensures.position)
