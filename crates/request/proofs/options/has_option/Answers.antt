use Rattle.std.proofs.Common.{sym, ◌∙◌, rules, tests}
use Rattle.std.proofs.lemmas.Iterator.{YieldsList-from_slice}
use Rattle.std.proofs.lemmas.Iterator.Search.{any_from_yields_List}
use Rattle.request.specs.Names.{is_same}
use Rattle.request.specs.Private.Kept.{shown_setting}
use Rattle.request.proofs.ListLemmas.{list_any-map}
use Rattle.request.proofs.options.has_option.Goals as goal

pub returns : goal.returns
returns c =
    any_from_yields_List (λ setting. is_same setting.name c.args.name) _ _ _ c.any.ensures.ran (YieldsList-from_slice c.args.settings.now cc)
    (λ x b q k. search (rules, tests))
    ∙ sym (list_any-map (λ setting. is_same setting.name c.args.name) shown_setting c.args.settings.now)
