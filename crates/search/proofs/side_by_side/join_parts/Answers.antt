use Rattle.std.proofs.Common.{◌+◌, ◌++◌, ◌∙◌, ap, refl}
use Rattle.std.proofs.lemmas.Grind.{flat_map-append}
use Rattle.views.specs.Parts.{text_of_parts}
use Rattle.search.proofs.JoinLemmas.{joins-both}
use Rattle.search.proofs.side_by_side.join_parts.Goals as goal

pub returns-clause-joins : goal.returns-clause-joins
returns-clause-joins c = λ first others own fewer one two.
    joins-both c.args.wanted.now c.args.wanted.now.limit first others c.args.front c.args.back _ own fewer one two
    (ap (λ parts. text_of_parts parts) c.in_ok-append.ensures.items
    ∙ (flat_map-append (λ text. text) c.add_gap.new.all.parts.items c.args.back.parts.items
    ∙ ap (λ t. t ++ text_of_parts c.args.back.parts.items) c.in_ok-add_gap.ensures.text))
    (c.in_ok-all.ensures.sum ∙ ap (λ n. n + c.args.back.rows) c.in_ok-add_gap.ensures.rows)
    (c.in_ok-all-2.ensures.sum ∙ ap (λ n. n + c.args.back.count) c.in_ok-add_gap.ensures.count) refl
