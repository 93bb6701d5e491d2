use Rattle.std.proofs.Common.{◌≡◌, ◌∙◌, Option, Some, None, refl, rules, tests}
use Rattle.std.specs.Prelude.{option_map}
use Rattle.std.specs.Str.{bytes_eq}
use Rattle.std.proofs.lemmas.Iterator.{YieldsList-from_slice}
use Rattle.std.proofs.lemmas.Iterator.Consumers.{YieldsList-from_copied}
use Rattle.std.proofs.lemmas.Iterator.Search.{find_from_yields_List}
use Rattle.request.specs.Names.{option_named, text_of}
use Rattle.request.specs.declared.names.TheConstants.{ALL}
use Rattle.request.proofs.names.option_named.Goals as goal

same_option : {X : Type 0} (o : Option X) → o ≡ option_map (λ x. x) o
same_option None = refl
same_option (Some x) = refl

pub returns : goal.returns
unfolding option_named
returns c =
    same_option c.find.result
    ∙ find_from_yields_List (λ name. bytes_eq (text_of name) c.args.word.now) _ _ c.find.result c.find.ensures.ran
    (YieldsList-from_copied (YieldsList-from_slice ALL cc)) (λ x b q k. search (rules, tests))
