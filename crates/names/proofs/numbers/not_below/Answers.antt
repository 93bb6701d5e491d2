use Rattle.std.proofs.Common.{Ok, Err, sym, ◌∙◌, ap, subst}
use Rattle.std.specs.List.Sorted.{IsStrictlyIncreasing}
use Rattle.std.proofs.lemmas.List.{take_rest}
use Rattle.names.specs.Contents.{is_one_of}
use Rattle.names.proofs.NumberLemmas.{Searched, searched_for, rising-drop, without_low, below_found}
use Rattle.names.proofs.numbers.not_below.Goals as goal

pub returns-in-Ok-clause-rising : goal.returns-in-Ok-clause-rising
returns-in-Ok-clause-rising c =
    subst IsStrictlyIncreasing (sym (take_rest c.args.numbers.now c.in-Ok.at)) (rising-drop c.in-Ok.at c.args.numbers.now c.requires)

pub returns-in-Ok-clause-same : goal.returns-in-Ok-clause-same
returns-in-Ok-clause-same c = λ n order.
    let ns = c.args.numbers.now in
    let at = c.in-Ok.at in
    let found : Searched ns c.args.low (Ok at) =
    subst (Searched ns c.args.low) c.in-Ok.is (searched_for ns c.args.low c.binary_search.result c.requires c.binary_search.ensures.position) in
    ap (λ xs. is_one_of xs n) (take_rest ns at) ∙ without_low ns at c.args.low n (below_found ns c.args.low at c.requires found) order

pub returns-in-Err-clause-rising : goal.returns-in-Err-clause-rising
returns-in-Err-clause-rising c =
    subst IsStrictlyIncreasing (sym (take_rest c.args.numbers.now c.in-Err.at)) (rising-drop c.in-Err.at c.args.numbers.now c.requires)

pub returns-in-Err-clause-same : goal.returns-in-Err-clause-same
returns-in-Err-clause-same c = λ n order.
    let ns = c.args.numbers.now in
    let at = c.in-Err.at in
    let absent : Searched ns c.args.low (Err at) =
    subst (Searched ns c.args.low) c.in-Err.is (searched_for ns c.args.low c.binary_search.result c.requires c.binary_search.ensures.position) in
    ap (λ xs. is_one_of xs n) (take_rest ns at) ∙ without_low ns at c.args.low n (λ k before inside. absent.1 k before) order
