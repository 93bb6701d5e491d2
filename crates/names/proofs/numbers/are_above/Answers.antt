use Rattle.std.proofs.Common.{◌≡◌, [], length, get_or, sym, ap}
use Rattle.std.proofs.lemmas.Bool.{eqb-true, ltb-true}
use Rattle.std.proofs.lemmas.List.{nil_from_length}
use Rattle.names.specs.Contents.{is_one_of}
use Rattle.names.proofs.NumberLemmas.{all_above}
use Rattle.names.proofs.numbers.are_above.Goals as goal

pub returns-then-is_empty : goal.returns-then-is_empty
returns-then-is_empty c = λ above n order.
    let ns = c.args.numbers.now in
    let none : ns ≡ [] = nil_from_length ns (eqb-true (length ns) 0 (sym c.if-is_empty.ensures)) in
    ap (λ xs. is_one_of xs n) none

pub returns : goal.returns
returns c = λ above n order.
    let ns = c.args.numbers.now in
    all_above ns c.args.number n c.requires (ltb-true c.args.number (get_or ns 0 0) above) order
