-- Operations that a copy lacks, some of which are carried out.
use Rattle.std.proofs.Common.{◌≡◌, ℕ, ◌+◌, List, ◌++◌, length, take, drop, fold, sym, ap, ◌∙◌}
use Rattle.std.proofs.lemmas.List.{take-append-drop, drop-drop, drop_at}
use Rattle.std.proofs.lemmas.Grind.{fold-append}
use Rattle.published.specs.declared.shelf.Operation.{Operation}
use Rattle.published.specs.declared.shelf.Shelf.{Shelf}
use Rattle.published.specs.Private.Shelf.{operated}

-- behind the first n of these, r more
pub carried_further : (a b : Shelf) (xs ys : List Operation) (n r : ℕ) → length xs ≡ n → b ≡ fold operated a (take r ys)
    → fold operated b (drop (n + r) (xs ++ ys)) ≡ fold operated a (drop n (xs ++ ys))
carried_further a b xs ys n r all is =
    let left : drop n (xs ++ ys) ≡ ys = drop_at xs ys n all in
    ap (fold operated b) (sym (drop-drop r n (xs ++ ys)) ∙ ap (drop r) left)
    ∙ (ap (λ s. fold operated s (drop r ys)) is
    ∙ (sym (fold-append operated a (take r ys) (drop r ys))
    ∙ (ap (fold operated a) (take-append-drop r ys) ∙ ap (fold operated a) (sym left))))
