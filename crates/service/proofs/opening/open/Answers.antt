use Rattle.std.proofs.Common.{rules, ◌≡◌, [], sym, subst}
use Rattle.std.specs.Prelude.{All, Some}
use Rattle.std.proofs.lemmas.List.Elements.{All-pop}
use Rattle.published.specs.History.{Known, known}
use Rattle.service.proofs.opening.open.Goals as goal

pub invariant_of-result : goal.invariant_of-result
invariant_of-result g c =
    let items = c.in_ok-desk.readings.items in
    let here : c.publish.new.self.opening ≡ c.in_ok-desk.desk.opening = search rules in
    let all : All (λ (r : Known). r ≡ known c.publish.new.self.opening []) items =
    subst (λ b. All (λ (r : Known). r ≡ known b []) items) (sym here) c.in_ok-desk.ensures.readings in
    let both = All-pop (λ (r : Known). r ≡ known c.publish.new.self.opening []) items c.pop.new.self.items (Some c.in-Some-Ok.reading) c.in-Some-Ok.ensures.items all in
    (search rules, search rules, search rules, both.1, both.0, search rules)
