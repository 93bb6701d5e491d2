use Rattle.std.proofs.Common.{List, sym, subst}
use Rattle.std.specs.Prelude.{All}
use Rattle.std.proofs.lemmas.List.Elements.{All-take, All-drop}
use Rattle.std.proofs.lemmas.Result.{IfOk-at_ok, IfOk-weaker}
use Rattle.documents.specs.declared.document.SharedDocument.{SharedDocument}
use Rattle.search.specs.Private.Gathered.{HaveOwnNames, Joins}
use Rattle.search.specs.Private.Known.{AreTold, IsTold}
use Rattle.search.specs.declared.gathered.Wanted.{Wanted}
use Rattle.search.specs.declared.side_by_side.Joined.{Joined}
use Rattle.search.proofs.GatherLemmas.{own-left, own-right}
use Rattle.search.proofs.JoinLemmas.{both-sides, joins-over}
use Rattle.search.proofs.side_by_side.+gather_parts.Goals as goal

abbrev Found : Wanted → List SharedDocument → Joined → Type 0
Found wanted documents joined = HaveOwnNames documents → AreTold wanted documents → Joins wanted wanted.limit documents joined

pub returns-then-found-clause-joins : goal.returns-then-found-clause-joins
returns-then-found-clause-joins g t c = λ own told.
    let wanted = c.args.wanted.now in
    let first = c.split_at.result.0.now in
    let others = c.split_at.result.1.now in
    let same = both-sides c.args.documents.now first others c.in_ok-at.at c.split_at.ensures.front c.split_at.ensures.back in
    let own_both = subst HaveOwnNames (sym same) own in
    let Told = IsTold wanted.known.now.entries.items in
    let told_first = subst (λ ds. All Told ds) (sym c.split_at.ensures.front) (All-take Told c.in_ok-at.at c.args.documents.now told) in
    let one = IfOk-at_ok (Found wanted first) c.in_ok-found.was c.join-found.ensures.first.0 in
    subst (λ ds. Joins wanted wanted.limit ds c.in_ok-found.found) same
    (joins-over wanted wanted.limit first others c.in_ok-found.found own_both c.if-found.true (one (own-left first others own_both) told_first))

pub returns-clause-joins : goal.returns-clause-joins
returns-clause-joins g t c =
    let wanted = c.args.wanted.now in
    let first = c.split_at.result.0.now in
    let others = c.split_at.result.1.now in
    let same = both-sides c.args.documents.now first others c.in_ok-at.at c.split_at.ensures.front c.split_at.ensures.back in
    let one = IfOk-at_ok (Found wanted first) c.in_ok-found.was c.join-found.ensures.first.0 in
    let two = IfOk-at_ok (Found wanted others) c.in_ok-rest.was c.join-found.ensures.second.0 in
    IfOk-weaker c.join_parts.result _ _ (λ joined is. λ own told.
    let own_both = subst HaveOwnNames (sym same) own in
    let Told = IsTold wanted.known.now.entries.items in
    let told_first = subst (λ ds. All Told ds) (sym c.split_at.ensures.front) (All-take Told c.in_ok-at.at c.args.documents.now told) in
    let told_others = subst (λ ds. All Told ds) (sym c.split_at.ensures.back) (All-drop Told c.in_ok-at.at c.args.documents.now told) in
    subst (λ ds. Joins wanted wanted.limit ds joined) same
    (is first others own_both c.if-found.false (one (own-left first others own_both) told_first)
    (c.in_ok-fitting.ensures.joins (own-right first others own_both) told_others (two (own-right first others own_both) told_others)))) c.join_parts.ensures.joins
