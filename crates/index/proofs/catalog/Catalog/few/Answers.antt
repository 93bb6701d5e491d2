use Rattle.std.proofs.Common.{◌≡◌, ◌≢◌, length, take, sym, subst, rules}
use Rattle.std.specs.Prelude.{filter}
use Rattle.std.specs.List.Sorted.{IsPermutation}
use Rattle.std.proofs.lemmas.List.Kept.{AllPairs-filter}
use Rattle.std.proofs.lemmas.List.Sorted.{length_permutation}
use Rattle.index.specs.Private.Numbered.{is_chosen, is_under_any, IsState}
use Rattle.index.proofs.NamedLemmas.{state_of_index}
use Rattle.index.proofs.ChosenLemmas.{numbered-chosen, few_in_order, cut-first}
use Rattle.index.proofs.SortLemmas.{put_back}
use Rattle.index.proofs.catalog.Catalog.few.Goals as goal

pub returns-clause-documents : goal.returns-clause-documents
returns-clause-documents g c =
    let now = c.args.self.now in
    let ds = now.documents in
    let members = c.args.chosen.now.members in
    let is = subst IsState c.self.view_is (state_of_index c.self.invariant) in
    let old = c.in_ok-shared.shared.items in
    let new = c.sort_by_name.new.documents in
    let prefix = c.args.prefixes.now in
    let moved : IsPermutation old new = search rules in
    let all : c.in_ok-shared.shared.len ≡ length old = search rules in
    let back = put_back old new c.in_ok-shared.shared.len (length_permutation old new moved) all in
    cut-first c.args.most (filter (is_chosen members prefix) ds) new c.truncate.new.self.items
    (few_in_order (filter (is_chosen members prefix) ds) (AllPairs-filter (λ d e. d.name ≢ e.name) (is_chosen members prefix) ds is.names) old new
    (subst (λ xs. IsPermutation xs (filter (is_chosen members prefix) ds)) (sym c.in_ok-shared.ensures.documents)
    (numbered-chosen (is_under_any prefix) ds members c.in_ok-shared.ensures.rising))
    moved c.in_ok-sort_by_name.ensures.sorted)
    (subst (λ items. c.truncate.new.self.items ≡ take c.args.most items) back c.truncate.ensures.items)
