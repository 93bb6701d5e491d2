use Rattle.std.proofs.Common.{◌≡◌, ◌+◌, ◌<◌, ◌≤◌, ◌++◌, [], length, drop, get_or, sym, ◌∙◌, ap, subst, arith}
use Rattle.std.specs.Ordering.{nat_cmp, is_eq}
use Rattle.std.specs.Cmp.Lexicographic.{slice_cmp}
use Rattle.std.proofs.lemmas.List.{get_or_default, drop_all}
use Rattle.names.specs.declared.edge.Edge.TheVariants.{After}
use Rattle.names.specs.Private.Entries.{joined, lies_behind}
use Rattle.std.specs.Prelude.{filter}
use Rattle.names.proofs.PartLemmas.{some_entry}
use Rattle.names.proofs.CompareLemmas.{is_equal}
use Rattle.names.proofs.MapLemmas.{same_name}
use Rattle.names.proofs.RestLemmas.{rest_none, without_other, without_first}
use Rattle.names.proofs.rest.Rest.without.Goals as goal

pub invariant_of-result : goal.invariant_of-result
invariant_of-result c = c.self.invariant

pub returns-then-chunk-chunks : goal.returns-then-chunk-chunks
returns-then-chunk-chunks c =
    let none = rest_none c.self.inside.chunks.now c.self.inside.chunk c.self.inside.at c.if-chunk-chunks.true in
    none ∙ ap (filter (lies_behind After c.args.name.now)) (sym none ∙ c.self.view_is)

pub compare-requires : goal.compare-requires
compare-requires c =
    let below : c.self.inside.chunk < length c.self.inside.chunks.now = omega (arith, c.if-chunk-chunks.false) in
    subst (λ xs. c.self.inside.at < length xs)
    (get_or_default c.self.inside.chunks.now c.self.inside.chunk [] c.index-chunks-chunk.result below ∙ sym c.index-chunks-chunk.is) (c.self.invariant.inside below)

pub returns-then-not-is_eq : goal.returns-then-not-is_eq
returns-then-not-is_eq c =
    let chunks = c.self.inside.chunks.now in
    let chunk = c.self.inside.chunk in
    let at = c.self.inside.at in
    let name = c.args.name.now in
    let below : chunk < length chunks = omega (arith, c.if-chunk-chunks.false) in
    let tie : c.compare.result ≡ slice_cmp nat_cmp (get_or (get_or chunks chunk []) at some_entry).0 name =
    c.compare.ensures some_entry
    ∙ ap (λ xs. slice_cmp nat_cmp (get_or xs at some_entry).0 name) (c.index-chunks-chunk.is ∙ get_or_default chunks chunk c.index-chunks-chunk.result [] below) in
    c.self.view_is
    ∙ without_other chunks chunk at c.args.self below c.self.invariant c.self.view_is some_entry name c.requires
    (ap is_eq (sym tie) ∙ (sym c.is_eq.ensures ∙ c.if-not-is_eq.true))

pub returns-then-next-end : goal.returns-then-next-end
returns-then-next-end c =
    let chunks = c.self.inside.chunks.now in
    let chunk = c.self.inside.chunk in
    let at = c.self.inside.at in
    let name = c.args.name.now in
    let below : chunk < length chunks = omega (arith, c.if-chunk-chunks.false) in
    let tie : c.compare.result ≡ slice_cmp nat_cmp (get_or (get_or chunks chunk []) at some_entry).0 name =
    c.compare.ensures some_entry
    ∙ ap (λ xs. slice_cmp nat_cmp (get_or xs at some_entry).0 name) (c.index-chunks-chunk.is ∙ get_or_default chunks chunk c.index-chunks-chunk.result [] below) in
    let equal = sym tie ∙ is_equal c.compare.result (sym c.is_eq.ensures ∙ c.if-not-is_eq.false) in
    without_first chunks chunk at c.args.self below c.self.invariant c.self.view_is some_entry name equal
    (same_name (get_or (get_or chunks chunk []) at some_entry).0 name equal)

pub from_chunk-requires : goal.from_chunk-requires
from_chunk-requires c = c.self.invariant.rise

pub returns : goal.returns
returns c =
    let chunks = c.self.inside.chunks.now in
    let chunk = c.self.inside.chunk in
    let at = c.self.inside.at in
    let name = c.args.name.now in
    let below : chunk < length chunks = omega (arith, c.if-chunk-chunks.false) in
    let own : c.index-chunks-chunk.result ≡ get_or chunks chunk [] = c.index-chunks-chunk.is ∙ get_or_default chunks chunk c.index-chunks-chunk.result [] below in
    let tie : c.compare.result ≡ slice_cmp nat_cmp (get_or (get_or chunks chunk []) at some_entry).0 name =
    c.compare.ensures some_entry ∙ ap (λ xs. slice_cmp nat_cmp (get_or xs at some_entry).0 name) own in
    let equal = sym tie ∙ is_equal c.compare.result (sym c.is_eq.ensures ∙ c.if-not-is_eq.false) in
    let all : length (get_or chunks chunk []) ≤ at + 1 = omega (arith, c.if-next-end.false, c.len-end.ensures.len, ap length own) in
    c.from_chunk.ensures
    ∙ (ap (λ xs. xs ++ joined (drop (chunk + 1) chunks)) (sym (drop_all (at + 1) (get_or chunks chunk []) all))
    ∙ without_first chunks chunk at c.args.self below c.self.invariant c.self.view_is some_entry name equal
    (same_name (get_or (get_or chunks chunk []) at some_entry).0 name equal))
