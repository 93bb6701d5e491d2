use Rattle.std.proofs.Common.{◌≡◌, ℕ, List, ◌+◌, ◌<◌, ◌∷◌, [], length, take, sym, ◌∙◌, ap, subst, arith}
use Rattle.std.specs.Prelude.{filter}
use Rattle.std.proofs.lemmas.Bool.{eqb-true}
use Rattle.std.proofs.lemmas.List.{nil_from_length}
use Rattle.prefixes.specs.Under.{is_under_one}
use Rattle.names.specs.Contents.{entry_of, has_one_of, is_one_of}
use Rattle.names.specs.Private.Entries.{Entry}
use Rattle.names.specs.Private.Counted.{Counts}
use Rattle.names.proofs.NumberLemmas.{none_chosen, entry_more}
use Rattle.names.proofs.ChosenLemmas.{counts_none, counts_one, counts_passed}
use Rattle.names.proofs.chunk.Chunk.choose.Goals as goal

pub returns-then-is_empty-clause-counts : goal.returns-then-is_empty-clause-counts
returns-then-is_empty-clause-counts c =
    let ns = c.args.numbers.now in
    let none : ns ≡ [] = nil_from_length ns (eqb-true (length ns) 0 (sym c.if-is_empty.ensures)) in
    subst (λ xs. Counts c.args.under.now c.args.most xs c.args.chosen.now c.args.chosen.now)
    (sym (ap (λ xs. filter (has_one_of xs) c.args.self.now) none ∙ none_chosen c.args.self.now))
    (counts_none c.args.under.now c.args.most c.args.chosen.now)

pub loop-at-preserved-then-not-is_among : goal.loop-at-preserved-then-not-is_among
loop-at-preserved-then-not-is_among c =
    let long = c.len-at-end.ensures.len in
    let inside : c.loop-at.at < length c.args.self.now = omega (arith, c.loop-at-test.true, long) in
    record {
      same = c.loop-at.invariant.same;
      counts =
          counts_passed c.args.under.now c.args.most c.args.numbers.now c.args.self.now c.loop-at.at c.content.result.now c.args.chosen.now c.loop-at.chosen inside c.content.ensures
          (sym c.if-not-is_among.ensures) c.loop-at.invariant.counts;
    }

pub add-requires : goal.add-requires
add-requires c = λ yes.
    let e : Entry = entry_of c.named.result in
    let long = c.len-at-end.ensures.len in
    ap (λ (texts : List (List ℕ)). is_under_one texts e.0) c.loop-at.invariant.same
    ∙ (ap (λ (x : Entry). is_under_one c.args.under.now x.0) (sym (c.named.ensures e))
    ∙ c.is_under-known.ensures yes c.loop-at.at e (omega (arith, c.loop-at-test.true, long)))

pub loop-at-preserved : goal.loop-at-preserved
loop-at-preserved c =
    let e : Entry = entry_of c.named.result in
    let long = c.len-at-end.ensures.len in
    let inside : c.loop-at.at < length c.args.self.now = omega (arith, c.loop-at-test.true, long) in
    record {
      same = c.in_ok-add.ensures.same ∙ c.loop-at.invariant.same;
      counts =
          counts_one c.args.under.now c.args.most c.args.numbers.now (take c.loop-at.at c.args.self.now) (take (c.loop-at.at + 1) c.args.self.now) e
          c.args.chosen.now c.loop-at.chosen c.add.new.self (entry_more c.args.self.now c.loop-at.at e inside (c.named.ensures e))
          (ap (λ (x : Entry). is_one_of c.args.numbers.now x.1.number) (sym (c.named.ensures e))
          ∙ (ap (λ x. is_one_of c.args.numbers.now x.number) (sym (c.content.ensures e)) ∙ sym c.if-not-is_among.ensures))
          c.loop-at.invariant.counts
          (subst (λ (texts : List (List ℕ)). Counts texts c.args.most (e ∷ []) c.loop-at.chosen c.add.new.self) c.loop-at.invariant.same c.in_ok-add.ensures.counts);
    }
