use Rattle.std.proofs.Common.{◌≡◌, [], map, length, ◌∙◌, sym, ap}
use Rattle.std.proofs.lemmas.Bool.{eqb-true}
use Rattle.std.proofs.lemmas.List.{nil_from_length}
use Rattle.names.specs.Private.Entries.{begun}
use Rattle.names.proofs.PartLemmas.{begun_same}
use Rattle.names.proofs.builder.whole.Goals as goal

pub returns-then-is_empty : goal.returns-then-is_empty
returns-then-is_empty c =
    let chunk = c.args.chunk.now in
    let none : c.args.beginning.now ≡ [] = nil_from_length c.args.beginning.now (eqb-true (length c.args.beginning.now) 0 (sym c.if-is_empty.ensures)) in
    c.in_ok-share.ensures
    ∙ sym (ap (λ n. map (begun n c.args.beginning.now) chunk) c.if-count-eq0.true ∙ (ap (λ b. map (begun 0 b) chunk) none ∙ begun_same chunk))
