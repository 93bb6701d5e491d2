use Rattle.std.proofs.Common.{◌≡◌, true, false, not, Bool, Some, All, refl, sym, ◌∙◌, ap, subst}
use Rattle.std.proofs.lemmas.Bool.{false≢true}
use Rattle.std.proofs.lemmas.List.Elements.{All-push}
use Rattle.std.specs.Ordering.{nat_cmp}
use Rattle.std.specs.Cmp.Lexicographic.{slice_cmp}
use Rattle.std.specs.BTreeMap.{get}
use Rattle.documents.specs.Documents.{renamed}
use Rattle.index.specs.Private.Contents.{is_number}
use Rattle.index.specs.Private.Copying.{copied, is_new, IsCopy}
use Rattle.index.proofs.NamedLemmas.{number_is}
use Rattle.documents.proofs.RenamedLemmas.{begins_renamed, renamed_back}
use Rattle.index.proofs.copying.add_copy.Goals as goal

not_true : (t : Bool) → not t ≡ true → t ≡ false
not_true true e = absurd (false≢true e)
not_true false e = refl

pub returns-in_ok-push : goal.returns-in_ok-push
returns-in_ok-push c = λ all.
    let from = c.args.from.now in
    let to = c.args.to.now in
    let numbers = c.args.numbers.now in
    let name = c.args.name.now in
    let number = c.args.number in
    let copy = c.in_ok-copy.copy in
    let found : get (slice_cmp nat_cmp) numbers name ≡ Some number =
    number_is number (get (slice_cmp nat_cmp) numbers name) (sym c.if-not-has_number.ensures) in
    let is : IsCopy from to numbers (copied from to numbers (name, number)) = record {
      begins = begins_renamed from to name;
      source = ap (get (slice_cmp nat_cmp) numbers) (renamed_back from to name c.requires) ∙ found;
      was = refl;
      other = not_true (is_number number (get (slice_cmp nat_cmp) numbers (renamed from to name)))
          (ap is_new (sym c.in_ok-copy.ensures) ∙ sym c.if-is_new.ensures);
    } in
    subst (All (IsCopy from to numbers)) (sym c.in_ok-push.ensures.items)
    (All-push (IsCopy from to numbers) c.args.copies.now.items copy all (subst (IsCopy from to numbers) (sym c.in_ok-copy.ensures) is))
