use Rattle.std.proofs.Common.{◌≡◌, ◌++◌, ap, ◌∙◌, sym, subst}
use Rattle.std.proofs.lemmas.Result.{IfOk-weaker}
use Rattle.names.specs.Contents.{contents_of, since}
use Rattle.segments.specs.Contents.{contents_in, kept, AllDiffer}
use Rattle.versions.specs.Private.Version.{said}
use Rattle.versions.specs.Private.Merging.{KeepsNamed, AreNumbersOf}
use Rattle.versions.proofs.MergeLemmas.{keeps_named, right_differ}
use Rattle.versions.proofs.merging.merged.Goals as goal

pub merge-requires-clause-differ : goal.merge-requires-clause-differ
merge-requires-clause-differ c =
    subst AllDiffer (sym (ap contents_in c.as_slice.ensures.value ∙ c.in_ok-inputs.ensures)) (right_differ (said c.args.old.now) (said c.args.new.now) c.requires.differ)

pub returns : goal.returns
returns c =
    let old = said c.args.old.now in
    let new = said c.args.new.now in
    let cs = contents_of c.deref.result.now in
    let keep = c.as_slice-2.result.now in
    let since_is : cs ≡ since c.least.result c.args.names.now = ap contents_of c.deref.ensures.value ∙ c.in_ok-contents.ensures in
    let segment_is : c.in_ok-segment.segment ≡ kept keep new = c.in_ok-segment.ensures ∙ ap (kept keep) (ap contents_in c.as_slice.ensures.value ∙ c.in_ok-inputs.ensures) in
    let front_is : c.of.result ≡ old = c.of.ensures ∙ c.in_ok-shared.ensures in
    IfOk-weaker c.with.result (λ sets. sets ≡ c.of.result ++ c.in_ok-segment.segment) (KeepsNamed c.args.names.now (old ++ new))
    (λ sets is. keeps_named c.args.names.now c.least.result cs since_is keep
    (subst (AreNumbersOf cs) (sym c.as_slice-2.ensures.value) c.in_ok-kept.ensures) old new c.requires.differ c.least.ensures sets
    (is ∙ (ap (λ x. x ++ c.in_ok-segment.segment) front_is ∙ ap (λ x. old ++ x) segment_is))) c.with.ensures
