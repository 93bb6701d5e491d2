use Rattle.std.proofs.Common.{◌≡◌, ◌++◌, ap, sym, ◌∙◌, subst}
use Rattle.std.specs.Prelude.{IfSome}
use Rattle.names.specs.Private.Entries.{with_prefix}
use Rattle.names.proofs.RunLemmas.{with_prefix_twice}
use Rattle.names.proofs.chunk.shortened.Goals as goal

pub returns-in_ok-from_vec-in-Some : goal.returns-in_ok-from_vec-in-Some
returns-in_ok-from_vec-in-Some c =
    let stem = c.args.stem.items in
    let more = c.in_ok-more.more.items in
    ap (λ p. with_prefix p c.in-Some.suffixes)
    (c.in_ok-from_vec-in-Some.ensures ∙ (c.in_ok-extend_from_slice-in-Some.ensures.items ∙ ap (λ m. stem ++ m) c.as_slice-in-Some.ensures.value))
    ∙ (with_prefix_twice stem more c.in-Some.suffixes
    ∙ ap (with_prefix stem)
    (ap (λ p. with_prefix p c.in-Some.suffixes) (sym c.as_slice.ensures.value)
    ∙ subst (λ o. IfSome o (λ s. with_prefix c.as_slice.result.now s ≡ c.args.rests)) c.in-Some.is c.in_ok-suffixes.ensures))
