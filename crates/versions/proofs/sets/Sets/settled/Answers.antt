use Rattle.std.proofs.Common.{◌≡◌, ◌++◌, ◌∙◌, subst, sym, refl}
use Rattle.std.specs.Prelude.{IfOk}
use Rattle.segments.specs.Contents.{AllDiffer}
use Rattle.versions.specs.Private.Version.{said}
use Rattle.versions.specs.Private.Merging.{KeepsNamed}
use Rattle.versions.proofs.MergeLemmas.{keeps_all}
use Rattle.versions.proofs.SaidLemmas.{said_parts}
use Rattle.versions.proofs.sets.Sets.settled.Goals as goal
use Rattle.versions.proofs.sets.Sets.settled.Goals.{After-split_at}

parts : (c : After-split_at) → said c.split_at.result.0.now ++ said c.split_at.result.1.now ≡ c.args.self
parts c =
    said_parts c.self.inside.segments.items c.deref-2.result.now c.split_at.result.0.now c.split_at.result.1.now c.saturating_sub-at.result c.deref-2.ensures.value
    c.split_at.ensures.front c.split_at.ensures.back
    ∙ c.self.view_is

pub returns-then-due-eq0 : goal.returns-then-due-eq0
returns-then-due-eq0 c = keeps_all c.args.names.now c.args.self c.args.self c.requires.differ refl

pub merged-requires : goal.merged-requires
merged-requires c = record { differ = subst AllDiffer (sym (parts (goal.at.merged-requires c).After-split_at)) c.requires.differ }

pub returns-in-Ok : goal.returns-in-Ok
returns-in-Ok c =
    let all = said c.split_at.result.0.now ++ said c.split_at.result.1.now in
    subst (λ x. KeepsNamed c.args.names.now x c.in-Ok.sets) (parts (goal.at.returns-in-Ok c).After-split_at)
    (subst (λ r. IfOk r (KeepsNamed c.args.names.now all)) c.in-Ok.is c.merged.ensures)

pub returns-in-Err : goal.returns-in-Err
returns-in-Err c = keeps_all c.args.names.now c.args.self c.args.self c.requires.differ refl
