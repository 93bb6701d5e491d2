use Rattle.std.proofs.Common.{◌<◌, ◌^◌, ◌∙◌, ap, sym, subst, arith}
use Rattle.std.specs.FinMap.{len}
use Rattle.documents.specs.State.{state}
use Rattle.names.specs.Contents.{Contents}
use Rattle.versions.specs.Private.Version.{bodies_of, IsVersion}
use Rattle.versions.proofs.draft.next.Goals as goal

pub of-requires : goal.of-requires
of-requires c = record {
  whole =
      subst (λ (ns : Contents). IsVersion (c.args.version) c.args.analysed ns c.in_ok-share.field-0) (sym c.names.view_is)
      (subst (IsVersion (c.args.version) c.args.analysed c.args.names) (sym c.in_ok-share.ensures) c.requires.whole);
  few = (let is = c.len.ensures in subst (λ (ns : Contents). len ns < 2 ^ 32) (sym c.names.view_is) (omega (arith, is)));
}

pub returns : goal.returns
returns c = c.of.ensures ∙ ap (λ (ns : Contents). state (c.args.version) (bodies_of ns)) c.names.view_is
