use Rattle.std.proofs.Common.{List, length, ap, subst, sym, arith, refl}
use Rattle.documents.specs.State.{state}
use Rattle.documents.specs.Text.{IsBody, IsName}
use Rattle.names.specs.declared.puts.Put.{Put}
use Rattle.versions.specs.Private.Growing.{IsNumberFor}
use Rattle.versions.specs.Private.Version.{bodies_of}
use Rattle.versions.proofs.GrowingLemmas.{version_waiting, grown_more}
use Rattle.versions.proofs.growing.Growing.with_put.Goals as goal

pub number_for-number-requires : goal.number_for-number-requires
number_for-number-requires c =
    let s = c.self.inside in
    let sum = version_waiting s.puts.items (state s.version (bodies_of s.names)) c.args.self c.self.view_is in
    let long = ap length c.deref.ensures.value in
    let few = c.requires in
    omega (arith, sum, long, few)

pub invariant_of-result : goal.invariant_of-result
invariant_of-result c =
    let s = c.self.inside in
    grown_more s.version s.analysed s.names s.sets s.puts.items c.push.new.self.items _ c.args.held.now c.self.invariant c.in_ok-push.ensures.items
    (subst IsName (sym c.as_bytes-2.ensures.bytes) c.as_bytes-2.ensures.name) (subst IsBody c.body.ensures c.as_bytes.ensures.body) refl
    (subst (λ (ps : List Put). IsNumberFor s.version s.names ps c.args.held.now c.number_for-number.result) c.deref.ensures.value c.number_for-number.ensures)
