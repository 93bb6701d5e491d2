use Rattle.std.proofs.Common.{◌≡◌, ◌+◌, ◌∙◌, length, ap, sym, subst, arith}
use Rattle.std.proofs.Common.{List}
use Rattle.std.proofs.lemmas.Result.{IfOk-weaker}
use Rattle.documents.specs.State.{state}
use Rattle.names.specs.declared.puts.Put.{Put}
use Rattle.names.specs.Contents.{Contents, with_all}
use Rattle.versions.specs.Private.Version.{bodies_of, IsVersion}
use Rattle.versions.proofs.GrowingLemmas.{version_waiting, puts_version, puts_after}
use Rattle.versions.proofs.growing.Growing.settled.Goals as goal

pub overflow_cast-len : goal.overflow_cast-len
overflow_cast-len c =
    let s = c.self.inside in
    let sum = version_waiting s.puts.items (state s.version (bodies_of s.names)) c.args.self c.self.view_is in
    let count : c.len.result ≡ length s.puts.items = c.len.ensures ∙ s.puts.ok.0 in
    let few = c.requires in
    omega (arith, sum, count, few)

pub overflow_add-version : goal.overflow_add-version
overflow_add-version c =
    let s = c.self.inside in
    let sum = version_waiting s.puts.items (state s.version (bodies_of s.names)) c.args.self c.self.view_is in
    let count : c.len.result ≡ length s.puts.items = c.len.ensures ∙ s.puts.ok.0 in
    let few = c.requires in
    omega (arith, sum, count, few)

pub next-requires : goal.next-requires
next-requires c =
    let s = c.self.inside in
    let count : c.len.result ≡ length s.puts.items = c.len.ensures ∙ s.puts.ok.0 in
    let same : c.in_ok-names.names ≡ with_all s.puts.items s.names = c.in_ok-names.ensures ∙ ap (λ (ps : List Put). with_all ps s.names) c.deref.ensures.value in
    record {
      whole =
          subst (λ n. IsVersion (s.version + n) s.analysed c.in_ok-names.names s.sets) (sym count)
          (subst (λ (ns : Contents). IsVersion (s.version + length s.puts.items) s.analysed ns s.sets) (sym same)
          (puts_version s.version s.analysed s.puts.items s.names s.sets c.self.invariant.is.is c.self.invariant.numbered));
    }

pub returns : goal.returns
returns c =
    let s = c.self.inside in
    let count : c.len.result ≡ length s.puts.items = c.len.ensures ∙ s.puts.ok.0 in
    let same : c.in_ok-names.names ≡ with_all s.puts.items s.names = c.in_ok-names.ensures ∙ ap (λ (ps : List Put). with_all ps s.names) c.deref.ensures.value in
    IfOk-weaker c.next.result (λ next. next ≡ state (s.version + c.len.result) (bodies_of c.in_ok-names.names)) (λ next. next ≡ c.args.self)
    (λ next is.
    is
    ∙ (ap (λ n. state (s.version + n) (bodies_of c.in_ok-names.names)) count
    ∙ (ap (λ (ns : Contents). state (s.version + length s.puts.items) (bodies_of ns)) same
    ∙ (puts_after s.version s.puts.items s.names ∙ c.self.view_is)))) c.next.ensures
