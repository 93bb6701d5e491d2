use Rattle.std.proofs.Common.{◌≡◌, ◌++◌, ◌∙◌, ap, List, [], ℕ, append_assoc}
use Rattle.std.specs.Prelude.{codes, decimal}
use Rattle.ere.specs.Faults.{reason_of}
use Rattle.std.proofs.lemmas.List.{append-nil}
use Rattle.std.proofs.lemmas.Result.{on_ok_weaker}
use Rattle.views.specs.Text.{line_end}
use Rattle.transcript.proofs.texts.append_fault_at.Goals as goal

ten : (a b c d e f g h i j : List ℕ)
    → a ++ (b ++ (c ++ (d ++ (e ++ (f ++ (g ++ (h ++ (i ++ (j ++ []))))))))) ≡ a ++ b ++ c ++ (d ++ e ++ f ++ (g ++ h ++ i)) ++ j
ten a b c d e f g h i j = simp (append-nil, append_assoc)

pub returns-clause-ok : goal.returns-clause-ok
returns-clause-ok c =
    let before_search : c.as_slice.result.now ≡ codes "search " = c.as_slice.ensures in
    let search : c.as_bytes.result.now ≡ decimal c.args.search = c.as_bytes.ensures.value ∙ c.format.ensures.text in
    let refused : c.as_slice-2.result.now ≡ codes " refused: " = c.as_slice-2.ensures in
    let before_name : c.as_slice-3.result.now ≡ codes "name pattern " = c.as_slice-3.ensures in
    let name : c.as_bytes-2.result.now ≡ decimal c.args.name = c.as_bytes-2.ensures.value ∙ c.format-2.ensures.text in
    let before_reason : c.as_slice-4.result.now ≡ codes ": " = c.as_slice-4.ensures in
    let reason : c.as_bytes-3.result.now ≡ reason_of c.args.error.kind = c.as_bytes-3.ensures.value ∙ c.reason.ensures in
    let before_at : c.as_slice-5.result.now ≡ codes " at " = c.as_slice-5.ensures in
    let at : c.as_bytes-4.result.now ≡ decimal c.args.error.at = c.as_bytes-4.ensures.value ∙ c.format-3.ensures.text in
    let end : c.as_slice-6.result.now ≡ line_end = c.as_slice-6.ensures in
    let joined =
    ten c.as_slice.result.now c.as_bytes.result.now c.as_slice-2.result.now c.as_slice-3.result.now c.as_bytes-2.result.now
    c.as_slice-4.result.now c.as_bytes-3.result.now c.as_slice-5.result.now c.as_bytes-4.result.now c.as_slice-6.result.now
    ∙ (λ i. before_search i ++ search i ++ refused i ++ (before_name i ++ name i ++ before_reason i ++ (reason i ++ before_at i ++ at i)) ++ end i) in
    on_ok_weaker c.append_all.result (λ e. e ∙ ap (λ t. c.args.out.now.items ++ t) joined) c.append_all.ensures.ok
