use Rattle.std.proofs.Common.{◌≡◌, ◌++◌, ◌∙◌, ap, List, [], ℕ, append_assoc}
use Rattle.std.specs.Prelude.{codes, decimal}
use Rattle.std.proofs.lemmas.List.{append-nil}
use Rattle.std.proofs.lemmas.Result.{on_ok_weaker}
use Rattle.views.specs.Text.{line_end}
use Rattle.transcript.specs.Transcript.{status_line}
use Rattle.transcript.proofs.texts.append_status.Goals as goal

fifteen : (a b c d e f g h i j k l m n o : List ℕ)
    → a ++ (b ++ (c ++ (d ++ (e ++ (f ++ (g ++ (h ++ (i ++ (j ++ (k ++ (l ++ (m ++ (n ++ (o ++ []))))))))))))))
    ≡ a ++ b ++ c ++ d ++ e ++ f ++ g ++ h ++ i ++ j ++ k ++ l ++ m ++ n ++ o
fifteen a b c d e f g h i j k l m n o = simp (append-nil, append_assoc)

pub returns-clause-ok : goal.returns-clause-ok
unfolding status_line
returns-clause-ok c =
    let before_line : c.as_slice.result.now ≡ codes "line " = c.as_slice.ensures in
    let line : c.as_bytes.result.now ≡ decimal c.args.shown.line = c.as_bytes.ensures.value ∙ c.format.ensures.text in
    let before_version : c.as_slice-2.result.now ≡ codes " status version " = c.as_slice-2.ensures in
    let version : c.as_bytes-2.result.now ≡ decimal c.args.shown.version = c.as_bytes-2.ensures.value ∙ c.format-2.ensures.text in
    let before_documents : c.as_slice-3.result.now ≡ codes " documents " = c.as_slice-3.ensures in
    let documents : c.as_bytes-3.result.now ≡ decimal c.args.shown.documents = c.as_bytes-3.ensures.value ∙ c.format-3.ensures.text in
    let before_bytes : c.as_slice-4.result.now ≡ codes " bytes " = c.as_slice-4.ensures in
    let bytes : c.as_bytes-4.result.now ≡ decimal c.args.shown.bytes = c.as_bytes-4.ensures.value ∙ c.format-4.ensures.text in
    let before_accepted : c.as_slice-5.result.now ≡ codes " accepted " = c.as_slice-5.ensures in
    let accepted : c.as_bytes-5.result.now ≡ decimal c.args.shown.accepted = c.as_bytes-5.ensures.value ∙ c.format-5.ensures.text in
    let before_most : c.as_slice-6.result.now ≡ codes " of " = c.as_slice-6.ensures in
    let most : c.as_bytes-6.result.now ≡ decimal c.args.shown.most = c.as_bytes-6.ensures.value ∙ c.format-6.ensures.text in
    let before_open_searches : c.as_slice-7.result.now ≡ codes " open " = c.as_slice-7.ensures in
    let open_searches : c.as_bytes-7.result.now ≡ decimal c.args.shown.open_searches = c.as_bytes-7.ensures.value ∙ c.format-7.ensures.text in
    let end : c.as_slice-8.result.now ≡ line_end = c.as_slice-8.ensures in
    let joined =
    fifteen c.as_slice.result.now c.as_bytes.result.now c.as_slice-2.result.now c.as_bytes-2.result.now c.as_slice-3.result.now
    c.as_bytes-3.result.now c.as_slice-4.result.now c.as_bytes-4.result.now c.as_slice-5.result.now c.as_bytes-5.result.now c.as_slice-6.result.now
    c.as_bytes-6.result.now c.as_slice-7.result.now c.as_bytes-7.result.now c.as_slice-8.result.now
    ∙ (λ i. before_line i ++ line i ++ before_version i ++ version i ++ before_documents i ++ documents i ++ before_bytes i ++ bytes i
    ++ before_accepted i ++ accepted i ++ before_most i ++ most i ++ before_open_searches i ++ open_searches i ++ end i) in
    on_ok_weaker c.append_all.result (λ e. e ∙ ap (λ t. c.args.out.now.items ++ t) joined) c.append_all.ensures.ok
