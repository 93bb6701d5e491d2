use Rattle.std.proofs.Common.{◌≡◌, ◌-◌, take, drop, length, ap, ◌∙◌, arith}
use Rattle.std.proofs.lemmas.List.{take_min, take_rest}
use Rattle.trigram.proofs.texts.cut.Goals as goal

pub returns-in-Prefix : goal.returns-in-Prefix
returns-in-Prefix c = rw c.in-Prefix.is (ap (λ n. take n c.args.text.now) c.min-kept.ensures ∙ take_min c.args.count c.args.text.now)

pub returns-in-Suffix : goal.returns-in-Suffix
returns-in-Suffix c =
    let same : length c.args.text.now - c.min-kept.result ≡ length c.args.text.now - c.args.count = omega (arith, c.min-kept.ensures) in
    rw c.in-Suffix.is (take_rest c.args.text.now (length c.args.text.now - c.min-kept.result) ∙ ap (λ n. drop n c.args.text.now) same)
