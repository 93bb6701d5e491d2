use Rattle.std.proofs.Common.{◌++◌, length, drop, sym, ◌∙◌, ap}
use Rattle.published.proofs.CopyNames.{copy-old, copy-new}
use Rattle.published.proofs.names.Names.add_copy.Goals as goal

pub returns-then-has : goal.returns-then-has
returns-then-has c =
    copy-old c.args.self.now c.args.from.now c.args.to.now c.args.name.now c.in-Some.copy c.args.copies.now.items
    (c.in-Some.ensures ∙ ap (λ text. c.args.to.now ++ drop (length text) c.args.name.now) c.as_bytes.ensures.bytes) (sym c.if-has.ensures)

pub returns : goal.returns
returns c =
    copy-new c.args.self.now c.args.from.now c.args.to.now c.args.name.now c.in-Some.copy c.args.copies.now.items c.push.new.self.items
    (c.in-Some.ensures ∙ ap (λ text. c.args.to.now ++ drop (length text) c.args.name.now) c.as_bytes.ensures.bytes) (sym c.if-has.ensures)
    c.in_ok-push.ensures.items
