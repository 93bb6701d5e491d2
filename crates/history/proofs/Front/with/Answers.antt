use Rattle.std.proofs.Common.{sym, ◌∙◌, ap, ◌≡◌, ◌+◌, arith, length}
use Rattle.history.proofs.Adding.{adds_moves}
use Rattle.history.proofs.Front.with.Goals as goal

pub compare_exchange-found-requires : goal.compare_exchange-found-requires
compare_exchange-found-requires g c =
    let h = c.requires in
    let seen = c.again-seen.ensures in
    let offer = c.plain-offer.ensures in
    let pen = c.no_pen-pen.ensures in
    let book = ap (λ w. w.book) h ∙ sym (ap (λ w. w.book) c.self.view_is) in
    let next : c.in_ok-count.count ≡ c.self.inside.count + 1 = omega arith in
    let len : length c.again-seen.result.log ≡ c.self.inside.count = ap (λ s. length s.log) seen ∙ sym c.self.invariant in (
      ap (λ w. w.tracked) h,
      ap (λ s. s.book) seen ∙ sym book,
      pen.0 ∙ (ap (λ s. s.book) seen ∙ sym book),
      offer.0,
      rw (ap (λ w. w.key) h, pen.1)
          (adds_moves c.again-seen.result.log c.plain-offer.result.ask c.plain-offer.result.state c.self.inside.count c.in_ok-count.count len
          next),
    )
