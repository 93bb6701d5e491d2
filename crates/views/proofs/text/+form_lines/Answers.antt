use Rattle.std.proofs.Common.{◌≡◌, ℕ, Bool, List}
use Rattle.std.specs.declared.alloc.Global.{Global}
use Rattle.std.specs.declared.vec.Vec.{Vec}
use Rattle.std.proofs.lemmas.Result.{IfOk-at_ok}
use Rattle.views.specs.Found.{Hit}
use Rattle.views.specs.Text.{text_of_hits}
use Rattle.views.proofs.PartLemmas.{text-both}
use Rattle.views.proofs.text.+form_lines.Goals as goal

abbrev IsTextOf : Bool → List Hit → Vec ℕ Global → Type 0
IsTextOf zero hits text = text.items ≡ text_of_hits zero hits

pub returns : goal.returns
returns g t c =
    let first = c.split_at-first.result.0 in
    let others = c.split_at-first.result.1 in
    let front = IfOk-at_ok (IsTextOf c.args.zero first) c.in_ok-text.was c.join-formed.ensures.first in
    let back = IfOk-at_ok (IsTextOf c.args.zero others) c.in_ok-rest.was c.join-formed.ensures.second in
    text-both c.args.zero c.args.lines.now first others _ c.in_ok-text.text.items c.in_ok-rest.rest.items c.append.new.self.items
    c.split_at-first.ensures.front c.split_at-first.ensures.back front back c.in_ok-append.ensures.items
