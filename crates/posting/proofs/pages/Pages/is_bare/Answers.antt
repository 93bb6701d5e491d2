use Rattle.std.proofs.Common.{◌≡◌, ◌==◌, true, arith}
use Rattle.std.proofs.lemmas.Bool.Decides.{nat_tests}
use Rattle.std.specs.Vec.{vec_len}
use Rattle.posting.proofs.PageLemmas.{place_of-bare}
use Rattle.posting.proofs.pages.Pages.is_bare.Goals as goal

pub returns : goal.returns
returns c = λ is t.
    let directory = c.self.inside.directory in
    let empty : (vec_len directory == 0) ≡ true = rw c.is_empty.ensures at is in
    let none : vec_len directory ≡ 0 = grind (arith, nat_tests) in
    rw (← c.self.view_is) (place_of-bare directory.items c.self.inside.slots.items t (omega (arith, none, directory.ok.0)))
