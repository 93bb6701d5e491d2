-- What is shown of an answer.
use Rattle.std.proofs.Common.{◌≡◌, ℕ, [], refl}
use Rattle.request.specs.declared.options.View.{View}
use Rattle.request.specs.declared.options.View.TheVariants as view
use Rattle.views.specs.Shown.{text_of_rows_count}

pub no_rows_counted : (shown : View) (rows : ℕ) → ((most : ℕ) → shown ≡ view.Context most → ⊥) → text_of_rows_count shown rows ≡ []
no_rows_counted view.Lines rows other = refl
no_rows_counted (view.Context most) rows other = absurd (other most refl)
no_rows_counted view.Column rows other = refl
no_rows_counted view.Spans rows other = refl
no_rows_counted view.Names rows other = refl
no_rows_counted view.Counts rows other = refl
no_rows_counted view.Header rows other = refl
