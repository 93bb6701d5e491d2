-- A session that reads through a buffer.
use Rattle.std.proofs.Common.{◌≡◌, ◌∙◌, ap, refl, subst, ℕ, List, [], Option, Some, None}
use Rattle.std.specs.Io.Buffered.{reader_buffer, reader_capacity, reader_inner, reader_remaining}
use Rattle.std.specs.Io.KnownBytes.{prepend_known}
use Rattle.std.specs.declared.io.buffered.BufReader.{BufReader}
use Rattle.std.specs.Prelude.{Result, Ok, Err, IfErr}
use Rattle.cli.specs.declared.arguments.Settings.{Settings}
use Rattle.tsearch.specs.Served.{IsBroken, IsServed}
use Rattle.tsearch.specs.declared.serving.LiveOptions.{LiveOptions}
use Rattle.program.specs.Reads.{IsInputFrom, IsLoadFrom}
use Rattle.program.specs.Response.{EndsOver, EndsSession, IsFaultOfSession, live_options_of, broken, ended}
use Rattle.program.specs.declared.error.ProgramError.{ProgramError}

nothing_before : (known : Option (List ℕ)) → prepend_known [] known ≡ known
nothing_before None = refl
nothing_before (Some bytes) = refl

-- a new buffer has read nothing yet
pub unread : {T A : Type 0} (remaining : T → Option (List ℕ)) (r : BufReader T A) (inner : T) → reader_inner r ≡ inner → reader_buffer r ≡ []
    → reader_capacity r ≡ 65536 → reader_remaining remaining r ≡ remaining inner
unread remaining r inner is empty capacity =
    rw capacity (ap (λ (bytes : List ℕ). prepend_known bytes (remaining r.inner)) empty ∙ nothing_before (remaining r.inner) ∙ ap remaining is)

pub served_from : (options : LiveOptions) (Holds : List ℕ → List ℕ → Type 0) (failed failed' : ℕ) (known whole old new : Option (List ℕ)) (status : ℕ)
    → known ≡ whole → IsServed options Holds failed failed' known old new status → IsServed options Holds failed failed' whole old new status
served_from options Holds failed failed' known whole old new status same served =
    subst (λ (input : Option (List ℕ)). IsServed options Holds failed failed' input old new status) same served

module _ (opens : List ℕ → Option (List ℕ) → Type 0) (has_file : List ℕ → Type 0) (input : Option (List ℕ)) (failed failed' : ℕ)
    (old new : Option (List ℕ)) where
  pub broken_from : (settings : Settings) (known whole : Option (List ℕ)) (e : ProgramError) → known ≡ whole → IsFaultOfSession e
      → IsBroken (live_options_of settings) (IsLoadFrom opens has_file settings.max_body) failed failed' known old new
      → EndsOver opens has_file failed failed' old new whole settings e
  broken_from settings known whole e same fault is =
      broken fault
      (subst (λ (bytes : Option (List ℕ)). IsBroken (live_options_of settings) (IsLoadFrom opens has_file settings.max_body) failed failed' bytes old new) same is)

  pub session_ended : (settings : Settings) (all : Option (List ℕ)) (result : Result ℕ ProgramError) → IsInputFrom opens input settings.file all
      → IfErr result (EndsOver opens has_file failed failed' old new all settings)
      → IfErr result (EndsSession opens has_file input failed failed' old new settings)
  session_ended settings all (Ok status) is over = over
  session_ended settings all (Err e) is over = ended all is over
