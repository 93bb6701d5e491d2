-- Updates that are puts.
use Rattle.std.specs.Prelude.{◌≡◌, ℕ, ◌&&◌, nat_lt, Bool, true, false, List, All, length}
use Rattle.prefixes.specs.Under.{begins_with}
use Rattle.documents.specs.Documents.{renamed}
use Rattle.versions.specs.declared.update.Update.{Update}
use Rattle.versions.specs.declared.update.Update.TheVariants.{Put, Remove, RemoveUnder, CopyUnder}

-- whether the update puts a document whose name passes the test
abbrev pub puts : (List ℕ → Bool) → Update → Bool
puts passes (Put name held like) = passes name
puts passes (Remove name) = false
puts passes (RemoveUnder prefix) = false
puts passes (CopyUnder from to) = false

abbrev pub ArePuts : List Update → Type 0
ArePuts updates = All (λ update. puts (λ _. true) update ≡ true) updates

-- whether the name begins with `from`, and has more bytes than this with `to` in its place
abbrev pub is_long : ℕ → List ℕ → List ℕ → List ℕ → Bool
is_long most from to name = begins_with from name && nat_lt most (length (renamed from to name))
