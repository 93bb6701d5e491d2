-- What an output holds after a text and a flush.
use Rattle.std.proofs.Common.{sym, append-nil, List, [], ℕ, Option}
use Rattle.std.specs.Io.KnownBytes.{Appends, Keeps}
use Rattle.std.proofs.KnownBytes.{Appends-kept, Appends-nil}
use Rattle.transcript.specs.Written.{AppendsFront}

-- bytes that were written stay written after a flush
pub written_and_kept : (a b c : Option (List ℕ)) (bs : List ℕ) → Appends a b bs → Keeps b c → Appends a c bs
written_and_kept = Appends-kept

-- also after one that failed
pub whole_and_kept : (a b c : Option (List ℕ)) (text : List ℕ) → Appends a b text → Keeps b c → AppendsFront a c text
whole_and_kept a b c text all kept =
    record { front = text; rest = []; whole = sym (append-nil text); appended = Appends-kept a b c text all kept }

pub nothing_written : (known : Option (List ℕ)) → Appends known known []
nothing_written = Appends-nil
