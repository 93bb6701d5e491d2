-- Contents that are made of bodies.
use Rattle.std.specs.Prelude.{ℕ, List, filter}
use Rattle.query.specs.Trigrams.{trigrams_of_body}
use Rattle.segments.specs.Contents.{Content}
use Rattle.segments.specs.Private.Below.{numbers_below}

-- the trigrams of a body, rising
unfoldable pub trigrams_in : List ℕ → List ℕ
trigrams_in body = filter (trigrams_of_body body) (numbers_below 16777216)

-- the content with this number and these trigrams
abbrev pub known_content : ℕ → List ℕ → Content
known_content number trigrams = record { number = number; trigrams = trigrams }

-- the content that is a body with a number
abbrev pub body_content : ℕ → List ℕ → Content
body_content number body = known_content number (trigrams_in body)
