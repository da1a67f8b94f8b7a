-- A line about what failed, in a writer whose bytes are known.
use Rattle.std.specs.Prelude.{ℕ, List, Option, ◌++◌, codes}
use Rattle.std.specs.Io.KnownBytes.{Appends}

-- they grow by what failed, a colon, some words and the line's end
abbrev pub Complains : Option (List ℕ) → Option (List ℕ) → List ℕ → Type 0
Complains old new what = (words : List ℕ) × Appends old new (what ++ (codes ": " ++ (words ++ codes "\n")))
