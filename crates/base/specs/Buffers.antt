-- What a call leaves in a lent buffer.
use Rattle.std.specs.Prelude.{ℕ, ◌+◌, List, ◌++◌, length, take, drop}

-- bytes put in place of those at an offset
unfoldable pub patch : List ℕ → ℕ → List ℕ → List ℕ
patch s at bs = take at s ++ bs ++ drop (at + length bs) s

-- a buffer that starts with some bytes, the rest as it was
unfoldable pub starts_with : List ℕ → List ℕ → List ℕ
starts_with bs buffer = bs ++ drop (length bs) buffer
