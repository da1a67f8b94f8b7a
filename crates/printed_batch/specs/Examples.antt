-- What is printed for a few batches. FORMAT 23.
use Rattle.std.specs.Prelude.{ℕ, List, [], ◌∷◌, ◌++◌}
use Rattle.oce_model.specs.Build.{field}
use Rattle.oce_model.specs.Examples.{image78}
use Rattle.printed.specs.Examples.{printed78, refused1}
use Rattle.batch.specs.Packed.{pack}

-- the image of 78 bytes, and an image of 0 bytes; behind the second, a field of another tag
unfoldable pub two : List ℕ
two = pack (image78 ∷ [] ∷ [])

unfoldable pub strange : List ℕ
strange = two ++ field 0x31 []

-- the bytes that the output of `two` needs
abbrev pub two_need : ℕ
two_need = 70

-- `image 0`, three lines, `image 1`, `refused 1 at 0`
unfoldable pub printed_two : List ℕ
printed_two =
    (0x69 ∷ 0x6D ∷ 0x61 ∷ 0x67 ∷ 0x65 ∷ 0x20 ∷ 0x30 ∷ 0x0A ∷ printed78)
    ++ (0x69 ∷ 0x6D ∷ 0x61 ∷ 0x67 ∷ 0x65 ∷ 0x20 ∷ 0x31 ∷ 0x0A ∷ refused1)

-- `refused 11 at 84`
unfoldable pub refused11 : List ℕ
refused11 = 0x72 ∷ 0x65 ∷ 0x66 ∷ 0x75 ∷ 0x73 ∷ 0x65 ∷ 0x64 ∷ 0x20 ∷ 0x31 ∷ 0x31 ∷ 0x20 ∷ 0x61 ∷ 0x74 ∷ 0x20 ∷ 0x38 ∷ 0x34 ∷ 0x0A ∷ []

-- `refused 12 at 70`
unfoldable pub refused12 : List ℕ
refused12 = 0x72 ∷ 0x65 ∷ 0x66 ∷ 0x75 ∷ 0x73 ∷ 0x65 ∷ 0x64 ∷ 0x20 ∷ 0x31 ∷ 0x32 ∷ 0x20 ∷ 0x61 ∷ 0x74 ∷ 0x20 ∷ 0x37 ∷ 0x30 ∷ 0x0A ∷ []
