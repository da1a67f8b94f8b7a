-- Texts: which bytes they may hold, their bytes in the image, and their order. FORMAT 3.
use Rattle.std.specs.Prelude.{ℕ, ◌+◌, Bool, true, false, cond, ◌&&◌, List, [], ◌∷◌, take, drop, leb, ltb}
use Rattle.oce_model.specs.Format.{leading_bytes, first_text_byte, last_text_byte}
use Rattle.oce_model.specs.Image.{Field}
use Rattle.std.specs.declared.cmp.Ordering.{Ordering}
use Rattle.std.specs.declared.cmp.Ordering.TheVariants.{Less, Equal, Greater}

-- a byte that a text may hold
unfoldable pub is_text_byte : ℕ → Bool
is_text_byte b = leb first_text_byte b && leb b last_text_byte

-- the bytes of the text in a field
unfoldable pub text_of : List ℕ → Field → List ℕ
text_of s f = take f.len (drop (f.at + leading_bytes) s)

-- how one byte string stands to another: the first byte that differs decides, else the shorter comes first. It is Rust's order of `str`, by which a
-- `BTreeMap<&str, _>` is gone through
unfoldable pub order : List ℕ → List ℕ → Ordering
order [] [] = Equal
order [] (y ∷ ys) = Less
order (x ∷ xs) [] = Greater
order (x ∷ xs) (y ∷ ys) = cond (ltb x y) Less (cond (ltb y x) Greater (order xs ys))

-- the first comes before the second
abbrev pub is_less : Ordering → Bool
is_less Less = true
is_less Equal = false
is_less Greater = false

-- they are equal
abbrev pub is_equal : Ordering → Bool
is_equal Less = false
is_equal Equal = true
is_equal Greater = false
