-- One field behind other bytes, as the fields are walked. FORMAT 2.
use Prim.Native.Nat.{ℕ, zero, suc, ◌+◌, ◌^◌, ◌≤◌, ◌<◌}
use native.Mathlib.Nat.{add-zero}
use native.Mathlib.Omega.{arith}
use mathlib.Core.Path.{◌≡◌, refl, ◌∙◌}
use mathlib.Core.Bool.{true, false}
use mathlib.Core.List.{List, [], ◌∷◌, ◌++◌, append_assoc, append-nil}
use lib.ListN.{length, length-append}
use lib.Seq.{get_or-append-add}
use lib.Dec.{leb}
use borrow.Author.Tests.{le-leb, lt-leb}
use Rattle.numbers.specs.Bytes.{short_range, byte, le16, le_bytes}
use Rattle.numbers.proofs.Bytes.{le-append-right, le-bytes, le_bytes-length}
use Rattle.oce_model.specs.Format.{leading_bytes, field_length_at}
use Rattle.oce_model.specs.Image.{field_at, field_end, fields_from, ord_of, stop_from}
use Rattle.oce_model.specs.declared.Field.{Field}
use Rattle.oce_model.specs.Build.{field}
use Rattle.oce_model.proofs.Fields.{field_end-past}

-- the bytes r are a field with a tag and a length, whatever stands behind
pub record IsField (t len : ℕ) (r : List ℕ) : Type 0 where
  pub tag : (rest : List ℕ) → byte (r ++ rest) 0 ≡ t
  pub size : (rest : List ℕ) → le16 (r ++ rest) field_length_at ≡ len
  pub long : length r ≡ leading_bytes + len

-- the field with a tag and a length at an offset
abbrev pub row : ℕ → ℕ → ℕ → ℕ → ℕ → Field
row t len at prev o = record { at = at; tag = t; len = len; prev = prev; ord = o }

module _ {t len : ℕ} {r : List ℕ} (is : IsField t len r) where
  module _ (pre rest : List ℕ) where
    pub tag_at : byte (pre ++ (r ++ rest)) (length pre) ≡ t
    tag_at = rw (add-zero (length pre)) at (get_or-append-add pre (r ++ rest) 0 0) ∙ is.tag rest

    pub size-at : le16 (pre ++ (r ++ rest)) (length pre + field_length_at) ≡ len
    size-at = le-append-right 2 pre (r ++ rest) 1 ∙ is.size rest

    pub long-at : length (pre ++ r) ≡ length pre + leading_bytes + len
    long-at = length-append pre r ∙ (let e = is.long in omega arith)

    fits : leb (length pre + leading_bytes + len) (length (pre ++ (r ++ rest))) ≡ true
    fits =
        let e = is.long in
        let l : length pre + leading_bytes + len ≤ length (pre ++ (r ++ rest)) = rw (length-append pre (r ++ rest), length-append r rest) (omega arith) in
        le-leb _ _ l

    pub fields-step : (k prev o : ℕ)
        → fields_from (suc k) (pre ++ (r ++ rest)) (length pre) prev o
        ≡ row t len (length pre) prev (ord_of prev o t) ∷ fields_from k ((pre ++ r) ++ rest) (length (pre ++ r)) t (suc (ord_of prev o t))
    unfolding fields_from field_end field_at
    fields-step k prev o = rw (append_assoc pre r rest, long-at, tag_at, size-at, fits)

    pub stop_step : (k : ℕ) → stop_from (suc k) (pre ++ (r ++ rest)) (length pre) ≡ stop_from k ((pre ++ r) ++ rest) (length (pre ++ r))
    unfolding stop_from field_end
    stop_step k = rw (append_assoc pre r rest, long-at, size-at, fits)

-- behind the last field nothing is left
module _ (pre : List ℕ) where
  over : leb (field_end (pre ++ []) (length pre)) (length (pre ++ [])) ≡ false
  over =
      let l : length (pre ++ []) < field_end (pre ++ []) (length pre) = rw (length-append pre []) (omega (arith, field_end-past (pre ++ []) (length pre))) in
      lt-leb _ _ l

  pub fields-end : (k prev o : ℕ) → fields_from k (pre ++ []) (length pre) prev o ≡ []
  unfolding fields_from
  fields-end zero prev o = refl
  fields-end (suc k) prev o = rw over

  pub stop-end : (k : ℕ) → stop_from k (pre ++ []) (length pre) ≡ length (pre ++ [])
  unfolding stop_from
  stop-end zero = rw (append-nil pre)
  stop-end (suc k) = rw (over, append-nil pre)

-- a field that is built of its contents
pub built-is : (t : ℕ) (c : List ℕ) → length c < short_range → IsField t (length c) (field t c)
unfolding field
built-is t c h = record { tag = λ rest. refl; size = size; long = rw (length-append (le_bytes 2 (length c)) c, le_bytes-length 2 (length c)) (omega arith) }
  where
    size : (rest : List ℕ) → le16 (field t c ++ rest) field_length_at ≡ length c
    size rest =
        let l : length c < 256 ^ 2 = omega arith in
        le-append-right 2 (t ∷ []) ((le_bytes 2 (length c) ++ c) ++ rest) 0 ∙ rw (append_assoc (le_bytes 2 (length c)) c rest) (le-bytes 2 (length c) (c ++ rest) l)
