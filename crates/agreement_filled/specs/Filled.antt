-- Stored filled records, and the image with their attributes: docs/STORED_ANSWERS.md has their form, 40 bytes. Bytes past the file's end count as 0.
use Rattle.std.specs.Prelude.{ℕ, ◌+◌, ◌*◌, Bool, cond, ◌&&◌, List, eqb, ltb, leb, length, get_or, take, drop}
use Rattle.std.specs.Prelude.{Option, Some, None}
use Rattle.base.specs.Lists.{steps, tally, same}
use Rattle.base.specs.Buffers.{patch}
use Rattle.numbers.specs.Bytes.{byte, le32}
use Rattle.oce_model.specs.Format.{connector_tag, boundary_output_tag, attrs_length}
use Rattle.oce_model.specs.Model.{Model, model_of, connector_count, boundary_output_count}
use Rattle.unify_slots.specs.Slots.{slot_count}
use Rattle.outcome.specs.Filled.{slot_offsets, filled_of}

-- tag 1, zero bytes 3, index 4, attributes 32
abbrev pub index_at : ℕ
index_at = 4

abbrev pub attributes_at : ℕ
attributes_at = 8

abbrev pub filled_size : ℕ
filled_size = attributes_at + attrs_length

-- ---- one: the filled record at an offset of the file f, for the image s

-- the slot of the model's record with a tag and an index; where there is none, the number of slots
unfoldable pub slot_of : Model → ℕ → ℕ → ℕ
slot_of m tag i =
    cond (eqb tag connector_tag && ltb i (connector_count m)) i
    (cond (eqb tag boundary_output_tag && ltb i (boundary_output_count m)) (connector_count m + i) (slot_count m))

-- the same, if the model has that slot
abbrev pub some_slot : Model → ℕ → ℕ → Option ℕ
some_slot m tag i = cond (ltb (slot_of m tag i) (slot_count m)) (Some (slot_of m tag i)) None

unfoldable pub slot_at : List ℕ → ℕ → List ℕ → ℕ
slot_at f at s = slot_of (model_of s) (byte f at) (le32 f (at + index_at))

-- the image has that slot
unfoldable pub is_slot : List ℕ → ℕ → List ℕ → Bool
is_slot f at s = ltb (slot_at f at s) (slot_count (model_of s))

-- bytes t with its attributes in place of the slot's
unfoldable pub put_record : List ℕ → ℕ → List ℕ → List ℕ → List ℕ
put_record f at s t = cond (is_slot f at s) (patch t (get_or (slot_offsets s) (slot_at f at s) 0) (take attrs_length (drop (at + attributes_at) f))) t

-- ---- n of them, from an offset on

unfoldable pub put_records : List ℕ → ℕ → List ℕ → ℕ → List ℕ → List ℕ
put_records f at s n t = steps n (λ k. put_record f (at + filled_size * k) s) t

-- how many of them are of slots
unfoldable pub slots_among : List ℕ → ℕ → List ℕ → ℕ → ℕ
slots_among f at s n = tally n (λ k. is_slot f (at + filled_size * k) s)

-- they end where the stored record does, all are of slots, and the filled image is the image with their attributes and nothing else changed
unfoldable pub filled_agrees : List ℕ → ℕ → ℕ → ℕ → List ℕ → Bool
filled_agrees f at n end s =
    leb end (length f) && eqb (at + filled_size * n) end && eqb (slots_among f at s n) n && same (put_records f at s n s) (filled_of s)
