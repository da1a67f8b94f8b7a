-- Batches, and what a call gives for each: its numbers and the output buffer, byte by byte. FORMAT 22.
use Rattle.std.specs.Prelude.{ℕ, List, [], ◌∷◌, ◌++◌, length, take, replicate}
use Rattle.oce_model.specs.Build.{field}
use Rattle.oce_model.specs.Examples.{model_a, model_c, model_m, image78}
use Rattle.batch.specs.Fields.{image_tag}
use Rattle.batch.specs.Answer.{batch_answer, batch_numbers, output_after}
use Rattle.batch.specs.Packed.{image_field, pack}

-- model a without its last two bytes, and model a with a field of tag 9 behind it
abbrev pub short_a : List ℕ
short_a = take 21 model_a

abbrev pub strange_a : List ℕ
strange_a = model_a ++ 9 ∷ 0 ∷ 0 ∷ []

-- the 78 bytes, model c, two images that are turned away, an image of 0 bytes, model m, model a
unfoldable pub mixed : List ℕ
mixed = pack (image78 ∷ model_c ∷ short_a ∷ strange_a ∷ [] ∷ model_m ∷ model_a ∷ [])

-- its output: a field of 16 bytes for each image, a row for each diagnostic
unfoldable pub mixed_output : List ℕ
mixed_output =
    -- the 78 bytes: two errors, 1.5 and 3.1 of text 0
    0x31 ∷ 0x0D ∷ 0x00 ∷ 0x00 ∷ 0x00 ∷ 0x00 ∷ 0x00 ∷ 0x00 ∷ 0x02 ∷ 0x00 ∷ 0x00 ∷ 0x00 ∷ 0x00 ∷ 0x00 ∷ 0x00 ∷ 0x00
    ∷ 0x20 ∷ 0x10 ∷ 0x00 ∷ 0x00 ∷ 0x01 ∷ 0x01 ∷ 0x05 ∷ 0x01 ∷ 0x00 ∷ 0x00 ∷ 0x00 ∷ 0x00 ∷ 0x00 ∷ 0x00 ∷ 0x00 ∷ 0x00 ∷ 0x00 ∷ 0x00 ∷ 0x00
    ∷ 0x20 ∷ 0x10 ∷ 0x00 ∷ 0x00 ∷ 0x03 ∷ 0x03 ∷ 0x01 ∷ 0x01 ∷ 0x00 ∷ 0x00 ∷ 0x00 ∷ 0x00 ∷ 0x00 ∷ 0x00 ∷ 0x00 ∷ 0x00 ∷ 0x00 ∷ 0x00 ∷ 0x00
    -- model c: one error, 6.1 of connector 0
    ∷ 0x31 ∷ 0x0D ∷ 0x00 ∷ 0x00 ∷ 0x00 ∷ 0x00 ∷ 0x00 ∷ 0x00 ∷ 0x01 ∷ 0x00 ∷ 0x00 ∷ 0x00 ∷ 0x00 ∷ 0x00 ∷ 0x00 ∷ 0x00
    ∷ 0x20 ∷ 0x10 ∷ 0x00 ∷ 0x00 ∷ 0x05 ∷ 0x06 ∷ 0x01 ∷ 0x02 ∷ 0x00 ∷ 0x00 ∷ 0x00 ∷ 0x00 ∷ 0x00 ∷ 0x00 ∷ 0x00 ∷ 0x00 ∷ 0x00 ∷ 0x00 ∷ 0x00
    -- refused 1 at 0; refused 3 at 23, an offset of the image; 0 bytes: refused 1 at 0
    ∷ 0x31 ∷ 0x0D ∷ 0x00 ∷ 0x01 ∷ 0x00 ∷ 0x00 ∷ 0x00 ∷ 0x00 ∷ 0x00 ∷ 0x00 ∷ 0x00 ∷ 0x00 ∷ 0x00 ∷ 0x00 ∷ 0x00 ∷ 0x00
    ∷ 0x31 ∷ 0x0D ∷ 0x00 ∷ 0x03 ∷ 0x17 ∷ 0x00 ∷ 0x00 ∷ 0x00 ∷ 0x00 ∷ 0x00 ∷ 0x00 ∷ 0x00 ∷ 0x00 ∷ 0x00 ∷ 0x00 ∷ 0x00
    ∷ 0x31 ∷ 0x0D ∷ 0x00 ∷ 0x01 ∷ 0x00 ∷ 0x00 ∷ 0x00 ∷ 0x00 ∷ 0x00 ∷ 0x00 ∷ 0x00 ∷ 0x00 ∷ 0x00 ∷ 0x00 ∷ 0x00 ∷ 0x00
    -- model m: one warning, 6.7 of connector 0
    ∷ 0x31 ∷ 0x0D ∷ 0x00 ∷ 0x00 ∷ 0x00 ∷ 0x00 ∷ 0x00 ∷ 0x00 ∷ 0x00 ∷ 0x00 ∷ 0x00 ∷ 0x00 ∷ 0x01 ∷ 0x00 ∷ 0x00 ∷ 0x00
    ∷ 0x20 ∷ 0x10 ∷ 0x00 ∷ 0x01 ∷ 0x08 ∷ 0x06 ∷ 0x07 ∷ 0x02 ∷ 0x00 ∷ 0x00 ∷ 0x00 ∷ 0x00 ∷ 0x00 ∷ 0x00 ∷ 0x00 ∷ 0x00 ∷ 0x00 ∷ 0x00 ∷ 0x00
    -- model a: nothing to report
    ∷ 0x31 ∷ 0x0D ∷ 0x00 ∷ 0x00 ∷ 0x00 ∷ 0x00 ∷ 0x00 ∷ 0x00 ∷ 0x00 ∷ 0x00 ∷ 0x00 ∷ 0x00 ∷ 0x00 ∷ 0x00 ∷ 0x00 ∷ 0x00 ∷ []

-- n bytes of an output buffer that a call finds there
abbrev pub some_output : ℕ → List ℕ
some_output n = replicate n 0xAA

-- a batch and an output buffer, the answer's numbers and the buffer after the call
pub record Case : Type 0 where
  pub batch : List ℕ
  pub output : List ℕ
  pub numbers : List ℕ
  pub after : List ℕ

pub record Given : Type 0 where
  pub numbers : List ℕ
  pub after : List ℕ

abbrev pub found : Case → Given
found c = record { numbers = batch_numbers (batch_answer c.batch (length c.output)); after = output_after c.batch c.output }

abbrev pub wanted : Case → Given
wanted c = record { numbers = c.numbers; after = c.after }

abbrev written_case : List ℕ → List ℕ → ℕ → List ℕ → Case
written_case s o n after = record { batch = s; output = o; numbers = 0 ∷ 0 ∷ n ∷ []; after = after }

-- refused: the buffer stays as it was
abbrev refused_case : List ℕ → List ℕ → ℕ → ℕ → Case
refused_case s o number at = record { batch = s; output = o; numbers = number ∷ at ∷ 0 ∷ []; after = o }

unfoldable pub cases : List Case
cases =
    -- an empty batch gives nothing
    written_case [] [] 0 []
    ∷ written_case [] (some_output 2) 0 (some_output 2)
    -- an image of 0 bytes alone: refused 1 at 0
    ∷ written_case (image_field []) (some_output 16) 16 (0x31 ∷ 0x0D ∷ 0x00 ∷ 0x01 ∷ replicate 12 0x00)
    -- seven images, with room for two bytes more, which stay; with just the room
    ∷ written_case mixed (some_output 190) 188 (mixed_output ++ some_output 2)
    ∷ written_case mixed (some_output 188) 188 mixed_output
    -- 12: a byte short, and no room at all
    ∷ refused_case mixed (some_output 187) 12 188
    ∷ refused_case mixed [] 12 188
    -- 11, cut short: in its contents, and in its leading bytes
    ∷ refused_case (image_field model_a ++ image_tag ∷ 5 ∷ 0 ∷ 1 ∷ 2 ∷ 3 ∷ 4 ∷ []) (some_output 99) 11 26
    ∷ refused_case (image_tag ∷ []) [] 11 0
    ∷ refused_case (image_field [] ++ image_tag ∷ 0 ∷ []) [] 11 3
    -- 11, another tag: the first of two fields at fault, and a cut field that has it
    ∷ refused_case (image_field model_a ++ field 0x31 model_a ++ image_tag ∷ 1 ∷ []) (some_output 99) 11 26
    ∷ refused_case (field 0x01 [] ++ image_field model_a) [] 11 0
    ∷ refused_case (image_field [] ++ 0x31 ∷ 9 ∷ 0 ∷ []) [] 11 3
    ∷ []
