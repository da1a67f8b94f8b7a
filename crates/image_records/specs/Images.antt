-- What an image is accepted as. FORMAT 6.
use Rattle.std.specs.Prelude.{ℕ, ◌+◌, ◌*◌, ◌≤◌, ◌≡◌, List, length, Result, Ok, Err}
use Rattle.std.specs.Prelude.{Some, None}
use Rattle.oce_model.specs.Refusals.{refusal}
use Rattle.oce_model.specs.declared.Refusal.{Refusal}
use Rattle.oce_model.specs.Format.{longest_image, most_ports, block_ports, port_length}
use Rattle.oce_model.specs.Model.{Block as ModelBlock, input_count_at, output_count_at}
use Rattle.image_records.specs.declared.blocks.Block.{Block}

-- an image of the bytes s, of which no refusal applies; or the first that does
abbrev pub Accepts : List ℕ → Result (List ℕ) Refusal → Type 0
Accepts s (Ok image) = (image ≡ s) × (refusal s ≡ None)
Accepts s (Err r) = refusal s ≡ Some r

-- a block by value
unfoldable pub block_value : ModelBlock → Block
block_value b = record { id = record { 0 = b.id }; instance = b.instance_iri; inputs = b.inputs; outputs = b.outputs }

-- the field of a block stands at an offset, with its ports inside s
pub record BlockInside (s : List ℕ) (at : ℕ) : Type 0 where
  pub near : at ≤ longest_image
  pub inputs : input_count_at s at ≤ most_ports
  pub outputs : output_count_at s at ≤ most_ports
  pub ends : at + block_ports + port_length * (input_count_at s at + output_count_at s at) ≤ length s
