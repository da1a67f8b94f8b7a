-- A model whose numbers are below 2 to the 32, as those of an accepted image are.
use Rattle.std.specs.Prelude.{ℕ, ◌+◌, ◌<◌, ◌≤◌, length}
use Rattle.oce_model.specs.Model.{Model, block, connector, boundary_input, boundary_output, block_count, connector_count, connection_count, boundary_input_count, boundary_output_count}
use Rattle.numbers.specs.Bytes.{word_range}

-- ids, text numbers, and how many there are of each kind
pub record Bounded (m : Model) : Type 0 where
  pub block_id : (i : ℕ) → (block m i).id < word_range
  pub instance : (i : ℕ) → (block m i).instance_iri < word_range
  pub inputs : (i : ℕ) → length (block m i).inputs ≤ word_range
  pub outputs : (i : ℕ) → length (block m i).outputs ≤ word_range
  pub connector_id : (i : ℕ) → (connector m i).id < word_range
  pub connector_iri : (i : ℕ) → (connector m i).iri < word_range
  pub input_iri : (i : ℕ) → (boundary_input m i).iri < word_range
  pub output_iri : (i : ℕ) → (boundary_output m i).iri < word_range
  pub blocks : block_count m ≤ word_range
  pub connections : connection_count m < word_range
  pub members : connector_count m + boundary_input_count m < word_range
  pub boundary_outputs : boundary_output_count m ≤ word_range
