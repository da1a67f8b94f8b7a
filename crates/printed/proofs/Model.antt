-- The numbers of an accepted image's model.
use Prim.Native.Nat.{ℕ, ◌+◌, ◌<◌, ◌≤◌}
use native.Mathlib.Decide.{dec_lt}
use native.Mathlib.Omega.{arith}
use mathlib.Core.Path.{◌≡◌, refl}
use mathlib.Core.List.{List, map}
use Rattle.std.specs.Prelude.{None}
use lib.ListN.{length, get_or, length-map, get_or-eq_default}
use Rattle.base.proofs.Lists.{length-tab}
use Rattle.base.proofs.Members.{get_or-map}
use Rattle.numbers.specs.Bytes.{word_range, byte, byte_range, le16, le32}
use Rattle.numbers.proofs.Bytes.{le-fits}
use Rattle.oce_model.specs.Format.{block_tag, connector_tag, boundary_input_tag, boundary_output_tag}
use Rattle.oce_model.specs.Image.{field_at, fields, of_tag}
use Rattle.oce_model.specs.declared.Field.{Field}
use Rattle.oce_model.specs.Model.{Block, Connector, BoundaryInput, BoundaryOutput, model_of, ids_at, block_at, connector_at, boundary_input_at, boundary_output_at, no_block, no_connector, no_boundary_input, no_boundary_output, block, connector, boundary_input, boundary_output}
use Rattle.oce_model.specs.Refusals.{refusal}
use Rattle.image_accept.specs.Layout.{Laid, layout_of}
use Rattle.image_records.proofs.Laws.{blocks-counted, blocks-few, connectors-counted, connectors-few, connections-counted, connections-few, inputs-counted, boundary-inputs-few, outputs-counted, boundary-outputs-few}
use Rattle.printed.specs.Bounded.{Bounded}

-- what holds of each record read and of the one that stands for none holds of each number
anywhere : {A : Type 0} (P : A → Type 0) (f : Field → A) (l : List Field) (d : A) (z : Field) → ((x : Field) → P (f x)) → P d → (i : ℕ) → P (get_or (map f l) i d)
anywhere P f l d z h e i = arm (dec_lt i (length l))
  where
    arm : Dec (i < length l) → P (get_or (map f l) i d)
    arm (yes k) = rw (get_or-map f l i z d k) (h (get_or l i z))
    arm (no k) =
        let past : length (map f l) ≤ i = rw length-map (omega arith) in
        rw (get_or-eq_default (map f l) d past) e

module _ (s : List ℕ) (b : (i : ℕ) → byte s i < byte_range) where
  four : (at : ℕ) → le32 s at < word_range
  four at = le-fits 4 s at (λ i l. b (at + i))

  two : (at : ℕ) → le16 s at < word_range
  two at = let h : le16 s at < 65536 = le-fits 2 s at (λ i l. b (at + i)) in omega arith

  z : Field
  z = field_at s 0 0 0

  module _ (P : Block → Type 0) (h : (at : ℕ) → P (block_at s at)) (e : P no_block) where
    all_blocks : (i : ℕ) → P (block (model_of s) i)
    unfolding block model_of
    all_blocks = anywhere P (λ f. block_at s f.at) (of_tag block_tag (fields s)) no_block z (λ f. h f.at) e

  module _ (P : Connector → Type 0) (h : (at : ℕ) → P (connector_at s at)) (e : P no_connector) where
    all-connectors : (i : ℕ) → P (connector (model_of s) i)
    unfolding connector model_of
    all-connectors = anywhere P (λ f. connector_at s f.at) (of_tag connector_tag (fields s)) no_connector z (λ f. h f.at) e

  module _ (P : BoundaryInput → Type 0) (h : (at : ℕ) → P (boundary_input_at s at)) (e : P no_boundary_input) where
    all-inputs : (i : ℕ) → P (boundary_input (model_of s) i)
    unfolding boundary_input model_of
    all-inputs = anywhere P (λ f. boundary_input_at s f.at) (of_tag boundary_input_tag (fields s)) no_boundary_input z (λ f. h f.at) e

  module _ (P : BoundaryOutput → Type 0) (h : (at : ℕ) → P (boundary_output_at s at)) (e : P no_boundary_output) where
    all-outputs : (i : ℕ) → P (boundary_output (model_of s) i)
    unfolding boundary_output model_of
    all-outputs = anywhere P (λ f. boundary_output_at s f.at) (of_tag boundary_output_tag (fields s)) no_boundary_output z (λ f. h f.at) e

  pub bounded : refusal s ≡ None → Bounded (model_of s)
  unfolding block_at connector_at boundary_input_at boundary_output_at no_block no_connector no_boundary_input no_boundary_output ids_at
  bounded acc =
      let h : Laid s (layout_of s) = record { accepted = acc; layout = refl } in
      record {
        block_id = all_blocks (λ k. k.id < word_range) (λ at. four (at + 3)) (omega arith);
        instance = all_blocks (λ k. k.instance_iri < word_range) (λ at. two (at + 7)) (omega arith);
        inputs = all_blocks (λ k. length k.inputs ≤ word_range) (λ at. rw length-tab (let n = two (at + 9) in omega arith)) (omega arith);
        outputs = all_blocks (λ k. length k.outputs ≤ word_range) (λ at. rw length-tab (let n = two (at + 11) in omega arith)) (omega arith);
        connector_id = all-connectors (λ k. k.id < word_range) (λ at. four (at + 3)) (omega arith);
        connector_iri = all-connectors (λ k. k.iri < word_range) (λ at. two (at + 17)) (omega arith);
        input_iri = all-inputs (λ k. k.iri < word_range) (λ at. two (at + 3)) (omega arith);
        output_iri = all-outputs (λ k. k.iri < word_range) (λ at. two (at + 3)) (omega arith);
        blocks = omega (arith, blocks-counted h, blocks-few h);
        connections = omega (arith, connections-counted h, connections-few h);
        members = omega (arith, connectors-counted h, connectors-few h, inputs-counted h, boundary-inputs-few h);
        boundary_outputs = omega (arith, outputs-counted h, boundary-outputs-few h);
      }
