-- Every definition of this crate and of those below it, opened: a claim that is `unfolding computed` computes.
use Rattle.std.specs.Prelude.{ℕ}
use Rattle.numbers.specs.Computed.{computed as computed_below}
use Rattle.oce_model.specs.Format.{most, fixed_length}
use Rattle.oce_model.specs.Attributes.{no_attrs, attrs_at, attrs_bytes, declared_at, declare_at}
use Rattle.oce_model.specs.Image.{field_end, field_at, fields_from, fields, stop_from, stop, of_tag, first, start_of}
use Rattle.oce_model.specs.Texts.{is_text_byte, text_of, order}
use Rattle.oce_model.specs.Model.{ids_at, block_at, connector_at, connection_at, external_input_at, boundary_input_at, boundary_output_at, model_of, no_block, no_connector, no_connection, no_boundary_input, no_boundary_output, text, block, connector, connection, boundary_input, boundary_output}
use Rattle.oce_model.specs.Refusals.{tag_is_bad, bad_tag, bad_block_length, bad_length, too_many, bad_head, bad_connector, stray, bad_attrs, attrs_offset, bad_contents, bad_text, bad_text_numbers, bad_or_none, bad_reference, fault, refusals_from, refusal}

unfoldable pub computed : ℕ
unfolding computed_below most fixed_length no_attrs attrs_at attrs_bytes declared_at declare_at field_end field_at fields_from fields stop_from stop of_tag first start_of is_text_byte text_of order ids_at block_at connector_at connection_at external_input_at boundary_input_at boundary_output_at model_of no_block no_connector no_connection no_boundary_input no_boundary_output text block connector connection boundary_input boundary_output tag_is_bad bad_tag bad_block_length bad_length too_many bad_head bad_connector stray bad_attrs attrs_offset bad_contents bad_text bad_text_numbers bad_or_none bad_reference fault refusals_from refusal
computed = 0
