-- A field at fault under any of refusals 4 to 8. FORMAT 6.
use Rattle.std.specs.Prelude.{ℕ, Bool, ◌||◌, List, leb}
use Rattle.oce_model.specs.declared.Attrs.{Attrs}
use Rattle.oce_model.specs.Model.{Connector}
use Rattle.oce_model.specs.Refusals.{bad_connector, bad_or_none, bad_attrs, bad_text_numbers, bad_length, too_many, bad_contents, bad_text, bad_reference}
use Rattle.oce_model.specs.declared.Field.{Field}

-- n is the number of texts
unfoldable pub at_fault : ℕ → List ℕ → Field → Bool
at_fault n s f = bad_length s f || too_many f || bad_contents s f || bad_text s f || bad_reference n s f

-- attributes at fault under refusal 6 or 8
unfoldable pub attrs_faulty : ℕ → Attrs → Bool
attrs_faulty n a = bad_attrs a || bad_text_numbers n a

-- a connector under refusal 6 or 8
unfoldable pub connector_faulty : ℕ → Connector → Bool
connector_faulty n c = bad_connector c || bad_or_none n c.iri || attrs_faulty n c.attrs

-- a boundary record by its iri and its attributes
unfoldable pub boundary_faulty : ℕ → ℕ → Attrs → Bool
boundary_faulty n iri a = leb n iri || attrs_faulty n a
