-- What a check gives for each of the models: whole report, whole filled image, and the answer where both buffers are just long enough. FORMAT 21.
-- Then calls with their buffers before and after, byte by byte. FORMAT 1.
use Rattle.std.specs.Prelude.{ℕ, List, [], ◌∷◌, ◌++◌, length, replicate}
use Rattle.oce_model.specs.Format.{unit_bit, display_unit_bit, min_bit, max_bit}
use Rattle.oce_model.specs.Build.{◌is◌, real_with, integer_with, head_field, block_field, out_field, in_field, connection_field, boundary_output_field}
use Rattle.oce_model.specs.Examples.{units, kelvin, celsius, pair, model_a, model_b, model_c, model_d, model_e, model_f, model_g, model_h, model_i, model_j, model_k, model_l, model_m, model_n, model_o, model_p, model_q, image78, model_r, model_s, model_t, model_u, model_v, model_w}
use Rattle.oce_model.specs.Raw.{raw_image, raw_filled}
use Rattle.oce_diag.specs.Diagnostics.{connector_id, block_id, error, warning}
use Rattle.oce_diag.specs.declared.Diagnostic.{Diagnostic}
use Rattle.oce_diag.specs.declared.Subject.{Subject}
use Rattle.oce_diag.specs.declared.Subject.TheVariants.{Nothing, Text, Connector, Block}
use Rattle.oce_diag.specs.declared.DiagCode.TheVariants.{MalformedDocument, DirectionMismatch, SingleAssignment, TypeMismatch, UnitQuantityMismatch, BoundMismatch, CrossedBounds, DisplayUnitDivergence}
use Rattle.outcome.specs.Filled.{filled_of}
use Rattle.outcome.specs.Answer.{report_of, report_size, answer, numbers_of, filled_after, report_after}

-- ---- the models

-- an image and what a check of it shall give: its diagnostics, its filled bytes, its errors and warnings
pub record Case : Type 0 where
  pub image : List ℕ
  pub diagnostics : List Diagnostic
  pub filled : List ℕ
  pub errors : ℕ
  pub warnings : ℕ

-- nothing reported and nothing filled
abbrev pub fine : List ℕ → Case
fine s = record { image = s; diagnostics = []; filled = s; errors = 0; warnings = 0 }

-- errors alone, so nothing filled
abbrev pub faulty : List ℕ → List Diagnostic → Case
faulty s ds = record { image = s; diagnostics = ds; filled = s; errors = length ds; warnings = 0 }

-- filled, and warnings alone
abbrev pub changed : List ℕ → List Diagnostic → List ℕ → Case
changed s ds t = record { image = s; diagnostics = ds; filled = t; errors = 0; warnings = length ds }

-- a connector and a block without a text
abbrev connector_no : ℕ → Subject
connector_no i = Connector (connector_id i)

abbrev block_no : ℕ → Subject
block_no i = Block (block_id i)

unfoldable pub cases : List Case
cases =
    -- a: nothing reported, the same image
    fine model_a
    -- b: nothing reported, the In has K
    ∷ changed model_b [] (pair units (real_with (unit_bit is kelvin ∷ [])) (real_with (unit_bit is kelvin ∷ [])))
    -- c: 6.1, nothing filled
    ∷ faulty model_c (error UnitQuantityMismatch 6 1 (connector_no 0) 0 ∷ [])
    -- d: 6.3
    ∷ faulty model_d (error BoundMismatch 6 3 (connector_no 0) 0 ∷ [])
    -- e: nothing reported
    ∷ fine model_e
    -- f: 6.8, nothing filled
    ∷ faulty model_f (error CrossedBounds 6 8 (connector_no 0) 0 ∷ [])
    -- g: 3.2 alone, place 2
    ∷ faulty model_g (error SingleAssignment 3 2 (connector_no 2) 2 ∷ [])
    -- h: 3.2, 4.1
    ∷ faulty model_h (error SingleAssignment 3 2 (connector_no 1) 2 ∷ error MalformedDocument 4 1 Nothing 1 ∷ [])
    -- i: nothing reported
    ∷ fine model_i
    -- j: 5.1
    ∷ faulty model_j (error CrossedBounds 5 1 (connector_no 0) 0 ∷ [])
    -- k: nothing reported
    ∷ fine model_k
    -- l: 5.4, place 2
    ∷ faulty model_l (error CrossedBounds 5 4 (Text 0) 2 ∷ [])
    -- m: warning 6.7, the In has K
    ∷ changed model_m (warning DisplayUnitDivergence 6 7 (connector_no 0) 0 ∷ [])
    (pair units (real_with (unit_bit is kelvin ∷ display_unit_bit is kelvin ∷ [])) (real_with (unit_bit is kelvin ∷ display_unit_bit is celsius ∷ [])))
    -- n: 6.8 is asked only after all roots, and not beside an error
    ∷ faulty model_n (error UnitQuantityMismatch 6 1 (connector_no 2) 2 ∷ [])
    -- o: another rule's error undoes the filling
    ∷ faulty model_o (error SingleAssignment 3 1 (connector_no 2) 2 ∷ [])
    -- p: what a root fills is seen by later roots, beside errors too
    ∷ faulty model_p (error DirectionMismatch 4 2 (connector_no 1) 1 ∷ error UnitQuantityMismatch 6 1 (connector_no 1) 1 ∷ [])
    -- q: every root fills its cluster, boundary outputs too, each kind its own attributes
    ∷ changed model_q []
    (head_field ++ units ++ block_field 0 (1 ∷ 3 ∷ []) (0 ∷ 2 ∷ [])
    ++ out_field 0 (real_with (unit_bit is kelvin ∷ [])) ++ in_field 1 (real_with (unit_bit is kelvin ∷ []))
    ++ out_field 2 (integer_with (min_bit is 3 ∷ max_bit is 7 ∷ [])) ++ in_field 3 (integer_with (min_bit is 3 ∷ max_bit is 7 ∷ []))
    ++ connection_field 0 1 ++ connection_field 2 3 ++ boundary_output_field 0 2 (integer_with (min_bit is 3 ∷ max_bit is 7 ∷ [])))
    -- the 78 bytes: 1.5 and 3.1 of `u`. FORMAT 19
    ∷ faulty image78 (error MalformedDocument 1 5 (Text 0) 0 ∷ error SingleAssignment 3 1 (Text 0) 0 ∷ [])
    -- r: 1.1 to 1.4. Subjects have ids or the instance's text; places have a record's number, 1.2 and 1.3 the port's index
    ∷ faulty model_r
    (error MalformedDocument 1 1 (block_no 7) 0 ∷ error MalformedDocument 1 2 (block_no 7) 1 ∷ error MalformedDocument 1 3 (block_no 7) 0
    ∷ error MalformedDocument 1 1 (Text 0) 1 ∷ error MalformedDocument 1 4 (connector_no 5) 0 ∷ [])
    -- s: 2.1 alone; 2.2 and 2.3 of one; 2.3
    ∷ faulty model_s
    (error MalformedDocument 2 1 (Text 0) 0 ∷ error DirectionMismatch 2 2 (Text 0) 1 ∷ error MalformedDocument 2 3 (Text 0) 1 ∷ error MalformedDocument 2 3 (Text 0) 2 ∷ [])
    -- t: 4.4 by the class alone; 4.3 and 4.4 of one
    ∷ faulty model_t (error TypeMismatch 4 4 (connector_no 1) 0 ∷ error DirectionMismatch 4 3 (connector_no 2) 1 ∷ error TypeMismatch 4 4 (connector_no 2) 1 ∷ [])
    -- u: 5.1 of a Real, 5.2 of an Integer, 5.3
    ∷ faulty model_u (error CrossedBounds 5 1 (connector_no 0) 0 ∷ error CrossedBounds 5 2 (Text 0) 1 ∷ error CrossedBounds 5 3 (Text 0) 0 ∷ [])
    -- v: 6.2 and 6.4 of a Real root, 6.5 and 6.6 of an Integer one
    ∷ faulty model_v
    (error UnitQuantityMismatch 6 2 (connector_no 0) 0 ∷ error BoundMismatch 6 4 (connector_no 0) 0
    ∷ error BoundMismatch 6 5 (connector_no 2) 2 ∷ error BoundMismatch 6 6 (connector_no 2) 2 ∷ [])
    -- w: 3.1 of the In that isn't external; 5.4 of `K` with two members, of `u` with three, whose text is its first connector's
    ∷ faulty model_w (error SingleAssignment 3 1 (Text 1) 0 ∷ error CrossedBounds 5 4 (Text 2) 2 ∷ error CrossedBounds 5 4 (Text 1) 3 ∷ [])
    ∷ []

-- what the definitions give for a case, and what it shall have
pub record Outcome : Type 0 where
  pub diagnostics : List Diagnostic
  pub filled : List ℕ
  pub answered : List ℕ

abbrev pub found : Case → Outcome
found c = record {
  diagnostics = report_of c.image;
  filled = filled_of c.image;
  answered = numbers_of (answer c.image (length c.image) (report_size c.diagnostics));
}

abbrev pub wanted : Case → Outcome
wanted c = record { diagnostics = c.diagnostics; filled = c.filled; answered = 0 ∷ c.errors ∷ c.warnings ∷ [] }

-- ---- calls: an image, the filled buffer and the report buffer before, and after

pub record Call : Type 0 where
  pub image : List ℕ
  pub filled_before : List ℕ
  pub report_before : List ℕ

pub record Ended : Type 0 where
  pub answered : List ℕ
  pub filled_then : List ℕ
  pub report_then : List ℕ

abbrev pub ended : Call → Ended
ended c = record {
  answered = numbers_of (answer c.image (length c.filled_before) (length c.report_before));
  filled_then = filled_after c.image c.filled_before c.report_before;
  report_then = report_after c.image c.filled_before c.report_before;
}

abbrev pub call : List ℕ → List ℕ → List ℕ → Call
call s f r = record { image = s; filled_before = f; report_before = r }

abbrev pub ends_as : List ℕ → List ℕ → List ℕ → Ended
ends_as a f r = record { answered = a; filled_then = f; report_then = r }

-- n bytes of a filled buffer, and of a report buffer, that a call finds there
abbrev pub some_filled : ℕ → List ℕ
some_filled n = replicate n 0xAA

abbrev pub some_report : ℕ → List ℕ
some_report n = replicate n 0xBB

-- the report of the 78 bytes: an error of code 1, 1.5, and one of code 3, 3.1, both of text 0 and with place 0. FORMAT 7
unfoldable pub report78 : List ℕ
report78 =
    0x20 ∷ 0x10 ∷ 0x00 ∷ 0x00 ∷ 0x01 ∷ 0x01 ∷ 0x05 ∷ 0x01 ∷ 0x00 ∷ 0x00 ∷ 0x00 ∷ 0x00 ∷ 0x00 ∷ 0x00 ∷ 0x00 ∷ 0x00 ∷ 0x00 ∷ 0x00 ∷ 0x00
    ∷ 0x20 ∷ 0x10 ∷ 0x00 ∷ 0x00 ∷ 0x03 ∷ 0x03 ∷ 0x01 ∷ 0x01 ∷ 0x00 ∷ 0x00 ∷ 0x00 ∷ 0x00 ∷ 0x00 ∷ 0x00 ∷ 0x00 ∷ 0x00 ∷ 0x00 ∷ 0x00 ∷ 0x00
    ∷ []

unfoldable pub calls : List Call
calls =
    -- the 78 bytes, with two bytes more than needed in each buffer
    call image78 (some_filled 80) (some_report 40)
    -- a byte short for the image; for the report
    ∷ call image78 (some_filled 77) (some_report 40)
    ∷ call image78 (some_filled 78) (some_report 37)
    -- the image of raw bytes, whose report is empty, with a byte more than needed in each
    ∷ call raw_image (some_filled 380) (some_report 1)
    ∷ []

unfoldable pub endings : List Ended
endings =
    -- two errors; the image as it is, the report, and behind both what was there
    ends_as (0 ∷ 2 ∷ 0 ∷ []) (image78 ++ some_filled 2) (report78 ++ some_report 2)
    -- refused, with the bytes needed, and both buffers as they were
    ∷ ends_as (9 ∷ 78 ∷ []) (some_filled 77) (some_report 40)
    ∷ ends_as (10 ∷ 38 ∷ []) (some_filled 78) (some_report 37)
    -- no error; the bytes that are filled stand in `raw_filled`
    ∷ ends_as (0 ∷ 0 ∷ 0 ∷ []) (raw_filled ++ some_filled 1) (some_report 1)
    ∷ []
