-- What passing a field notes: where sections begin, how many records they have, and a table's entry.
use Rattle.std.specs.Prelude.{ℕ, ◌+◌, ◌<◌, ◌≡◌, ◌&&◌, cond, List, eqb, leb, ltb, length, get_or, set}
use Rattle.oce_model.specs.declared.Field.{Field}
use Rattle.image_accept.specs.declared.Section.{Section}

-- no section
abbrev pub none : Section
none = record { start = 0; count = 0 }

-- the section x of a tag t when a field is passed: it begins there, if t lies above the tag before and not above the field's, and has the field, if its tag is t
abbrev pub noted : Field → ℕ → Section → Section
noted f t x = record { start = cond (ltb f.prev t && leb t f.tag) f.at x.start; count = cond (eqb t f.tag) (f.ord + 1) x.count }

-- the sections by their tags, before a field and behind it
pub record Begun (f : Field) (sections later : List Section) : Type 0 where
  pub long : length later ≡ length sections
  pub each : (t : ℕ) → t < length sections → get_or later t none ≡ noted f t (get_or sections t none)

-- the table of a tag's offsets behind a field
abbrev pub listed : ℕ → Field → List ℕ → List ℕ
listed t f table = cond (eqb f.tag t) (set table f.ord f.at) table
