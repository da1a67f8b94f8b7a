-- What holds while the fields of an image are passed: those passed are good, and the sections and tables tell of them.
use Rattle.std.specs.Prelude.{ℕ, ◌+◌, ◌≤◌, ◌≡◌, Bool, suc, false, List, [], ◌∷◌, ◌++◌, Some, length, leb, get_or, map}
use mathlib.Core.List.{Memᴰ}
use Rattle.base.specs.Buffers.{starts_with}
use Rattle.oce_model.specs.Format.{highest_tag, most, text_tag, block_tag}
use Rattle.oce_model.specs.Image.{fields, first, of_tag, or_end, ord_of, stop}
use Rattle.oce_model.specs.Refusals.{bad_tag}
use Rattle.oce_model.specs.declared.Field.{Field}
use Rattle.image_framing.specs.Walk.{stop_after}
use Rattle.image_sieve.specs.Faulty.{at_fault}
use Rattle.image_accept.specs.Passing.{none}
use Rattle.image_accept.specs.declared.Section.{Section}

-- ---- fields passed

-- the fields that stand behind n with the tag prev
unfoldable pub Lined : ℕ → ℕ → List Field → Type 0
Lined prev n [] = Unit {0}
Lined prev n (f ∷ l) = (f.prev ≡ prev) × (f.ord ≡ ord_of prev n f.tag) × Lined f.tag (suc f.ord) l

-- how many texts are among some fields
abbrev pub texts : List Field → ℕ
texts l = length (of_tag text_tag l)

-- all of done are passed and good, and rest is left
pub record Passing (s : List ℕ) (done rest : List Field) : Type 0 where
  pub split : fields s ≡ done ++ rest
  pub prev : ℕ
  pub lined : Lined prev (length (of_tag prev done)) rest
  pub rising : (g : Field) → Memᴰ g done → g.tag ≤ prev
  pub few : (t : ℕ) → length (of_tag t done) ≤ most t
  pub tags : (g : Field) → Memᴰ g done → bad_tag g ≡ false
  pub quiet : (g : Field) → Memᴰ g done → at_fault (texts done) s g ≡ false

-- ---- what they tell

-- a field has a tag from t on
abbrev pub reaches : ℕ → Field → Bool
reaches t f = leb t f.tag

-- the section of a tag, as the fields passed tell it
abbrev pub told : List ℕ → List Field → ℕ → Section
told s done t = record { start = or_end (first (reaches t) done) (length s); count = length (of_tag t done) }

-- the sections by their tags, 0 aside, which none has
pub record Told (s : List ℕ) (done rest : List Field) (sections : List Section) : Type 0 where
  pub passing : Passing s done rest
  pub long : length sections ≡ highest_tag + 1
  pub each : (t : ℕ) → 1 ≤ t → t ≤ highest_tag → get_or sections t none ≡ told s done t
  pub reached : (t : ℕ) → 1 ≤ t → t ≤ passing.prev → (x : ℕ) × (first (reaches t) done ≡ Some x)

-- where the fields with a tag stand, of some fields
abbrev pub offsets : ℕ → List Field → List ℕ
offsets t l = map (λ (f : Field). f.at) (of_tag t l)

-- a table begins with the offsets of the fields passed
pub record Listed (t : ℕ) (done : List Field) (table₀ table : List ℕ) : Type 0 where
  pub is : table ≡ starts_with (offsets t done) table₀
  pub long : length table ≡ length table₀

-- ---- the pass

-- rest is left, the last field passed ends at end, and the sections and tables tell of those passed
pub record Surveying (s : List ℕ) (rest : List Field) (end : ℕ) (sections : List Section) (texts₀ texts blocks₀ blocks : List ℕ) : Type 0 where
  pub done : List Field
  pub told : Told s done rest sections
  pub stopping : stop_after end rest ≡ stop s
  pub texts-listed : Listed text_tag done texts₀ texts
  pub blocks-listed : Listed block_tag done blocks₀ blocks

-- the next field has the tag t or a higher one, unless its tag is bad
abbrev pub FromTag : ℕ → List Field → Type 0
FromTag t [] = Unit {0}
FromTag t (f ∷ fs) = bad_tag f ≡ false → t ≤ f.tag

-- the same, where the next field has the tag t or a higher one, and the tables have room, whatever stood in them before
pub record Passed (t : ℕ) (s : List ℕ) (rest : List Field) (end : ℕ) (sections : List Section) (texts blocks : List ℕ) : Type 0 where
  pub texts₀ : List ℕ
  pub blocks₀ : List ℕ
  pub surveying : Surveying s rest end sections texts₀ texts blocks₀ blocks
  pub from : FromTag t rest
  pub text-room : most text_tag ≤ length texts
  pub block-room : most block_tag ≤ length blocks
