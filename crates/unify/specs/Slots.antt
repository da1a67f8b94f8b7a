-- The attributes that rule 6 reads and fills: FORMAT 15, 16; Standard 231, §7.10.
use Rattle.std.specs.Prelude.{ℕ, Bool, cond, List, [], ◌∷◌, ◌++◌, map, get_or, eqb}
use Rattle.std.specs.Prelude.{Option, Some, None}
use Rattle.base.specs.Lists.{same}
use Rattle.oce_model.specs.Attributes.{no_attrs, declared_at, declare_at}
use Rattle.oce_model.specs.declared.Attrs.{Attrs}
use Rattle.oce_model.specs.Model.{Connector, BoundaryOutput, Model}
use Rattle.unify.specs.Details.{kind_of, bit_of, is_text}
use Rattle.unify.specs.declared.Detail.{Detail}

-- A slot is the attribute set of a connector or of a boundary output (FORMAT 15). Slots have one numbering: the connectors, and behind them the boundary outputs.
abbrev pub Slots : Type 0
Slots = List Attrs

unfoldable pub slots_of : Model → Slots
slots_of m = map (λ (c : Connector). c.attrs) m.connectors ++ map (λ (o : BoundaryOutput). o.attrs) m.boundary_outputs

unfoldable pub slot : Slots → ℕ → Attrs
slot σ j = get_or σ j no_attrs

-- What an attribute set of the detail's kind declares for it: `read_real`, `read_display_unit` and the reads of `unify_int`.
unfoldable pub value : Detail → Attrs → Option ℕ
value d a = cond (eqb a.kind (kind_of d)) (declared_at a (bit_of d)) None

-- What two declared values must have in common to agree (FORMAT 16): the bytes of a text, where ts are the model's texts; an end's 64 bits, which for Integer ends is by number.
unfoldable pub key : List (List ℕ) → Detail → ℕ → List ℕ
key ts d v = cond (is_text d) (get_or ts v []) (v ∷ [])

-- Two declared values agree: `AttrVal::same`.
unfoldable pub agree : List (List ℕ) → Detail → ℕ → ℕ → Bool
agree ts d u v = same (key ts d u) (key ts d v)

-- An attribute set of the kind that has the detail unset takes the value: `write_real` and the writes of `unify_int`.
abbrev pub put_at : ℕ → ℕ → Attrs → Option ℕ → Attrs
put_at p v a None = declare_at a p v
put_at p v a (Some u) = a

unfoldable pub put : Detail → ℕ → Attrs → Attrs
put d v a = cond (eqb a.kind (kind_of d)) (put_at (bit_of d) v a (declared_at a (bit_of d))) a
