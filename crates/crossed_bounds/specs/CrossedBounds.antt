-- Rule 5, crossed ranges, `check_crossed_bounds`. FORMAT 14.
use Rattle.std.specs.Prelude.{ℕ, ◌+◌, ◌-◌, Bool, cond, not, ◌&&◌, List, [], ◌∷◌, ◌++◌, map, length, eqb, ltb}
use Rattle.base.specs.Lists.{each, tab, any, only}
use Rattle.oce_model.specs.Format.{no_text}
use Rattle.oce_model.specs.declared.Attrs.{Attrs}
use Rattle.oce_model.specs.Model.{Connector, Model, text, connector, boundary_input, boundary_output, connector_count, boundary_input_count, boundary_output_count, is_connector, is_in}
use Rattle.oce_diag.specs.Diagnostics.{subject_of, error}
use Rattle.oce_diag.specs.declared.Diagnostic.{Diagnostic}
use Rattle.oce_diag.specs.declared.Subject.{Subject}
use Rattle.oce_diag.specs.declared.Subject.TheVariants.{Text}
use Rattle.oce_diag.specs.declared.DiagCode.TheVariants.{CrossedBounds}
use Rattle.structural.specs.Degrees.{external}
use Rattle.crossed_bounds.specs.Ranges.{range_of, crossed, combined}
use Rattle.crossed_bounds.specs.Groups.{Group, members, enter_all, extend_all}
use Rattle.crossed_bounds.specs.Ends.{Range}

-- ---- 5.1 to 5.3, `report`

-- the range of record i, with these attributes, is crossed
unfoldable pub crossed_faults : Model → ℕ → Subject → ℕ → Attrs → List Diagnostic
crossed_faults m detail s i a = only (crossed (range_of m.defaults a)) (error CrossedBounds 5 detail s i)

-- 5.1: a connector's range
unfoldable pub connector_crossed : Model → ℕ → List Diagnostic
connector_crossed m i = crossed_faults m 1 (subject_of (connector m i)) i (connector m i).attrs

-- 5.2: a boundary input's
unfoldable pub input_crossed : Model → ℕ → List Diagnostic
input_crossed m i = crossed_faults m 2 (Text (boundary_input m i).iri) i (boundary_input m i).attrs

-- 5.3: a boundary output's
unfoldable pub output_crossed : Model → ℕ → List Diagnostic
output_crossed m i = crossed_faults m 3 (Text (boundary_output m i).iri) i (boundary_output m i).attrs

-- ---- 5.4, combined ranges, `check_combined_input_domains`. Its members have one numbering: the connectors, and behind them the boundary inputs

-- the text number of a member's iri
unfoldable pub member_iri : Model → ℕ → ℕ
member_iri m x = cond (is_connector m x) (connector m x).iri (boundary_input m (x - connector_count m)).iri

-- a member's attributes
unfoldable pub member_attrs : Model → ℕ → Attrs
member_attrs m x = cond (is_connector m x) (connector m x).attrs (boundary_input m (x - connector_count m)).attrs

-- the member is a connector whose id is external
unfoldable pub member_external : Model → ℕ → Bool
member_external m x = is_connector m x && external m (connector m x).id

-- what members are grouped by: the bytes of the iri
unfoldable pub member_key : Model → ℕ → List ℕ
member_key m x = text m (member_iri m x)

-- the connector is an In with an iri
unfoldable pub joins : Connector → Bool
joins c = is_in c && not (eqb c.iri no_text)

-- the In connectors that have an iri
abbrev pub connector_members : Model → List ℕ
connector_members m = each (connector_count m) (λ i. only (joins (connector m i)) i)

-- the boundary inputs
abbrev pub input_members : Model → List ℕ
input_members m = tab (boundary_input_count m) (λ i. connector_count m + i)

-- the connectors are grouped by the bytes of their iri, and a boundary input joins the group with its iri, if there is one
unfoldable pub groups : Model → List Group
groups m = extend_all (member_key m) (enter_all (member_key m) [] (connector_members m)) (input_members m)

-- the ranges of a group's members
unfoldable pub member_ranges : Model → Group → List Range
member_ranges m g = map (λ x. range_of m.defaults (member_attrs m x)) (members g)

-- the id of a member connector is external, and there are two or more members
abbrev pub shared : Model → Group → Bool
shared m g = any (member_external m) (members g) && ltb 1 (length (members g))

-- A group that is shared is reported if the combined range of its members is crossed: exactly then all have an uncrossed range and of one kind, and no value lies inside
-- all of these ranges (proofs/Exactly.antt). The place is the number of members, the subject the iri text of the first.
unfoldable pub group_faults : Model → Group → List Diagnostic
group_faults m g =
    only (shared m g && crossed (combined (member_ranges m g)))
    (error CrossedBounds 5 4 (Text (member_iri m g.first)) (length (members g)))

-- every group in turn
unfoldable pub groups_faults : Model → List Group → List Diagnostic
groups_faults m [] = []
groups_faults m (g ∷ gs) = group_faults m g ++ groups_faults m gs

-- connectors, boundary inputs, boundary outputs, then groups
unfoldable pub rule5 : Model → List Diagnostic
rule5 m =
    each (connector_count m) (connector_crossed m) ++ each (boundary_input_count m) (input_crossed m) ++ each (boundary_output_count m) (output_crossed m)
    ++ groups_faults m (groups m)
