-- The report of all rules, in their order (FORMAT 7), and the attributes that the filled image holds (FORMAT 17).
use Rattle.std.specs.Prelude.{cond, List, ◌++◌}
use Rattle.oce_model.specs.Model.{Model}
use Rattle.oce_diag.specs.Diagnostics.{has_error}
use Rattle.oce_diag.specs.declared.Diagnostic.{Diagnostic}
use Rattle.structural.specs.Structural.{rule1, rule2, rule3, rule4}
use Rattle.crossed_bounds.specs.CrossedBounds.{rule5}
use Rattle.unify.specs.Slots.{Slots, slots_of}
use Rattle.unify.specs.Unify.{rule6, filled_slots}

-- What is reported before rule 6, which asks whether it holds an error.
unfoldable pub rules_before6 : Model → List Diagnostic
rules_before6 m = rule1 m ++ rule2 m ++ rule3 m ++ rule4 m ++ rule5 m

-- The report of a model: all rules.
unfoldable pub report : Model → List Diagnostic
report m = let ds = rules_before6 m in ds ++ rule6 m (has_error ds)

-- The slots of the filled image: as rule 6 leaves them; with any error in the report, of any rule, the model's own.
unfoldable pub final_slots : Model → Slots
final_slots m = cond (has_error (report m)) (slots_of m) (filled_slots m)
