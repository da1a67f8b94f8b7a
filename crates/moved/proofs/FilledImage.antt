-- The filled image of every accepted image, with errors or without: it is as long as the image, has its fields and all of its model but attributes, is accepted again,
-- and with an error in the report it is the image.
use Prim.Native.Nat.{ℕ, ◌+◌, ◌<◌}
use mathlib.Core.Path.{◌≡◌, refl, ◌∙◌}
use mathlib.Core.Bool.{Bool, true, false, cond}
use mathlib.Core.List.{List}
use Rattle.std.specs.Prelude.{None}
use lib.ListN.{length}
use Rattle.base.specs.Lists.{steps}
use Rattle.oce_model.specs.Model.{Model, model_of, connector_count}
use Rattle.oce_model.specs.Refusals.{refusal}
use Rattle.oce_diag.specs.Diagnostics.{has_error}
use Rattle.unify.specs.Slots.{slots_of, slot}
use Rattle.unify.specs.Unify.{filled_to, filled_slots}
use Rattle.outcome.specs.Report.{report, final_slots}
use Rattle.outcome.specs.Filled.{with_slots, filled_of}
use Rattle.outcome.specs.Answer.{report_of}
use Rattle.moved.proofs.Bytes.{Bytes}
use Rattle.oce_model.proofs.Accepted.{Accepted, accepted, connectors-length, outputs-length}
use Rattle.unify.proofs.Fixed.{filled_to-fixed, put-room}
use Rattle.moved.proofs.Widths.{AllCaps, image-caps, filled_to-caps, six-numbers}
use Rattle.moved.proofs.WellFormed.{filled-well}
use Rattle.moved.proofs.Regions.{connector_slots, output_slots}
use Rattle.moved.proofs.Refilled.{Rewritten, rewritten}
use Rattle.moved.proofs.AcceptedAgain.{accepts}
use Rattle.moved.proofs.Undone.{undone}

-- ---- the slots after n roots fit into the image

module _ (s : List ℕ) where
  pub slots-caps : Bytes s → (n : ℕ) → AllCaps (filled_to (model_of s) n)
  slots-caps bytes n = filled_to-caps (model_of s) n (image-caps s bytes)

  pub slots-numbers : (n j : ℕ) → j < connector_slots s + output_slots s → length (slot (filled_to (model_of s) n) j).nums ≡ 6
  slots-numbers n j l = filled_to-fixed (λ a. length a.nums) put-room (model_of s) n j ∙ six-numbers s j (rw (connectors-length s, outputs-length s) l)

start : (m : Model) → slots_of m ≡ filled_to m 0
unfolding filled_to steps
start m = refl

-- the final slots are those after no root, with an error, or after all of them
final-is : (m : Model) → (n : ℕ) × (final_slots m ≡ filled_to m n)
unfolding final_slots filled_slots
final-is m = arm (has_error (report m))
  where
    arm : (b : Bool) → (n : ℕ) × (cond b (slots_of m) (filled_to m (connector_count m)) ≡ filled_to m n)
    arm true = (0, start m)
    arm false = (connector_count m, refl)

-- ---- the filled image

filled-rewritten : (s : List ℕ) → Accepted s → Rewritten s (filled_of s) (final_slots (model_of s))
unfolding filled_of
filled-rewritten s acc = rewritten s acc (final_slots (model_of s))

-- it is as long as the image
pub filled-length : (s : List ℕ) → refusal s ≡ None → length (filled_of s) ≡ length s
filled-length s ok = (filled-rewritten s (accepted s ok)).same

-- it is accepted again
pub filled-accepted : (s : List ℕ) → Bytes s → refusal s ≡ None → refusal (filled_of s) ≡ None
unfolding filled_of
filled-accepted s bytes ok =
    let p = final-is (model_of s) in
    rw p.1
    (accepts s (with_slots s (filled_to (model_of s) p.0)) (filled_to (model_of s) p.0) (accepted s ok) (rewritten s (accepted s ok) (filled_to (model_of s) p.0))
    (slots-numbers s p.0) (slots-caps s bytes p.0) (filled-well s (accepted s ok) p.0))

-- with an error in the report it is the image
pub filled-undone : (s : List ℕ) → Bytes s → refusal s ≡ None → has_error (report_of s) ≡ true → filled_of s ≡ s
filled-undone s bytes ok h = undone s bytes (accepted s ok) h
