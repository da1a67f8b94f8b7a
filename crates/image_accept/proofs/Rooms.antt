-- An accepted image has of no tag more records than the format allows, so that the tables have room for their offsets.
use Prim.Native.Nat.{ℕ, ◌≤◌}
use native.Mathlib.Omega.{arith}
use mathlib.Core.Path.{◌≡◌}
use mathlib.Core.List.{List, []}
use lib.ListN.{length, length-map}
use Rattle.std.specs.Prelude.{None}
use Rattle.oce_model.specs.Format.{most}
use Rattle.oce_model.specs.Image.{fields, of_tag}
use Rattle.oce_model.specs.Refusals.{refusal}
use Rattle.oce_model.specs.declared.Field.{Field}
use Rattle.oce_model.proofs.Accepted.{accepted}
use Rattle.image_accept.specs.Layout.{offsets_of}
use Rattle.image_accept.proofs.Passes.{pass-few, passing-start}

pub accepted-room : (t : ℕ) (s : List ℕ) {n : ℕ} → refusal s ≡ None → most t ≤ n → length (offsets_of t s) ≤ n
unfolding offsets_of
accepted-room t s h l = omega (arith, length-map (of_tag t (fields s)) (λ (f : Field). f.at), pass-few (accepted s h) (fields s) [] (passing-start s) t)
