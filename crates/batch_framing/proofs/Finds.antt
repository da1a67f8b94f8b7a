-- Laws of the search for the first field at fault, and what it says of a batch that none is found.
use Prim.Native.Nat.{ℕ, ◌≤◌}
use native.Mathlib.Omega.{arith}
use mathlib.Core.Path.{◌≡◌, refl, sym, ◌∙◌}
use mathlib.Core.Bool.{Bool, true, false, cond}
use mathlib.Core.List.{List}
use lib.Dec.{ltb}
use lib.ListN.{length}
use borrow.Author.Tests.{le-ltb}
use Rattle.std.specs.Prelude.{Option, None, Some}
use Rattle.std.specs.Bool.{then_some}
use Rattle.oce_model.specs.Image.{fields, stop, first}
use Rattle.oce_model.proofs.Accepted.{stops}
use Rattle.batch.specs.Fields.{bad_field, or_else, first_fault}
use Rattle.batch_framing.specs.Clean.{Clean}

-- ---- the search

module _ (s : List ℕ) where
  pub fault-bad : {at : ℕ} → Some at ≡ first bad_field (fields s) → Some at ≡ first_fault s
  unfolding first_fault
  fault-bad {at} h = sym (rw (sym h) refl)

  pub fault-end : first bad_field (fields s) ≡ None → {end : ℕ} → stop s ≡ end → then_some (ltb end (length s)) end ≡ first_fault s
  unfolding first_fault
  fault-end h {end} e = rw (h, e) (arm (ltb end (length s)))
    where
      arm : (b : Bool) → then_some b end ≡ cond b (Some end) None
      arm true = refl
      arm false = refl

-- ---- what was found

module _ (s : List ℕ) {r : Option ℕ} (e : r ≡ first_fault s) where
  pub found-fault : {at : ℕ} → r ≡ Some at → first_fault s ≡ Some at
  found-fault {at} h = sym e ∙ h

  pub found-clean : r ≡ None → Clean s
  unfolding first_fault
  found-clean h = arm (first bad_field (fields s)) (ltb (stop s) (length s)) refl refl (sym e ∙ h)
    where
      arm : (o : Option ℕ) (b : Bool) → first bad_field (fields s) ≡ o → ltb (stop s) (length s) ≡ b → or_else o (cond b (Some (stop s)) None) ≡ None → Clean s
      arm None false p q m = record { ends = stops s q; good = p }
      arm None true p q m = let z : ◌≡◌ {A = ℕ} 0 1 = cc in absurd (omega arith)
      arm (Some x) b p q m = let z : ◌≡◌ {A = ℕ} 0 1 = cc in absurd (omega arith)

pub clean-none : {s : List ℕ} → Clean s → first_fault s ≡ None
unfolding first_fault
clean-none {s} v = let l : length s ≤ length s = omega arith in rw (v.good, v.ends, le-ltb (length s) (length s) l)
