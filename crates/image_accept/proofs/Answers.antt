-- What `accept` answers, and what later readers are given.
use Prim.Native.Nat.{ℕ, ◌≤◌}
use native.Mathlib.Omega.{arith}
use mathlib.Core.Path.{◌≡◌, refl, sym, ap, ◌∙◌}
use mathlib.Core.Bool.{Bool, true, false}
use mathlib.Core.List.{List}
use lib.Dec.{ltb}
use lib.ListN.{length}
use Rattle.std.specs.Prelude.{Option, None, Some, Result, Ok, Err}
use Rattle.std.specs.Result.{result_ok}
use borrow.Author.Tests.{ltb-false}
use Rattle.base.proofs.Lists.{or_parts}
use Rattle.base.proofs.Options.{some-ne-none}
use Rattle.oce_model.specs.Format.{shortest_image, longest_image}
use Rattle.oce_model.specs.Refusals.{bad_size, refusal}
use Rattle.oce_model.specs.declared.Refusal.{Refusal}
use Rattle.image_accept.specs.Layout.{Laid, Tabled, TabledIfAccepted, acceptance, accepts, refused}
use Rattle.image_accept.specs.declared.Layout.{Layout}

-- ---- an image at fault

module _ (s : List ℕ) {b : Bool} (e : b ≡ bad_size s) where
  sized : b ≡ true → refusal s ≡ Some (record { number = 1; offset = 0 })
  unfolding refusal
  sized h = rw (sym e ∙ h) refl

  pub answer-sized : b ≡ true → Err (record { number = 1; offset = 0 }) ≡ acceptance s
  unfolding acceptance
  answer-sized h = sym (ap (accepts s) (sized h))

  pub table-sized : (t : ℕ) (table : List ℕ) → b ≡ true → TabledIfAccepted t s table
  table-sized t table h = record { listed = λ q. absurd (some-ne-none _ (sym (sized h) ∙ q)) }

  pub good-size : b ≡ false → (shortest_image ≤ length s) × (length s ≤ longest_image)
  good-size h =
      let p = or_parts (ltb (length s) shortest_image) _ (sym e ∙ h) in
      (ltb-false (length s) shortest_image p.0, ltb-false longest_image (length s) p.1)

-- the refusal that was found is the answer
pub record Refused (s : List ℕ) (r : Result (Unit {0}) Refusal) : Type 0 where
  pub why : Refusal
  pub is : r ≡ Err why
  pub answer : Err why ≡ acceptance s

pub is-refused : (s : List ℕ) {r : Result (Unit {0}) Refusal} → None ≡ result_ok (acceptance s) → r ≡ refused (refusal s) → Refused s r
unfolding acceptance
is-refused s {r} h e = arm (refusal s) refl
  where
    arm : (o : Option Refusal) → refusal s ≡ o → Refused s r
    arm None q = let z = rw q at h in absurd (no z)
      where
        no : {l : Layout} → ◌≡◌ {A = Option Layout} None (Some l) → ⊥
        no p = let z : ◌≡◌ {A = ℕ} 0 1 = cc in omega arith
    arm (Some x) q = record { why = x; is = e ∙ ap refused q; answer = sym (ap (accepts s) q) }

pub same-error : {x y : Refusal} → ◌≡◌ {A = Result (Unit {0}) Refusal} (Err x) (Err y) → ◌≡◌ {A = Result Layout Refusal} (Err x) (Err y)
same-error e = cc

-- ---- what later readers are given

laid_of : (s : List ℕ) (o : Option Refusal) (l : Layout) → refusal s ≡ o → Ok l ≡ accepts s o → Laid s l
laid_of s None l e h = record { accepted = e; layout = cc }
laid_of s (Some r) l e h = let z : ◌≡◌ {A = ℕ} 0 1 = cc in absurd (omega arith)

module _ {s : List ℕ} {a : Result Layout Refusal} {l : Layout} (e : a ≡ acceptance s) (h : a ≡ Ok l) where
  pub accepted-laid : Laid s l
  unfolding acceptance
  accepted-laid = laid_of s (refusal s) l refl (sym h ∙ e)

  pub accepted-tabled : {t : ℕ} {table : List ℕ} → TabledIfAccepted t s table → Tabled t s table
  accepted-tabled v = v.listed accepted-laid.accepted
