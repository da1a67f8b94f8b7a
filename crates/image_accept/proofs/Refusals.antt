-- Refusals one after the other: what is found is what the definitions name.
use Prim.Native.Nat.{ℕ, suc, ◌^◌, ◌<◌, ◌≤◌}
use native.Mathlib.Omega.{arith}
use mathlib.Core.Path.{◌≡◌, refl, sym, ap, ◌∙◌}
use mathlib.Core.Bool.{Bool, true, false, cond}
use mathlib.Core.List.{List}
use lib.Dec.{ltb}
use lib.ListN.{length}
use borrow.Author.Tests.{le-ltb, ltb-true}
use Rattle.std.specs.Prelude.{Option, None, Some, Result, Ok, Err, IfSome}
use Rattle.oce_model.specs.Format.{text_tag, shortest_image, longest_image}
use Rattle.oce_model.specs.Image.{fields, first, of_tag, stop}
use Rattle.oce_model.specs.Refusals.{bad_tag, fault, refusal, refusals_from, refused_at}
use Rattle.oce_model.specs.declared.Field.{Field}
use Rattle.oce_model.specs.declared.Refusal.{Refusal}
use Rattle.oce_model.proofs.Places.{Chain, end, and, end_at, chain}
use Rattle.image_framing.specs.Walk.{framed}
use Rattle.image_accept.specs.Layout.{refused, refused_by}

-- ---- a field that is found lies before the end, and so its offset has room in four bytes

pub small : (n : ℕ) (o : Option ℕ) → n ≤ longest_image → IfSome o (λ at. at < n) → IfSome o (λ at. at < 2 ^ 32)
small n None l h = tt
small n (Some at) l h = omega arith

found_in : (p : Field → Bool) (e at : ℕ) (l : List Field) → Chain e at l → IfSome (first p l) (λ x. x < e)
unfolding first
found_in p e at l (end) = tt
found_in p e at l (and {f = f} {l = r} a b c) = arm (p f) (found_in p e (end_at f) r c)
  where
    arm : (t : Bool) → IfSome (first p r) (λ x. x < e) → IfSome (cond t (Some f.at) (first p r)) (λ x. x < e)
    arm true ih = omega arith
    arm false ih = ih

-- ---- refusals 1 to 3

module _ (s : List ℕ) (g : (shortest_image ≤ length s) × (length s ≤ longest_image)) where
  pub cut : {at : ℕ} → Err at ≡ framed s → (at < length s) × (refusal s ≡ Some (record { number = 2; offset = at }))
  unfolding framed refusal
  cut {at} e = arm (ltb (stop s) (length s)) refl e
    where
      arm : (b : Bool) → ltb (stop s) (length s) ≡ b → Err at ≡ cond b (Err (stop s)) (Ok (first bad_tag (fields s)))
          → (at < length s) × (refusal s ≡ Some (record { number = 2; offset = at }))
      arm true h q =
          let t : at ≡ stop s = cc in
          let m = ltb-true (stop s) (length s) h in
          (omega arith, rw (le-ltb (length s) shortest_image g.0, le-ltb longest_image (length s) g.1, h, t) refl)
      arm false h q = let z : ◌≡◌ {A = ℕ} 0 1 = cc in absurd (omega arith)

  pub whole : {bad : Option ℕ} → Ok bad ≡ framed s → (bad ≡ first bad_tag (fields s)) × (refusal s ≡ refused_at 3 bad (refusals_from 5 4 s (fields s)))
  unfolding framed refusal refusals_from fault
  whole {bad} e = arm (ltb (stop s) (length s)) refl e
    where
      arm : (b : Bool) → ltb (stop s) (length s) ≡ b → Ok bad ≡ cond b (Err (stop s)) (Ok (first bad_tag (fields s)))
          → (bad ≡ first bad_tag (fields s)) × (refusal s ≡ refused_at 3 bad (refusals_from 5 4 s (fields s)))
      arm true h q = let z : ◌≡◌ {A = ℕ} 0 1 = cc in absurd (omega arith)
      arm false h q =
          let t : bad ≡ first bad_tag (fields s) = cc in
          (t, rw (le-ltb (length s) shortest_image g.0, le-ltb longest_image (length s) g.1, h, t) refl)

  pub bad-small : {bad : Option ℕ} → Ok bad ≡ framed s → IfSome bad (λ at. at < 2 ^ 32)
  bad-small e = let w = whole e in small (length s) _ g.1 (rw w.0 (found_in bad_tag (length s) 0 (fields s) (chain s)))

  pub whole-bad : {bad : Option ℕ} {r a : Result (Unit {0}) Refusal} {x y : Refusal} → Ok bad ≡ framed s → r ≡ refused_by 3 bad → r ≡ Err x → a ≡ Err y → y ≡ x → a ≡ refused (refusal s)
  whole-bad {bad} {r} {a} {x} {y} e q h b d = b ∙ arm bad (sym q ∙ h) ∙ sym (ap refused (whole e).1)
    where
      arm : (o : Option ℕ) → refused_by 3 o ≡ Err x → Err y ≡ refused (refused_at 3 o (refusals_from 5 4 s (fields s)))
      arm None k = let z : ◌≡◌ {A = ℕ} 0 1 = cc in absurd (omega arith)
      arm (Some at) k = ap Err d ∙ sym k

  pub whole-good : {bad : Option ℕ} {r : Result (Unit {0}) Refusal} {u : Unit {0}} → Ok bad ≡ framed s → r ≡ refused_by 3 bad → r ≡ Ok u → refused (refusals_from 5 4 s (fields s)) ≡ refused (refusal s)
  whole-good {bad} {r} {u} e q h = arm bad (sym q ∙ h) ∙ sym (ap refused (whole e).1)
    where
      arm : (o : Option ℕ) → refused_by 3 o ≡ Ok u → refused (refusals_from 5 4 s (fields s)) ≡ refused (refused_at 3 o (refusals_from 5 4 s (fields s)))
      arm None k = refl
      arm (Some at) k = let z : ◌≡◌ {A = ℕ} 0 1 = cc in absurd (omega arith)

-- ---- refusals 4 to 8

-- those below k don't apply, and from k on there are j
pub record Refusing (s : List ℕ) (k j : ℕ) : Type 0 where
  pub same : refusals_from 5 4 s (fields s) ≡ refusals_from j k s (fields s)

pub refusing-start : (s : List ℕ) → Refusing s 4 5
refusing-start s = record { same = refl }

module _ {s : List ℕ} {k j n : ℕ} {r : Result (Unit {0}) Refusal} (v : Refusing s k (suc j)) (N : n ≡ length (of_tag text_tag (fields s))) (e : r ≡ refused_by k (first (fault k n s) (fields s))) where
  step : (o : Option ℕ) → first (fault k n s) (fields s) ≡ o → refusals_from 5 4 s (fields s) ≡ refused_at k o (refusals_from j (suc k) s (fields s))
  unfolding refusals_from
  step o h = v.same ∙ rw (← N, h) refl

  pub refusing-next : {u : Unit {0}} → r ≡ Ok u → Refusing s (suc k) j
  refusing-next h = arm (first (fault k n s) (fields s)) refl (sym e ∙ h)
    where
      arm : (o : Option ℕ) → first (fault k n s) (fields s) ≡ o → refused_by k o ≡ Ok tt → Refusing s (suc k) j
      arm None g q = record { same = step None g }
      arm (Some at) g q = let z : ◌≡◌ {A = ℕ} 0 1 = cc in absurd (omega arith)

  pub refusing-found : {x y : Refusal} {a : Result (Unit {0}) Refusal} → r ≡ Err x → a ≡ Err y → y ≡ x → a ≡ refused (refusals_from 5 4 s (fields s))
  refusing-found {x} {y} {a} h b d = b ∙ arm (first (fault k n s) (fields s)) refl (sym e ∙ h)
    where
      arm : (o : Option ℕ) → first (fault k n s) (fields s) ≡ o → refused_by k o ≡ Err x → Err y ≡ refused (refusals_from 5 4 s (fields s))
      arm None g q = let z : ◌≡◌ {A = ℕ} 0 1 = cc in absurd (omega arith)
      arm (Some at) g q = ap Err d ∙ sym q ∙ sym (ap refused (step (Some at) g))

pub refusing-last : {s : List ℕ} {n : ℕ} {r : Result (Unit {0}) Refusal} → Refusing s 8 1 → n ≡ length (of_tag text_tag (fields s)) → r ≡ refused_by 8 (first (fault 8 n s) (fields s)) → r ≡ refused (refusals_from 5 4 s (fields s))
unfolding refusals_from
refusing-last {s} {n} v N e = e ∙ arm (first (fault 8 n s) (fields s)) refl
  where
    arm : (o : Option ℕ) → first (fault 8 n s) (fields s) ≡ o → refused_by 8 o ≡ refused (refusals_from 5 4 s (fields s))
    arm None g = sym (ap refused (step v N e None g))
    arm (Some at) g = sym (ap refused (step v N e (Some at) g))
