-- Rule 6 over a whole model without errors: all members of a cluster end with one key for each detail.
use Prim.Native.Nat.{ℕ, suc, ◌+◌, ◌<◌}
use native.Mathlib.Omega.{arith}
use mathlib.Core.Path.{◌≡◌, refl, sym, ap, ◌∙◌}
use mathlib.Core.Bool.{Bool, true, false, not, ◌||◌, false≢true}
use mathlib.Core.List.{List, [], ◌∷◌, Memᴰ}
use Rattle.std.specs.Prelude.{Option}
use Rattle.base.proofs.Options.{map}
use lib.ListN.{length}
use lib.Dec.{eqb}
use borrow.Author.Tests.{eqb-true, eqb-false, not-true}
use Rattle.base.specs.Lists.{any}
use Rattle.base.proofs.Lists.{and_parts, or_parts}
use Rattle.oce_model.specs.declared.Attrs.{Attrs}
use Rattle.oce_model.specs.Model.{Model, boundary_output_count, connector, connector_count}
use Rattle.oce_diag.specs.Diagnostics.{has_error, subject_of}
use Rattle.unify.specs.Details.{detail_number, kind_of, unified_details}
use Rattle.unify.specs.Clusters.{driven, is_root}
use Rattle.unify.specs.Slots.{Slots, key, slot, slots_of, value}
use Rattle.unify.specs.Unify.{conflict, conflict_code, declarations, details_faults, fill, fill_details, fill_faults, fill_root, filled_slots, filled_to}
use Rattle.unify.specs.declared.Detail.{Detail}
use Rattle.unify.proofs.Details.{among, distinct, number_same, place_same, unified-distinct}
use Rattle.unify.proofs.Fixed.{fill-fixed, filled_to-fixed, put-kind, put-room}
use Rattle.unify.proofs.Declared.{value-put}
use Rattle.unify.proofs.Local.{between, fill-length, filled_to-length, filled_to-suc}
use Rattle.unify.proofs.Slots.{slots_length}
use Rattle.moved.proofs.NoError.{clean-append, clean-only}
use Rattle.moved.proofs.Clusters.{apart}
use Rattle.moved.proofs.OneDetail.{Open, Roomy, fill-key}
use Rattle.moved.proofs.Stars.{Quiet, Stars}

-- ---- one cluster

-- what a detail that isn't among ds has, ds keep
later-details : (ts : List (List ℕ)) (js : List ℕ) (d : Detail) (ds : List Detail) → among d ds ≡ false → (σ : Slots) (i : ℕ) → value d (slot (fill_details ts js ds σ) i) ≡ value d (slot σ i)
unfolding fill_details among any
later-details ts js d [] n σ i = refl
later-details ts js d (e ∷ ds) n σ i =
    let p = or_parts (eqb (detail_number d) (detail_number e)) (among d ds) n in
    later-details ts js d ds p.1 (fill ts js e σ) i
    ∙ fill-fixed (value d) e (λ v. value-put d e v (λ k b. eqb-false (detail_number d) (detail_number e) p.0 (place_same d e k b))) ts js σ i

module _ (m : Model) (r : ℕ) (js : List ℕ) (i j : ℕ) (mi : Memᴰ i js) (mj : Memᴰ j js) where
  -- after detail e, and others that leave it
  head-key : (e : Detail) (ds : List Detail) → among e ds ≡ false → (σ : Slots) → conflict m.texts e (declarations e σ js) ≡ false → Roomy σ → Open e σ i → Open e σ j
      → map (key m.texts e) (value e (slot (fill_details m.texts js ds (fill m.texts js e σ)) i))
      ≡ map (key m.texts e) (value e (slot (fill_details m.texts js ds (fill m.texts js e σ)) j))
  head-key e ds n σ c ρ o p =
      let ts = m.texts in
      let τ = fill m.texts js e σ in
      ap (map (key ts e)) (later-details ts js e ds n τ i) ∙ fill-key ts e js σ c i mi ρ o
      ∙ sym (ap (map (key ts e)) (later-details ts js e ds n τ j) ∙ fill-key ts e js σ c j mj ρ p)

  -- two members of its kind have one key for each detail of a list that reports no error
  cluster-key : (d : Detail) (ds : List Detail) → among d ds ≡ true → distinct ds ≡ true → (σ : Slots) → has_error (details_faults m r js ds σ) ≡ false → Roomy σ → Open d σ i → Open d σ j
      → map (key m.texts d) (value d (slot (fill_details m.texts js ds σ) i)) ≡ map (key m.texts d) (value d (slot (fill_details m.texts js ds σ) j))
  unfolding fill_details details_faults fill_faults among any distinct
  cluster-key d [] a u σ h ρ o p = absurd (false≢true a)
  cluster-key d (e ∷ ds) a u σ h ρ o p = arm (eqb (detail_number d) (detail_number e)) refl a (cluster-key d ds)
    where
      parts : (not (among e ds) ≡ true) × (distinct ds ≡ true)
      parts = and_parts (not (among e ds)) (distinct ds) u

      clean : (has_error (fill_faults m r js e σ) ≡ false) × (has_error (details_faults m r js ds (fill m.texts js e σ)) ≡ false)
      clean = clean-append (fill_faults m r js e σ) (details_faults m r js ds (fill m.texts js e σ)) h

      agreed : conflict m.texts e (declarations e σ js) ≡ false
      agreed = clean-only _ (conflict_code e) 6 (detail_number e) (subject_of (connector m r)) r clean.0

      room : Roomy (fill m.texts js e σ)
      room = record { at = λ k l. rw (fill-fixed (λ a. length a.nums) e (put-room e) m.texts js σ k) (ρ.at k (rw (fill-length m.texts js e σ) at l)) }

      open_at : (k : ℕ) → Open d σ k → Open d (fill m.texts js e σ) k
      open_at k q = record { inside = rw (fill-length m.texts js e σ) q.inside; kind = fill-fixed (λ a. a.kind) e (put-kind e) m.texts js σ k ∙ q.kind }

      arm : (b : Bool) → eqb (detail_number d) (detail_number e) ≡ b → (b || among d ds) ≡ true
          → (among d ds ≡ true → distinct ds ≡ true → (σ : Slots) → has_error (details_faults m r js ds σ) ≡ false → Roomy σ → Open d σ i → Open d σ j
          → map (key m.texts d) (value d (slot (fill_details m.texts js ds σ) i)) ≡ map (key m.texts d) (value d (slot (fill_details m.texts js ds σ) j)))
          → map (key m.texts d) (value d (slot (fill_details m.texts js ds (fill m.texts js e σ)) i))
          ≡ map (key m.texts d) (value d (slot (fill_details m.texts js ds (fill m.texts js e σ)) j))
      arm true q g ih =
          let z : d ≡ e = number_same d e (eqb-true _ _ q) in
          rw z (head-key e ds (not-true _ parts.0) σ agreed ρ (rw z at o) (rw z at p))
      arm false q g ih = ih g parts.1 (fill m.texts js e σ) clean.1 room (open_at i o) (open_at j p)

-- ---- all of them

module _ (m : Model) (stars : Stars m) (quiet : Quiet m) (room : Roomy (slots_of m)) where
  roomy : (n : ℕ) → Roomy (filled_to m n)
  roomy n = record { at = λ i l. rw (filled_to-fixed (λ a. length a.nums) put-room m n i) (room.at i (rw (filled_to-length m n ∙ sym (slots_length m)) at l)) }

  -- what root r leaves in its cluster stays
  after-root : (r : ℕ) → r < connector_count m → is_root m r ≡ true → (j : ℕ) → Memᴰ j (r ∷ driven m r)
      → slot (filled_slots m) j ≡ slot (fill_details m.texts (r ∷ driven m r) unified_details (filled_to m r)) j
  unfolding fill_root filled_slots
  after-root r l e j mem =
      between m (suc r) (connector_count m) j l (λ q a b f g. let s : r ≡ q = apart m stars r q j e f mem g in omega arith)
      ∙ ap (λ σ. slot σ j) (filled_to-suc m r ∙ rw e)

  -- any two members of a kind have one key for each of the kind's details
  pub one_key : (r : ℕ) → r < connector_count m → is_root m r ≡ true → (d : Detail) → among d unified_details ≡ true → (i j : ℕ) → Memᴰ i (r ∷ driven m r) → Memᴰ j (r ∷ driven m r)
      → i < connector_count m + boundary_output_count m → j < connector_count m + boundary_output_count m → (slot (slots_of m) i).kind ≡ kind_of d → (slot (slots_of m) j).kind ≡ kind_of d
      → map (key m.texts d) (value d (slot (filled_slots m) i)) ≡ map (key m.texts d) (value d (slot (filled_slots m) j))
  one_key r l e d k i j a b p q s t =
      let js = r ∷ driven m r in
      let has : Attrs → Option (List ℕ) = λ x. map (key m.texts d) (value d x) in
      ap has (after-root r l e i a) ∙ cluster-key m r js i j a b d unified_details k unified-distinct (filled_to m r) (quiet.agreed r l e) (roomy r) (open_at i p s) (open_at j q t)
      ∙ sym (ap has (after-root r l e j b))
    where
      open_at : (k : ℕ) → k < connector_count m + boundary_output_count m → (slot (slots_of m) k).kind ≡ kind_of d → Open d (filled_to m r) k
      open_at k l h = record { inside = rw (filled_to-length m r) l; kind = filled_to-fixed (λ a. a.kind) put-kind m r k ∙ h }
