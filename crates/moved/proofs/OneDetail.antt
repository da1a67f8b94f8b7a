-- Rule 6, one detail of one cluster: where nothing conflicts, its members come out with one key.
use Prim.Native.Nat.{ℕ, ◌≤◌, ◌<◌}
use native.Mathlib.Omega.{arith}
use mathlib.Core.Path.{◌≡◌, refl, sym, ap, ◌∙◌}
use mathlib.Core.Logic.{◌⊎◌, inl, inr}
use mathlib.Core.Bool.{Bool, true, false, cond}
use mathlib.Core.List.Memᴰ
use mathlib.Core.List.{List, [], ◌∷◌, Memᴰ}
use Rattle.std.specs.Prelude.{Option, Some, None}
use Rattle.base.proofs.Options.{get_or, map, none-ne-some}
use lib.ListN.{length, set, length-set}
use lib.Seq.{get_or-set_same, lt-length-set}
use lib.Dec.{eqb}
use borrow.Author.Tests.{eq-eqb, not-false}
use Rattle.base.specs.Lists.{all}
use Rattle.oce_model.specs.Attributes.{declare_at, declared_at, no_attrs}
use Rattle.oce_model.specs.declared.Attrs.{Attrs}
use Rattle.unify.specs.Details.{bit_of, kind_of}
use Rattle.unify.specs.Slots.{Slots, agree, key, put, put_at, slot, value}
use Rattle.unify.specs.Unify.{conflict, cons?, declarations, fill, put_members, settle}
use Rattle.unify.specs.declared.Detail.{Detail}
use Rattle.unify.proofs.Details.{bit_of-lt}
use Rattle.moved.specs.Moved.{Kept}
use Rattle.base.proofs.Lists.{same-sound}
use Rattle.base.proofs.Members.{all-mem}
use Rattle.unify.proofs.Fixed.{set-fixed, put-kind, put-room}
use Rattle.unify.proofs.Declared.{declare_at-kind, declare_at-same}
use Rattle.moved.proofs.Kept.{put_members-later}

slot-set : (σ : Slots) (j : ℕ) (x : Attrs) → j < length σ → slot (set σ j x) j ≡ x
unfolding slot
slot-set σ j x l = get_or-set_same σ j x no_attrs l

-- every slot has its six numbers
pub record Roomy (σ : Slots) : Type 0 where
  pub at : (i : ℕ) → i < length σ → 6 ≤ length (slot σ i).nums

-- slot j can have the detail d
pub record Open (d : Detail) (σ : Slots) (j : ℕ) : Type 0 where
  pub inside : j < length σ
  pub kind : (slot σ j).kind ≡ kind_of d

-- put leaves what a member would have: its own value, or v
module _ (d : Detail) (v : ℕ) where
  own : Attrs → ℕ
  own a = get_or (value d a) v

  own_put : (a : Attrs) → 6 ≤ length a.nums → own (put d v a) ≡ own a
  unfolding own put value declared_at
  own_put a l = arm (eqb a.kind (kind_of d)) refl (declared_at a (bit_of d)) refl
    where
      p : ℕ
      p = bit_of d

      arm : (b : Bool) → eqb a.kind (kind_of d) ≡ b → (o : Option ℕ) → declared_at a p ≡ o
          → get_or (value d (cond b (put_at p v a o) a)) v ≡ get_or (cond b o None) v
      arm false e o h = rw e
      arm true e (Some u) h = rw (e, h)
      arm true e None h = rw (declare_at-kind a p v, e, declare_at-same a p v h (omega (arith, bit_of-lt d)))

  roomy-set : (σ : Slots) → Roomy σ → (j : ℕ) → Roomy (set σ j (put d v (slot σ j)))
  roomy-set σ ρ j = record { at = λ i l. rw (set-fixed (λ a. length a.nums) σ j i (put d v (slot σ j)) (λ k. put-room d v (slot σ j))) (ρ.at i (rw length-set at l)) }

  own-put_members : (js : List ℕ) (σ : Slots) → Roomy σ → (i : ℕ) → get_or (value d (slot (put_members d v js σ) i)) v ≡ get_or (value d (slot σ i)) v
  unfolding own put_members
  own-put_members [] σ ρ i = refl
  own-put_members (j ∷ js) σ ρ i =
      own-put_members js (set σ j (put d v (slot σ j))) (roomy-set σ ρ j) i ∙ set-fixed own σ j i (put d v (slot σ j)) (λ l. own_put (slot σ j) (ρ.at j l))

  -- a value that is set stays
  set-stays : {a b : Attrs} → Kept a b → (u : ℕ) → value d a ≡ Some u → value d b ≡ Some u
  unfolding value declared_at
  set-stays {a} {b} k u h = rw k.kind (arm (eqb a.kind (kind_of d)) h)
    where
      arm : (t : Bool) → cond t (declared_at a (bit_of d)) None ≡ Some u → cond t (declared_at b (bit_of d)) None ≡ Some u
      arm true h = k.vals (bit_of d) u h
      arm false h = absurd (none-ne-some u h)

  -- such a member has the detail afterwards

  put_some : (a : Attrs) → a.kind ≡ kind_of d → 6 ≤ length a.nums → (u : ℕ) × (value d (put d v a) ≡ Some u)
  unfolding value put declare_at
  put_some a e l = rw (eq-eqb a.kind (kind_of d) e) (arm (declared_at a (bit_of d)) refl)
    where
      arm : (o : Option ℕ) → declared_at a (bit_of d) ≡ o → (u : ℕ) × (cond (eqb (put_at (bit_of d) v a o).kind (kind_of d)) (declared_at (put_at (bit_of d) v a o) (bit_of d)) None ≡ Some u)
      arm None h = (v, rw (declare_at-kind a (bit_of d) v, eq-eqb a.kind (kind_of d) e) (declare_at-same a (bit_of d) v h (omega (arith, bit_of-lt d))))
      arm (Some u) h = (u, rw (eq-eqb a.kind (kind_of d) e) h)

  put_members-some : (js : List ℕ) (σ : Slots) (j : ℕ) → Memᴰ j js → Roomy σ → Open d σ j → (u : ℕ) × (value d (slot (put_members d v js σ) j) ≡ Some u)
  unfolding put_members
  put_members-some [] σ j mem ρ o = absurd (Memᴰ.not-nil mem)
  put_members-some (i ∷ js) σ j mem ρ o = arm (Memᴰ.cases_cons mem) (put_members-some js σ₁ j)
    where
      σ₁ : Slots
      σ₁ = set σ i (put d v (slot σ i))

      arm : (j ≡ i) ⊎ Memᴰ j js → (Memᴰ j js → Roomy σ₁ → Open d σ₁ j → (u : ℕ) × (value d (slot (put_members d v js σ₁) j) ≡ Some u))
          → (u : ℕ) × (value d (slot (put_members d v js σ₁) j) ≡ Some u)
      arm (inl e) ih =
          let s : slot σ₁ j ≡ put d v (slot σ j) = rw e (slot-set σ i (put d v (slot σ i)) (rw e at o.inside)) in
          let p = put_some (slot σ j) o.kind (ρ.at j o.inside) in
          (p.0, set-stays ((put_members-later d v js σ₁).at j) p.0 (ap (value d) s ∙ p.1))
      arm (inr h) ih = ih h (roomy-set σ ρ i) (record { inside = lt-length-set σ i _ o.inside; kind = set-fixed (λ a. a.kind) σ i j (put d v (slot σ i)) (λ l. put-kind d v (slot σ i)) ∙ o.kind })

  -- what a member declares is among what the cluster declares
  declared-mem : (js : List ℕ) (σ : Slots) (j u : ℕ) → Memᴰ j js → value d (slot σ j) ≡ Some u → Memᴰ u (declarations d σ js)
  unfolding declarations
  declared-mem [] σ j u mem h = absurd (Memᴰ.not-nil mem)
  declared-mem (i ∷ js) σ j u mem h = arm (Memᴰ.cases_cons mem) (declared-mem js σ j u)
    where
      later : (o : Option ℕ) (l : List ℕ) → Memᴰ u l → Memᴰ u (cons? o l)
      later None l k = k
      later (Some x) l k = Memᴰ.tail k

      arm : (j ≡ i) ⊎ Memᴰ j js → (Memᴰ j js → value d (slot σ j) ≡ Some u → Memᴰ u (declarations d σ js)) → Memᴰ u (cons? (value d (slot σ i)) (declarations d σ js))
      arm (inl e) ih = rw (sym (ap (λ k. value d (slot σ k)) e) ∙ h) (Memᴰ.head refl)
      arm (inr k) ih = later (value d (slot σ i)) (declarations d σ js) (ih k h)

agreed : (ts : List (List ℕ)) (d : Detail) (u v : ℕ) → agree ts d u v ≡ true → key ts d u ≡ key ts d v
unfolding agree
agreed ts d u v h = same-sound (key ts d u) (key ts d v) h

-- the key that a cluster comes to have
abbrev pub key_of : List (List ℕ) → Detail → List ℕ → Option (List ℕ)
key_of ts d [] = None
key_of ts d (v ∷ vs) = Some (key ts d v)

module _ (ts : List (List ℕ)) (d : Detail) (js : List ℕ) (σ : Slots) (j : ℕ) (mem : Memᴰ j js) (ρ : Roomy σ) (o : Open d σ j) where
  settle-key : (vs : List ℕ) → declarations d σ js ≡ vs → conflict ts d vs ≡ false → map (key ts d) (value d (slot (settle ts d vs js σ) j)) ≡ key_of ts d vs
  unfolding settle conflict
  settle-key [] e h = arm (value d (slot σ j)) refl
    where
      arm : (w : Option ℕ) → value d (slot σ j) ≡ w → map (key ts d) w ≡ None
      arm None q = refl
      arm (Some u) q = absurd (Memᴰ.not-nil (rw e at (declared-mem d 0 js σ j u mem q)))
  settle-key (v ∷ vs) e h =
      let a : all (agree ts d v) vs ≡ true = not-false _ h in
      rw a (arm (value d (slot σ j)) refl a)
    where
      arm : (w : Option ℕ) → value d (slot σ j) ≡ w → all (agree ts d v) vs ≡ true → map (key ts d) (value d (slot (put_members d v js σ) j)) ≡ Some (key ts d v)
      arm w q a =
          let p = put_members-some d v js σ j mem ρ o in
          let u : p.0 ≡ get_or w v = ap (λ x. get_or x v) (sym p.1) ∙ (own-put_members d v js σ ρ j ∙ ap (λ x. get_or x v) q) in
          rw (p.1, u) (ap Some (which w q))
        where
          which : (w : Option ℕ) → value d (slot σ j) ≡ w → key ts d (get_or w v) ≡ key ts d v
          which None q = refl
          which (Some x) q = side (Memᴰ.cases_cons (rw e at (declared-mem d v js σ j x mem q)))
            where
              side : (x ≡ v) ⊎ Memᴰ x vs → key ts d x ≡ key ts d v
              side (inl e) = ap (key ts d) e
              side (inr k) = sym (agreed ts d v x (all-mem (agree ts d v) vs x a k))

pub fill-key : (ts : List (List ℕ)) (d : Detail) (js : List ℕ) (σ : Slots) → conflict ts d (declarations d σ js) ≡ false → (j : ℕ) → Memᴰ j js → Roomy σ → Open d σ j
    → map (key ts d) (value d (slot (fill ts js d σ) j)) ≡ key_of ts d (declarations d σ js)
unfolding fill
fill-key ts d js σ h j mem ρ o = settle-key ts d js σ j mem ρ o (declarations d σ js) refl h
