-- The clusters of a model without errors: who belongs to them, and that no slot belongs to two.
use Prim.Native.Nat.{ℕ, ◌+◌, ◌≤◌, ◌<◌}
use native.Mathlib.Decide.{ℕ_discrete, dec_lt}
use native.Mathlib.Omega.{arith}
use mathlib.Core.Path.{◌≡◌, refl, sym, ap, ◌∙◌}
use mathlib.Core.Logic.{◌≢◌, ◌⊎◌, inl, inr}
use mathlib.Core.Bool.{Bool, true, false, not, ◌&&◌, false≢true, true≢false}
use mathlib.Core.List.Memᴰ
use mathlib.Core.List.{List, [], ◌∷◌, Memᴰ}
use lib.ListN.{length}
use lib.Dec.{eqb, ltb}
use borrow.Author.Tests.{eqb-true, ltb-true, lt-ltb, eq-eqb, not-true}
use Rattle.base.specs.Lists.{each, tally}
use Rattle.oce_model.specs.Model.{Model, boundary_output, boundary_output_count, connection, connection_count, connector, connector_count, is_in}
use Rattle.structural.specs.Degrees.{degree}
use Rattle.structural.specs.Structural.{in_range}
use Rattle.unify.specs.Clusters.{alias, driven, drives, is_root, sound, target}
use Rattle.base.proofs.Lists.{and_parts}
use Rattle.base.proofs.Members.{and_both, each-mem, mem-each, mem-only, only-is, only-test, tally-one, tally-two}
use Rattle.moved.proofs.Stars.{Stars}

-- slot j hangs on connector r: a connection leads from r to it, or it is a boundary output with the source r
pub data Hangs (m : Model) (r j : ℕ) : Type 0 where
  wire : (k : ℕ) → k < connection_count m → (connection m k).from ≡ r → (connection m k).to ≡ j → Hangs m r j
  out : (i : ℕ) → i < boundary_output_count m → (boundary_output m i).source ≡ r → connector_count m + i ≡ j → Hangs m r j

pub driven-hangs : (m : Model) (r j : ℕ) → Memᴰ j (driven m r) → Hangs m r j
unfolding driven target alias
driven-hangs m r j h = arm (Memᴰ.append_cases (each (connection_count m) (λ k. target m r (connection m k))) h)
  where
    to_out : ℕ → List ℕ
    to_out i = alias m r i (boundary_output m i)

    arm : Memᴰ j (each (connection_count m) (λ k. target m r (connection m k))) ⊎ Memᴰ j (each (boundary_output_count m) to_out) → Hangs m r j
    arm (inl g) =
        let p = each-mem (connection_count m) (λ k. target m r (connection m k)) j g in
        let c = connection m p.0 in
        let t = eqb c.from r && drives m c in
        wire p.0 p.1 (eqb-true _ r (and_parts (eqb c.from r) (drives m c) (only-test t j c.to p.2)).0) (sym (only-is t j c.to p.2))
    arm (inr g) =
        let p = each-mem (boundary_output_count m) to_out j g in
        let o = boundary_output m p.0 in
        let t = eqb o.source r && sound m o in
        out p.0 p.1 (eqb-true _ r (and_parts (eqb o.source r) (sound m o) (only-test t j (connector_count m + p.0) p.2)).0) (sym (only-is t j (connector_count m + p.0) p.2))

module _ (m : Model) (stars : Stars m) where
  -- the ends of a connection
  pub from-lt : (k : ℕ) → k < connection_count m → (connection m k).from < connector_count m
  unfolding in_range
  from-lt k l = ltb-true _ _ (and_parts _ _ (stars.wires k l).range).0

  pub to-lt : (k : ℕ) → k < connection_count m → (connection m k).to < connector_count m
  unfolding in_range
  to-lt k l = ltb-true _ _ (and_parts (ltb (connection m k).from (connector_count m)) _ (stars.wires k l).range).1

  pub source-lt : (i : ℕ) → i < boundary_output_count m → (boundary_output m i).source < connector_count m
  unfolding sound
  source-lt i l = ltb-true _ _ (and_parts (ltb (boundary_output m i).source (connector_count m)) _ (and_parts _ _ (stars.sources i l)).0).0

  pub source-out : (i : ℕ) → i < boundary_output_count m → is_in (connector m (boundary_output m i).source) ≡ false
  unfolding sound
  source-out i l = not-true _ (and_parts (ltb (boundary_output m i).source (connector_count m)) _ (and_parts _ _ (stars.sources i l)).0).1

  pub source-kind : (i : ℕ) → i < boundary_output_count m → (boundary_output m i).attrs.kind ≡ (connector m (boundary_output m i).source).value_type
  unfolding sound
  source-kind i l = eqb-true _ _ (and_parts (ltb (boundary_output m i).source (connector_count m) && not (is_in (connector m (boundary_output m i).source))) _ (stars.sources i l)).1

  degree-is : (i : ℕ) → i < connector_count m → degree m i ≡ tally (connection_count m) (λ k. eqb (connection m k).to i)
  unfolding degree
  degree-is i l = rw (lt-ltb _ _ l)

  -- only one connection leads to an input
  pub one-wire : (k l : ℕ) → k < connection_count m → l < connection_count m → (connection m k).to ≡ (connection m l).to → k ≡ l
  one-wire k l g h e = arm (ℕ_discrete k l) (dec_lt k l)
    where
      i : ℕ
      i = (connection m k).to

      test : ℕ → Bool
      test = λ k. eqb (connection m k).to i

      most : tally (connection_count m) test ≤ 1
      most = rw (degree-is i (to-lt k g)) at (stars.single i (to-lt k g) (stars.wires k g).to_in)

      arm : Dec (k ≡ l) → Dec (k < l) → k ≡ l
      arm (yes p) q = p
      arm (no p) (yes q) = absurd (omega (arith, most, tally-two (connection_count m) test k l q h (eq-eqb _ i refl) (eq-eqb _ i (sym e))))
      arm (no p) (no q) = absurd (omega (arith, most, tally-two (connection_count m) test l k (omega arith) g (eq-eqb _ i (sym e)) (eq-eqb _ i refl)))

  degree-one : (k : ℕ) → k < connection_count m → degree m (connection m k).to ≡ 1
  degree-one k l =
      let i = (connection m k).to in
      let a : degree m i ≤ 1 = stars.single i (to-lt k l) (stars.wires k l).to_in in
      let b : 1 ≤ tally (connection_count m) (λ k. eqb (connection m k).to i) = tally-one (connection_count m) (λ k. eqb (connection m k).to i) k l (eq-eqb _ i refl) in
      let e = degree-is i (to-lt k l) in
      omega arith

  pub wire-driven : (k : ℕ) → k < connection_count m → Memᴰ (connection m k).to (driven m (connection m k).from)
  unfolding driven target drives
  wire-driven k l =
      let c = connection m k in
      let d : (in_range m c && eqb (degree m c.to) 1) ≡ true = and_both _ _ (stars.wires k l).range (eq-eqb _ 1 (degree-one k l)) in
      Memᴰ.append_left _
      (mem-each (connection_count m) (λ k. target m c.from (connection m k)) k c.to l
      (mem-only _ c.to (and_both (eqb c.from c.from) (in_range m c && eqb (degree m c.to) 1) (eq-eqb c.from c.from refl) d)))

  pub out-driven : (i : ℕ) → i < boundary_output_count m → Memᴰ (connector_count m + i) (driven m (boundary_output m i).source)
  unfolding driven alias
  out-driven i l =
      let r = (boundary_output m i).source in
      Memᴰ.append_right (each (connection_count m) (λ k. target m r (connection m k)))
      (mem-each (boundary_output_count m) (λ i. alias m r i (boundary_output m i)) i (connector_count m + i) l
      (mem-only _ (connector_count m + i) (and_both (eqb r r) (sound m (boundary_output m i)) (eq-eqb r r refl) (stars.sources i l))))

  -- what something hangs on is an Out
  pub root-out : (r j : ℕ) → Hangs m r j → is_in (connector m r) ≡ false
  root-out r j (wire k l a b) = ap (λ r. is_in (connector m r)) (sym a) ∙ (stars.wires k l).from_out
  root-out r j (out i l a b) = ap (λ r. is_in (connector m r)) (sym a) ∙ source-out i l

  -- and nothing hangs on two
  pub one-root : (r q j : ℕ) → Hangs m r j → Hangs m q j → r ≡ q
  one-root r q j (wire k l a b) (wire h g c d) = let e : k ≡ h = one-wire k h l g (b ∙ sym d) in sym a ∙ ap (λ k. (connection m k).from) e ∙ c
  one-root r q j (wire k l a b) (out i g c d) = absurd (omega (arith, to-lt k l))
  one-root r q j (out i l a b) (wire k g c d) = absurd (omega (arith, to-lt k g))
  one-root r q j (out i l a b) (out h g c d) = let e : i ≡ h = omega arith in sym a ∙ ap (λ i. (boundary_output m i).source) e ∙ c

  -- a connector that a connection leads to is an In, so nothing hangs on it
  pub not-both : (r q j : ℕ) → Hangs m r q → Hangs m q j → ⊥
  not-both r q j (wire k l a b) h = true≢false (sym (ap (λ q. is_in (connector m q)) (sym b) ∙ (stars.wires k l).to_in) ∙ root-out q j h)
  not-both r q j (out i l a b) (wire k g c d) = omega (arith, from-lt k g)
  not-both r q j (out i l a b) (out h g c d) = omega (arith, source-lt h g)

  root-hangs : (r : ℕ) → is_root m r ≡ true → (j : ℕ) × Hangs m r j
  unfolding is_root
  root-hangs r h = arm (driven m r) refl h
    where
      arm : (l : List ℕ) → driven m r ≡ l → ltb 0 (length l) ≡ true → (j : ℕ) × Hangs m r j
      arm [] e h = absurd (false≢true h)
      arm (j ∷ js) e h = (j, driven-hangs m r j (rw e (Memᴰ.head refl)))

  pub driven-root : (r j : ℕ) → Memᴰ j (driven m r) → is_root m r ≡ true
  unfolding is_root
  driven-root r j h = arm (driven m r) h
    where
      arm : (l : List ℕ) → Memᴰ j l → ltb 0 (length l) ≡ true
      arm [] h = absurd (Memᴰ.not-nil h)
      arm (x ∷ xs) h = lt-ltb 0 (length (x ∷ xs)) (omega arith)

  -- the clusters of two roots share no slot
  pub apart : (r q j : ℕ) → is_root m r ≡ true → is_root m q ≡ true → Memᴰ j (r ∷ driven m r) → Memᴰ j (q ∷ driven m q) → r ≡ q
  apart r q j a b g h = arm (Memᴰ.cases_cons g) (Memᴰ.cases_cons h)
    where
      arm : (j ≡ r) ⊎ Memᴰ j (driven m r) → (j ≡ q) ⊎ Memᴰ j (driven m q) → r ≡ q
      arm (inl e) (inl f) = sym e ∙ f
      arm (inl e) (inr f) = let p = root-hangs r a in absurd (not-both q r p.0 (rw e at (driven-hangs m q j f)) p.1)
      arm (inr e) (inl f) = let p = root-hangs q b in absurd (not-both r q p.0 (rw f at (driven-hangs m r j e)) p.1)
      arm (inr e) (inr f) = one-root r q j (driven-hangs m r j e) (driven-hangs m q j f)

  -- a connector that no connection leads to is in no cluster but its own
  pub alone : (r i : ℕ) → i < connector_count m → ((k : ℕ) → k < connection_count m → (connection m k).to ≢ i) → Memᴰ i (r ∷ driven m r) → i ≡ r
  alone r i l n h = arm (Memᴰ.cases_cons h)
    where
      no-wire : Hangs m r i → i ≡ r
      no-wire (wire k g a b) = absurd (n k g b)
      no-wire (out k g a b) = absurd (omega arith)

      arm : (i ≡ r) ⊎ Memᴰ i (driven m r) → i ≡ r
      arm (inl e) = e
      arm (inr g) = no-wire (driven-hangs m r i g)
