-- Laws of the listed external inputs, one more at a time, and of looking an id up.
use Prim.Native.Nat.{ℕ, ◌+◌, ◌<◌, ◌≤◌}
use native.Mathlib.Decide.{ℕ_discrete}
use native.Mathlib.Numerals.{add-one}
use native.Mathlib.Omega.{arith}
use mathlib.Core.Path.{◌≡◌, refl, sym, ap, ◌∙◌}
use mathlib.Core.Bool.{Bool, true, false, cond, ◌||◌}
use mathlib.Core.List.{List, [], ◌∷◌, ◌++◌, append-nil}
use lib.Dec.{eqb, ltb, leb}
use lib.ListN.{length, get_or, take, set, length-set}
use lib.Seq.{get_or-set_same, get_or-set_other, take-suc, take_all, take-suc-set, take-append_seam, length-take-le}
use borrow.Author.Tests.{eq-eqb, ne_eqb, le-leb, lt-leb, leb-false}
use Rattle.base.specs.Lists.{any, keep}
use Rattle.base.proofs.Lists.{any_append, keep_append}
use Rattle.oce_model.specs.Model.{Model}
use Rattle.structural.specs.Degrees.{external}
use Rattle.sorting.specs.Sort.{sorted, Ascending}
use Rattle.sorting.proofs.Laws.{sorted-length}
use Rattle.sorting.proofs.Sorted.{sorted-ascending, any-sorted}
use Rattle.structural_externals.specs.Columns.{others, Split}

-- ---- one id more

or-true : (b : Bool) → (b || true) ≡ true
or-true true = refl
or-true false = refl

or-false : (b : Bool) → (b || false) ≡ b
or-false true = refl
or-false false = refl

module _ (l : List ℕ) (k : ℕ) (inside : k < length l) where
  one_more : take (k + 1) l ≡ take k l ++ (get_or l k 0 ∷ [])
  one_more = rw add-one (take-suc l k 0 inside)

  among-more : (i : ℕ) → any (eqb i) (take (k + 1) l) ≡ (any (eqb i) (take k l) || eqb i (get_or l k 0))
  unfolding any
  among-more i = rw one_more (any_append (eqb i) (take k l) (get_or l k 0 ∷ []) ∙ ap (λ b. any (eqb i) (take k l) || b) (or-false (eqb i (get_or l k 0))))

  among-hit : (i : ℕ) → i ≡ get_or l k 0 → any (eqb i) (take (k + 1) l) ≡ true
  among-hit i e = among-more i ∙ ap (λ b. any (eqb i) (take k l) || b) (eq-eqb i (get_or l k 0) e) ∙ or-true (any (eqb i) (take k l))

  among-miss : (i : ℕ) → (i ≡ get_or l k 0 → ⊥) → any (eqb i) (take (k + 1) l) ≡ any (eqb i) (take k l)
  among-miss i n = among-more i ∙ ap (λ b. any (eqb i) (take k l) || b) (ne_eqb i (get_or l k 0) n) ∙ or-false (any (eqb i) (take k l))

  others-hit : (h : ℕ) → get_or l k 0 < h → others h (take (k + 1) l) ≡ others h (take k l)
  unfolding keep
  others-hit h b = rw one_more (keep_append (leb h) (take k l) (get_or l k 0 ∷ []) ∙ rw (lt-leb h (get_or l k 0) b) (append-nil (others h (take k l))))

  others-miss : (h : ℕ) → h ≤ get_or l k 0 → others h (take (k + 1) l) ≡ others h (take k l) ++ (get_or l k 0 ∷ [])
  unfolding keep
  others-miss h b = rw one_more (keep_append (leb h) (take k l) (get_or l k 0 ∷ []) ∙ rw (le-leb h (get_or l k 0) b))

-- of the first k external inputs: each id that has a mark is marked, and the n others stand in front
pub record Lists (m : Model) (k n : ℕ) (marks : List Bool) (ids : List ℕ) : Type 0 where
  pub serves : length m.external_inputs ≤ length ids
  pub each : (i : ℕ) → i < length marks → get_or marks i false ≡ any (eqb i) (take k m.external_inputs)
  pub few : n ≤ k
  pub rest : take n ids ≡ others (length marks) (take k m.external_inputs)

-- none listed yet
pub lists-none : {m : Model} {marks : List Bool} {ids : List ℕ} → ((i : ℕ) → i < length marks → get_or marks i false ≡ false) → length m.external_inputs ≤ length ids → Lists m 0 0 marks ids
unfolding any keep
lists-none e s = record { serves = s; each = e; few = omega arith; rest = refl }

module _ {m : Model} {k n : ℕ} {marks : List Bool} {ids : List ℕ} (v : Lists m k n marks ids) where
  -- there is room for one more
  pub others-room : k < length m.external_inputs → n < length ids
  others-room a = let f = v.few in let r = v.serves in omega arith

  pub others-fit : k ≤ length m.external_inputs → n ≤ length ids
  others-fit a = let f = v.few in let r = v.serves in omega arith

  module _ {x : ℕ} (inside : k < length m.external_inputs) (e : x ≡ get_or m.external_inputs k 0) where
    -- an id with a mark
    pub lists-hit : x < length marks → Lists m (k + 1) n (set marks x true) ids
    lists-hit l = record {
      serves = v.serves;
      each = rw (length-set marks x true) go;
      few = (let f = v.few in omega arith);
      rest = rw (length-set marks x true) (v.rest ∙ sym (others-hit m.external_inputs k inside (length marks) (rw e at l)));
    }
      where
        go : (i : ℕ) → i < length marks → get_or (set marks x true) i false ≡ any (eqb i) (take (k + 1) m.external_inputs)
        go i b = arm (ℕ_discrete i x)
          where
            arm : Dec (i ≡ x) → get_or (set marks x true) i false ≡ any (eqb i) (take (k + 1) m.external_inputs)
            arm (yes q) =
                ap (λ y. get_or (set marks x true) y false) q ∙ get_or-set_same marks x true false l ∙ sym (among-hit m.external_inputs k inside i (q ∙ e))
            arm (no q) = get_or-set_other marks x i true false q ∙ v.each i b ∙ sym (among-miss m.external_inputs k inside i (λ z. q (z ∙ sym e)))

    -- and one without
    pub lists-miss : length marks ≤ x → Lists m (k + 1) (n + 1) marks (set ids n x)
    lists-miss l = record {
      serves = rw (length-set ids n x) v.serves;
      each = λ i b. v.each i b ∙ sym (among-miss m.external_inputs k inside i (λ z. absurd (omega arith)));
      few = (let f = v.few in omega arith);
      rest =
          rw add-one (take-suc-set ids n x (others-room inside)) ∙ ap (λ t. t ++ (x ∷ [])) v.rest
          ∙ ap (λ y. others (length marks) (take k m.external_inputs) ++ (y ∷ [])) e
          ∙ sym (others-miss m.external_inputs k inside (length marks) (rw e at l));
    }

  -- all are listed, and the others sorted
  pub lists-all : {xs : List ℕ} (rest : List ℕ) → k ≡ length m.external_inputs → xs ≡ sorted ltb (take n ids) → Split m marks (take n (xs ++ rest))
  unfolding external
  lists-all {xs} rest a o =
      let fit : n ≤ length ids = others-fit (omega arith) in
      let long : n ≡ length xs = sym (ap length o ∙ sorted-length ltb (take n ids) ∙ length-take-le n ids fit) in
      let all : take k m.external_inputs ≡ m.external_inputs = take_all k m.external_inputs (omega arith) in
      record {
        each = λ i q. v.each i q ∙ ap (any (eqb i)) all;
        rest = ap (λ j. take j (xs ++ rest)) long ∙ take-append_seam xs rest ∙ o ∙ ap (sorted ltb) (v.rest ∙ ap (others (length marks)) all);
      }

-- ---- an id looked up

-- an id without an entry is among the others, or is in no list
any-others : (h id : ℕ) → h ≤ id → (ids : List ℕ) → any (eqb id) (others h ids) ≡ any (eqb id) ids
unfolding any keep
any-others h id l [] = refl
any-others h id l (x ∷ xs) = arm (leb h x) refl (any-others h id l xs)
  where
    arm : (b : Bool) → leb h x ≡ b → any (eqb id) (others h xs) ≡ any (eqb id) xs → any (eqb id) (cond b (x ∷ others h xs) (others h xs)) ≡ (eqb id x || any (eqb id) xs)
    arm true e f = ap (λ b. eqb id x || b) f
    arm false e f = let g = leb-false h x e in f ∙ rw (ne_eqb id x (λ z. absurd (omega arith)))

module _ {m : Model} {marks : List Bool} {ids : List ℕ} (v : Split m marks ids) where
  pub ids-ascend : Ascending ids
  ids-ascend = rw v.rest (sorted-ascending (others (length marks) m.external_inputs))

  pub ids-tell : (id : ℕ) → length marks ≤ id → any (eqb id) ids ≡ external m id
  unfolding external
  ids-tell id l = ap (any (eqb id)) v.rest ∙ any-sorted ltb (eqb id) (others (length marks) m.external_inputs) ∙ any-others (length marks) id l m.external_inputs
