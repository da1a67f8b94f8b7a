-- Laws of one detail over one cluster.
use Prim.Native.Nat.{ℕ, ◌+◌, ◌-◌, ◌≤◌, ◌<◌}
use native.Mathlib.Numerals.{add-one}
use native.Mathlib.Omega.{arith}
use mathlib.Core.Path.{◌≡◌, refl, sym, ap, ◌∙◌}
use Rattle.std.specs.List.{list_all}
use mathlib.Core.Bool.{Bool, true, false, cond, not, ◌&&◌}
use mathlib.Core.List.{List, [], ◌∷◌}
use Rattle.std.specs.Prelude.{Option, Some, None, Result, Ok, Err, is_err}
use lib.ListN.{length, length-drop, get_or, set, take, drop, drop_of_length-le}
use lib.Seq.{drop-cons, take_all}
use lib.Dec.{eqb}
use Rattle.base.specs.Lists.{all, same}
use Rattle.oce_model.specs.Model.{model_of, text}
use Rattle.unify.specs.Details.{is_text}
use Rattle.unify.specs.Slots.{Slots, slot, value, put, key, agree}
use Rattle.unify.specs.Unify.{cons?, declarations, put_members, settle, fill, conflict}
use Rattle.unify.specs.declared.Detail.{Detail}
use Rattle.unify_settle.specs.Settle.{member_agrees, agreed, disagreed}
use Rattle.unify_settle.specs.declared.Conflict.{Conflict}

-- ---- agreement

module _ (s : List ℕ) (d : Detail) (u v : ℕ) {t : Bool} (et : t ≡ is_text d) where
  pub agree-text : {r : Bool} → r ≡ same (text (model_of s) u) (text (model_of s) v) → t ≡ true → r ≡ agree (model_of s).texts d u v
  unfolding agree key text
  agree-text er e = er ∙ rw (← et, e)

  pub agree-end : t ≡ false → eqb u v ≡ agree (model_of s).texts d u v
  unfolding agree key same
  agree-end e = rw (← et, e) (arm (eqb u v))
    where
      arm : (b : Bool) → b ≡ (b && true)
      arm true = refl
      arm false = refl

-- ---- members

rest : (js : List ℕ) (i : ℕ) → i < length js → drop i js ≡ get_or js i 0 ∷ drop (i + 1) js
rest js i h = rw add-one (drop-cons js i 0 h)

declarations-rest : (d : Detail) (σ : Slots) (js : List ℕ) (i : ℕ) → i < length js → declarations d σ (drop i js) ≡ cons? (value d (slot σ (get_or js i 0))) (declarations d σ (drop (i + 1) js))
unfolding declarations
declarations-rest d σ js i h = rw (rest js i h) refl

declarations-none : (d : Detail) (σ : Slots) → declarations d σ [] ≡ []
unfolding declarations
declarations-none d σ = refl

-- ---- the first that is declared

module _ (d : Detail) (σ : Slots) (js : List ℕ) (i : ℕ) (w : declarations d σ js ≡ declarations d σ (drop i js)) {x : Option ℕ} where
  pub first-next : i < length js → x ≡ value d (slot σ (get_or js i 0)) → x ≡ None → declarations d σ js ≡ declarations d σ (drop (i + 1) js)
  first-next h ex e = w ∙ rw (declarations-rest d σ js i h, ← ex, e)

  pub first-found : {v : ℕ} → i < length js → x ≡ value d (slot σ (get_or js i 0)) → x ≡ Some v
      → declarations d σ js ≡ v ∷ declarations d σ (take (length js - (i + 1)) (drop (i + 1) js))
  first-found h ex e =
      let q : take (length js - (i + 1)) (drop (i + 1) js) ≡ drop (i + 1) js = take_all (length js - (i + 1)) (drop (i + 1) js) (omega (arith, length-drop (i + 1) js)) in
      rw q (w ∙ rw (declarations-rest d σ js i h, ← ex, e))

pub first-none : (d : Detail) (σ : Slots) (js : List ℕ) (i : ℕ) → declarations d σ js ≡ declarations d σ (drop i js) → length js ≤ i → declarations d σ js ≡ []
first-none d σ js i w h = w ∙ rw (drop_of_length-le js h) (declarations-none d σ)

-- ---- agreement with it

pub members-agree : (ts : List (List ℕ)) (d : Detail) (v : ℕ) (σ : Slots) (js : List ℕ)
    → list_all (λ j. member_agrees ts d v (value d (slot σ j))) js ≡ all (agree ts d v) (declarations d σ js)
unfolding all declarations
members-agree ts d v σ [] = refl
members-agree ts d v σ (j ∷ js) = arm (value d (slot σ j)) (members-agree ts d v σ js)
  where
    arm : (o : Option ℕ) {b : Bool} → b ≡ all (agree ts d v) (declarations d σ js) → (member_agrees ts d v o && b) ≡ all (agree ts d v) (cons? o (declarations d σ js))
    arm None e = e
    arm (Some u) e = ap (λ b. agree ts d v u && b) e

module _ (ts : List (List ℕ)) (d : Detail) {vs : List ℕ} where
  pub agreed-none : vs ≡ [] → Ok None ≡ agreed ts d vs
  unfolding agreed
  agreed-none e = rw e

  module _ {v : ℕ} {us : List ℕ} (e : vs ≡ v ∷ us) {t : Bool} (et : t ≡ all (agree ts d v) us) where
    pub agreed-some : t ≡ true → Ok (Some v) ≡ agreed ts d vs
    unfolding agreed
    agreed-some f = rw (e, ← et, f)

    pub agreed-not : t ≡ false → disagreed ≡ agreed ts d vs
    unfolding agreed
    agreed-not f = rw (e, ← et, f)

-- ---- filling

module _ (d : Detail) (v : ℕ) (js : List ℕ) (σ₀ σ : Slots) (i : ℕ) (w : put_members d v js σ₀ ≡ put_members d v (drop i js) σ) where
  pub put-next : i < length js → put_members d v js σ₀ ≡ put_members d v (drop (i + 1) js) (set σ (get_or js i 0) (put d v (slot σ (get_or js i 0))))
  unfolding put_members
  put-next h = w ∙ rw (rest js i h) refl

  pub put-done : length js ≤ i → σ ≡ put_members d v js σ₀
  unfolding put_members
  put-done h = sym (w ∙ rw (drop_of_length-le js h) refl)

-- ---- the whole detail

module _ (ts : List (List ℕ)) (d : Detail) where
  settle-ok : (vs js : List ℕ) (σ : Slots) {v : ℕ} → agreed ts d vs ≡ Ok (Some v) → settle ts d vs js σ ≡ put_members d v js σ
  unfolding settle agreed
  settle-ok [] js σ e = absurd (cc)
  settle-ok (u ∷ us) js σ {v} e = arm (all (agree ts d u) us) e
    where
      arm : (b : Bool) → cond b (Ok (Some u)) disagreed ≡ Ok (Some v) → cond b (put_members d u js σ) σ ≡ put_members d v js σ
      arm true e = let q : u ≡ v = cc in rw q
      arm false e = absurd (cc)

  settle-none : (vs js : List ℕ) (σ : Slots) → agreed ts d vs ≡ Ok None → settle ts d vs js σ ≡ σ
  unfolding settle agreed
  settle-none [] js σ e = refl
  settle-none (u ∷ us) js σ e = arm (all (agree ts d u) us) e
    where
      arm : (b : Bool) → cond b (Ok (Some u)) disagreed ≡ Ok None → cond b (put_members d u js σ) σ ≡ σ
      arm true e = absurd (cc)
      arm false e = absurd (cc)

  settle-err : (vs js : List ℕ) (σ : Slots) {c : Conflict} → agreed ts d vs ≡ Err c → settle ts d vs js σ ≡ σ
  unfolding settle agreed
  settle-err [] js σ e = absurd (cc)
  settle-err (u ∷ us) js σ {c} e = arm (all (agree ts d u) us) e
    where
      arm : (b : Bool) → cond b (Ok (Some u)) disagreed ≡ Err c → cond b (put_members d u js σ) σ ≡ σ
      arm true e = absurd (cc)
      arm false e = refl

  conflict-agreed : (vs : List ℕ) → is_err (agreed ts d vs) ≡ conflict ts d vs
  unfolding conflict agreed
  conflict-agreed [] = refl
  conflict-agreed (v ∷ vs) = arm (all (agree ts d v) vs)
    where
      arm : (b : Bool) → is_err (cond b (Ok (Some v)) disagreed) ≡ not b
      arm true = refl
      arm false = refl

  module _ (js : List ℕ) (σ : Slots) where
    pub filled-ok : {x : Option ℕ} {v : ℕ} → x ≡ Some v → Ok x ≡ agreed ts d (declarations d σ js) → put_members d v js σ ≡ fill ts js d σ
    unfolding fill
    filled-ok f e = sym (settle-ok (declarations d σ js) js σ (rw f at (sym e)))

    pub filled-none : {x : Option ℕ} → x ≡ None → Ok x ≡ agreed ts d (declarations d σ js) → σ ≡ fill ts js d σ
    unfolding fill
    filled-none f e = sym (settle-none (declarations d σ js) js σ (rw f at (sym e)))

    pub filled-err : {c : Conflict} → Err c ≡ agreed ts d (declarations d σ js) → σ ≡ fill ts js d σ
    unfolding fill
    filled-err e = sym (settle-err (declarations d σ js) js σ (sym e))

    pub told-agreed : {r : Result (Option ℕ) Conflict} → r ≡ agreed ts d (declarations d σ js) → is_err r ≡ conflict ts d (declarations d σ js)
    told-agreed e = rw e (conflict-agreed (declarations d σ js))
