-- An image whose fields' three leading bytes are unchanged has the same fields.
use Prim.Native.Nat.{ℕ, zero, suc, ◌+◌, ◌≤◌, ◌<◌}
use native.Mathlib.Nat.{add-zero}
use native.Mathlib.Omega.{arith}
use mathlib.Core.Path.{◌≡◌, refl, sym, ap, ◌∙◌}
use mathlib.Core.Bool.{Bool, true, false, cond}
use mathlib.Core.List.{List, [], ◌∷◌}
use lib.ListN.{length}
use lib.Dec.{leb}
use borrow.Author.Tests.{lt-leb}
use Rattle.numbers.specs.Bytes.{byte, le16}
use Rattle.oce_model.specs.Image.{field_at, field_end, fields, fields_from, ord_of, stop, stop_from}
use Rattle.oce_model.specs.declared.Field.{Field}
use Rattle.numbers.proofs.Bytes.{le_same}
use Rattle.oce_model.proofs.Fields.{field_end-past}

-- t has the leading bytes that s has, at each of the fields
pub data Heads (s t : List ℕ) : List Field → Type 0 where
  end : Heads s t []
  and : {f : Field} {l : List Field} → ((c : ℕ) → c < 3 → byte t (f.at + c) ≡ byte s (f.at + c)) → Heads s t l → Heads s t (f ∷ l)

module _ (s t : List ℕ) (same : length t ≡ length s) where
  length-same : (at : ℕ) → ((c : ℕ) → c < 3 → byte t (at + c) ≡ byte s (at + c)) → le16 t (at + 1) ≡ le16 s (at + 1)
  length-same at h = le_same 2 t s (at + 1) (at + 1) (λ i l. ap (λ n. byte t n) (right i) ∙ h (1 + i) (omega arith) ∙ sym (ap (λ n. byte s n) (right i)))
    where
      right : (i : ℕ) → at + 1 + i ≡ at + (1 + i)
      right i = omega arith

  end_same : (at : ℕ) → le16 t (at + 1) ≡ le16 s (at + 1) → field_end t at ≡ field_end s at
  unfolding field_end
  end_same at w = rw w

  same_from : (k at prev n : ℕ) → length s ≤ at + k → stop_from k s at ≡ length s → Heads s t (fields_from k s at prev n) → fields_from k t at prev n ≡ fields_from k s at prev n
  unfolding fields_from stop_from field_at
  same_from zero at prev n l e h = refl
  same_from (suc k) at prev n l e h = arm (leb (field_end s at) (length s)) refl e h (λ p m. same_from k (field_end s at) p m (omega (arith, field_end-past s at)))
    where
      o : ℕ
      o = ord_of prev n (byte s at)

      arm : (b : Bool) → leb (field_end s at) (length s) ≡ b → cond b (stop_from k s (field_end s at)) at ≡ length s
          → Heads s t (cond b (field_at s at prev o ∷ fields_from k s (field_end s at) (byte s at) (suc o)) [])
          → ((p m : ℕ) → stop_from k s (field_end s at) ≡ length s → Heads s t (fields_from k s (field_end s at) p m) → fields_from k t (field_end s at) p m ≡ fields_from k s (field_end s at) p m)
          → fields_from (suc k) t at prev n ≡ cond b (field_at s at prev o ∷ fields_from k s (field_end s at) (byte s at) (suc o)) []
      arm false q e h ih = rw (lt-leb (field_end t at) (length t) (omega (arith, field_end-past t at)))
      arm true q e (and g h) ih =
          let b : byte t at ≡ byte s at = rw add-zero at (g 0 (omega arith)) in
          let w : le16 t (at + 1) ≡ le16 s (at + 1) = length-same at g in
          let x : field_end t at ≡ field_end s at = end_same at w in
          rw (x, same, q, b, w) (ap (λ r. field_at s at prev o ∷ r) (ih (byte s at) (suc o) e h))

  same-stop-from : (k at prev n : ℕ) → length s ≤ at + k → stop_from k s at ≡ length s → Heads s t (fields_from k s at prev n) → stop_from k t at ≡ stop_from k s at
  unfolding fields_from stop_from field_at
  same-stop-from zero at prev n l e h = refl
  same-stop-from (suc k) at prev n l e h = arm (leb (field_end s at) (length s)) refl e h (λ p m. same-stop-from k (field_end s at) p m (omega (arith, field_end-past s at)))
    where
      o : ℕ
      o = ord_of prev n (byte s at)

      arm : (b : Bool) → leb (field_end s at) (length s) ≡ b → cond b (stop_from k s (field_end s at)) at ≡ length s
          → Heads s t (cond b (field_at s at prev o ∷ fields_from k s (field_end s at) (byte s at) (suc o)) [])
          → ((p m : ℕ) → stop_from k s (field_end s at) ≡ length s → Heads s t (fields_from k s (field_end s at) p m) → stop_from k t (field_end s at) ≡ stop_from k s (field_end s at))
          → stop_from (suc k) t at ≡ cond b (stop_from k s (field_end s at)) at
      arm false q e h ih = rw (lt-leb (field_end t at) (length t) (omega (arith, field_end-past t at)))
      arm true q e (and g h) ih =
          let x : field_end t at ≡ field_end s at = end_same at (length-same at g) in
          rw (x, same, q) (ih (byte s at) (suc o) e h)

pub same-fields : (s t : List ℕ) → length t ≡ length s → stop s ≡ length s → Heads s t (fields s) → fields t ≡ fields s
unfolding fields stop
same-fields s t same e h = rw same (same_from s t same (length s) 0 0 0 (omega arith) e h)

pub same_stop : (s t : List ℕ) → length t ≡ length s → stop s ≡ length s → Heads s t (fields s) → stop t ≡ length t
unfolding fields stop
same_stop s t same e h = rw same (same-stop-from s t same (length s) 0 0 0 (omega arith) e h ∙ e)
