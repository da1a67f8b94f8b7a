-- What attributes declare, after one more is declared: the details don't disturb each other.
use Prim.Native.Nat.{ℕ, ◌<◌}
use mathlib.Core.Path.{◌≡◌, refl, sym, ap, ◌∙◌}
use mathlib.Core.Logic.{◌≢◌}
use mathlib.Core.Bool.{Bool, true, false, cond}
use Rattle.std.specs.Prelude.{Option, Some, None}
use Rattle.base.proofs.Options.{some-ne-none}
use lib.ListN.{length}
use lib.Seq.{get_or-set_same, get_or-set_other}
use lib.Dec.{eqb}
use borrow.Author.Tests.{eqb-true}
use Rattle.numbers.specs.Bytes.{bit}
use Rattle.numbers.proofs.Bits.{bit-other, bit-same}
use Rattle.oce_model.specs.Attributes.{declare_at, declared_at, marked, num}
use Rattle.oce_model.specs.declared.Attrs.{Attrs}
use Rattle.unify.specs.Details.{bit_of, kind_of}
use Rattle.unify.specs.Slots.{put, put_at, value}
use Rattle.unify.specs.declared.Detail.{Detail}
use Rattle.unify.proofs.Fixed.{put-kind}

-- where nothing is declared, the bit is clear
pub unmarked : (a : Attrs) (p : ℕ) → declared_at a p ≡ None → bit a.marks p ≡ false
unfolding declared_at
unmarked a p h = arm (bit a.marks p) h
  where
    arm : (b : Bool) → marked b (num a p) ≡ None → b ≡ false
    arm true h = absurd (some-ne-none (num a p) h)
    arm false h = refl

pub declare_at-same : (a : Attrs) (p v : ℕ) → declared_at a p ≡ None → p < length a.nums → declared_at (declare_at a p v) p ≡ Some v
unfolding declared_at declare_at
declare_at-same a p v h l = rw (bit-same a.marks p (unmarked a p h)) (ap {B = Option ℕ} Some (get_or-set_same a.nums p v 0 l))

pub declare_at-other : (a : Attrs) (p q v : ℕ) → declared_at a p ≡ None → q ≢ p → declared_at (declare_at a p v) q ≡ declared_at a q
unfolding declared_at declare_at
declare_at-other a p q v h n = rw (bit-other a.marks p q (unmarked a p h) n, get_or-set_other a.nums p q v 0 n)

pub declare_at-kind : (a : Attrs) (p v : ℕ) → (declare_at a p v).kind ≡ a.kind
unfolding declare_at
declare_at-kind a p v = refl

-- under another bit, or of another kind
pub put-declared_at : (e : Detail) (v : ℕ) (a : Attrs) (p : ℕ) → (a.kind ≡ kind_of e → p ≢ bit_of e) → declared_at (put e v a) p ≡ declared_at a p
unfolding put
put-declared_at e v a p n = arm (eqb a.kind (kind_of e)) refl (declared_at a (bit_of e)) refl
  where
    arm : (b : Bool) → eqb a.kind (kind_of e) ≡ b → (o : Option ℕ) → declared_at a (bit_of e) ≡ o → declared_at (cond b (put_at (bit_of e) v a o) a) p ≡ declared_at a p
    arm false h o q = refl
    arm true h (Some u) q = refl
    arm true h None q = declare_at-other a (bit_of e) p v q (n (eqb-true _ _ h))

pub value-put : (d e : Detail) (v : ℕ) → (kind_of d ≡ kind_of e → bit_of d ≢ bit_of e) → (a : Attrs) → value d (put e v a) ≡ value d a
unfolding value put
value-put d e v n a = rw (put-kind e v a) (arm (eqb a.kind (kind_of d)) refl)
  where
    at : ℕ
    at = bit_of d

    arm : (b : Bool) → eqb a.kind (kind_of d) ≡ b → cond b (declared_at (put e v a) at) None ≡ cond b (declared_at a at) None
    arm false h = refl
    arm true h = put-declared_at e v a at (λ k. n (sym (eqb-true _ _ h) ∙ k))
