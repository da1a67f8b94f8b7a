use Rattle.std.proofs.Common.{ℕ, suc, ◌+◌, ◌*◌, ◌<◌, ◌≤◌, ◌≡◌, ◌∙◌, sym, length, List, arith}
use Rattle.std.proofs.Math.Nat.{mul-le-mul_left, mul-suc}
use Rattle.base.proofs.Lists.{length-tab}
use Rattle.oce_model.specs.Format.{port_length}
use Rattle.oce_model.specs.Model.{ids_at}
use Rattle.image_records.proofs.Laws.{port-is}
use Rattle.image_records.proofs.blocks.Ids.id.Goals as goal

-- port j is one of n
one-of : (s : List ℕ) (at n j : ℕ) {xs : List ℕ} → ids_at s at n ≡ xs → j < length xs → j < n
unfolding ids_at
one-of s at n j e k = rw (length-tab _ _) at (rw (← e) at k)

-- and its id stands inside
port-held : (s : List ℕ) (at n j : ℕ) → j < n → at + port_length * n ≤ length s → at + port_length * j + 4 ≤ length s
port-held s at n j k h = omega (arith, mul-le-mul_left {m = suc j} {n = n} port_length (omega arith), mul-suc port_length j)

pub overflow_mul-j : goal.overflow_mul-j
overflow_mul-j c = let k = one-of _ _ _ _ c.self.view_is c.requires in omega arith

pub overflow_add-self-inside : goal.overflow_add-self-inside
overflow_add-self-inside c = let k = one-of _ _ _ _ c.self.view_is c.requires in omega arith

pub read-requires : goal.read-requires
read-requires c = port-held _ _ _ _ (one-of _ _ _ _ c.self.view_is c.requires) c.self.invariant.2

pub returns : goal.returns
unfolding ids_at
returns c =
    let k = one-of _ _ _ _ c.self.view_is c.requires in
    rw (← c.self.view_is) (c.read.ensures ∙ sym (port-is c.self.inside.bytes.now c.self.inside.at c.self.inside.count c.args.j k))
