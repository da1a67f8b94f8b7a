-- Reporting the runs of all sorted members is rule 5.4.
use mathlib.Core.Path.{◌≡◌, refl, sym, ap, ◌∙◌}
use mathlib.Core.Bool.{Bool, true, false, cond}
use mathlib.Core.List.{List, [], ◌∷◌, ◌++◌}
use Prim.Native.Nat.{ℕ, zero, suc, ◌+◌, ◌≤◌}
use native.Mathlib.Omega.{arith}
use borrow.Author.Tests.{lt-ltb, le-ltb, ltb-true, ltb-false}
use Rattle.base.specs.Lists.{each, tab, only, below}
use Rattle.base.proofs.Lists.{each-add, each_same, below_each}
use Rattle.oce_model.specs.Model.{Model, connector, connector_count, boundary_input_count, is_connector}
use Rattle.sorting.specs.Sort.{sorted}
use Rattle.crossed_sort.specs.Sort.{goes_first}
use Rattle.crossed_bounds.specs.Groups.{enter_all}
use Rattle.crossed_bounds.proofs.Groups.{enter_all-ascends, enter_all-append}
use Rattle.crossed_bounds.specs.CrossedBounds.{member_external, member_key, joins, connector_members, input_members, groups, groups_faults}
use Rattle.crossed_members.specs.Members.{member_joins, joining}
use Rattle.crossed_domains.specs.Runs.{runs}
use Rattle.crossed_domains.proofs.Runs.{runs-sorted}
use Rattle.crossed_domains.proofs.Existing.{AllIdle, extended-faults, none-external}

idle-append : (key : ℕ → List ℕ) (external : ℕ → Bool) (xs ys : List ℕ) → AllIdle key external xs → AllIdle key external ys → AllIdle key external (xs ++ ys)
idle-append key external [] ys i j = j
idle-append key external (x ∷ xs) ys i j = (i.0, idle-append key external xs ys i.1 j)

module _ (m : Model) where
  -- no boundary input is external
  input-idle : (x : ℕ) → connector_count m ≤ x → member_external m x ≡ false
  unfolding member_external
  input-idle x h = rw (le-ltb x (connector_count m) h)

  inputs-idle : (n : ℕ) → AllIdle (member_key m) (member_external m) (tab n (λ i. connector_count m + i))
  unfolding each
  inputs-idle zero = tt
  inputs-idle (suc n) = idle-append (member_key m) (member_external m) (tab n (λ i. connector_count m + i)) _ (inputs-idle n) (input-idle (connector_count m + n) (omega arith), tt)

  -- the members that take part: connectors, then all boundary inputs
  joining-split : joining m (connector_count m + boundary_input_count m)
      ≡ connector_members m ++ input_members m
  unfolding joining member_joins
  joining-split =
      each-add (connector_count m) (boundary_input_count m) (λ x. only (cond (is_connector m x) (joins (connector m x)) true) x)
      ∙ rw (each_same (connector_count m) (λ x. only (cond (is_connector m x) (joins (connector m x)) true) x) (λ i. only (joins (connector m i)) i) (λ i l. rw (lt-ltb i (connector_count m) l)))
      (ap (λ l. each (connector_count m) (λ i. only (joins (connector m i)) i) ++ l)
      (each_same (boundary_input_count m) _ (λ i. (connector_count m + i) ∷ []) (λ i l. rw (le-ltb (connector_count m + i) (connector_count m) (omega arith)))))

  -- the runs of the sorted members
  pub sorted-faults : {n : ℕ} → n ≡ connector_count m + boundary_input_count m
      → groups_faults m (runs (member_key m) (sorted (goes_first (member_key m)) (joining m n))) ≡ groups_faults m (groups m)
  unfolding groups
  sorted-faults {n} e =
      let xs = connector_members m in
      let ys = input_members m in
      let t : joining m n ≡ xs ++ ys = ap (joining m) e ∙ joining-split in
      let r : runs (member_key m) (sorted (goes_first (member_key m)) (joining m n)) ≡ enter_all (member_key m) (enter_all (member_key m) [] xs) ys =
      runs-sorted (member_key m) (joining m n) ∙ rw t (enter_all-append (member_key m) [] xs ys) in
      ap (groups_faults m) r
      ∙ sym (extended-faults (member_key m) m (enter_all (member_key m) [] xs) ys (inputs-idle (boundary_input_count m)) (enter_all-ascends (member_key m) [] xs tt))

  -- none of the connectors is external, so nothing is reported
  pub quiet : below (connector_count m) (member_external m) ≡ false → groups_faults m (groups m) ≡ []
  quiet h = none-external (member_key m) m (groups m) (λ x. arm x (is_connector m x) refl)
    where
      arm : (x : ℕ) (b : Bool) → is_connector m x ≡ b → member_external m x ≡ false
      arm x true e = below_each (connector_count m) (member_external m) x h (ltb-true x (connector_count m) e)
      arm x false e = input-idle x (ltb-false x (connector_count m) e)
