-- What the functions over the open group and one member return.
use Prim.Native.Nat.{ℕ, zero, suc, ◌+◌, ◌-◌, ◌≤◌, ◌<◌}
use native.Mathlib.Omega.{arith}
use mathlib.Core.Path.{◌≡◌, refl, sym, ap, fun_ext, ◌∙◌}
use mathlib.Core.Bool.{Bool, true, false, cond}
use mathlib.Core.List.{List, [], ◌∷◌, ◌++◌}
use lib.ListN.{length, get_or, length-append, get_or-eq_default}
use native.Mathlib.Decide.{dec_lt}
use borrow.Author.Tests.{le-ltb}
use Rattle.base.specs.Lists.{each, tab, only, same, below}
use Rattle.base.proofs.Lists.{length-tab, get_or-tab}
use Rattle.oce_model.specs.Model.{Model, model_of, text, connector_count, boundary_input, boundary_input_count, no_boundary_input}
use Rattle.oce_diag.specs.Diagnostics.{error}
use Rattle.oce_diag.specs.Reporting.{Puts}
use Rattle.oce_diag.specs.declared.report.Report.{Report}
use Rattle.oce_diag.specs.declared.Diagnostic.{Diagnostic}
use Rattle.oce_diag.specs.declared.Subject.TheVariants.{Text}
use Rattle.oce_diag.specs.declared.DiagCode.TheVariants.{CrossedBounds}
use Rattle.oce_diag.proofs.Reporting.{puts-none}
use Rattle.oce_model.proofs.Order.{equal-same}
use Rattle.sorting.specs.Sort.{insert, insert_all, sorted}
use Rattle.sorting.proofs.Laws.{sorted-length}
use Rattle.crossed_sort.specs.Sort.{key_of, goes_first}
use Rattle.crossed_bounds.specs.CrossedBounds.{member_iri, member_external, member_key, groups, groups_faults}
use Rattle.crossed_bounds.specs.Ends.{Range}
use Rattle.crossed_members.specs.Members.{member_count, member_range}
use Rattle.crossed_buckets.specs.Buckets.{is_crowded, crowded_below, crowded_members, member_value, no_member}
use Rattle.crossed_buckets.specs.declared.Member.{Member}
use Rattle.crossed_domains.specs.Runs.{runs}
use Rattle.crossed_domains.proofs.Whole.{sorted-faults, quiet}
use Rattle.crossed_domains.proofs.Crowded.{crowded-faults}
use Rattle.crossed_domains.specs.Pass.{opened, grown, is_reported, pass_faults, same_key, Below, AllMembers, Stepped}
use Rattle.crossed_domains.specs.declared.Pass.{Pass}

-- ---- the open group

pub close-puts : (m : Model) (p : Pass) {t : Bool} {i : ℕ} {d : Diagnostic} {r₀ r : Report} → Puts 1 (only t d) r₀ r → t ≡ is_reported p
    → d ≡ error CrossedBounds 5 4 (Text i) p.members → i ≡ member_iri m p.first → Puts 1 (pass_faults m p) r₀ r
unfolding pass_faults
close-puts m p q e f g = rw (← e, ← g, ← f) q

-- ---- one member more

pub same-key : (m : Model) (x y : ℕ) {i j : ℕ} {t : Bool} → i ≡ member_iri m x → j ≡ member_iri m y → t ≡ same (text m i) (text m j) → t ≡ same_key m x y
unfolding same_key member_key
same-key m x y e f g = g ∙ rw (e, f) (sym (equal-same (text m (member_iri m x)) (text m (member_iri m y))))

module _ {m : Model} {p : Pass} {x : ℕ} {t : Bool} {q : Pass} (T : t ≡ same_key m p.first x) where
  pub step-grow : {e : Bool} {k : Range} {r : Report} → e ≡ member_external m x → k ≡ member_range m x → q ≡ grown p e k → t ≡ true → Stepped m p x r r q
  unfolding grown
  step-grow {e} {k} E K f h =
      let s : same_key m p.first x ≡ true = sym T ∙ h in
      let n : q.members ≡ p.members + 1 = ap (λ (z : Pass). z.members) f in
      let z : grown p e k ≡ grown p (member_external m x) (member_range m x) = rw (E, K) in
      record { put = rw s puts-none; next = rw s (f ∙ z); more = omega arith }

  pub step-open : {r₀ r : Report} → q ≡ opened x (member_external m x) (member_range m x) → t ≡ false → Puts 1 (pass_faults m p) r₀ r → Stepped m p x r₀ r q
  unfolding opened
  step-open f h o =
      let s : same_key m p.first x ≡ false = sym T ∙ h in
      let n : q.members ≡ 1 = ap (λ (z : Pass). z.members) f in
      record { put = rw s o; next = rw s f; more = omega arith }

-- ---- the members that are taken in are members

module _ (n : ℕ) where
  below_at : (xs : List ℕ) (i : ℕ) → Below n xs → i < length xs → get_or xs i 0 < n
  below_at [] i a h = absurd (omega arith)
  below_at (x ∷ xs) zero a h = a.0
  below_at (x ∷ xs) (suc i) a h = below_at xs i a.1 (omega arith)

  below-append : (xs ys : List ℕ) → Below n xs → Below n ys → Below n (xs ++ ys)
  below-append [] ys a b = b
  below-append (x ∷ xs) ys a b = (a.0, below-append xs ys a.1 b)

  below-only : (t : Bool) (x : ℕ) → x < n → Below n (only t x)
  below-only true x h = (h, tt)
  below-only false x h = tt

  module _ (key : ℕ → List ℕ) where
    below-insert : (x : ℕ) (xs : List ℕ) → x < n → Below n xs → Below n (insert (goes_first key) x xs)
    unfolding insert
    below-insert x [] h a = (h, tt)
    below-insert x (y ∷ ys) h a = arm (goes_first key x y) (below-insert x ys h a.1)
      where
        arm : (t : Bool) → Below n (insert (goes_first key) x ys) → Below n (cond t (x ∷ y ∷ ys) (y ∷ insert (goes_first key) x ys))
        arm true b = (h, a)
        arm false b = (a.0, b)

    below-insert_all : (l xs : List ℕ) → Below n l → Below n xs → Below n (insert_all (goes_first key) l xs)
    unfolding insert_all
    below-insert_all l [] a b = a
    below-insert_all l (x ∷ xs) a b = below-insert_all (insert (goes_first key) x l) xs (below-insert x l b.0 a) b.1

  sorted-members : (key : ℕ → List ℕ) (xs : List ℕ) → Below n xs → AllMembers n (sorted (goes_first key) xs)
  sorted-members key xs b = record { at = λ i h. below_at (sorted (goes_first key) xs) i (below-insert_all key [] xs tt b) h }

module _ (key : ℕ → List ℕ) (xs : List ℕ) {ys : List ℕ} (e : ys ≡ sorted (goes_first key) xs) where
  pub members-sorted : (n : ℕ) → Below n xs → AllMembers n ys
  members-sorted n b = rw e (sorted-members n key xs b)

  pub length-sorted : length ys ≡ length xs
  length-sorted = rw e (sorted-length (goes_first key) xs)

crowded-below : (m : Model) (n k : ℕ) → k ≤ n → Below n (crowded_below m n k)
unfolding crowded_below each
crowded-below m n zero h = tt
crowded-below m n (suc k) h = below-append n (crowded_below m n k) (only (is_crowded m n k) k) (crowded-below m n k (omega arith)) (below-only n (is_crowded m n k) k h)

crowded-few : (m : Model) (n k : ℕ) → length (crowded_below m n k) ≤ k
unfolding crowded_below each
crowded-few m n zero = omega arith
crowded-few m n (suc k) = arm (is_crowded m n k) (crowded-few m n k)
  where
    arm : (t : Bool) → length (crowded_below m n k) ≤ k → length (crowded_below m n k ++ only t k) ≤ suc k
    arm true h = omega (arith, h, length-append (crowded_below m n k) (k ∷ []))
    arm false h = omega (arith, h, length-append (crowded_below m n k) [])

-- ---- the column of members gives the keys

module _ (m : Model) where
  iri-is : (x : ℕ) → (get_or (tab (member_count m) (member_value m)) x no_member).iri ≡ member_iri m x
  unfolding member_value member_iri boundary_input no_boundary_input
  iri-is x = arm (dec_lt x (member_count m))
    where
      c : ℕ
      c = connector_count m

      arm : Dec (x < member_count m) → (get_or (tab (member_count m) (member_value m)) x no_member).iri ≡ member_iri m x
      arm (yes k) = ap (λ (z : Member). z.iri) (get_or-tab (member_count m) (member_value m) x no_member k)
      arm (no k) =
          let y : length (tab (member_count m) (member_value m)) ≤ x = rw (length-tab (member_count m) (member_value m)) (omega arith) in
          let o : c ≤ x = omega arith in
          let p : boundary_input_count m ≤ x - c = omega arith in
          ap (λ (z : Member). z.iri) (get_or-eq_default (tab (member_count m) (member_value m)) no_member y)
          ∙ sym (rw (le-ltb x c o, get_or-eq_default m.boundary_inputs no_boundary_input p))

module _ (s : List ℕ) {members : List Member} (e : members ≡ tab (member_count (model_of s)) (member_value (model_of s))) where
  pub key-is : key_of s members ≡ member_key (model_of s)
  unfolding member_key
  key-is = fun_ext (λ x. rw e (ap (text (model_of s)) (iri-is (model_of s) x)))

  pub sorted-key : {s' : List ℕ} → s' ≡ s → (xs : List ℕ) {ys : List ℕ} → ys ≡ sorted (goes_first (key_of s' members)) xs → ys ≡ sorted (goes_first (member_key (model_of s))) xs
  sorted-key i xs f = f ∙ rw i (ap (λ k. sorted (goes_first k) xs) key-is)

-- ---- the whole rule

module _ (m : Model) where
  -- what was collected
  module _ {xs : List ℕ} (e : xs ≡ crowded_members m (member_count m)) where
    pub collected-below : Below (member_count m) xs
    collected-below = rw e (crowded-below m (member_count m) (member_count m) (omega arith))

    pub collected-few : length xs ≤ member_count m
    collected-few = rw e (crowded-few m (member_count m) (member_count m))

    pub collected-faults : groups_faults m (runs (member_key m) (sorted (goes_first (member_key m)) xs)) ≡ groups_faults m (groups m)
    collected-faults = rw e (crowded-faults m (member_count m) ∙ sorted-faults m refl)

  -- nothing is put where no connector is external
  pub quiet-puts : {n : ℕ} {t : Bool} {r : Report} → t ≡ below (connector_count m) (member_external m) → t ≡ false → Puts n (groups_faults m (groups m)) r r
  quiet-puts e f = rw (quiet m (sym e ∙ f)) puts-none
