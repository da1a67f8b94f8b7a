-- The pass over the sorted members reports their runs.
use mathlib.Core.Path.{◌≡◌, refl, sym, ap, ◌∙◌}
use mathlib.Core.Bool.{Bool, true, false, cond, ◌||◌}
use mathlib.Core.List.{List, [], ◌∷◌, ◌++◌, map, map-append, append-nil, append_assoc}
use Prim.Native.Nat.{ℕ, suc, ◌+◌, ◌≤◌, ◌<◌}
use native.Mathlib.Omega.{arith}
use native.Mathlib.Numerals.{add-one}
use lib.ListN.{length, get_or, drop, length-append, drop_of_length-le}
use lib.Seq.{drop-cons}
use Rattle.base.specs.Lists.{any}
use Rattle.base.proofs.Lists.{any_append}
use Rattle.numbers.specs.Bytes.{short_range}
use Rattle.oce_model.specs.Texts.{order, is_equal}
use Rattle.oce_model.specs.Model.{Model}
use Rattle.oce_diag.specs.Reporting.{Room, Puts}
use Rattle.oce_diag.specs.declared.report.Report.{Report}
use Rattle.oce_diag.proofs.Reporting.{puts-none, puts-then, puts-within, room-behind}
use Rattle.crossed_bounds.specs.Ranges.{combined, take_in, take_in_all}
use Rattle.crossed_bounds.specs.Groups.{Group, members, alone, joined}
use Rattle.crossed_bounds.specs.CrossedBounds.{member_external, member_key, member_ranges, group_faults, groups_faults}
use Rattle.crossed_bounds.proofs.Combined.{combined-more}
use Rattle.crossed_members.specs.Members.{member_range}
use Rattle.crossed_domains.specs.Runs.{runs_from, runs}
use Rattle.crossed_domains.specs.Pass.{opened, grown, is_reported, pass_faults, same_key, AllMembers, Stepped}
use Rattle.crossed_domains.specs.declared.Pass.{Pass}

or-none : (t : Bool) → (t || false) ≡ t
or-none true = refl
or-none false = refl

module _ (m : Model) where
  -- what is kept of an open group
  unfoldable pub pass_of : Group → Pass
  pass_of g = record { first = g.first; members = length (members g); external = any (member_external m) (members g); kept = combined (member_ranges m g) }

  alone-is : (x : ℕ) → opened x (member_external m x) (member_range m x) ≡ pass_of (alone x)
  unfolding opened pass_of any member_ranges combined take_in_all
  alone-is x = rw (or-none (member_external m x))

  external-more : (g : Group) (x : ℕ) → (any (member_external m) (members g) || member_external m x) ≡ any (member_external m) (members (joined g x))
  unfolding any
  external-more g x = sym (any_append (member_external m) (members g) (x ∷ []) ∙ rw (or-none (member_external m x)))

  kept_more : (g : Group) (x : ℕ) → take_in (combined (member_ranges m g)) (member_range m x) ≡ combined (member_ranges m (joined g x))
  unfolding member_ranges
  kept_more g x =
      sym (ap combined (map-append (member_range m) (members g) (x ∷ [])) ∙ combined-more (member_range m g.first) (map (member_range m) g.others) (member_range m x))

  joined_is : (g : Group) (x : ℕ) → grown (pass_of g) (member_external m x) (member_range m x) ≡ pass_of (joined g x)
  unfolding grown pass_of
  joined_is g x =
      let long : length (members g) + 1 ≡ length (members (joined g x)) = omega (arith, length-append g.others (x ∷ [])) in
      rw (long, external-more g x, kept_more g x)

  faults-is : (g : Group) → pass_faults m (pass_of g) ≡ group_faults m g
  unfolding pass_faults is_reported pass_of group_faults
  faults-is g = refl

  faults-append : (fs gs : List Group) → groups_faults m (fs ++ gs) ≡ groups_faults m fs ++ groups_faults m gs
  unfolding groups_faults
  faults-append [] gs = refl
  faults-append (f ∷ fs) gs = rw (faults-append fs gs) (sym (append_assoc (group_faults m f) (groups_faults m fs) (groups_faults m gs)))

  faults-last : (fs : List Group) (g : Group) → groups_faults m (fs ++ (g ∷ [])) ≡ groups_faults m fs ++ group_faults m g
  unfolding groups_faults
  faults-last fs g = faults-append fs (g ∷ []) ∙ rw (append-nil (group_faults m g))

-- of the sorted members y and those behind it, i of these are taken in: the runs before the open one are reported, and p is kept of that; n is the number of members
pub record MembersPassed (m : Model) (n y : ℕ) (ys : List ℕ) (r₀ r : Report) (p : Pass) (i : ℕ) : Type 0 where
  pub group : Group
  pub done : List Group
  pub first : p.first < n
  pub more : p.members ≤ i + 1
  pub is : p ≡ pass_of m group
  pub put : Puts i (groups_faults m done) r₀ r
  pub split : runs_from (member_key m) (alone y) ys ≡ done ++ runs_from (member_key m) group (drop i ys)

pub no-runs : (m : Model) (xs : List ℕ) {n : ℕ} {r : Report} → length xs ≡ 0 → Puts n (groups_faults m (runs (member_key m) xs)) r r
unfolding runs groups_faults
no-runs m [] h = puts-none
no-runs m (x ∷ xs) h = absurd (omega arith)

module _ (m : Model) (n y : ℕ) (ys : List ℕ) where
  pub passed-start : {p : Pass} {r : Report} → p ≡ opened y (member_external m y) (member_range m y) → y < n → MembersPassed m n y ys r r p 0
  unfolding opened groups_faults
  passed-start {p} g h =
      let o : p.members ≡ 1 = ap (λ (z : Pass). z.members) g in
      let i : p.first ≡ y = ap (λ (z : Pass). z.first) g in
      record {
        group = alone y;
        done = [];
        first = rw i h;
        more = omega arith;
        is = g ∙ alone-is m y;
        put = puts-none;
        split = refl;
      }

module _ {m : Model} {n y : ℕ} {ys : List ℕ} {r₀ : Report} where
  pub passed-turn : {r r' : Report} {p q : Pass} {i : ℕ} → MembersPassed m n y ys r₀ r p i → Stepped m p (get_or ys i 0) r r' q → get_or ys i 0 < n → i < length ys → MembersPassed m n y ys r₀ r' q (i + 1)
  unfolding runs_from grown opened same_key pass_of
  passed-turn {r} {r'} {p} {q} {i} v s a h = go (same_key m p.first x) refl
    where
      g : Group
      g = v.group

      x : ℕ
      x = get_or ys i 0

      f : g.first ≡ p.first
      f = sym (ap (λ (z : Pass). z.first) v.is)

      test : (t : Bool) → same_key m p.first x ≡ t → is_equal (order (member_key m g.first) (member_key m x)) ≡ t
      test t e = ap (λ y. is_equal (order (member_key m y) (member_key m x))) f ∙ e

      faults : pass_faults m p ≡ group_faults m g
      faults = ap (pass_faults m) v.is ∙ faults-is m g

      cut : runs_from (member_key m) (alone y) ys
          ≡ v.done ++ cond (is_equal (order (member_key m g.first) (member_key m x))) (runs_from (member_key m) (joined g x) (drop (i + 1) ys)) (g ∷ runs_from (member_key m) (alone x) (drop (i + 1) ys))
      cut = v.split ∙ rw (drop-cons ys i 0 h, add-one i)

      go : (t : Bool) → same_key m p.first x ≡ t → MembersPassed m n y ys r₀ r' q (i + 1)
      go true t =
          let o : q ≡ grown p (member_external m x) (member_range m x) = rw t at s.next in
          let k : q.first ≡ p.first = ap (λ (z : Pass). z.first) o in
          let u : Puts 1 [] r r' = rw t at s.put in
          record {
            group = joined g x;
            done = v.done;
            first = rw k v.first;
            more = omega (arith, v.more, s.more);
            is = o ∙ ap (λ z. grown z (member_external m x) (member_range m x)) v.is ∙ joined_is m g x;
            put = rw (append-nil (groups_faults m v.done)) at (puts-then v.put u);
            split = cut ∙ rw (test true t);
          }
      go false t =
          let o : q ≡ opened x (member_external m x) (member_range m x) = rw t at s.next in
          let k : q.first ≡ x = ap (λ (z : Pass). z.first) o in
          let u : Puts 1 (pass_faults m p) r r' = rw t at s.put in
          record {
            group = alone x;
            done = v.done ++ (g ∷ []);
            first = rw k a;
            more = omega (arith, v.more, s.more);
            is = o ∙ alone-is m x;
            put = rw (faults-last m v.done g) (puts-then v.put (rw faults at u));
            split = cut ∙ rw (test false t) (sym (append_assoc v.done (g ∷ []) (runs_from (member_key m) (alone x) (drop (i + 1) ys))));
          }

-- the first of the members, and those behind it, are members
module _ {n y : ℕ} {xs ys : List ℕ} (a : AllMembers n xs) (e : xs ≡ y ∷ ys) where
  pub member-first : y < n
  member-first = let h : 0 < length xs = omega (arith, ap length e) in rw e at (a.at 0 h)

  pub member-next : (i : ℕ) → i < length ys → get_or ys i 0 < n
  member-next i k = let h : suc i < length xs = omega (arith, ap length e) in rw e at (a.at (suc i) h)

module _ {m : Model} {n y : ℕ} {ys xs : List ℕ} {r₀ r : Report} {p : Pass} {i : ℕ} (v : MembersPassed m n y ys r₀ r p i) (e : xs ≡ y ∷ ys) where
  long : length xs ≡ length ys + 1
  long = omega (arith, ap length e)

  pub passed-small : length xs < short_range → i ≤ length ys → p.members < short_range
  passed-small h k = omega (arith, long, v.more)

  pub passed-room : Room (length xs) r₀ → i ≤ length ys → Room 1 r
  passed-room h k = room-behind 1 (length xs) v.put h (omega (arith, long))

  pub passed-end : {r' : Report} → Puts 1 (pass_faults m p) r r' → i ≡ length ys → Puts (length xs) (groups_faults m (runs (member_key m) xs)) r₀ r'
  unfolding runs runs_from
  passed-end {r'} u h =
      let g = v.group in
      let faults : pass_faults m p ≡ group_faults m g = ap (pass_faults m) v.is ∙ faults-is m g in
      let k : length ys ≤ i = omega arith in
      let cut : runs_from (member_key m) (alone y) ys ≡ v.done ++ (g ∷ []) = v.split ∙ rw (drop_of_length-le ys k) in
      let w : Puts (length xs) (groups_faults m v.done ++ group_faults m g) r₀ r' = puts-within v.put (rw faults at u) (omega (arith, long)) in
      let q : runs (member_key m) xs ≡ runs_from (member_key m) (alone y) ys = rw e in
      rw (q, cut, faults-last m v.done g) w
