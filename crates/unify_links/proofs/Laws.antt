-- Laws of links and their lists.
use Rattle.std.specs.Prelude.{Option}
use Rattle.std.specs.Prelude.{None, Some, is_some}
use Rattle.std.specs.Bool.{then_some}
use Prim.Native.Nat.{ℕ, zero, suc, ◌+◌, ◌-◌, ◌≤◌, ◌<◌}
use native.Mathlib.Numerals.{add-one}
use native.Mathlib.Decide.{dec_lt, ℕ_discrete}
use native.Mathlib.Omega.{arith}
use mathlib.Core.Path.{◌≡◌, refl, sym, ap, ◌∙◌}
use mathlib.Core.Bool.{Bool, true, false, cond, not, ◌&&◌}
use mathlib.Core.List.{List, [], ◌∷◌, ◌++◌, append-nil}
use lib.Dec.{eqb, ltb}
use lib.ListN.{length, get_or, set, take, length-set, length-append, get_or-append}
use lib.Seq.{get_or-set_same, get_or-set_other, get_or-append_seam, take-suc-set, length-take-le}
use borrow.Author.Tests.{eq-eqb, ne_eqb, lt-ltb, le-ltb, ltb-true, ltb-false}
use Rattle.base.specs.Lists.{each, only}
use Rattle.base.proofs.Lists.{and_parts, each_next, each-add, each_same}
use Rattle.oce_model.specs.Model.{Connection as ModelConnection, BoundaryOutput, Model, connector, connection, boundary_output, connector_count, connection_count, boundary_output_count, is_connector, inwards, is_in, kind_number}
use Rattle.oce_model.specs.declared.Attrs.{Attrs}
use Rattle.oce_model.proofs.Records.{inwards_is}
use Rattle.oce_model.specs.declared.Connection.{Connection}
use Rattle.oce_model.specs.declared.ConnectorId.{ConnectorId}
use Rattle.oce_model.specs.declared.ConnectorFront.{ConnectorFront}
use Rattle.oce_model.specs.declared.BoundaryOutputFront.{BoundaryOutputFront}
use Rattle.image_records.specs.Records.{connector_read, connection_read, output_read}
use Rattle.structural.specs.Structural.{in_range, matches}
use Rattle.structural.specs.Degrees.{degree}
use Rattle.unify.specs.Clusters.{drives, sound, target, alias, driven, is_root}
use Rattle.unify_slots.specs.Slots.{slot_count, Inside}
use Rattle.unify_links.specs.Links.{link_count, root_at, connection_root, output_root, root_of, target_of, belongs, member, Empty, place, Leads, Linked, Gathered}

-- ---- roots

-- a number for each root, and another for none
abbrev number : Option ConnectorId → ℕ
number None = 0
number (Some root) = suc root.0

same-root : {q r : ℕ} → root_at q ≡ root_at r → q ≡ r
same-root e = omega (arith, ap (λ (x : Option ConnectorId). number x) e)

no-root : {r : ℕ} → None ≡ root_at r → ⊥
no-root e = omega (arith, ap (λ (x : Option ConnectorId). number x) e)

-- ---- roots and targets, as code reads them

module _ (m : Model) {n : ℕ} (en : n ≡ connector_count m) where
  module _ (k : ℕ) {q : Connection} (eq : q ≡ connection_read (connection m k)) where
    same_from : q.from.0 ≡ (connection m k).from
    unfolding connection_read
    same_from = ap (λ (c : Connection). c.from.0) eq

    same-to : q.to.0 ≡ (connection m k).to
    unfolding connection_read
    same-to = ap (λ (c : Connection). c.to.0) eq

    pub connection-told : {b : Bool} {o : Option ConnectorId} → o ≡ then_some b q.from → b ≡ drives m (connection m k) → o ≡ connection_root m (connection m k)
    unfolding connection_root connection_read
    connection-told eo eb = eo ∙ rw (eb, eq) (arm (drives m (connection m k)))
      where
        arm : (b : Bool) → then_some b (connection_read (connection m k)).from ≡ cond b (root_at (connection m k).from) None
        arm true = refl
        arm false = refl

    pub connection-from : n ≤ q.from.0 → false ≡ drives m (connection m k)
    unfolding drives in_range
    connection-from a =
        let a' : connector_count m ≤ (connection m k).from = rw (en, same_from) at a in
        rw (le-ltb _ _ a')

    module _ (a : q.from.0 < n) {t : Bool} (et : t ≡ ltb q.to.0 n) where
      to-is : drives m (connection m k) ≡ (t && eqb (degree m q.to.0) 1)
      unfolding drives in_range
      to-is =
          let a' : (connection m k).from < connector_count m = rw (en, same_from) at a in
          rw (lt-ltb _ _ a', et, en, same-to)

      pub connection-to : t ≡ false → t ≡ drives m (connection m k)
      connection-to e = rw (to-is, e)

      pub connection-drives : t ≡ true → {d : ℕ} {b : Bool} → d ≡ degree m q.to.0 → b ≡ eqb d 1 → b ≡ drives m (connection m k)
      connection-drives e g eb = rw (to-is, e, ← g, eb)

  module _ (i : ℕ) {q : BoundaryOutputFront} (eq : q ≡ output_read (boundary_output m i)) where
    same_source : q.source.0 ≡ (boundary_output m i).source
    unfolding output_read
    same_source = ap (λ (o : BoundaryOutputFront). o.source.0) eq

    pub output-far : n ≤ q.source.0 → None ≡ output_root m (boundary_output m i)
    unfolding output_root sound
    output-far a =
        let a' : connector_count m ≤ (boundary_output m i).source = rw (en, same_source) at a in
        rw (le-ltb _ _ a')

    pub output-told : {b : Bool} {o : Option ConnectorId} → o ≡ then_some b q.source → b ≡ sound m (boundary_output m i) → o ≡ output_root m (boundary_output m i)
    unfolding output_root output_read
    output-told eo eb = eo ∙ rw (eb, eq) (arm (sound m (boundary_output m i)))
      where
        arm : (b : Bool) → then_some b (output_read (boundary_output m i)).source ≡ cond b (root_at (boundary_output m i).source) None
        arm true = refl
        arm false = refl

    module _ (a : q.source.0 < n) {c : ConnectorFront} (ec : c ≡ connector_read (connector m q.source.0)) where
      near : (boundary_output m i).source < connector_count m
      near = rw (en, same_source) at a

      same-dir : {t : Bool} → t ≡ inwards c.dir → t ≡ is_in (connector m (boundary_output m i).source)
      unfolding connector_read
      same-dir h = h ∙ ap (λ (c : ConnectorFront). inwards c.dir) ec ∙ inwards_is (connector m q.source.0) ∙ ap (λ (x : ℕ). is_in (connector m x)) same_source

      module _ {b t : Bool} (h : t ≡ inwards c.dir) where
        pub output-in : b ≡ not t → t ≡ true → b ≡ sound m (boundary_output m i)
        unfolding sound
        output-in eb e = eb ∙ rw (lt-ltb _ _ near, sym (same-dir h), e)

        pub output-sound : {w : Attrs} {u : Bool} → b ≡ u → t ≡ false → w ≡ (boundary_output m i).attrs
            → kind_number c.value_type ≡ (connector m q.source.0).value_type → u ≡ eqb w.kind (kind_number c.value_type) → b ≡ sound m (boundary_output m i)
        unfolding sound
        output-sound {u = u} eb d ew ek eu =
            let same-type : u ≡ eqb (boundary_output m i).attrs.kind (connector m (boundary_output m i).source).value_type = rw (ew, ek, same_source) at eu in
            eb ∙ rw (lt-ltb _ _ near, sym (same-dir h) ∙ d, sym same-type)

-- link k is a connection, or else a boundary output
module _ (m : Model) {n : ℕ} (en : n ≡ connection_count m) (k : ℕ) where
  pub root-connection : {r : Option ConnectorId} → k < n → r ≡ connection_root m (connection m k) → r ≡ root_of m k
  unfolding root_of
  root-connection a e =
      let a' : k < connection_count m = rw en at a in
      e ∙ rw (lt-ltb _ _ a')

  pub root-output : {r : Option ConnectorId} → n ≤ k → r ≡ output_root m (boundary_output m (k - n)) → r ≡ root_of m k
  unfolding root_of
  root-output a e =
      let a' : connection_count m ≤ k = rw en at a in
      e ∙ rw (le-ltb _ _ a', en)

  pub target-connection : {q : Connection} → k < n → q ≡ connection_read (connection m k) → q.to.0 ≡ target_of m k
  unfolding target_of connection_read
  target-connection a e =
      let a' : k < connection_count m = rw en at a in
      rw (lt-ltb _ _ a') (ap (λ (c : Connection). c.to.0) e)

  pub target-output : {c : ℕ} → n ≤ k → c ≡ connector_count m → c + (k - n) ≡ target_of m k
  unfolding target_of
  target-output a ec =
      let a' : connection_count m ≤ k = rw en at a in
      rw (le-ltb _ _ a', en, ec)

-- ---- the links of a root are its cluster

only-root : (b : Bool) (f r t : ℕ) → only (belongs (cond b (root_at f) None) r) t ≡ only (eqb f r && b) t
only-root true f r t = arm (eqb f r)
  where
    arm : (c : Bool) → only c t ≡ only (c && true) t
    arm true = refl
    arm false = refl
only-root false f r t = arm (eqb f r)
  where
    arm : (c : Bool) → [] ≡ only (c && false) t
    arm true = refl
    arm false = refl

module _ (m : Model) (r : ℕ) where
  member-connection : (k : ℕ) → k < connection_count m → member m r k ≡ target m r (connection m k)
  unfolding member root_of target_of connection_root target
  member-connection k l = rw (lt-ltb k (connection_count m) l) (only-root (drives m (connection m k)) (connection m k).from r (connection m k).to)

  member-output : (i : ℕ) → member m r (connection_count m + i) ≡ alias m r i (boundary_output m i)
  unfolding member root_of target_of output_root alias
  member-output i =
      let e : connection_count m + i - connection_count m ≡ i = omega arith in
      rw (le-ltb (connection_count m + i) (connection_count m) (omega arith), e)
      (only-root (sound m (boundary_output m i)) (boundary_output m i).source r (connector_count m + i))

  pub driven-same : each (link_count m) (member m r) ≡ driven m r
  unfolding driven
  driven-same =
      each-add (connection_count m) (boundary_output_count m) (member m r)
      ∙ rw (
        each_same (connection_count m) (member m r) (λ k. target m r (connection m k)) (λ k l. member-connection k l),
        each_same (boundary_output_count m) (λ i. member m r (connection_count m + i)) (λ i. alias m r i (boundary_output m i)) (λ i l. member-output i),
      )

-- ---- the lists

member-hit : (m : Model) (r k : ℕ) → root_of m k ≡ root_at r → member m r k ≡ target_of m k ∷ []
unfolding member
member-hit m r k e = rw (e, eq-eqb r r refl)

member-miss : (m : Model) (r k : ℕ) → (root_of m k ≡ root_at r → ⊥) → member m r k ≡ []
unfolding member
member-miss m r k n = arm (root_of m k) n
  where
    arm : (x : Option ConnectorId) → (x ≡ root_at r → ⊥) → only (belongs x r) (target_of m k) ≡ []
    arm None n = refl
    arm (Some root) n = rw (ne_eqb root.0 r (λ e. n (ap (λ (x : ℕ). root_at x) e)))

skip : (m : Model) (r k : ℕ) → (root_of m k ≡ root_at r → ⊥) → each (k + 1) (member m r) ≡ each k (member m r)
skip m r k n = each_next k (member m r) ∙ rw (member-miss m r k n, append-nil (each k (member m r)))

-- a connector that a link belongs to is a root
pub root-of-hit : (m : Model) (r k : ℕ) → k < link_count m → root_of m k ≡ root_at r → is_root m r ≡ true
unfolding is_root
root-of-hit m r k h e =
    let y = link_count m - (k + 1) in
    let split : link_count m ≡ (k + 1) + y = omega arith in
    let f = member m r in
    let some-member : driven m r ≡ (each k f ++ (target_of m k ∷ [])) ++ each y (λ i. f (k + 1 + i)) =
    sym (driven-same m r) ∙ ap (λ (x : ℕ). each x f) split ∙ each-add (k + 1) y f ∙ rw (each_next k f, member-hit m r k e) in
    lt-ltb 0 (length (driven m r))
    (rw some-member (rw (length-append (each k f ++ (target_of m k ∷ [])) (each y (λ i. f (k + 1 + i)))) (omega (arith, length-append (each k f) (target_of m k ∷ [])))))

-- one whose list is empty is none
pub root-of-none : (m : Model) (r : ℕ) → Leads m r 0 None → is_root m r ≡ false
unfolding is_root each
root-of-none m r v = rw (← driven-same m r, v.found)

-- a link of another root lies between
leads-past : (m : Model) (r i : ℕ) (o : Option ℕ) → (root_of m i ≡ root_at r → ⊥) → Leads m r (i + 1) o → Leads m r i o
leads-past m r i o n v = record {
  hits = λ k e. let h = v.hits k e in (omega arith, h.1, h.2);
  found = v.found ∙ skip m r i n;
}

leads-here : (m : Model) (r i : ℕ) → i < link_count m → root_of m i ≡ root_at r → Leads m r i (Some i)
leads-here m r i h e = record { hits = λ k q. let s : i ≡ k = cc in rw (← s) (omega arith, h, e); found = refl }

-- a link that belongs to no root
linked-skip : {m : Model} {k : ℕ} {head next : List (Option ℕ)} → Linked m (k + 1) head next → None ≡ root_of m k → Linked m k head next
linked-skip {m} {k} {head} {next} v none = record {
  heads = λ q l. leads-past m q k (get_or head q None) (λ e. no-root (none ∙ e)) (v.heads q l);
  nexts = λ i q g l y. arm i q g l y (ℕ_discrete i k);
  room = v.room;
  room' = v.room';
}
  where
    arm : (i q : ℕ) → k ≤ i → i < link_count m → root_of m i ≡ root_at q → Dec (i ≡ k) → Leads m q (i + 1) (get_or next i None)
    arm i q g l y (yes e) = absurd (no-root (none ∙ sym (ap (root_of m) e) ∙ y))
    arm i q g l y (no n) = v.nexts i q (omega arith) l y

-- a link that comes to the front of its root's list
linked-push : {m : Model} {k : ℕ} {head next head' next' : List (Option ℕ)} {r : ℕ} → Linked m (k + 1) head next → root_at r ≡ root_of m k → r < connector_count m → k < link_count m
    → head' ≡ set head r (Some k) → next' ≡ set next k (get_or head r None) → Linked m k head' next'
linked-push {m} {k} {head} {next} {head'} {next'} {r} v er h l eh en = record {
  heads = λ q y. rw eh (heads q y (ℕ_discrete q r));
  nexts = λ i q g y b. rw en (nexts i q g y b (ℕ_discrete i k));
  room = rw (eh, length-set head r (Some k)) v.room;
  room' = rw (en, length-set next k (get_or head r None)) v.room';
}
  where
    heads : (q : ℕ) → q < connector_count m → Dec (q ≡ r) → Leads m q k (get_or (set head r (Some k)) q None)
    heads q y (yes e) = rw (e, get_or-set_same head r (Some k) None (omega (arith, v.room))) (leads-here m r k l (sym er))
    heads q y (no n) = rw (get_or-set_other head r q (Some k) None n) (leads-past m q k (get_or head q None) (λ e. n (sym (same-root (er ∙ e)))) (v.heads q y))

    nexts : (i q : ℕ) → k ≤ i → i < link_count m → root_of m i ≡ root_at q → Dec (i ≡ k) → Leads m q (i + 1) (get_or (set next k (get_or head r None)) i None)
    nexts i q g y b (yes e) =
        let same : r ≡ q = same-root (er ∙ sym (ap (root_of m) e) ∙ b) in
        rw (e, get_or-set_same next k (get_or head r None) None (omega (arith, v.room')), ← same) (v.heads r h)
    nexts i q g y b (no n) = rw (get_or-set_other next k i (get_or head r None) None n) (v.nexts i q (omega arith) y b)

-- no link yet
pub linked-none : {m : Model} {n : ℕ} {head next : List (Option ℕ)} → Empty m head → connector_count m ≤ length head → link_count m ≤ length next → n ≡ link_count m → Linked m n head next
linked-none {m} {n} y h k e = record {
  heads = λ r g. rw (y.none r g) (record { hits = λ i q. absurd (cc); found = rw e });
  nexts = λ i r g b q. absurd (omega arith);
  room = h;
  room' = k;
}

-- the root of a connection is a connector, and so is what it leads to
connection-inside : (m : Model) (c : ModelConnection) (r : ℕ) → connection_root m c ≡ root_at r → (r < connector_count m) × (c.to < connector_count m)
unfolding connection_root drives in_range
connection-inside m c r e = arm (drives m c) refl e
  where
    arm : (b : Bool) → drives m c ≡ b → cond b (root_at c.from) None ≡ root_at r → (r < connector_count m) × (c.to < connector_count m)
    arm true d e =
        let both = and_parts (is_connector m c.from) (is_connector m c.to) (and_parts (in_range m c) _ d).0 in
        let there : c.from < connector_count m = ltb-true c.from (connector_count m) both.0 in
        (omega (arith, there, same-root e), ltb-true c.to (connector_count m) both.1)
    arm false d e = absurd (no-root e)

output-inside : (m : Model) (o : BoundaryOutput) (r : ℕ) → output_root m o ≡ root_at r → r < connector_count m
unfolding output_root sound
output-inside m o r e = arm (sound m o) refl e
  where
    arm : (b : Bool) → sound m o ≡ b → cond b (root_at o.source) None ≡ root_at r → r < connector_count m
    arm true d e =
        let there : o.source < connector_count m = ltb-true o.source (connector_count m) (and_parts (is_connector m o.source) _ (and_parts _ (matches o (connector m o.source)) d).0).0 in
        omega (arith, there, same-root e)
    arm false d e = absurd (no-root e)

-- the root of a link is a connector, and what it leads to a slot
module _ (m : Model) (k r : ℕ) (h : k < link_count m) (e : root_of m k ≡ root_at r) where
  root-inside : r < connector_count m
  unfolding root_of
  root-inside = arm (ltb k (connection_count m)) e
    where
      arm : (b : Bool) → cond b (connection_root m (connection m k)) (output_root m (boundary_output m (k - connection_count m))) ≡ root_at r → r < connector_count m
      arm true e = (connection-inside m (connection m k) r e).0
      arm false e = output-inside m (boundary_output m (k - connection_count m)) r e

  target-inside : target_of m k < slot_count m
  unfolding root_of target_of
  target-inside = arm (ltb k (connection_count m)) refl e
    where
      arm : (b : Bool) → ltb k (connection_count m) ≡ b → cond b (connection_root m (connection m k)) (output_root m (boundary_output m (k - connection_count m))) ≡ root_at r
          → cond b (connection m k).to (connector_count m + (k - connection_count m)) < slot_count m
      arm true t e = omega (arith, (connection-inside m (connection m k) r e).1)
      arm false t e = omega (arith, ltb-false k (connection_count m) t)

module _ {m : Model} {k : ℕ} {head next : List (Option ℕ)} (v : Linked m (k + 1) head next) {x : Option ConnectorId} (e : x ≡ root_of m k) where
  pub link-skip : x ≡ None → Linked m k head next
  link-skip n = linked-skip v (sym n ∙ e)

  module _ {root : ConnectorId} (of : x ≡ Some root) (b : k < link_count m) where
    there : root.0 < connector_count m
    there = root-inside m k root.0 b (sym e ∙ of)

    pub head-there : root.0 < length head
    head-there = omega (arith, there, v.room)

    pub link-push : {head' next' : List (Option ℕ)} → head' ≡ set head root.0 (Some k) → next' ≡ set next k (get_or head root.0 None) → Linked m k head' next'
    link-push eh en = linked-push v (sym of ∙ e) there b eh en

-- ---- gathering a cluster

inside_one : (s x : ℕ) → x < s → Inside s (x ∷ [])
inside_one s x h = record { each = go }
  where
    go : (i : ℕ) → i < 1 → get_or (x ∷ []) i 0 < s
    go zero l = h
    go (suc i) l = absurd (omega arith)

inside-more : (s : ℕ) (xs : List ℕ) (x : ℕ) → Inside s xs → x < s → Inside s (xs ++ (x ∷ []))
inside-more s xs x v h = record { each = λ i l. go i (dec_lt i (length xs)) l }
  where
    go : (i : ℕ) → Dec (i < length xs) → i < length (xs ++ (x ∷ [])) → get_or (xs ++ (x ∷ [])) i 0 < s
    go i (yes y) l = rw (get_or-append xs (x ∷ []) 0 i y) (v.each i y)
    go i (no y) l =
        let e : i ≡ length xs = omega (arith, length-append xs (x ∷ [])) in
        rw (e, get_or-append_seam xs x [] 0) h

-- the first c members are those before link o
pub record Gathers (m : Model) (r : ℕ) (members : List ℕ) (c : ℕ) (o : Option ℕ) : Type 0 where
  pub leads : (k : ℕ) → o ≡ Some k → (c ≤ k + 1) × (k < link_count m) × (root_of m k ≡ root_at r)
  pub found : take c members ≡ r ∷ each (place m o) (member m r)
  pub inside : Inside (slot_count m) (take c members)
  pub within : c ≤ link_count m + 1
  pub room : link_count m < length members

pub gathers-start : (m : Model) {r : ℕ} (members : List ℕ) {head next : List (Option ℕ)} → Linked m 0 head next → r < connector_count m
    → link_count m < length members → Gathers m r (set members 0 r) 1 (get_or head r None)
unfolding each
gathers-start m {r} members v h room =
    let d = v.heads r h in
    let q : take 1 (set members 0 r) ≡ r ∷ [] = take-suc-set members 0 r (omega arith) in
    record {
      leads = λ k e. let y = d.hits k e in (omega arith, y.1, y.2);
      found = q ∙ ap (λ (x : List ℕ). r ∷ x) (sym d.found);
      inside = rw q (inside_one (slot_count m) r (omega arith));
      within = omega arith;
      room = rw (length-set members 0 r) room;
    }

module _ {m : Model} {r : ℕ} {members : List ℕ} {c : ℕ} {o : Option ℕ} (g : Gathers m r members c o) where
  module _ {k : ℕ} (e : o ≡ Some k) where
    pub gathers-link : k < link_count m
    gathers-link = (g.leads k e).1

    pub gathers-room : c < length members
    gathers-room = omega (arith, (g.leads k e).0, (g.leads k e).1, g.room)

    pub gathers-turn : {head next : List (Option ℕ)} {t : ℕ} → t ≡ target_of m k → Linked m 0 head next → Gathers m r (set members c t) (c + 1) (get_or next k None)
    gathers-turn {next = next} {t = t} et v =
        let h = g.leads k e in
        let d = v.nexts k r (omega arith) h.1 h.2 in
        record {
          leads = λ j q. let y = d.hits j q in (omega (arith, h.0, y.0), y.1, y.2);
          found = joined ∙ ap (λ (x : List ℕ). r ∷ x) (sym d.found);
          inside = rw more (inside-more (slot_count m) (take c members) (target_of m k) g.inside (target-inside m k r h.1 h.2));
          within = omega (arith, h.0, h.1);
          room = rw (length-set members c t) g.room;
        }
      where
        more : take (c + 1) (set members c t) ≡ take c members ++ (target_of m k ∷ [])
        more = rw (et, add-one c) (take-suc-set members c (target_of m k) gathers-room)

        joined : take (c + 1) (set members c t) ≡ r ∷ each (k + 1) (member m r)
        joined = more ∙ rw (g.found, e, each_next k (member m r), member-hit m r k (g.leads k e).2)

    pub gathers-less : {head next : List (Option ℕ)} → Linked m 0 head next → link_count m - place m (get_or next k None) < link_count m - place m o
    gathers-less {next = next} v = rw e (arm (get_or next k None) (v.nexts k r (omega arith) (g.leads k e).1 (g.leads k e).2))
      where
        arm : (x : Option ℕ) → Leads m r (k + 1) x → link_count m - place m x < link_count m - k
        arm None d = omega (arith, (g.leads k e).1)
        arm (Some j) d = omega (arith, (d.hits j refl).0, (g.leads k e).1)

  -- all links are passed
  pub gathers-done : o ≡ None → Gathered m r (take c members)
  gathers-done e = record {
    cluster = g.found ∙ rw e (ap (λ (x : List ℕ). r ∷ x) (driven-same m r));
    inside = g.inside;
    few = rw (length-take-le c members (omega (arith, g.within, g.room))) g.within;
  }

-- ---- roots by their heads

pub root-headed : (m : Model) {head next : List (Option ℕ)} → Linked m 0 head next → (r : ℕ) → r < connector_count m → is_some (get_or head r None) ≡ is_root m r
root-headed m {head} v r h = arm (get_or head r None) (v.heads r h)
  where
    arm : (o : Option ℕ) → Leads m r 0 o → is_some o ≡ is_root m r
    arm None d = sym (root-of-none m r d)
    arm (Some k) d = let y = d.hits k refl in sym (root-of-hit m r k y.1 y.2)
