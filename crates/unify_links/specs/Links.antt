-- Links, which join slots to the roots of their clusters (FORMAT 15), and lists of them. The links have one numbering: the connections, and behind them the boundary outputs.
use Rattle.std.specs.Prelude.{Option}
use Rattle.std.specs.Prelude.{None, Some}
use Rattle.std.specs.Prelude.{ℕ, ◌+◌, ◌-◌, ◌≤◌, ◌<◌, ◌≡◌, Bool, false, cond, List, ◌∷◌, length, get_or, eqb, ltb}
use Rattle.base.specs.Lists.{each, only}
use Rattle.oce_model.specs.Model.{Connection, BoundaryOutput, Model, connection, boundary_output, connector_count, connection_count, boundary_output_count}
use Rattle.unify.specs.Clusters.{drives, sound, driven}
use Rattle.unify_slots.specs.Slots.{slot_count, Inside}
use Rattle.oce_model.specs.declared.ConnectorId.{ConnectorId}

abbrev pub link_count : Model → ℕ
link_count m = connection_count m + boundary_output_count m

-- connector r as a root
abbrev pub root_at : ℕ → Option ConnectorId
root_at r = Some (record { 0 = r })

-- the root that a link belongs to, if any
unfoldable pub connection_root : Model → Connection → Option ConnectorId
connection_root m k = cond (drives m k) (root_at k.from) None

unfoldable pub output_root : Model → BoundaryOutput → Option ConnectorId
output_root m o = cond (sound m o) (root_at o.source) None

unfoldable pub root_of : Model → ℕ → Option ConnectorId
root_of m k = cond (ltb k (connection_count m)) (connection_root m (connection m k)) (output_root m (boundary_output m (k - connection_count m)))

-- the slot that it leads to
unfoldable pub target_of : Model → ℕ → ℕ
target_of m k = cond (ltb k (connection_count m)) (connection m k).to (connector_count m + (k - connection_count m))

-- a link with this root belongs to connector r
abbrev pub belongs : Option ConnectorId → ℕ → Bool
belongs None r = false
belongs (Some root) r = eqb root.0 r

-- what link k adds to root r's cluster
unfoldable pub member : Model → ℕ → ℕ → List ℕ
member m r k = only (belongs (root_of m k) r) (target_of m k)

-- ---- links in lists: `head` has the first link of each root, `next` the one behind each link

-- no root has a link yet
pub record Empty (m : Model) (head : List (Option ℕ)) : Type 0 where
  pub none : (r : ℕ) → r < connector_count m → get_or head r None ≡ None

-- a link's number, or the number of links where there is none
abbrev pub place : Model → Option ℕ → ℕ
place m None = link_count m
place m (Some k) = k

-- o is the first link of root r from link i on, if there is one
pub record Leads (m : Model) (r i : ℕ) (o : Option ℕ) : Type 0 where
  pub hits : (k : ℕ) → o ≡ Some k → (i ≤ k) × (k < link_count m) × (root_of m k ≡ root_at r)
  pub found : each (place m o) (member m r) ≡ each i (member m r)

-- the lists have all links from i on
pub record Linked (m : Model) (i : ℕ) (head next : List (Option ℕ)) : Type 0 where
  pub heads : (r : ℕ) → r < connector_count m → Leads m r i (get_or head r None)
  pub nexts : (k r : ℕ) → i ≤ k → k < link_count m → root_of m k ≡ root_at r → Leads m r (k + 1) (get_or next k None)
  pub room : connector_count m ≤ length head
  pub room' : link_count m ≤ length next

-- the members are the cluster of r
pub record Gathered (m : Model) (r : ℕ) (members : List ℕ) : Type 0 where
  pub cluster : members ≡ r ∷ driven m r
  pub inside : Inside (slot_count m) members
  pub few : length members ≤ link_count m + 1
