-- Laws of the column of in-degrees, one portion of connections more at a time.
use Prim.Native.Nat.{ℕ, ◌+◌, ◌<◌, ◌≤◌}
use native.Mathlib.Decide.{dec_lt}
use native.Mathlib.Omega.{arith}
use mathlib.Core.Path.{◌≡◌, sym, ap, ◌∙◌}
use mathlib.Core.List.{List}
use lib.Dec.{eqb}
use lib.ListN.{length, get_or, replicate, length-replicate, get_or-eq_default}
use Rattle.std.proofs.lemmas.List.{get_or-replicate}
use Rattle.oce_model.specs.Format.{most_connections}
use borrow.Author.Tests.{lt-ltb, le-ltb}
use Rattle.base.specs.Lists.{tally}
use Rattle.base.proofs.Lists.{tally-add, tally-same, tally-le}
use Rattle.oce_model.specs.Model.{Model, connection, connector_count, connection_count}
use Rattle.oce_model.specs.declared.Connection.{Connection}
use Rattle.structural.specs.Degrees.{degree}
use Rattle.image_records.specs.Records.{connection_read}
use Rattle.structural_degrees.specs.Counted.{absent, counted, Spare}
use Rattle.structural_degrees.proofs.Counting.{counted-length, counted-at}
use Rattle.structural_degrees.specs.Columns.{Reads, Counts, Degrees}

pub counts_start : {m : Model} {ds : List ℕ} (n : ℕ) → ds ≡ replicate n 0 → Counts m 0 ds
unfolding tally
counts_start n e = rw e (record { each = λ i l. get_or-replicate n i 0 0 (rw length-replicate at l) })

module _ {m : Model} {k : ℕ} {ds : List ℕ} (h : Counts m k ds) where
  -- no place holds more than k
  counts-few : (i : ℕ) → get_or ds i 0 ≤ k
  counts-few i = arm (dec_lt i (length ds))
    where
      arm : Dec (i < length ds) → get_or ds i 0 ≤ k
      arm (yes l) = let e = h.each i l in let f = tally-le k (λ j. eqb (connection m j).to i) in omega arith
      arm (no l) = let e : get_or ds i 0 ≡ 0 = get_or-eq_default ds 0 (omega arith) in omega arith

  module _ {list : List Connection} {ds' : List ℕ} (r : Reads m k (length list) list) (e : ds' ≡ counted ds list (length list)) where
    pub counts-length : length ds' ≡ length ds
    counts-length = ap length e ∙ counted-length ds list (length list)

    -- a portion after the first k
    pub counts-portion : {t : ℕ} → t ≡ k + length list → Counts m t ds' × (length ds' ≡ length ds)
    unfolding connection_read
    counts-portion z = (rw z (record { each = go }), counts-length)
      where
        go : (i : ℕ) → i < length ds' → get_or ds' i 0 ≡ tally (k + length list) (λ j. eqb (connection m j).to i)
        go i l =
            let inside : i < length ds = (let s = counts-length in omega arith) in
            ap (λ xs. get_or xs i 0) e ∙ counted-at ds list (length list) i inside
            ∙ rw (h.each i inside, tally-same (length list) (λ j. eqb (get_or list j absent).to.0 i) (λ j. eqb (connection m (k + j)).to i) (λ j q. ap (λ (c : Connection). eqb c.to.0 i) (r.each j q)))
            (sym (tally-add k (length list) (λ j. eqb (connection m j).to i)))

  -- each place can grow by n more
  pub counts-spare : {n : ℕ} → k + n ≤ most_connections → Spare ds n
  counts-spare q = record { at = λ j. let f = counts-few j in omega arith }

  -- all connections are counted
  pub counts_all : k ≡ connection_count m → connector_count m ≤ length ds → Degrees m ds
  unfolding degree
  counts_all p r = record { room = r; each = go }
    where
      go : (i : ℕ) → i < connector_count m → get_or ds i 0 ≡ degree m i
      go i b =
          let inside : i < length ds = omega arith in
          h.each i inside ∙ rw (lt-ltb i (connector_count m) b, p)

-- what stands at an id: none where that is no connector's number
pub degree-at : {m : Model} {ds : List ℕ} → Degrees m ds → length ds ≡ connector_count m → (id : ℕ) → get_or ds id 0 ≡ degree m id
unfolding degree
degree-at {m} {ds} d e id = arm (dec_lt id (connector_count m))
  where
    arm : Dec (id < connector_count m) → get_or ds id 0 ≡ degree m id
    arm (yes l) = d.each id l
    arm (no n) = get_or-eq_default ds 0 (omega arith) ∙ rw (le-ltb id (connector_count m) (omega arith))
