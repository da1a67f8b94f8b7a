-- Laws of `counted`, one connection more at a time.
use Prim.Native.Nat.{ℕ, ◌+◌, ◌<◌, ◌≤◌, ◌^◌}
use native.Mathlib.Nat.{add_assoc, add-zero}
use native.Mathlib.Omega.{arith}
use mathlib.Core.Path.{◌≡◌, refl, sym, ap, ◌∙◌}
use mathlib.Core.List.{List, [], ◌∷◌}
use lib.Dec.{eqb}
use lib.ListN.{length, get_or, set, take}
use lib.Seq.{get_or-take}
use borrow.Author.Tests.{eq-eqb, ne_eqb}
use Rattle.base.specs.Lists.{tally}
use Rattle.base.proofs.Lists.{each_same, length-tab, get_or-tab, tab-get_or, set-tab, tally-yes, tally-no, tally-same, tally-le}
use Rattle.oce_model.specs.declared.Connection.{Connection}
use Rattle.structural_degrees.specs.Counted.{absent, lead_to, counted, Spare}

-- where connection i leads
abbrev pub to : List Connection → ℕ → ℕ
to cs i = (get_or cs i absent).to.0

-- one connection more, which leads to j or not
more : (cs : List Connection) (i j : ℕ) → to cs i ≡ j → lead_to cs (i + 1) j ≡ lead_to cs i j + 1
more cs i j e = tally-yes i (λ k. eqb (to cs k) j) (eq-eqb (to cs i) j e)

same : (cs : List Connection) (i j : ℕ) → (to cs i ≡ j → ⊥) → lead_to cs (i + 1) j ≡ lead_to cs i j
same cs i j h = tally-no i (λ k. eqb (to cs k) j) (ne_eqb (to cs i) j h)

pub counted-length : (ds : List ℕ) (cs : List Connection) (n : ℕ) → length (counted ds cs n) ≡ length ds
unfolding counted
counted-length ds cs n = length-tab (length ds) _

-- what stands at one place
pub counted-at : (ds : List ℕ) (cs : List Connection) (n j : ℕ) → j < length ds → get_or (counted ds cs n) j 0 ≡ get_or ds j 0 + lead_to cs n j
unfolding counted
counted-at ds cs n j h = get_or-tab (length ds) _ j 0 h

-- none counted yet
pub counted_none : (ds : List ℕ) (cs : List Connection) → counted ds cs 0 ≡ ds
unfolding counted tally
counted_none ds cs = each_same (length ds) _ _ (λ j h. ap (λ x. x ∷ []) (add-zero (get_or ds j 0))) ∙ tab-get_or ds 0

-- a connection to one of the places raises that one
grown : (ds : List ℕ) (cs : List Connection) (i : ℕ) → to cs i < length ds → get_or ds (to cs i) 0 + lead_to cs (i + 1) (to cs i) ≡ get_or (counted ds cs i) (to cs i) 0 + 1
grown ds cs i l =
    ap (λ x. get_or ds (to cs i) 0 + x) (more cs i (to cs i) refl) ∙ sym (add_assoc (get_or ds (to cs i) 0) (lead_to cs i (to cs i)) 1)
    ∙ ap (λ x. x + 1) (sym (counted-at ds cs i (to cs i) l))

pub counted-more : (ds : List ℕ) (cs : List Connection) (i : ℕ) → to cs i < length ds → set (counted ds cs i) (to cs i) (get_or (counted ds cs i) (to cs i) 0 + 1) ≡ counted ds cs (i + 1)
unfolding counted
counted-more ds cs i l = sym (set-tab (length ds) _ _ (to cs i) _ l (grown ds cs i l) (λ j n. ap (λ x. get_or ds j 0 + x) (same cs i j (λ e. n (sym e)))))

-- one to none of them changes nothing
pub counted_same : (ds : List ℕ) (cs : List Connection) (i : ℕ) → length ds ≤ to cs i → counted ds cs i ≡ counted ds cs (i + 1)
unfolding counted
counted_same ds cs i l = each_same (length ds) _ _ (λ j h. ap (λ x. (get_or ds j 0 + x) ∷ []) (sym (same cs i j (λ e. absurd (omega arith)))))

-- what is counted so far leaves room for one more
pub room-left : (ds : List ℕ) (cs : List Connection) (i j : ℕ) → Spare ds (length cs) → i < length cs → j < length ds → get_or (counted ds cs i) j 0 + 1 < 2 ^ 32
room-left ds cs i j spare h l =
    let is : get_or (counted ds cs i) j 0 ≡ get_or ds j 0 + lead_to cs i j = counted-at ds cs i j l in
    let few : lead_to cs i j ≤ i = tally-le i (λ k. eqb (to cs k) j) in
    let fits : get_or ds j 0 + length cs < 2 ^ 32 = spare.at j in
    omega (arith, is, few, fits)

-- the first n of a list, counted, are the list's first n
pub counted-take : (ds : List ℕ) (cs : List Connection) (n : ℕ) → counted ds (take n cs) n ≡ counted ds cs n
unfolding counted
counted-take ds cs n = each_same (length ds) _ _ (λ j h. ap (λ x. (get_or ds j 0 + x) ∷ []) (tally-same n _ _ (λ k l. ap (λ (c : Connection). eqb c.to.0 j) (get_or-take n cs k absent l))))
