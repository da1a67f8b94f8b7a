-- Laws of what is left of the fields in a loop over all of them, of where they stop, and of what framing and a search for the first that passes a test have found.
use Prim.Native.Nat.{ℕ, zero, suc, ◌<◌, ◌≤◌}
use mathlib.Core.Path.{◌≡◌, refl, sym, ap, ◌∙◌}
use mathlib.Core.Bool.{Bool, true, false, cond}
use mathlib.Core.List.{List, [], ◌∷◌, Memᴰ}
use lib.Dec.{leb}
use lib.ListN.{length}
use borrow.Author.Tests.{lt-ltb, le-ltb}
use Rattle.std.specs.Prelude.{Option, None, Some, Ok, Err}
use Rattle.std.specs.Option.{option_or}
use Rattle.std.specs.Bool.{then_some}
use Rattle.numbers.specs.Bytes.{byte}
use Rattle.oce_model.specs.Image.{field_at, field_end, fields, fields_from, first, ord_of, stop, stop_from}
use Rattle.oce_model.specs.Refusals.{bad_tag}
use Rattle.oce_model.specs.declared.Field.{Field}
use Rattle.oce_model.proofs.Fields.{first-here, first-later}
use Rattle.oce_model.proofs.Places.{field-end}
use Rattle.image_framing.specs.Walk.{Tests, end_of, framed, stop_after}

-- ---- what is left

-- a loop over the fields of an image has some of them before it
pub record Left (s : List ℕ) (rest : List Field) : Type 0 where
  pub among : (f : Field) → Memᴰ f rest → Memᴰ f (fields s)

pub left-all : (s : List ℕ) → Left s (fields s)
left-all s = record { among = λ f m. m }

module _ {s : List ℕ} {f : Field} {rest later : List Field} (v : Left s rest) (e : rest ≡ f ∷ later) where
  pub left-next : Left s later
  left-next = record { among = λ g m. v.among g (rw e (Memᴰ.tail m)) }

  -- each ends within the image
  pub left-fits : end_of f ≤ length s
  left-fits = field-end s f (v.among f (rw e (Memᴰ.head refl)))

-- ---- where they stop

stop-from : (k : ℕ) (s : List ℕ) (at prev n : ℕ) → stop_after at (fields_from k s at prev n) ≡ stop_from k s at
unfolding fields_from stop_from field_at field_end
stop-from zero s at prev n = refl
stop-from (suc k) s at prev n = arm (leb (field_end s at) (length s)) (stop-from k s (field_end s at) (byte s at) (suc (ord_of prev n (byte s at))))
  where
    o : ℕ
    o = ord_of prev n (byte s at)

    rest : List Field
    rest = fields_from k s (field_end s at) (byte s at) (suc o)

    arm : (b : Bool) → stop_after (field_end s at) rest ≡ stop_from k s (field_end s at) → stop_after at (cond b (field_at s at prev o ∷ rest) []) ≡ cond b (stop_from k s (field_end s at)) at
    arm true ih = ih
    arm false ih = refl

-- the last of the fields passed ends at end
pub record Stopping (s : List ℕ) (rest : List Field) (end : ℕ) : Type 0 where
  pub stops : stop_after end rest ≡ stop s

pub stopping-start : {s : List ℕ} {rest : List Field} → rest ≡ fields s → Stopping s rest 0
unfolding fields stop
stopping-start {s} e = record { stops = rw e (stop-from (length s) s 0 0 0) }

module _ {s : List ℕ} {rest : List Field} {end : ℕ} (v : Stopping s rest end) where
  pub stopping-next : {f : Field} {later : List Field} {end' : ℕ} → rest ≡ f ∷ later → end' ≡ end_of f → Stopping s later end'
  stopping-next {f} {later} e q = record { stops = ap (λ n. stop_after n later) q ∙ ap (stop_after end) (sym e) ∙ v.stops }

  -- where none is left, that is where the fields stop
  pub stopping-end : rest ≡ [] → stop s ≡ end
  stopping-end e = sym v.stops ∙ ap (stop_after end) e

-- ---- a search

-- none of the fields passed passes the test p
pub record Searching (p : Field → Bool) (s : List ℕ) (rest : List Field) : Type 0 where
  pub left : Left s rest
  pub same : first p rest ≡ first p (fields s)

pub searching-start : (p : Field → Bool) {s : List ℕ} {rest : List Field} → rest ≡ fields s → Searching p s rest
searching-start p {s} e = record { left = rw e (left-all s); same = ap (first p) e }

module _ {p : Field → Bool} {s : List ℕ} {rest : List Field} (v : Searching p s rest) where
  module _ {f : Field} {later : List Field} (e : rest ≡ f ∷ later) where
    pub searching-fits : end_of f ≤ length s
    searching-fits = left-fits v.left e

    module _ {b : Bool} (t : b ≡ p f) where
      pub searching-next : b ≡ false → Searching p s later
      searching-next u = record { left = left-next v.left e; same = sym (first-later p f later (sym t ∙ u)) ∙ ap (first p) (sym e) ∙ v.same }

      pub searching-found : b ≡ true → Some f.at ≡ first p (fields s)
      searching-found u = sym (sym v.same ∙ ap (first p) e ∙ first-here p f later (sym t ∙ u))

  pub searching-none : rest ≡ [] → first p (fields s) ≡ None
  unfolding first
  searching-none e = sym v.same ∙ ap (first p) e

  pub searching-end : rest ≡ [] → None ≡ first p (fields s)
  searching-end e = sym (searching-none e)

-- the same of any test that calls make
pub record Hunting (answers : Field → Bool → Type 0) (s : List ℕ) (rest : List Field) : Type 0 where
  pub left : Left s rest
  pub same : (p : Field → Bool) → Tests answers s p → first p rest ≡ first p (fields s)

module _ {answers : Field → Bool → Type 0} {s : List ℕ} {rest : List Field} where
  pub hunting-start : rest ≡ fields s → Hunting answers s rest
  hunting-start e = record { left = rw e (left-all s); same = λ p t. ap (first p) e }

  module _ (v : Hunting answers s rest) where
    search-of : (p : Field → Bool) → Tests answers s p → Searching p s rest
    search-of p t = record { left = v.left; same = v.same p t }

    module _ {f : Field} {later : List Field} (e : rest ≡ f ∷ later) where
      pub hunting-fits : end_of f ≤ length s
      hunting-fits = left-fits v.left e

      module _ {b : Bool} (a : answers f b) where
        pub hunting-next : b ≡ false → Hunting answers s later
        hunting-next u = record { left = left-next v.left e; same = λ p t. (searching-next (search-of p t) e (t f b hunting-fits a) u).same }

        pub hunting-found : b ≡ true → (p : Field → Bool) → Tests answers s p → Some f.at ≡ first p (fields s)
        hunting-found u p t = searching-found (search-of p t) e (t f b hunting-fits a) u

    pub hunting-end : rest ≡ [] → (p : Field → Bool) → Tests answers s p → None ≡ first p (fields s)
    hunting-end e p t = searching-end (search-of p t) e

-- ---- framing

-- bad is the first bad tag of the fields passed
pub record Framing (s : List ℕ) (rest : List Field) (bad : Option ℕ) (end : ℕ) : Type 0 where
  pub left : Left s rest
  pub stopping : Stopping s rest end
  pub found : option_or bad (first bad_tag rest) ≡ first bad_tag (fields s)

pub framing-start : {s : List ℕ} {rest : List Field} → rest ≡ fields s → Framing s rest None 0
framing-start {s} e = rw e (record { left = left-all s; stopping = stopping-start refl; found = refl })

one_more : (bad : Option ℕ) (f : Field) (l : List Field) → option_or (option_or bad (then_some (bad_tag f) f.at)) (first bad_tag l) ≡ option_or bad (first bad_tag (f ∷ l))
unfolding first
one_more (Some at) f l = refl
one_more None f l = arm (bad_tag f)
  where
    arm : (b : Bool) → option_or (then_some b f.at) (first bad_tag l) ≡ cond b (Some f.at) (first bad_tag l)
    arm true = refl
    arm false = refl

none_more : (bad : Option ℕ) → option_or bad None ≡ bad
none_more (Some at) = refl
none_more None = refl

module _ {s : List ℕ} {rest : List Field} {bad : Option ℕ} {end : ℕ} (v : Framing s rest bad end) where
  module _ {f : Field} {later : List Field} (e : rest ≡ f ∷ later) where
    pub framing-fits : end_of f ≤ length s
    framing-fits = left-fits v.left e

    pub framing-next : {b : Bool} {o bad' : Option ℕ} {end' : ℕ} → b ≡ bad_tag f → o ≡ then_some b f.at → bad' ≡ option_or bad o → end' ≡ end_of f → Framing s later bad' end'
    framing-next t p q r = record {
      left = left-next v.left e;
      stopping = stopping-next v.stopping e r;
      found = rw (q, p, t) (one_more bad f later) ∙ ap (λ l. option_or bad (first bad_tag l)) (sym e) ∙ v.found;
    }

  module _ (e : rest ≡ []) where
    pub framing-cut : end < length s → Err end ≡ framed s
    unfolding framed
    framing-cut h = sym (rw (stopping-end v.stopping e, lt-ltb end (length s) h) refl)

    pub framing-whole : length s ≤ end → Ok bad ≡ framed s
    unfolding framed first
    framing-whole h =
        let found : bad ≡ first bad_tag (fields s) = sym (none_more bad) ∙ ap (λ l. option_or bad (first bad_tag l)) (sym e) ∙ v.found in
        sym (rw (stopping-end v.stopping e, le-ltb end (length s) h, ← found) refl)
