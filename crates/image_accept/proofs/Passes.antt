-- Passing the fields of an image that are good: what those passed tell of the next, and of the whole image once all are passed.
use Prim.Native.Nat.{ℕ, zero, suc, ◌<◌, ◌≤◌}
use native.Mathlib.Decide.{dec_le, ℕ_discrete}
use native.Mathlib.Omega.{arith}
use mathlib.Core.Logic.{◌≢◌, ◌⊎◌, inl, inr}
use mathlib.Core.Path.{◌≡◌, refl, sym, ap, ◌∙◌}
use mathlib.Core.Bool.{true≢false, Bool, true, false, cond, ◌&&◌, ◌||◌}
use mathlib.Core.List.Memᴰ
use mathlib.Core.List.{List, [], ◌∷◌, ◌++◌, append_assoc, append-nil, Memᴰ}
use lib.Dec.{eqb}
use lib.ListN.{length, length-append}
use borrow.Author.Tests.{eqb-true, eqb-false, leb-false, ne_eqb, eq-eqb, le-ltb}
use Rattle.std.specs.Prelude.{None}
use Rattle.base.proofs.Lists.{or_parts}
use Rattle.oce_model.specs.Format.{block_tag, boundary_input_tag, boundary_output_tag, connector_tag, most, text_tag, shortest_image, longest_image}
use Rattle.oce_model.specs.Image.{fields, of_tag, ord_of, stop}
use Rattle.oce_model.specs.Refusals.{attrs_offset, bad_contents, bad_length, bad_reference, bad_tag, bad_text, fault, refusal, refusals_from, tag_is_bad, too_many}
use Rattle.oce_model.specs.declared.Field.{Field}
use Rattle.oce_model.proofs.Accepted.{Accepted, accepted}
use Rattle.oce_model.proofs.Fields.{first-none, none-mem}
use Rattle.image_sieve.specs.Faulty.{at_fault}
use Rattle.image_accept.specs.Surveyed.{Lined, Passing, texts}
use Rattle.image_accept.proofs.Lines.{ascends, lined-all, lower-none, mem-right, mem-snoc, more-here, more-not, past, tag-append, tag-none, tag-not}

unfoldable pub passing-start : (s : List ℕ) → Passing s [] (fields s)
passing-start s = record {
  split = refl;
  prev = 0;
  lined = rw (tag-none 0) (lined-all s);
  rising = λ g m. absurd (Memᴰ.not-nil m);
  few = λ t. rw (tag-none t) (omega arith);
  tags = λ g m. absurd (Memᴰ.not-nil m);
  quiet = λ g m. absurd (Memᴰ.not-nil m);
}

-- ---- tests

-- up to texts no text number is asked for
pub low-same : (n m : ℕ) (s : List ℕ) (f : Field) → f.tag ≤ text_tag → at_fault n s f ≡ at_fault m s f
unfolding at_fault bad_reference attrs_offset
low-same n m s f h =
    rw (
      ne_eqb f.tag block_tag (λ q. absurd (omega arith)),
      ne_eqb f.tag connector_tag (λ q. absurd (omega arith)),
      ne_eqb f.tag boundary_input_tag (λ q. absurd (omega arith)),
      ne_eqb f.tag boundary_output_tag (λ q. absurd (omega arith)),
    ) refl

pub not-many : (n : ℕ) (s : List ℕ) (f : Field) → at_fault n s f ≡ false → f.ord < most f.tag
unfolding at_fault too_many
not-many n s f h =
    leb-false (most f.tag) f.ord (or_parts (bad_length s f) _ (or_parts (bad_length s f || too_many f) _ (or_parts (bad_length s f || too_many f || bad_contents s f) _ (or_parts (bad_length s f || too_many f || bad_contents s f || bad_text s f) _ h).0).0).0).1

-- no tag may have many
pub most-small : (t : ℕ) → most t ≤ 2048
unfolding most
most-small zero = omega arith
most-small (suc zero) = omega arith
most-small (suc (suc zero)) = omega arith
most-small (suc (suc (suc zero))) = omega arith
most-small (suc (suc (suc (suc zero)))) = omega arith
most-small (suc (suc (suc (suc (suc zero))))) = omega arith
most-small (suc (suc (suc (suc (suc (suc zero)))))) = omega arith
most-small (suc (suc (suc (suc (suc (suc (suc zero))))))) = omega arith
most-small (suc (suc (suc (suc (suc (suc (suc (suc zero)))))))) = omega arith
most-small (suc (suc (suc (suc (suc (suc (suc (suc (suc t))))))))) = omega arith

-- a tag of which there may be two is good behind itself
again : (t o : ℕ) → o < most t → 1 ≤ o → tag_is_bad t t ≡ false
unfolding tag_is_bad most
again zero o h k = absurd (omega arith)
again (suc zero) o h k = absurd (omega arith)
again (suc (suc zero)) o h k = refl
again (suc (suc (suc zero))) o h k = refl
again (suc (suc (suc (suc zero)))) o h k = refl
again (suc (suc (suc (suc (suc zero))))) o h k = refl
again (suc (suc (suc (suc (suc (suc zero)))))) o h k = refl
again (suc (suc (suc (suc (suc (suc (suc zero))))))) o h k = refl
again (suc (suc (suc (suc (suc (suc (suc (suc zero)))))))) o h k = refl
again (suc (suc (suc (suc (suc (suc (suc (suc (suc t))))))))) o h k = absurd (omega arith)

-- ---- one more field

module _ {s : List ℕ} {done later : List Field} {f : Field} (v : Passing s done (f ∷ later)) where
  pub among : Memᴰ f (fields s)
  among = rw v.split (mem-right done (f ∷ later) f (Memᴰ.head refl))

  pub before : f.prev ≡ v.prev
  unfolding Lined
  before = v.lined.0

  order : f.ord ≡ ord_of v.prev (length (of_tag v.prev done)) f.tag
  unfolding Lined
  order = v.lined.1

  pub behind : Lined f.tag (suc f.ord) later
  unfolding Lined
  behind = v.lined.2

  -- where others of its tag stand right before it, its tag is good
  pub good-tag : f.ord < most f.tag → (eqb f.ord 0 && bad_tag f) ≡ false → bad_tag f ≡ false
  unfolding bad_tag
  good-tag h t = arm (eqb v.prev f.tag) refl order
    where
      first-of : f.ord ≡ 0 → (eqb f.ord 0 && tag_is_bad f.tag f.prev) ≡ false → tag_is_bad f.tag f.prev ≡ false
      first-of e t = rw (eq-eqb f.ord 0 e) at t

      side : Dec (f.ord ≡ 0) → f.prev ≡ f.tag → tag_is_bad f.tag f.prev ≡ false
      side (yes e) p = first-of e t
      side (no n) p = let one : 1 ≤ f.ord = omega arith in rw p (again f.tag f.ord h one)

      arm : (b : Bool) → eqb v.prev f.tag ≡ b → f.ord ≡ cond b (length (of_tag v.prev done)) 0 → tag_is_bad f.tag f.prev ≡ false
      arm true e o = side (ℕ_discrete f.ord 0) (before ∙ eqb-true v.prev f.tag e)
      arm false e o = first-of o t

  module _ (good : bad_tag f ≡ false) where
    pub rises : v.prev ≤ f.tag
    rises = let a = ascends f good in let b = before in omega arith

    -- so many of its tag stand before it
    pub count : f.ord ≡ length (of_tag f.tag done)
    count = arm (eqb v.prev f.tag) refl order
      where
        arm : (b : Bool) → eqb v.prev f.tag ≡ b → f.ord ≡ cond b (length (of_tag v.prev done)) 0 → f.ord ≡ length (of_tag f.tag done)
        arm true e o = o ∙ ap (λ t. length (of_tag t done)) (eqb-true v.prev f.tag e)
        arm false e o =
            let r = rises in
            let n = eqb-false v.prev f.tag e in
            let l : v.prev < f.tag = omega arith in
            o ∙ sym (ap length (lower-none f.tag done (λ g m. let k = v.rising g m in omega arith)))

    module _ (quiet : at_fault (texts done) s f ≡ false) where
      -- with the field, tests say what they said
      still : (g : Field) → g.tag ≤ f.tag → at_fault (texts done) s g ≡ false → at_fault (texts (done ++ (f ∷ []))) s g ≡ false
      still g l q = arm (ℕ_discrete f.tag text_tag)
        where
          arm : Dec (f.tag ≡ text_tag) → at_fault (texts (done ++ (f ∷ []))) s g ≡ false
          arm (yes e) = low-same _ (texts done) s g (omega arith) ∙ q
          arm (no n) = rw (more-not text_tag done f n) q

      more : (t : ℕ) → length (of_tag t (done ++ (f ∷ []))) ≤ most t
      more t = arm (ℕ_discrete f.tag t)
        where
          arm : Dec (f.tag ≡ t) → length (of_tag t (done ++ (f ∷ []))) ≤ most t
          arm (yes e) =
              let h : f.ord < most t = rw e at (not-many _ s f quiet) in
              let k : f.ord ≡ length (of_tag t done) = rw e at count in
              rw (more-here t done f e, length-append) (omega arith)
          arm (no n) = rw (more-not t done f n) (v.few t)

      line : Lined f.tag (length (of_tag f.tag (done ++ (f ∷ [])))) later
      line =
          let k = count in
          let e : length (of_tag f.tag (done ++ (f ∷ []))) ≡ suc f.ord = rw (more-here f.tag done f refl, length-append) (omega arith) in
          rw e behind

      pub passing-next : Passing s (done ++ (f ∷ [])) later
      passing-next = record {
        split = v.split ∙ sym (append_assoc done (f ∷ []) later);
        prev = f.tag;
        lined = line;
        rising = λ g m. up g (mem-snoc done f g m);
        few = more;
        tags = λ g m. sound g (mem-snoc done f g m);
        quiet = λ g m. calm g (mem-snoc done f g m);
      }
        where
          up : (g : Field) → Memᴰ g done ⊎ (g ≡ f) → g.tag ≤ f.tag
          up g (inl m) = let k = v.rising g m in let r = rises in omega arith
          up g (inr e) = rw e (omega arith)

          sound : (g : Field) → Memᴰ g done ⊎ (g ≡ f) → bad_tag g ≡ false
          sound g (inl m) = v.tags g m
          sound g (inr e) = rw e good

          calm : (g : Field) → Memᴰ g done ⊎ (g ≡ f) → at_fault (texts (done ++ (f ∷ []))) s g ≡ false
          calm g (inl m) = still g (up g (inl m)) (v.quiet g m)
          calm g (inr e) = rw e (still f (omega arith) quiet)

      pub passing-prev : passing-next.prev ≡ f.tag
      unfolding passing-next
      passing-prev = refl

  -- ---- of an accepted image

  module _ (a : Accepted s) where
    pub accepted-good : bad_tag f ≡ false
    accepted-good = none-mem bad_tag (fields s) a.tags f among

    whole-quiet : at_fault (texts (fields s)) s f ≡ false
    unfolding at_fault
    whole-quiet =
        rw (
          none-mem (bad_length s) (fields s) a.lengths f among,
          none-mem too_many (fields s) a.counts f among,
          none-mem (bad_contents s) (fields s) a.contents f among,
          none-mem (bad_text s) (fields s) a.texts f among,
          none-mem (bad_reference (texts (fields s)) s) (fields s) a.numbers f among,
        ) refl

    pub accepted-quiet : at_fault (texts done) s f ≡ false
    accepted-quiet = arm (dec_le f.tag text_tag)
      where
        all-good : (g : Field) → Memᴰ g later → bad_tag g ≡ false
        all-good g m = none-mem bad_tag (fields s) a.tags g (rw v.split (mem-right done (f ∷ later) g (Memᴰ.tail m)))

        arm : Dec (f.tag ≤ text_tag) → at_fault (texts done) s f ≡ false
        arm (yes l) = low-same (texts done) (texts (fields s)) s f l ∙ whole-quiet
        arm (no n) =
            let h : text_tag < f.tag = omega arith in
            let none : of_tag text_tag (f ∷ later) ≡ [] = tag-not text_tag f later (λ q. absurd (omega arith)) ∙ past text_tag f.tag (suc f.ord) later behind all-good h in
            let e : of_tag text_tag (fields s) ≡ of_tag text_tag done = ap (of_tag text_tag) v.split ∙ tag-append text_tag done (f ∷ later) ∙ ap (λ r. of_tag text_tag done ++ r) none ∙ append-nil (of_tag text_tag done) in
            ap (λ r. at_fault (length r) s f) (sym e) ∙ whole-quiet

  -- a field that is at fault, or has a bad tag, isn't an accepted image's
  pub fault-refused : (at_fault (texts done) s f || (eqb f.ord 0 && bad_tag f)) ≡ true → refusal s ≢ None
  fault-refused h e =
      let a = accepted s e in
      false-true (sym (rw (accepted-quiet a, accepted-good a) at h))
    where
      none : (b : Bool) → (b && false) ≡ false
      none true = refl
      none false = refl

      false-true : true ≡ (false || (eqb f.ord 0 && false)) → ⊥
      false-true q = let z : true ≡ false = q ∙ none (eqb f.ord 0) in true≢false z

-- of an accepted image there are no more of a tag than may be
pub pass-few : {s : List ℕ} (a : Accepted s) (rest done : List Field) → Passing s done rest → (t : ℕ) → length (of_tag t (fields s)) ≤ most t
pass-few a [] done v t = rw (v.split, append-nil done) (v.few t)
pass-few a (f ∷ l) done v t = pass-few a l (done ++ (f ∷ [])) (passing-next v (accepted-good v a) (accepted-quiet v a)) t

-- ---- all are passed

-- none of the five tests of a field passes
record Clean (s : List ℕ) (f : Field) : Type 0 where
  lengths : bad_length s f ≡ false
  counts : too_many f ≡ false
  contents : bad_contents s f ≡ false
  texts : bad_text s f ≡ false
  numbers : bad_reference (length (of_tag text_tag (fields s))) s f ≡ false

clean : (s : List ℕ) (f : Field) → at_fault (texts (fields s)) s f ≡ false → Clean s f
unfolding at_fault
clean s f h =
    let a = or_parts (bad_length s f || too_many f || bad_contents s f || bad_text s f) _ h in
    let b = or_parts (bad_length s f || too_many f || bad_contents s f) (bad_text s f) a.0 in
    let c = or_parts (bad_length s f || too_many f) (bad_contents s f) b.0 in
    let d = or_parts (bad_length s f) (too_many f) c.0 in
    record { lengths = d.0; counts = d.1; contents = c.1; texts = b.1; numbers = a.1 }

module _ {s : List ℕ} {done : List Field} (v : Passing s done []) where
  pub all-done : done ≡ fields s
  all-done = sym (v.split ∙ append-nil done)

  pub passed-accepted : shortest_image ≤ length s → length s ≤ longest_image → stop s ≡ length s → refusal s ≡ None
  unfolding refusal refusals_from fault at_fault
  passed-accepted g l e =
      let d = all-done in
      let parts : (f : Field) → Memᴰ f (fields s) → Clean s f = (λ f m. clean s f (rw d at (v.quiet f (rw d m)))) in
      rw (
        le-ltb (length s) shortest_image g,
        le-ltb longest_image (length s) l,
        le-ltb (stop s) (length s) (omega arith),
        first-none bad_tag (fields s) (λ f m. v.tags f (rw d m)),
        first-none (bad_length s) (fields s) (λ f m. (parts f m).lengths),
        first-none too_many (fields s) (λ f m. (parts f m).counts),
        first-none (bad_contents s) (fields s) (λ f m. (parts f m).contents),
        first-none (bad_text s) (fields s) (λ f m. (parts f m).texts),
        first-none (bad_reference (texts (fields s)) s) (fields s) (λ f m. (parts f m).numbers),
      ) refl
