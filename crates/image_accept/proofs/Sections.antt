-- What the pass notes of the fields that were passed: where the sections begin, how many records they have, and the tables.
use Prim.Native.Nat.{ℕ, suc, ◌+◌, ◌<◌, ◌≤◌}
use native.Mathlib.Decide.{dec_le, ℕ_discrete}
use native.Mathlib.Omega.{arith}
use mathlib.Core.Path.{◌≡◌, refl, sym, ap, ◌∙◌}
use mathlib.Core.Bool.{false, cond, ◌&&◌}
use mathlib.Core.List.{List, [], ◌∷◌, ◌++◌, map, Memᴰ}
use lib.Dec.{eqb, leb, ltb}
use lib.ListN.{length, get_or, set, drop, length-append, length-map, length-set}
use lib.Seq.{append_snoc, drop-append_seam, drop-cons, set-append_seam}
use borrow.Author.Tests.{eq-eqb, ne_eqb, le-leb, lt-leb, lt-ltb, le-ltb}
use Rattle.std.specs.Prelude.{Option, Some, None}
use Rattle.std.specs.Option.{option_or}
use Rattle.base.specs.Buffers.{starts_with}
use Rattle.base.proofs.Buffers.{starts_with-none}
use Rattle.oce_model.specs.Format.{highest_tag}
use Rattle.oce_model.specs.Image.{fields, first, of_tag, or_end, start_of}
use Rattle.oce_model.specs.Refusals.{bad_tag}
use Rattle.oce_model.specs.declared.Field.{Field}
use Rattle.oce_model.proofs.Fields.{first-none}
use Rattle.image_accept.specs.Layout.{Tabled, offsets_of, section_of}
use Rattle.image_accept.specs.Passing.{Begun, listed, none, noted}
use Rattle.image_accept.specs.declared.Section.{Section}
use Rattle.image_accept.proofs.Lines.{first-snoc, more-here, more-not, tag-none}
use Rattle.image_accept.specs.Surveyed.{Listed, Passing, Told, offsets, reaches, told}
use Rattle.image_accept.proofs.Passes.{count}

-- ---- sections

not-reached : (t : ℕ) (l : List Field) → ((g : Field) → Memᴰ g l → g.tag < t) → first (reaches t) l ≡ None
not-reached t l h = first-none (reaches t) l (λ g m. lt-leb t g.tag (h g m))

module _ {s : List ℕ} {done later : List Field} {f : Field} {sections : List Section} (v : Told s done (f ∷ later) sections) (good : bad_tag f ≡ false) (prev-is : f.prev ≡ v.passing.prev) where
  start : (t : ℕ) → 1 ≤ t → cond (ltb f.prev t && leb t f.tag) f.at (or_end (first (reaches t) done) (length s)) ≡ or_end (first (reaches t) (done ++ (f ∷ []))) (length s)
  start t one = arm (dec_le t f.prev) (dec_le t f.tag)
    where
      p : List Field → Option ℕ
      p l = first (reaches t) l

      arm : Dec (t ≤ f.prev) → Dec (t ≤ f.tag) → cond (ltb f.prev t && leb t f.tag) f.at (or_end (p done) (length s)) ≡ or_end (p (done ++ (f ∷ []))) (length s)
      arm (yes a) b =
          let r = v.reached t one (omega arith) in
          rw (le-ltb f.prev t a, first-snoc (reaches t) done f, r.1) refl
      arm (no a) (yes b) =
          let low = v.passing.rising in
          let n : p done ≡ None = not-reached t done (λ g m. let k = low g m in omega arith) in
          rw (lt-ltb f.prev t (omega arith), le-leb t f.tag b, first-snoc (reaches t) done f, n, le-leb t f.tag b) refl
      arm (no a) (no b) =
          let low = v.passing.rising in
          let n : p done ≡ None = not-reached t done (λ g m. let k = low g m in omega arith) in
          rw (lt-ltb f.prev t (omega arith), lt-leb t f.tag (omega arith), first-snoc (reaches t) done f, n, lt-leb t f.tag (omega arith)) refl

  counted : (t : ℕ) → cond (eqb t f.tag) (f.ord + 1) (length (of_tag t done)) ≡ length (of_tag t (done ++ (f ∷ [])))
  counted t = arm (ℕ_discrete t f.tag)
    where
      arm : Dec (t ≡ f.tag) → cond (eqb t f.tag) (f.ord + 1) (length (of_tag t done)) ≡ length (of_tag t (done ++ (f ∷ [])))
      arm (yes e) =
          let k : f.ord ≡ length (of_tag t done) = rw (← e) at (count v.passing good) in
          rw (eq-eqb t f.tag e, more-here t done f (sym e), length-append) (ap (λ n. n + 1) k)
      arm (no n) = rw (ne_eqb t f.tag n, more-not t done f (λ q. n (sym q))) refl

  pub told-next : {sections' : List Section} → (next : Passing s (done ++ (f ∷ [])) later) → next.prev ≡ f.tag → Begun f sections sections' → Told s (done ++ (f ∷ [])) later sections'
  told-next {sections'} next e b = record {
    passing = next;
    long = b.long ∙ v.long;
    each = λ t one h. here t one h;
    reached = λ t one h. seen t one (omega arith);
  }
    where
      here : (t : ℕ) → 1 ≤ t → t ≤ highest_tag → get_or sections' t none ≡ told s (done ++ (f ∷ [])) t
      here t one h =
          let l = v.long in
          b.each t (omega arith) ∙ ap (noted f t) (v.each t one h) ∙ rw (start t one, counted t) refl

      some : (o : Option ℕ) → (x : ℕ) × (option_or o (Some f.at) ≡ Some x)
      some None = (f.at, refl)
      some (Some x) = (x, refl)

      seen : (t : ℕ) → 1 ≤ t → t ≤ f.tag → (x : ℕ) × (first (reaches t) (done ++ (f ∷ [])) ≡ Some x)
      seen t one h = let p = some (first (reaches t) done) in (p.0, first-snoc (reaches t) done f ∙ rw (le-leb t f.tag h) p.1)

-- once all are passed they are the image's
pub told-end : {s : List ℕ} {sections : List Section} → Told s (fields s) [] sections → (t : ℕ) → 1 ≤ t → t ≤ highest_tag → get_or sections t none ≡ section_of t s
unfolding section_of start_of
told-end v t one h = v.each t one h

-- ---- tables

pub listed-start : (t : ℕ) (table : List ℕ) → Listed t [] table table
listed-start t table = record { is = sym (rw (tag-none t) (starts_with-none table)); long = refl }

one_more : (xs b : List ℕ) (a : ℕ) → length xs < length b → set (starts_with xs b) (length xs) a ≡ starts_with (xs ++ (a ∷ [])) b
unfolding starts_with
one_more xs b a h =
    let n : length (xs ++ (a ∷ [])) ≡ suc (length xs) = rw length-append (omega arith) in
    rw (n, drop-cons b (length xs) 0 h) (set-append_seam xs _ (drop (suc (length xs)) b) a ∙ sym (append_snoc xs a (drop (suc (length xs)) b)))

map-snoc : (l : List Field) (f : Field) → map (λ (f : Field). f.at) (l ++ (f ∷ [])) ≡ map (λ (f : Field). f.at) l ++ (f.at ∷ [])
map-snoc [] f = refl
map-snoc (x ∷ l) f = rw (map-snoc l f) refl

pub listed-next : {t : ℕ} {done : List Field} (f : Field) {table₀ table table' : List ℕ} → Listed t done table₀ table → (f.tag ≡ t → (f.ord ≡ length (of_tag t done)) × (f.ord < length table)) → table' ≡ listed t f table
    → Listed t (done ++ (f ∷ [])) table₀ table'
listed-next {t} {done} f {table₀} {table} v h e = rw e (arm (ℕ_discrete f.tag t))
  where
    arm : Dec (f.tag ≡ t) → Listed t (done ++ (f ∷ [])) table₀ (listed t f table)
    arm (no n) = rw (ne_eqb f.tag t n) (record { is = v.is ∙ rw (more-not t done f n) refl; long = v.long })
    arm (yes q) =
        let p = h q in
        let k : length (offsets t done) ≡ f.ord = length-map (of_tag t done) (λ (f : Field). f.at) ∙ sym p.0 in
        let l = v.long in
        rw (eq-eqb f.tag t q) (record {
          is = rw (v.is, ← k) (one_more (offsets t done) table₀ f.at (omega arith)) ∙ ap (λ xs. starts_with xs table₀) (sym (ap (map (λ (f : Field). f.at)) (more-here t done f q) ∙ map-snoc (of_tag t done) f));
          long = simp length-set v.long;
        })

own : (xs b : List ℕ) → starts_with xs b ≡ starts_with xs (starts_with xs b)
unfolding starts_with
own xs b = sym (rw (drop-append_seam xs (drop (length xs) b)) refl)

pub listed-end : {t : ℕ} {s table₀ table : List ℕ} → Listed t (fields s) table₀ table → Tabled t s table
unfolding offsets_of
listed-end {t} {s} {table₀} {table} v = record { offsets = v.is ∙ own (offsets t (fields s)) table₀ ∙ ap (starts_with (offsets t (fields s))) (sym v.is) }
