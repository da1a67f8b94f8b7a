-- The one pass: what holds while it goes over the fields, and what it answers.
use Prim.Native.Nat.{ℕ, zero, suc, ◌+◌, ◌<◌, ◌≤◌}
use native.Mathlib.Omega.{arith}
use mathlib.Core.Logic.{◌≢◌}
use mathlib.Core.Path.{◌≡◌, refl, sym, ap, ◌∙◌}
use mathlib.Core.Bool.{Bool, true, false, cond, ◌&&◌, ◌||◌}
use mathlib.Core.List.{List, [], ◌∷◌, ◌++◌}
use lib.Dec.{eqb, ltb}
use lib.IntN.{ℤ}
use lib.ListN.{length, get_or, set, length-set}
use mir.Syntax.{w64}
use mir.Val.{of_z, to_z}
use borrow.Author.Tests.{eqb-false, le-ltb}
use Rattle.std.specs.Prelude.{Option, None, Some}
use Rattle.std.specs.Option.{is_some}
use Rattle.std.specs.Iterator.{YieldsFirst}
use Rattle.std.specs.Result.{result_ok}
use Rattle.base.specs.Lists.{keep}
use Rattle.base.proofs.Lists.{or_parts}
use Rattle.oce_model.specs.Format.{block_tag, boundary_input_tag, boundary_output_tag, connection_tag, connector_tag, external_input_tag, head_tag, head_max_at, head_min_at, highest_tag, most, shortest_image, longest_image, text_tag}
use Rattle.oce_model.specs.Image.{fields, first, of_tag, stop}
use Rattle.numbers.specs.Bytes.{le64, signed64}
use Rattle.oce_model.specs.Model.{model_of}
use Rattle.oce_model.specs.Refusals.{bad_tag, refusal, tag_is_bad}
use Rattle.oce_model.specs.declared.Field.{Field}
use Rattle.oce_model.specs.declared.Refusal.{Refusal}
use Rattle.oce_model.proofs.Accepted.{accepted, stops}
use Rattle.oce_model.proofs.Places.{field-end}
use Rattle.image_framing.specs.Walk.{end_of, NoneFirst, stop_after}
use Rattle.image_framing.proofs.Finds.{Stopping, stopping-start, stopping-next, stopping-end}
use Rattle.image_sieve.specs.Faulty.{at_fault}
use Rattle.image_accept.specs.Layout.{TabledIfAccepted, acceptance, accepts, layout_of, section_of}
use Rattle.image_accept.specs.Passing.{Begun, listed, none}
use Rattle.image_accept.specs.declared.Section.{Section}
use Rattle.image_accept.specs.Surveyed.{FromTag, Lined, Passed, Surveying, Told, texts, told}
use Rattle.image_accept.proofs.Lines.{ascends, is_tag}
use Rattle.image_accept.proofs.Passes.{accepted-good, all-done, among, before, behind, count, fault-refused, good-tag, most-small, not-many, passed-accepted, passing-next, passing-prev, passing-start}
use Rattle.image_accept.proofs.Sections.{listed-end, listed-next, listed-start, told-end, told-next}

from-lined : (t n : ℕ) (l : List Field) → Lined t n l → FromTag t l
unfolding Lined
from-lined t n [] v = tt
from-lined t n (g ∷ l) v = λ good. let a = ascends g good in let p = v.0 in omega arith

from-none : (t : ℕ) (l : List Field) → FromTag t l → NoneFirst t l → FromTag (t + 1) l
from-none t [] h n = tt
from-none t (g ∷ l) h n = λ good. let a = h good in let d : g.tag ≢ t = n in omega arith

stops-of : {s : List ℕ} {rest : List Field} {end : ℕ} → Stopping s rest end → stop_after end rest ≡ stop s
stops-of v = v.stops

-- before the first field
abbrev pub unbegun : ℕ → List Section
unbegun n =
    let x : Section = record { start = n; count = 0 } in
    x ∷ x ∷ x ∷ x ∷ x ∷ x ∷ x ∷ x ∷ x ∷ []

told-start : (s : List ℕ) → Told s [] (fields s) (unbegun (length s))
unfolding passing-start first of_tag keep
told-start s = record {
  passing = passing-start s;
  long = refl;
  each = λ t one h. at t one h;
  reached = λ t one h. absurd (omega arith);
}
  where
    at : (t : ℕ) → 1 ≤ t → t ≤ highest_tag → get_or (unbegun (length s)) t none ≡ told s [] t
    at zero one h = absurd (omega arith)
    at (suc zero) one h = refl
    at (suc (suc zero)) one h = refl
    at (suc (suc (suc zero))) one h = refl
    at (suc (suc (suc (suc zero)))) one h = refl
    at (suc (suc (suc (suc (suc zero))))) one h = refl
    at (suc (suc (suc (suc (suc (suc zero)))))) one h = refl
    at (suc (suc (suc (suc (suc (suc (suc zero))))))) one h = refl
    at (suc (suc (suc (suc (suc (suc (suc (suc zero)))))))) one h = refl
    at (suc (suc (suc (suc (suc (suc (suc (suc (suc t))))))))) one h = absurd (omega arith)

pub survey-start : {s : List ℕ} {rest : List Field} (texts blocks : List ℕ) → rest ≡ fields s → Surveying s rest 0 (unbegun (length s)) texts texts blocks blocks
survey-start {s} texts blocks e = rw e (record {
  done = [];
  told = told-start s;
  stopping = stops-of (stopping-start refl);
  texts-listed = listed-start text_tag texts;
  blocks-listed = listed-start block_tag blocks;
})

module _ {s : List ℕ} {rest : List Field} {end : ℕ} {sections : List Section} {texts₀ texts₁ blocks₀ blocks₁ : List ℕ} (v : Surveying s rest end sections texts₀ texts₁ blocks₀ blocks₁) where
  module _ {f : Field} {later : List Field} (e : rest ≡ f ∷ later) where
    here : Told s v.done (f ∷ later) sections
    here = rw e at v.told

    pub survey-fits : end_of f ≤ length s
    survey-fits = field-end s f (among here.passing)

    text-count : (get_or sections text_tag none).count ≡ texts v.done
    text-count = ap (λ (x : Section). x.count) (v.told.each text_tag (omega arith) (omega arith))

    module _ {r : Bool} (q : r ≡ (at_fault (get_or sections text_tag none).count s f || (eqb f.ord 0 && bad_tag f))) where
      test : r ≡ (at_fault (texts v.done) s f || (eqb f.ord 0 && bad_tag f))
      test = rw text-count at q

      pub survey-refused : r ≡ true → refusal s ≢ None
      survey-refused h = fault-refused here.passing (sym test ∙ h)

      module _ (h : r ≡ false) where
        quiet : at_fault (texts v.done) s f ≡ false
        quiet = (or_parts (at_fault (texts v.done) s f) _ (sym test ∙ h)).0

        room : f.ord < most f.tag
        room = not-many (texts v.done) s f quiet

        good : bad_tag f ≡ false
        good = good-tag here.passing room (or_parts (at_fault (texts v.done) s f) _ (sym test ∙ h)).1

        pub survey-notes : (f.prev ≤ f.tag) × (f.tag ≤ highest_tag) × (f.ord < longest_image)
        survey-notes =
            let a = room in
            let b = most-small f.tag in
            (ascends f good, is_tag f good, omega arith)

        pub survey-lists : (t n : ℕ) → most t ≤ n → f.tag ≡ t → f.ord < n
        survey-lists t n l k = let a : f.ord < most t = rw k at room in omega arith

        pub survey-next : {end' : ℕ} {sections' : List Section} {texts' blocks' : List ℕ} → most text_tag ≤ length texts₁ → most block_tag ≤ length blocks₁ → Begun f sections sections' → texts' ≡ listed text_tag f texts₁ → blocks' ≡ listed block_tag f blocks₁
            → end' ≡ end_of f → Surveying s later end' sections' texts₀ texts' blocks₀ blocks'
        survey-next l m b t k n =
            let p = here.passing in
            let order = count p good in
            record {
              done = v.done ++ (f ∷ []);
              told = told-next here good (before p) (passing-next p good quiet) (passing-prev p good quiet) b;
              stopping = stops-of (stopping-next (record { stops = v.stopping }) e n);
              texts-listed = listed-next f v.texts-listed (λ q. (rw q at order, survey-lists text_tag _ l q)) t;
              blocks-listed = listed-next f v.blocks-listed (λ q. (rw q at order, survey-lists block_tag _ m q)) k;
            }

  module _ (e : rest ≡ []) where
    -- fields that stop before the image's end
    pub survey-cut : end < length s → refusal s ≢ None
    survey-cut h a = let k = stopping-end (record { stops = v.stopping }) e in let w = (accepted s a).ends in omega arith

    module _ (g : (shortest_image ≤ length s) × (length s ≤ longest_image)) (h : length s ≤ end) where
      last : Told s v.done [] sections
      last = rw e at v.told

      all : v.done ≡ fields s
      all = all-done last.passing

      pub survey-accepted : refusal s ≡ None
      survey-accepted =
          let k = stopping-end (record { stops = v.stopping }) e in
          passed-accepted last.passing g.0 g.1 (stops s (le-ltb (stop s) (length s) (omega arith)))

      pub survey-section : (t : ℕ) → 1 ≤ t → t ≤ highest_tag → get_or sections t none ≡ section_of t s
      survey-section = told-end (rw all at last)

      pub survey-texts : TabledIfAccepted text_tag s texts₁
      survey-texts = record { listed = λ _. listed-end (rw all at v.texts-listed) }

      pub survey-blocks : TabledIfAccepted block_tag s blocks₁
      survey-blocks = record { listed = λ _. listed-end (rw all at v.blocks-listed) }

-- ---- tag by tag

from-first : (l : List Field) → FromTag head_tag l
unfolding bad_tag tag_is_bad
from-first [] = tt
from-first (f ∷ fs) = λ h.
    let e : eqb f.tag 0 ≡ false = (or_parts (eqb f.tag 0) _ (or_parts (eqb f.tag 0 || ltb highest_tag f.tag) _ (or_parts (eqb f.tag 0 || ltb highest_tag f.tag || ltb f.tag f.prev) _ h).0).0).0 in
    let n = eqb-false f.tag 0 e in
    omega arith

pub passed-start : {s : List ℕ} {rest : List Field} (texts blocks : List ℕ) → rest ≡ fields s → most text_tag ≤ length texts → most block_tag ≤ length blocks → Passed head_tag s rest 0 (unbegun (length s)) texts blocks
passed-start {s} {rest} texts blocks e a b = record { texts₀ = texts; blocks₀ = blocks; surveying = survey-start texts blocks e; from = from-first rest; text-room = a; block-room = b }

listed-long : (t : ℕ) (f : Field) (table : List ℕ) → length (listed t f table) ≡ length table
listed-long t f table = arm (eqb f.tag t)
  where
    arm : (b : Bool) → length (cond b (set table f.ord f.at) table) ≡ length table
    arm true = simp length-set refl
    arm false = refl

module _ {t : ℕ} {s : List ℕ} {rest : List Field} {end : ℕ} {sections : List Section} {texts₁ blocks₁ : List ℕ} (v : Passed t s rest end sections texts₁ blocks₁) where
  -- the next field has another tag, or there is none
  pub passed-on : NoneFirst t rest → Passed (t + 1) s rest end sections texts₁ blocks₁
  passed-on n = record { texts₀ = v.texts₀; blocks₀ = v.blocks₀; surveying = v.surveying; from = from-none t rest v.from n; text-room = v.text-room; block-room = v.block-room }

  module _ {f : Field} {later : List Field} (e : rest ≡ f ∷ later) where
    -- one that no tag is left for
    pub passed-left : t ≡ highest_tag + 1 → refusal s ≢ None
    passed-left h a =
        let good = accepted-good (here v.surveying e).passing (accepted s a) in
        let from : bad_tag f ≡ false → t ≤ f.tag = rw e at v.from in
        let l = from good in
        let k = is_tag f good in
        absurd (omega arith)

    module _ {r : Bool} (q : r ≡ (at_fault (get_or sections text_tag none).count s f || (eqb f.ord 0 && bad_tag f))) (h : r ≡ false) where
      pub passed-next : {end' : ℕ} {sections' : List Section} {texts' blocks' : List ℕ} → f.tag ≡ t → Begun f sections sections' → texts' ≡ listed text_tag f texts₁ → blocks' ≡ listed block_tag f blocks₁
          → end' ≡ end_of f → Passed t s later end' sections' texts' blocks'
      passed-next {end'} {sections'} {texts'} {blocks'} g b x y z = record {
        texts₀ = v.texts₀;
        blocks₀ = v.blocks₀;
        surveying = survey-next v.surveying e q h v.text-room v.block-room b x y z;
        from = rw (← g) (from-lined f.tag (suc f.ord) later (behind (here v.surveying e).passing));
        text-room = rw (x, listed-long text_tag f texts₁) v.text-room;
        block-room = rw (y, listed-long block_tag f blocks₁) v.block-room;
      }

-- a field that is left when all tags are passed, and none
module _ {s : List ℕ} {rest : List Field} {end : ℕ} {sections : List Section} {texts₁ blocks₁ : List ℕ} (v : Passed (highest_tag + 1) s rest end sections texts₁ blocks₁) (rest' : List Field) (r : Option Field) (y : YieldsFirst (λ (l : List Field). l) rest r rest') {b : Bool} (q : b ≡ is_some r) where
  pub left-refused : b ≡ true → refusal s ≢ None
  left-refused h = arm r y (sym q ∙ h)
    where
      arm : (r : Option Field) → YieldsFirst (λ (l : List Field). l) rest r rest' → is_some r ≡ true → refusal s ≢ None
      arm None y h = absurd cc
      arm (Some f) y h = passed-left v y refl

  pub none-left : b ≡ false → rest ≡ []
  none-left h = arm r y (sym q ∙ h)
    where
      arm : (r : Option Field) → YieldsFirst (λ (l : List Field). l) rest r rest' → is_some r ≡ false → rest ≡ []
      arm None y h = y.0
      arm (Some f) y h = absurd cc

-- ---- an accepted image

pub laid : (s : List ℕ) (sections : List Section) {x y : ℕ} {lo hi : ℤ} → refusal s ≡ None → ((t : ℕ) → 1 ≤ t → t ≤ highest_tag → get_or sections t none ≡ section_of t s)
    → x ≡ le64 s head_min_at → lo ≡ signed64 x → to_z w64 (of_z w64 lo) ≡ lo → y ≡ le64 s head_max_at → hi ≡ signed64 y → to_z w64 (of_z w64 hi) ≡ hi
    → Some (record {
      texts = get_or sections text_tag none;
      blocks = get_or sections block_tag none;
      connectors = get_or sections connector_tag none;
      connections = get_or sections connection_tag none;
      externals = get_or sections external_input_tag none;
      inputs = get_or sections boundary_input_tag none;
      outputs = get_or sections boundary_output_tag none;
      min = to_z w64 (of_z w64 lo);
      max = to_z w64 (of_z w64 hi);
    }) ≡ result_ok (acceptance s)
unfolding acceptance layout_of model_of
laid s sections a k x lo l y hi h =
    let at : (t : ℕ) → 1 ≤ t → t ≤ highest_tag → get_or sections t none ≡ section_of t s = k in
    rw (
      a,
      l,
      h,
      at text_tag (omega arith) (omega arith),
      at block_tag (omega arith) (omega arith),
      at connector_tag (omega arith) (omega arith),
      at connection_tag (omega arith) (omega arith),
      at external_input_tag (omega arith) (omega arith),
      at boundary_input_tag (omega arith) (omega arith),
      at boundary_output_tag (omega arith) (omega arith),
      lo,
      x,
      hi,
      y,
    ) refl

-- ---- a refused image

pub not-accepted : (s : List ℕ) → refusal s ≢ None → None ≡ result_ok (acceptance s)
unfolding acceptance
not-accepted s h = arm (refusal s) refl
  where
    arm : (o : Option Refusal) → refusal s ≡ o → None ≡ result_ok (accepts s o)
    arm None e = absurd (h e)
    arm (Some r) e = refl

pub not-tabled : {s : List ℕ} (t : ℕ) (table : List ℕ) → refusal s ≢ None → TabledIfAccepted t s table
not-tabled t table h = record { listed = λ e. absurd (h e) }
