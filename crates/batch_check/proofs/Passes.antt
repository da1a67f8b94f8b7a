-- Laws of the two passes over a batch's images: one that measures them, one that writes.
use Prim.Native.Nat.{ℕ, ◌+◌, ◌-◌, ◌*◌, ◌<◌, ◌≤◌}
use native.Mathlib.Decide.{ℕ_discrete}
use native.Mathlib.Omega.{arith}
use mathlib.Core.Path.{◌≡◌, refl, sym, ap, ◌∙◌}
use mathlib.Core.List.{List, [], ◌∷◌, ◌++◌, map, append_assoc, append-nil}
use lib.ListN.{length, get_or, set, take, drop, length-append, length-set}
use lib.Seq.{length-take-le, take_at, get_or-set_same, get_or-set_other}
use borrow.Rule.Slice.PartMut.{put_mid, mid_of}
use Rattle.base.specs.Buffers.{patch, starts_with}
use Rattle.base.proofs.Buffers.{patch-none, patch-length, patch-patch, starts_with-patch}
use Rattle.base.proofs.Parts.{part_room, part-patched}
use Rattle.oce_model.specs.Image.{fields}
use Rattle.outcome.specs.Answer.{Answer}
use Rattle.oce_model.specs.declared.Field.{Field}
use Rattle.batch.specs.Fields.{most_images, image_in, images}
use Rattle.batch.specs.Output.{size_of, summary_of, image_output, output_of, batch_output, bytes_needed}
use Rattle.batch_framing.specs.Clean.{Clean, Ahead}
use Rattle.batch_framing.proofs.Passes.{ahead-start, ahead-next, ahead-few, ahead-ord, ahead-more, ahead-image, ahead-all}
use Rattle.batch_image.specs.Summarized.{Placed, most_bytes}
use Rattle.batch.proofs.Sizes.{output-long}
use Rattle.batch_image.proofs.Laws.{output-size}
use Rattle.batch_check.specs.Kept.{answer_of, Measures, KeptTo, Kept}
use Rattle.batch_check.specs.Called.{Measured, most_needed}

-- ---- the output of the images in some fields

unfoldable pub output_in : List ℕ → List Field → List ℕ
output_in s fs = output_of (map (image_in s) fs)

output-all : (s : List ℕ) → batch_output s ≡ output_in s (fields s)
unfolding batch_output images output_in
output-all s = refl

output-none : (s : List ℕ) → output_in s [] ≡ []
unfolding output_of output_in
output-none s = refl

output-next : (s : List ℕ) (f : Field) (l : List Field) → output_in s (f ∷ l) ≡ image_output (image_in s f) ++ output_in s l
unfolding output_of output_in
output-next s f l = refl

output-longer : (s : List ℕ) (f : Field) {l r : List Field} → r ≡ f ∷ l → length (output_in s r) ≡ length (image_output (image_in s f)) + length (output_in s l)
output-longer s f {l} e = ap (λ r. length (output_in s r)) e ∙ ap length (output-next s f l) ∙ length-append (image_output (image_in s f)) (output_in s l)

-- ---- measuring

-- the images passed are kept, their parts of the output are done, and the buffer e begins with those, if they fit
pub record Measuring (s : List ℕ) (rest : List Field) (needed : ℕ) (k : List Answer) (n : ℕ) (e : List ℕ) : Type 0 where
  pub i : ℕ
  pub done : List ℕ
  pub ahead : Ahead s i rest
  pub kept : KeptTo s i k
  pub whole : done ++ output_in s rest ≡ batch_output s
  pub size : needed ≡ length done
  pub low : needed ≤ most_bytes * i
  pub long : length e ≡ n
  pub early : needed ≤ length e → take needed e ≡ done

pub measuring-start : {s : List ℕ} {rest : List Field} (k : List Answer) (e : List ℕ) → Clean s → rest ≡ fields s → length k ≡ most_images → Measuring s rest 0 k (length e) e
measuring-start {s} k e v p l = record {
  i = 0;
  done = [];
  ahead = ahead-start v p;
  kept = record { long = l; entries = λ j h. absurd (omega arith) };
  whole = ap (output_in s) p ∙ sym (output-all s);
  size = refl;
  low = omega arith;
  long = refl;
  early = λ h. refl;
}

-- bytes put behind the first of a buffer
front-longer : (e bs : List ℕ) (o : ℕ) → o + length bs ≤ length e → take (o + length bs) (patch e o bs) ≡ take o e ++ bs
unfolding patch
front-longer e bs o h = take_at (take o e ++ bs) (drop (o + length bs) e) (o + length bs) (rw (length-append, length-take-le o e (omega arith)))

module _ {s : List ℕ} {rest : List Field} {needed : ℕ} {k : List Answer} {m : ℕ} {e : List ℕ} (v : Measuring s rest needed k m e) where
  module _ {f : Field} {later : List Field} (q : rest ≡ f ∷ later) where
    pub measuring-kept : f.ord < length k
    measuring-kept = let few = ahead-few v.ahead q in let l = v.kept.long in omega arith

    module _ {n : ℕ} {e' : List ℕ} (w : Measures (image_in s f) needed e e' n) where
      pub measuring-sum : needed + n ≤ most_needed
      measuring-sum = let few = ahead-few v.ahead q in let o = ahead-ord v.ahead q in let low = v.low in let more = w.low in omega arith

      kept-next : KeptTo s (v.i + 1) (set k f.ord (summary_of (image_in s f)))
      kept-next = record { long = length-set k f.ord (summary_of (image_in s f)) ∙ v.kept.long; entries = entries }
        where
          o : f.ord ≡ v.i
          o = ahead-ord v.ahead q

          entries : (j : ℕ) → j < v.i + 1 → answer_of (set k f.ord (summary_of (image_in s f))) j ≡ summary_of (get_or (images s) j [])
          entries j l = arm (ℕ_discrete j f.ord)
            where
              arm : Dec (j ≡ f.ord) → answer_of (set k f.ord (summary_of (image_in s f))) j ≡ summary_of (get_or (images s) j [])
              arm (yes p) = rw p (get_or-set_same k f.ord (summary_of (image_in s f)) _ measuring-kept ∙ ap summary_of (sym (ahead-image v.ahead q) ∙ ap (λ n. get_or (images s) n []) (sym o)))
              arm (no p) = get_or-set_other k f.ord j (summary_of (image_in s f)) _ p ∙ (let e = o in let l : j < v.i = omega arith in v.kept.entries j l)

      pub measuring-turn : {k' : List Answer} → k' ≡ set k f.ord (summary_of (image_in s f)) → length e' ≡ length e → Measuring s later (needed + n) k' m e'
      measuring-turn kept same =
          let part = image_output (image_in s f) in
          let low = v.low in
          let more = w.low in
          let size = v.size in
          record {
            i = v.i + 1;
            done = v.done ++ part;
            ahead = ahead-next v.ahead q;
            kept = rw kept kept-next;
            whole = append_assoc v.done part (output_in s later) ∙ ap (λ x. v.done ++ x) (sym (output-next s f later) ∙ ap (output_in s) (sym q)) ∙ v.whole;
            size = ap (λ x. x + n) size ∙ ap (λ x. length v.done + x) w.size ∙ sym (length-append v.done part);
            low = omega arith;
            long = same ∙ v.long;
            early = λ l. begun l;
          }
        where
          begun : needed + n ≤ length e' → take (needed + n) e' ≡ v.done ++ image_output (image_in s f)
          begun l =
              let z : n ≡ length (image_output (image_in s f)) = w.size in
              let r : needed + length (image_output (image_in s f)) ≤ length e = omega (arith, same) in
              let d : take needed e ≡ v.done = v.early (omega (arith, same)) in
              rw (z, w.bytes r) (front-longer e (image_output (image_in s f)) needed r ∙ rw d)

  pub measuring-long : length e ≡ m
  measuring-long = v.long

  pub measuring-end : rest ≡ [] → Measured s k e needed
  measuring-end h =
      let all : v.done ≡ batch_output s = sym (append-nil v.done) ∙ ap (λ x. v.done ++ x) (sym (output-none s) ∙ ap (output_in s) (sym h)) ∙ v.whole in
      let few = v.ahead.few in
      let low = v.low in
      record { kept = rw (ahead-all v.ahead h) at v.kept; size = v.size ∙ ap length all; low = omega arith; early = λ l. v.early l ∙ all }

-- ---- one image

-- what is kept of it, and what it needs
pub summed : {x t e e' : List ℕ} {o : ℕ} {a : Answer} → Placed x o e e' a → x ≡ t → a ≡ summary_of t
summed u g = u.summarized.is ∙ ap summary_of g

pub measures : {x t e e' : List ℕ} {o n : ℕ} {a : Answer} → Placed x o e e' a → x ≡ t → n ≡ size_of a → Measures t o e e' n
measures u g z = rw (← g) record { size = z ∙ sym (output-size _ u.summarized.is); low = rw z u.summarized.few; bytes = u.bytes }

-- written by the answer that was kept
pub entry-is : {t x : List ℕ} {a : Answer} → a ≡ summary_of t → x ≡ t → a ≡ summary_of x
entry-is e g = e ∙ ap summary_of (sym g)

pub entry-end : (t : List ℕ) {a : Answer} {n : ℕ} (o : ℕ) → a ≡ summary_of t → n ≡ size_of a → o + n ≡ o + length (image_output t)
entry-end t o e h = rw (h, e, output-long t)

pub entry-room : (t out : List ℕ) (o k : ℕ) {xs : List ℕ} → xs ≡ t → k ≡ length out - o → o + length (image_output t) ≤ length out → length (image_output xs) ≤ length (mid_of o k out)
entry-room t out o k g l h = rw g (part_room out o k (length (image_output t)) l h)

pub entry-bytes : (t out : List ℕ) (o k : ℕ) {xs zs : List ℕ} → zs ≡ starts_with (image_output xs) (mid_of o k out) → xs ≡ t → k ≡ length out - o → put_mid o k out zs ≡ patch out o (image_output t)
entry-bytes t out o k {xs} e g l = rw (← g) (part-patched out (image_output xs) o k e l)

-- ---- writing

-- what is left, written from o on, makes the whole output
pub record Writing (s : List ℕ) (k : List Answer) (out₀ : List ℕ) (rest : List Field) (o : ℕ) (out : List ℕ) : Type 0 where
  pub i : ℕ
  pub ahead : Ahead s i rest
  pub kept : Kept s k
  pub room : o + length (output_in s rest) ≤ length out
  pub long : length out ≡ length out₀
  pub bytes : patch out o (output_in s rest) ≡ starts_with (batch_output s) out₀

pub writing_start : {s : List ℕ} {k : List Answer} {rest : List Field} (out : List ℕ) → Clean s → Kept s k → rest ≡ fields s → bytes_needed s ≤ length out → Writing s k out rest 0 out
writing_start {s} out v kept e l =
    let all : batch_output s ≡ output_in s _ = output-all s ∙ ap (output_in s) (sym e) in
    let z = ap length all in
    record {
      i = 0;
      ahead = ahead-start v e;
      kept = kept;
      room = omega arith;
      long = refl;
      bytes = ap (patch out 0) (sym all) ∙ sym (starts_with-patch (batch_output s) out);
    }

module _ {s : List ℕ} {k : List Answer} {out₀ : List ℕ} {rest : List Field} {o : ℕ} {out : List ℕ} (v : Writing s k out₀ rest o out) where
  module _ {f : Field} {later : List Field} (q : rest ≡ f ∷ later) where
    pub writing-kept : f.ord < length k
    writing-kept = let few = ahead-few v.ahead q in let l = v.kept.long in omega arith

    pub writing-offset : f.ord ≤ most_images
    writing-offset = let few = ahead-few v.ahead q in omega arith

    pub writing-entry : answer_of k f.ord ≡ summary_of (image_in s f)
    writing-entry = rw (ahead-image v.ahead q, sym (ahead-ord v.ahead q)) at (v.kept.entries v.i (ahead-more v.ahead q))

    pub writing-room : o + length (image_output (image_in s f)) ≤ length out
    writing-room =
        let longer = output-longer s f q in
        let room = v.room in
        omega arith

    pub writing-turn : {o' : ℕ} {out' : List ℕ} → o' ≡ o + length (image_output (image_in s f)) → out' ≡ patch out o (image_output (image_in s f)) → Writing s k out₀ later o' out'
    writing-turn {o'} {out'} a b =
        let longer = output-longer s f q in
        let here = writing-room in
        let same : length out' ≡ length out = ap length b ∙ patch-length out o (image_output (image_in s f)) here in
        let room = v.room in
        record {
          i = v.i + 1;
          ahead = ahead-next v.ahead q;
          kept = v.kept;
          room = omega arith;
          long = same ∙ v.long;
          bytes = rw (a, b) (patch-patch out o (image_output (image_in s f)) (output_in s later) here) ∙ ap (patch out o) (sym (output-next s f later) ∙ ap (output_in s) (sym q)) ∙ v.bytes;
        }

  pub writing-end : rest ≡ [] → out ≡ starts_with (batch_output s) out₀
  writing-end h = sym (patch-none out o) ∙ ap (patch out o) (sym (output-none s) ∙ ap (output_in s) (sym h)) ∙ v.bytes
