-- Laws of a subject's text: what is put, written and read in each case, and that reading after writing gives it.
use Prim.Native.Nat.{ℕ, ◌≤◌}
use native.Mathlib.Omega.{arith}
use mathlib.Core.Logic.{◌⊎◌, inl, inr}
use mathlib.Core.Path.{◌≡◌, refl, sym, ap, ◌∙◌}
use mathlib.Core.Bool.{Bool, true, false, cond}
use mathlib.Core.List.{List, [], ◌++◌}
use Rattle.std.specs.Prelude.{Option, Some, None}
use lib.Dec.{eqb, ltb}
use lib.ListN.{length, take, drop, length-append}
use lib.Seq.{take-append_seam}
use borrow.Author.Tests.{le-ltb, eqb-true}
use Rattle.base.specs.Buffers.{starts_with}
use Rattle.base.proofs.Buffers.{starts_with-length}
use Rattle.oce_model.specs.Model.{model_of, text}
use Rattle.oce_model.specs.Refusals.{refusal}
use Rattle.oce_model.specs.declared.Refusal.{Refusal}
use Rattle.decimal.specs.Decimal.{decimal}
use Rattle.decimal.proofs.Decimal.{decimal-few}
use Rattle.oce_diag.specs.Decoded.{subject_from}
use Rattle.oce_diag.specs.Diagnostics.{connector_id, block_id}
use Rattle.oce_diag.specs.Encoding.{text_subject_kind, connector_subject_kind, block_subject_kind}
use Rattle.oce_diag.specs.declared.Subject.{Subject}
use Rattle.oce_diag.specs.declared.Subject.TheVariants.{Nothing, Text, Connector, Block}
use Rattle.subject.specs.Subject.{connector_label, block_label, least_scratch, labelled, label, subject_text, if_room, unless_refused, written, scratch_after, part_of, part}

-- ---- where there is room

module _ (xs bs : List ℕ) where
  room : least_scratch ≤ length xs → if_room xs bs ≡ bs
  unfolding if_room
  room h = rw (le-ltb (length xs) least_scratch h)

-- ---- a subject's kind and number

module _ (kind n : ℕ) where
  pub label_from : label (subject_from kind n) ≡ labelled kind n
  unfolding labelled subject_from
  label_from = first (eqb kind text_subject_kind) refl
    where
      other : (b c : Bool) → label (cond b (Connector (connector_id n)) (cond c (Block (block_id n)) Nothing)) ≡ cond b (connector_label ++ decimal n) (cond c (block_label ++ decimal n) [])
      other true c = refl
      other false true = refl
      other false false = refl

      first : (a : Bool) → eqb kind text_subject_kind ≡ a
          → label (cond a (Text n) (cond (eqb kind connector_subject_kind) (Connector (connector_id n)) (cond (eqb kind block_subject_kind) (Block (block_id n)) Nothing)))
          ≡ cond (eqb kind connector_subject_kind) (connector_label ++ decimal n) (cond (eqb kind block_subject_kind) (block_label ++ decimal n) [])
      first true e = rw (eqb-true kind text_subject_kind e) refl
      first false e = other (eqb kind connector_subject_kind) (eqb kind block_subject_kind)

  -- a text's part is the text, another's is read from the scratch
  module _ (s xs : List ℕ) where
    abbrev pub of : Bool → List ℕ
    of b = cond b (text (model_of s) n) (take (length (if_room xs (labelled kind n))) xs)

    pub text-part : {t : ℕ} → subject_from kind n ≡ Text t → text (model_of s) t ≡ part_of s xs kind n
    unfolding part_of subject_from
    text-part {t} = arm (eqb kind text_subject_kind) (eqb kind connector_subject_kind) (eqb kind block_subject_kind)
      where
        arm : (a b c : Bool) → cond a (Text n) (cond b (Connector (connector_id n)) (cond c (Block (block_id n)) Nothing)) ≡ Text t → text (model_of s) t ≡ of a
        arm true b c e = let q : n ≡ t = cc in rw q
        arm false true c e = cc
        arm false false true e = cc
        arm false false false e = cc

    pub other-part : ((t : ℕ) → subject_from kind n ≡ Text t → ⊥) → of false ≡ part_of s xs kind n
    unfolding part_of subject_from
    other-part = arm (eqb kind text_subject_kind)
      where
        arm : (a : Bool) → ((t : ℕ) → cond a (Text n) (cond (eqb kind connector_subject_kind) (Connector (connector_id n)) (cond (eqb kind block_subject_kind) (Block (block_id n)) Nothing)) ≡ Text t → ⊥) → of false ≡ of a
        arm true h = absurd (h n refl)
        arm false h = refl

-- ---- reading after writing

-- a label with an id has at most 20 bytes
pub labelled-few : (kind n : ℕ) → length (labelled kind n) ≤ least_scratch
unfolding labelled
labelled-few kind n = arm (eqb kind connector_subject_kind) (eqb kind block_subject_kind)
  where
    arm : (a b : Bool) → length (cond a (connector_label ++ decimal n) (cond b (block_label ++ decimal n) [])) ≤ least_scratch
    arm true b = rw length-append (let d = decimal-few n in omega arith)
    arm false true = rw length-append (let d = decimal-few n in omega arith)
    arm false false = omega arith

-- what stands at the start of a buffer is its first bytes
first-bytes : (bs xs : List ℕ) → take (length bs) (starts_with bs xs) ≡ bs
unfolding starts_with
first-bytes bs xs = take-append_seam bs (drop (length bs) xs)

module _ (s xs : List ℕ) (kind n : ℕ) (h : least_scratch ≤ length xs) where
  bs : List ℕ
  bs = labelled kind n

  own : if_room (starts_with bs xs) bs ≡ bs
  unfolding bs
  own =
      let l : length (starts_with bs xs) ≡ length xs = starts_with-length bs xs (omega (arith, labelled-few kind n)) in
      room (starts_with bs xs) bs (omega arith)

  after : refusal s ≡ None → scratch_after s kind n xs ≡ starts_with bs xs
  unfolding scratch_after written bs
  after e = rw (e, room xs bs h)

  choose : (b : Bool) → cond b (text (model_of s) n) (take (length (if_room (starts_with bs xs) bs)) (starts_with bs xs)) ≡ cond b (text (model_of s) n) bs
  choose true = refl
  choose false = rw own (first-bytes bs xs)

  by-refusal : (o : Option Refusal) → refusal s ≡ o → part s (scratch_after s kind n xs) kind n ≡ subject_text s kind n
  unfolding part part_of subject_text bs
  by-refusal None e = rw (after e, e) (choose (eqb kind text_subject_kind))
  by-refusal (Some r) e = rw e

  -- a subject's text is read where it was written, in a scratch that has room
  pub read-written : part s (scratch_after s kind n xs) kind n ≡ subject_text s kind n
  read-written = by-refusal (refusal s) refl

-- where a subject has no label, nothing is written
unlabelled : {x : Subject} → (x ≡ Nothing) ⊎ ((t : ℕ) × (x ≡ Text t)) → label x ≡ []
unfolding labelled
unlabelled (inl e) = rw e refl
unlabelled (inr p) = rw p.1 refl

module _ (s scratch : List ℕ) (kind n : ℕ) {x : Subject} (e : x ≡ subject_from kind n) (h : (x ≡ Nothing) ⊎ ((t : ℕ) × (x ≡ Text t))) where
  none-labelled : labelled kind n ≡ []
  none-labelled = sym (label_from kind n) ∙ ap label (sym e) ∙ unlabelled h

  pub none-written : written s kind n scratch ≡ []
  unfolding written if_room
  none-written = rw none-labelled (arm (refusal s) (ltb (length scratch) least_scratch))
    where
      arm : (o : Option Refusal) (b : Bool) → unless_refused o (cond b [] []) ≡ []
      arm None true = refl
      arm None false = refl
      arm (Some r) b = refl
