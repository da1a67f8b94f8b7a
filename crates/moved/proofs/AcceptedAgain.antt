-- The image with other attributes in its slots is accepted again, if refusals 6 and 8 find no fault in them.
use Prim.Native.Nat.{ℕ, ◌+◌, ◌<◌}
use native.Mathlib.Decide.{ℕ_discrete}
use native.Mathlib.Omega.{arith}
use mathlib.Core.Path.{◌≡◌, refl, sym, ◌∙◌}
use mathlib.Core.Logic.{◌≢◌}
use mathlib.Core.Bool.{Bool, false, ◌&&◌, ◌||◌}
use mathlib.Core.List.{List, Memᴰ}
use Rattle.std.specs.Prelude.{None}
use lib.ListN.{length}
use lib.Dec.{eqb, leb, ltb}
use borrow.Author.Tests.{ne_eqb, le-ltb}
use Rattle.oce_model.specs.Format.{block_tag, boundary_input_attrs, boundary_input_tag, boundary_output_attrs, boundary_output_tag, connector_attrs, connector_tag, head_tag, text_tag, shortest_image, longest_image}
use Rattle.oce_model.specs.Attributes.{attrs_at}
use Rattle.oce_model.specs.Image.{fields, stop, of_tag, field_at}
use Rattle.oce_model.specs.Model.{Connector, block_at, connector_at, boundary_input_at, boundary_output_at}
use Rattle.oce_model.specs.Refusals.{bad_tag, bad_block_length, bad_length, too_many, bad_head, bad_connector, bad_attrs, attrs_offset, on_attrs, bad_contents, bad_text, bad_text_numbers, bad_or_none, bad_reference, fault, refusals_from, refusal}
use Rattle.oce_model.specs.declared.Field.{Field}
use Rattle.unify.specs.Slots.{Slots, slot}
use Rattle.moved.specs.Moved.{SameConnector}
use Rattle.base.proofs.Lists.{or_parts}
use Rattle.base.proofs.Members.{mem_index}
use Rattle.oce_model.proofs.Fields.{none-mem, first-none, mem-tag, nth}
use Rattle.oce_model.proofs.Accepted.{Accepted, head-len, block-len, input-len}
use Rattle.oce_model.proofs.Attributes.{attrs-same}
use Rattle.moved.proofs.Invariants.{All}
use Rattle.moved.proofs.Widths.{AllCaps}
use Rattle.moved.proofs.WellFormed.{Well, of-well, text_count, field-contents, field-reference, well-input}
use Rattle.moved.proofs.Regions.{connector_slots, output_slots}
use Rattle.moved.proofs.Refilled.{Rewritten, fields-same, ends_same, num-same, text_same, block_same, connector-fields, input-same, out-fields, connector-slot, out-slot}

-- refusal 6 asks nothing else of a connector
connector-fine : (c d : Connector) → SameConnector c d → bad_connector d ≡ bad_connector c
unfolding bad_connector
connector-fine c d h = rw (h.dir, h.value_type, h.enum_class)

module _ (s t : List ℕ) (σ : Slots) (acc : Accepted s) (w : Rewritten s t σ) (six : (j : ℕ) → j < connector_slots s + output_slots s → length (slot σ j).nums ≡ 6) (caps : AllCaps σ) (well : All (Well (text_count s)) σ) where
  -- the attributes of every field
  attrs-fine : (f : Field) → Memᴰ f (fields s) → (on_attrs t bad_attrs (attrs_offset f) ≡ false) × (on_attrs t (bad_text_numbers (text_count s)) (attrs_offset f) ≡ false)
  unfolding attrs_offset
  attrs-fine f m = arm (ℕ_discrete f.tag connector_tag) (ℕ_discrete f.tag boundary_input_tag) (ℕ_discrete f.tag boundary_output_tag)
    where
      n : ℕ
      n = text_count s

      Fine : Type 0
      Fine = (on_attrs t bad_attrs (attrs_offset f) ≡ false) × (on_attrs t (bad_text_numbers n) (attrs_offset f) ≡ false)

      con : (i : ℕ) → i < connector_slots s → nth connector_tag s i ≡ f → Well n (attrs_at t (f.at + connector_attrs))
      con i l e = rw (← e, connector-slot s t σ acc w six caps i l) (well.at i)

      out : (i : ℕ) → i < output_slots s → nth boundary_output_tag s i ≡ f → Well n (attrs_at t (f.at + boundary_output_attrs))
      out i l e = rw (← e, out-slot s t σ acc w six caps i l) (well.at (connector_slots s + i))

      same-input : f.tag ≡ boundary_input_tag → attrs_at t (f.at + boundary_input_attrs) ≡ attrs_at s (f.at + boundary_input_attrs)
      same-input e =
          let z = input-len s acc f m e in
          attrs-same s t (f.at + boundary_input_attrs) (λ x a b. w.still f x m (omega arith) (omega arith) (λ q. absurd (omega (arith, sym e ∙ q))) (λ q. absurd (omega (arith, sym e ∙ q))))

      arm : Dec (f.tag ≡ connector_tag) → Dec (f.tag ≡ boundary_input_tag) → Dec (f.tag ≡ boundary_output_tag) → Fine
      arm (yes e) b c = let p = mem_index (of_tag connector_tag (fields s)) (field_at s 0 0 0) f (mem-tag connector_tag (fields s) f m e) in rw e (of-well n (attrs_at t (f.at + connector_attrs)) (con p.0 p.1 p.2))
      arm (no a) (yes e) c = rw e (of-well n (attrs_at t (f.at + boundary_input_attrs)) (rw (same-input e) (well-input s acc f m e)))
      arm (no a) (no b) (yes e) = let p = mem_index (of_tag boundary_output_tag (fields s)) (field_at s 0 0 0) f (mem-tag boundary_output_tag (fields s) f m e) in rw e (of-well n (attrs_at t (f.at + boundary_output_attrs)) (out p.0 p.1 p.2))
      arm (no a) (no b) (no c) = rw (ne_eqb f.tag connector_tag a, ne_eqb f.tag boundary_input_tag b, ne_eqb f.tag boundary_output_tag c) (refl, refl)

  length-fine : (f : Field) → Memᴰ f (fields s) → bad_length t f ≡ false
  unfolding bad_length bad_block_length
  length-fine f m = arm (ℕ_discrete f.tag block_tag)
    where
      old : bad_length s f ≡ false
      old = none-mem (bad_length s) (fields s) acc.lengths f m

      arm : Dec (f.tag ≡ block_tag) → bad_length t f ≡ false
      arm (yes e) =
          let z = block-len s acc f m e in
          let not-con : f.tag ≢ connector_tag = λ q. omega (arith, sym e ∙ q) in
          let not-out : f.tag ≢ boundary_output_tag = λ q. omega (arith, sym e ∙ q) in
          rw (num-same s t σ acc w f m not-con not-out 2 (f.at + 9) (omega arith) (omega arith), num-same s t σ acc w f m not-con not-out 2 (f.at + 11) (omega arith) (omega arith)) old
      arm (no e) = rw (ne_eqb f.tag block_tag e) (rw (ne_eqb f.tag block_tag e) at old)

  contents-fine : (f : Field) → Memᴰ f (fields s) → bad_contents t f ≡ false
  unfolding bad_contents bad_head
  contents-fine f m = rw (head (ℕ_discrete f.tag head_tag), con (ℕ_discrete f.tag connector_tag), (attrs-fine f m).0)
    where
      a : Bool
      a = eqb f.tag head_tag && bad_head s f.at

      c : Bool
      c = eqb f.tag connector_tag && bad_connector (connector_at s f.at)

      two : (a || c) ≡ false
      two = (or_parts (a || c) (on_attrs s bad_attrs (attrs_offset f)) (field-contents s acc f m)).0

      head : Dec (f.tag ≡ head_tag) → (eqb f.tag head_tag && bad_head t f.at) ≡ false
      head (no e) = rw (ne_eqb f.tag head_tag e)
      head (yes e) =
          let z = head-len s acc f m e in
          let not-con : f.tag ≢ connector_tag = λ q. omega (arith, sym e ∙ q) in
          let not-out : f.tag ≢ boundary_output_tag = λ q. omega (arith, sym e ∙ q) in
          rw (num-same s t σ acc w f m not-con not-out 2 (f.at + 3) (omega arith) (omega arith), num-same s t σ acc w f m not-con not-out 2 (f.at + 5) (omega arith) (omega arith)) (or_parts a c two).0

      con : Dec (f.tag ≡ connector_tag) → (eqb f.tag connector_tag && bad_connector (connector_at t f.at)) ≡ false
      con (no e) = rw (ne_eqb f.tag connector_tag e)
      con (yes e) = rw (connector-fine (connector_at s f.at) (connector_at t f.at) (connector-fields s t σ acc w f m e)) (or_parts a c two).1

  text-fine : (f : Field) → Memᴰ f (fields s) → bad_text t f ≡ false
  unfolding bad_text
  text-fine f m = arm (ℕ_discrete f.tag text_tag)
    where
      arm : Dec (f.tag ≡ text_tag) → bad_text t f ≡ false
      arm (no e) = rw (ne_eqb f.tag text_tag e)
      arm (yes e) = rw (text_same s t σ acc w f m e) (none-mem (bad_text s) (fields s) acc.texts f m)

  reference-fine : (f : Field) → Memᴰ f (fields s) → bad_reference (text_count s) t f ≡ false
  unfolding bad_reference
  reference-fine f m = rw (block (ℕ_discrete f.tag block_tag), con (ℕ_discrete f.tag connector_tag), in' (ℕ_discrete f.tag boundary_input_tag), out (ℕ_discrete f.tag boundary_output_tag), (attrs-fine f m).1)
    where
      n : ℕ
      n = text_count s

      a : List ℕ → Bool
      a u = eqb f.tag block_tag && bad_or_none n (block_at u f.at).instance_iri

      b : List ℕ → Bool
      b u = eqb f.tag connector_tag && bad_or_none n (connector_at u f.at).iri

      c : List ℕ → Bool
      c u = eqb f.tag boundary_input_tag && leb n (boundary_input_at u f.at).iri

      d : List ℕ → Bool
      d u = eqb f.tag boundary_output_tag && leb n (boundary_output_at u f.at).iri

      all : (a s || b s || c s || d s) ≡ false
      all = (or_parts (a s || b s || c s || d s) (on_attrs s (bad_text_numbers n) (attrs_offset f)) (field-reference s acc f m)).0

      three : (a s || b s || c s) ≡ false
      three = (or_parts (a s || b s || c s) (d s) all).0

      two : (a s || b s) ≡ false
      two = (or_parts (a s || b s) (c s) three).0

      block : Dec (f.tag ≡ block_tag) → a t ≡ false
      block (no e) = rw (ne_eqb f.tag block_tag e)
      block (yes e) = rw (block_same s t σ acc w f m e) (or_parts (a s) (b s) two).0

      con : Dec (f.tag ≡ connector_tag) → b t ≡ false
      con (no e) = rw (ne_eqb f.tag connector_tag e)
      con (yes e) = rw (connector-fields s t σ acc w f m e).iri (or_parts (a s) (b s) two).1

      in' : Dec (f.tag ≡ boundary_input_tag) → c t ≡ false
      in' (no e) = rw (ne_eqb f.tag boundary_input_tag e)
      in' (yes e) = rw (input-same s t σ acc w f m e) (or_parts (a s || b s) (c s) three).1

      out : Dec (f.tag ≡ boundary_output_tag) → d t ≡ false
      out (no e) = rw (ne_eqb f.tag boundary_output_tag e)
      out (yes e) = rw (out-fields s t σ acc w f m e).0 (or_parts (a s || b s || c s) (d s) all).1

  pub accepts : refusal t ≡ None
  unfolding refusal refusals_from fault
  accepts =
      let l : length t ≡ length s = w.same in
      let e : ltb (stop t) (length t) ≡ false = le-ltb (stop t) (length t) (omega (arith, ends_same s t σ acc w)) in
      rw (
        fields-same s t σ acc w,
        e,
        le-ltb (length t) shortest_image (omega (arith, acc.long)),
        le-ltb longest_image (length t) (omega (arith, acc.short)),
        first-none bad_tag (fields s) (none-mem bad_tag (fields s) acc.tags),
        first-none (bad_length t) (fields s) length-fine,
        first-none too_many (fields s) (none-mem too_many (fields s) acc.counts),
        first-none (bad_contents t) (fields s) contents-fine,
        first-none (bad_text t) (fields s) text-fine,
        first-none (bad_reference (text_count s) t) (fields s) reference-fine,
      )
