-- The image with its slots' attributes written anew: read again it has the same fields, and its model is the model with those attributes.
use Prim.Native.Nat.{ℕ, ◌+◌, ◌*◌, ◌≤◌, ◌<◌}
use native.Mathlib.Omega.{arith}
use mathlib.Core.Path.{◌≡◌, refl, sym, ap, ap₂, ◌∙◌}
use mathlib.Core.Logic.{◌≢◌}
use mathlib.Core.List.{List, [], ◌∷◌, map, Memᴰ}
use lib.ListN.{length, get_or, take, drop, length-take, length-drop}
use lib.Seq.{ext_get_or, get_or-take, get_or-drop}
use Rattle.numbers.specs.Bytes.{byte, le_at, le32, le64, signed64}
use Rattle.oce_model.specs.Format.{attrs_length, block_tag, boundary_input_attrs, boundary_input_tag, boundary_output_attrs, boundary_output_tag, connection_tag, connector_attrs, connector_tag, external_input_tag, head_tag, text_tag}
use Rattle.oce_model.specs.Attributes.{attrs_at, attrs_bytes}
use Rattle.oce_model.specs.Image.{field_at, fields, of_tag, stop}
use Rattle.oce_model.specs.Model.{BoundaryOutput, Connector, input_count_at, output_count_at, block_at, boundary_input_at, boundary_output, boundary_output_at, boundary_output_count, connection_at, connector, connector_at, connector_count, external_input_at, ids_at, model_of}
use Rattle.oce_model.specs.Texts.{text_of}
use Rattle.oce_model.specs.declared.Field.{Field}
use Rattle.unify.specs.Slots.{Slots, slot}
use Rattle.outcome.specs.Filled.{with_slots}
use Rattle.moved.specs.Moved.{Same, SameConnector}
use Rattle.base.proofs.Lists.{each_same}
use Rattle.base.proofs.Members.{get_or-default, map_same}
use Rattle.base.proofs.Patches.{patched, patched-inside, patched-length, patched-outside}
use Rattle.numbers.proofs.Bytes.{le_same}
use Rattle.oce_model.proofs.Accepted.{Accepted, head_first, block-len, connection-len, connector-is, connector-len, connectors-length, external-len, head-len, input-len, output-is, output-len, outputs-length}
use Rattle.oce_model.proofs.Attributes.{attrs-again, attrs-same, bytes-length}
use Rattle.oce_model.proofs.Fields.{nth, nth-mem, nth-tag, tag-mem, walk_start, walk_step}
use Rattle.oce_model.proofs.Places.{end_at, field-end}
use Rattle.oce_model.proofs.Reread.{Heads, and, end, same-fields, same_stop}
use Rattle.moved.proofs.Regions.{connector_slots, offset, offset-connector, offset-out, offsets-length, output_slots, outside-slots, slots_apart, slots-fit}
use Rattle.moved.proofs.Widths.{AllCaps}

-- t is s with the attributes σ in its slots
pub record Rewritten (s t : List ℕ) (σ : Slots) : Type 0 where
  pub same : length t ≡ length s
  pub still : (f : Field) (x : ℕ) → Memᴰ f (fields s) → f.at ≤ x → x < end_at f → (f.tag ≡ connector_tag → x < f.at + connector_attrs) → (f.tag ≡ boundary_output_tag → x < f.at + boundary_output_attrs) → byte t x ≡ byte s x
  pub there : (j i : ℕ) → j < connector_slots s + output_slots s → i < attrs_length → byte t (offset s j + i) ≡ byte (attrs_bytes (slot σ j)) i

pub with_slots-is : (s : List ℕ) (σ : Slots) → with_slots s σ ≡ patched s (offset s) (λ j. attrs_bytes (slot σ j)) (connector_slots s + output_slots s)
unfolding with_slots patched
with_slots-is s σ = ap (patched s (offset s) (λ j. attrs_bytes (slot σ j))) (offsets-length s)

pub rewritten : (s : List ℕ) → Accepted s → (σ : Slots) → Rewritten s (with_slots s σ) σ
rewritten s acc σ = rw (with_slots-is s σ)
    (record {
      same = patched-length attrs_length s (offset s) bs n sizes (slots-fit s acc) (slots_apart s acc) n (omega arith);
      still = λ f x m a b four eight. patched-outside attrs_length s (offset s) bs n sizes (slots-fit s acc) (slots_apart s acc) n x (omega arith) (outside-slots s acc f x m a b four eight);
      there = λ j i l k. patched-inside attrs_length s (offset s) bs n sizes (slots-fit s acc) (slots_apart s acc) n j i (omega arith) l k;
    })
  where
    n : ℕ
    n = connector_slots s + output_slots s

    bs : ℕ → List ℕ
    bs = λ j. attrs_bytes (slot σ j)

    sizes : (j : ℕ) → length (bs j) ≡ attrs_length
    sizes j = bytes-length (slot σ j)

heads-all : (s t : List ℕ) (l : List Field) → ((f : Field) → Memᴰ f l → (c : ℕ) → c < 3 → byte t (f.at + c) ≡ byte s (f.at + c)) → Heads s t l
heads-all s t [] h = end
heads-all s t (f ∷ l) h = and (h f (mathlib.Core.List.Memᴰ.head refl)) (heads-all s t l (λ g m. h g (mathlib.Core.List.Memᴰ.tail m)))

module _ (s t : List ℕ) (σ : Slots) (acc : Accepted s) (w : Rewritten s t σ) where
  heads : Heads s t (fields s)
  heads = heads-all s t (fields s) (λ f m c l. w.still f (f.at + c) m (omega arith) (omega arith) (λ e. omega arith) (λ e. omega arith))

  pub fields-same : fields t ≡ fields s
  fields-same = same-fields s t w.same acc.ends heads

  pub ends_same : stop t ≡ length t
  ends_same = same_stop s t w.same acc.ends heads

  -- numbers in fields without slots
  pub num-same : (f : Field) → Memᴰ f (fields s) → f.tag ≢ connector_tag → f.tag ≢ boundary_output_tag → (v x : ℕ) → f.at ≤ x → x + v ≤ end_at f → le_at v t x ≡ le_at v s x
  num-same f m not-con not-out v x a b = le_same v t s x x (λ i l. w.still f (x + i) m (omega arith) (omega arith) (λ e. absurd (not-con e)) (λ e. absurd (not-out e)))

  -- and those before the attributes of a connector, and of a boundary output
  pub num-connector : (f : Field) → Memᴰ f (fields s) → f.tag ≡ connector_tag → (v x : ℕ) → f.at ≤ x → x + v ≤ f.at + connector_attrs → le_at v t x ≡ le_at v s x
  num-connector f m n v x a b =
      let z = connector-len s acc f m n in
      le_same v t s x x (λ i l. w.still f (x + i) m (omega arith) (omega arith) (λ e. omega arith) (λ e. absurd (omega (arith, sym n ∙ e))))

  pub num-out : (f : Field) → Memᴰ f (fields s) → f.tag ≡ boundary_output_tag → (v x : ℕ) → f.at ≤ x → x + v ≤ f.at + boundary_output_attrs → le_at v t x ≡ le_at v s x
  num-out f m n v x a b =
      let z = output-len s acc f m n in
      le_same v t s x x (λ i l. w.still f (x + i) m (omega arith) (omega arith) (λ e. absurd (omega (arith, sym n ∙ e))) (λ e. omega arith))

  pub text_same : (f : Field) → Memᴰ f (fields s) → f.tag ≡ text_tag → text_of t f ≡ text_of s f
  unfolding text_of
  text_same f m e =
      let q = field-end s f m in
      let k = w.same in
      ext_get_or 0 (take f.len (drop (f.at + 3) t)) (take f.len (drop (f.at + 3) s)) (simp (length-take, length-drop) (rw k))
      (λ i l.
      let b : i < f.len = omega (arith, simp (length-take, length-drop) at l) in
      get_or-take f.len (drop (f.at + 3) t) i 0 b ∙ get_or-drop (f.at + 3) t i 0
      ∙ w.still f (f.at + 3 + i) m (omega arith) (omega arith) (λ z. absurd (omega (arith, sym e ∙ z))) (λ z. absurd (omega (arith, sym e ∙ z)))
      ∙ sym (get_or-take f.len (drop (f.at + 3) s) i 0 b ∙ get_or-drop (f.at + 3) s i 0))

  ids-same : (f : Field) → Memᴰ f (fields s) → f.tag ≢ connector_tag → f.tag ≢ boundary_output_tag → (x n : ℕ) → f.at ≤ x → x + 4 * n ≤ end_at f → ids_at t x n ≡ ids_at s x n
  unfolding ids_at
  ids-same f m not-con not-out x n a b =
      each_same n (λ i. le32 t (x + 4 * i) ∷ []) (λ i. le32 s (x + 4 * i) ∷ []) (λ i l. ap (λ v. v ∷ []) (num-same f m not-con not-out 4 (x + 4 * i) (omega arith) (omega arith)))

  pub block_same : (f : Field) → Memᴰ f (fields s) → f.tag ≡ block_tag → block_at t f.at ≡ block_at s f.at
  unfolding block_at
  block_same f m e =
      let z = block-len s acc f m e in
      let not-con : f.tag ≢ connector_tag = λ q. omega (arith, sym e ∙ q) in
      let not-out : f.tag ≢ boundary_output_tag = λ q. omega (arith, sym e ∙ q) in
      rw (
        num-same f m not-con not-out 4 (f.at + 3) (omega arith) (omega arith),
        num-same f m not-con not-out 2 (f.at + 7) (omega arith) (omega arith),
        num-same f m not-con not-out 2 (f.at + 9) (omega arith) (omega arith),
        num-same f m not-con not-out 2 (f.at + 11) (omega arith) (omega arith),
        ids-same f m not-con not-out (f.at + 13) (input_count_at s f.at) (omega arith) (omega arith),
        ids-same f m not-con not-out (f.at + 13 + 4 * input_count_at s f.at) (output_count_at s f.at) (omega arith) (omega arith),
      )

  connection-same : (f : Field) → Memᴰ f (fields s) → f.tag ≡ connection_tag → connection_at t f.at ≡ connection_at s f.at
  unfolding connection_at
  connection-same f m e =
      let z = connection-len s acc f m e in
      let not-con : f.tag ≢ connector_tag = λ q. omega (arith, sym e ∙ q) in
      let not-out : f.tag ≢ boundary_output_tag = λ q. omega (arith, sym e ∙ q) in
      rw (num-same f m not-con not-out 4 (f.at + 3) (omega arith) (omega arith), num-same f m not-con not-out 4 (f.at + 7) (omega arith) (omega arith))

  external-same : (f : Field) → Memᴰ f (fields s) → f.tag ≡ external_input_tag → external_input_at t f.at ≡ external_input_at s f.at
  unfolding external_input_at
  external-same f m e =
      let z = external-len s acc f m e in
      num-same f m (λ q. omega (arith, sym e ∙ q)) (λ q. omega (arith, sym e ∙ q)) 4 (f.at + 3) (omega arith) (omega arith)

  pub input-same : (f : Field) → Memᴰ f (fields s) → f.tag ≡ boundary_input_tag → boundary_input_at t f.at ≡ boundary_input_at s f.at
  unfolding boundary_input_at
  input-same f m e =
      let z = input-len s acc f m e in
      let not-con : f.tag ≢ connector_tag = λ q. omega (arith, sym e ∙ q) in
      let not-out : f.tag ≢ boundary_output_tag = λ q. omega (arith, sym e ∙ q) in
      rw (
        num-same f m not-con not-out 2 (f.at + 3) (omega arith) (omega arith),
        attrs-same s t (f.at + boundary_input_attrs) (λ x a b. w.still f x m (omega arith) (omega arith) (λ q. absurd (not-con q)) (λ q. absurd (not-out q))),
      )

  -- records of one kind
  records : {A : Type 0} (tag : ℕ) (g h : Field → A) → ((f : Field) → Memᴰ f (fields s) → f.tag ≡ tag → g f ≡ h f) → map g (of_tag tag (fields t)) ≡ map h (of_tag tag (fields s))
  records tag g h e = ap (λ l. map g (of_tag tag l)) fields-same ∙ map_same g h (of_tag tag (fields s)) (λ f k. let p = tag-mem tag (fields s) f k in e f p.0 p.1)

  -- the head stands first
  head-same : (x : ℕ) → x + 8 ≤ 23 → le64 t x ≡ le64 s x
  unfolding field_at
  head-same x l =
      let st = walk_step s 0 0 (fields s) (walk_start s acc.ends) (let z = acc.long in omega arith) in
      go st.ord st.later st.is
    where
      go : (o : ℕ) (rest : List Field) → fields s ≡ field_at s 0 0 o ∷ rest → le64 t x ≡ le64 s x
      go o rest e =
          let f = field_at s 0 0 o in
          let m : Memᴰ f (fields s) = rw e (mathlib.Core.List.Memᴰ.head refl) in
          let one : f.tag ≡ head_tag = head_first s acc o m in
          let z = head-len s acc f m one in
          num-same f m (λ q. omega (arith, sym one ∙ q)) (λ q. omega (arith, sym one ∙ q)) 8 x (omega arith) (omega arith)

  nth-at : (tag i : ℕ) → i < length (of_tag tag (fields s)) → (nth tag t i).at ≡ (nth tag s i).at
  nth-at tag i l = ap (λ l. (get_or (of_tag tag l) i (field_at t 0 0 0)).at) fields-same ∙ ap (λ (f : Field). f.at) (get_or-default (of_tag tag (fields s)) i (field_at t 0 0 0) (field_at s 0 0 0) l)

  count_same : (tag : ℕ) → length (of_tag tag (fields t)) ≡ length (of_tag tag (fields s))
  count_same tag = ap (λ l. length (of_tag tag l)) fields-same

  pub connector-fields : (f : Field) → Memᴰ f (fields s) → f.tag ≡ connector_tag → SameConnector (connector_at s f.at) (connector_at t f.at)
  unfolding connector_at le_at
  connector-fields f m e = record {
    id = num-connector f m e 4 (f.at + 3) (omega arith) (omega arith);
    block = num-connector f m e 4 (f.at + 7) (omega arith) (omega arith);
    dir = here (f.at + 11) (omega arith) (omega arith);
    value_type = here (f.at + 12) (omega arith) (omega arith);
    enum_class = num-connector f m e 4 (f.at + 13) (omega arith) (omega arith);
    iri = num-connector f m e 2 (f.at + 17) (omega arith) (omega arith);
  }
    where
      here : (x : ℕ) → f.at ≤ x → x < f.at + connector_attrs → byte t x ≡ byte s x
      here x a b = let z = connector-len s acc f m e in w.still f x m a (omega arith) (λ q. b) (λ q. absurd (omega (arith, sym e ∙ q)))

  pub out-fields : (f : Field) → Memᴰ f (fields s) → f.tag ≡ boundary_output_tag → ((boundary_output_at t f.at).iri ≡ (boundary_output_at s f.at).iri) × ((boundary_output_at t f.at).source ≡ (boundary_output_at s f.at).source)
  unfolding boundary_output_at
  out-fields f m e = (num-out f m e 2 (f.at + 3) (omega arith) (omega arith), num-out f m e 4 (f.at + 5) (omega arith) (omega arith))

  connector-again : (i : ℕ) → i < connector_slots s → connector (model_of t) i ≡ connector_at t (nth connector_tag s i).at
  connector-again i l = connector-is t i (rw (connectors-length t, count_same connector_tag) l) ∙ ap (connector_at t) (nth-at connector_tag i l)

  out-again : (i : ℕ) → i < output_slots s → boundary_output (model_of t) i ≡ boundary_output_at t (nth boundary_output_tag s i).at
  out-again i l = output-is t i (rw (outputs-length t, count_same boundary_output_tag) l) ∙ ap (boundary_output_at t) (nth-at boundary_output_tag i l)

  pub same-model : Same (model_of s) (model_of t)
  unfolding model_of
  same-model = record {
    defaults = ap₂ (λ l h. record { min = signed64 l; max = signed64 h }) (head-same 7 (omega arith)) (head-same 15 (omega arith));
    texts = records text_tag (text_of t) (text_of s) text_same;
    blocks = records block_tag (λ f. block_at t f.at) (λ f. block_at s f.at) block_same;
    connector_count = connectors-length t ∙ count_same connector_tag ∙ sym (connectors-length s);
    connectors = λ i l. con i l (rw (connectors-length s) at l);
    connections = records connection_tag (λ f. connection_at t f.at) (λ f. connection_at s f.at) connection-same;
    external_inputs = records external_input_tag (λ f. external_input_at t f.at) (λ f. external_input_at s f.at) external-same;
    boundary_inputs = records boundary_input_tag (λ f. boundary_input_at t f.at) (λ f. boundary_input_at s f.at) input-same;
    output_count = outputs-length t ∙ count_same boundary_output_tag ∙ sym (outputs-length s);
    boundary_outputs = λ i l. out i l (rw (outputs-length s) at l);
  }
    where
      con : (i : ℕ) → i < connector_count (model_of s) → i < connector_slots s → SameConnector (connector (model_of s) i) (connector (model_of t) i)
      con i l k = rw (connector-is s i l, connector-again i k) (connector-fields (nth connector_tag s i) (nth-mem connector_tag s i k) (nth-tag connector_tag s i k))

      out : (i : ℕ) → i < boundary_output_count (model_of s) → i < output_slots s → ((boundary_output (model_of t) i).iri ≡ (boundary_output (model_of s) i).iri) × ((boundary_output (model_of t) i).source ≡ (boundary_output (model_of s) i).source)
      out i l k = rw (output-is s i l, out-again i k) (out-fields (nth boundary_output_tag s i) (nth-mem boundary_output_tag s i k) (nth-tag boundary_output_tag s i k))

  module _ (six : (j : ℕ) → j < connector_slots s + output_slots s → length (slot σ j).nums ≡ 6) (caps : AllCaps σ) where
    -- the attributes of the i-th connector's field, and of the i-th boundary output's
    pub connector-slot : (i : ℕ) → i < connector_slots s → attrs_at t ((nth connector_tag s i).at + connector_attrs) ≡ slot σ i
    connector-slot i k =
        let o = offset-connector s i k in
        attrs-again t ((nth connector_tag s i).at + connector_attrs) (slot σ i) (six i (omega arith)) (caps.at i) (λ j h. ap (λ x. byte t (x + j)) (sym o) ∙ w.there i j (omega arith) h)

    pub out-slot : (i : ℕ) → i < output_slots s → attrs_at t ((nth boundary_output_tag s i).at + boundary_output_attrs) ≡ slot σ (connector_slots s + i)
    out-slot i k =
        let o = offset-out s i k in
        attrs-again t ((nth boundary_output_tag s i).at + boundary_output_attrs) (slot σ (connector_slots s + i)) (six (connector_slots s + i) (omega arith)) (caps.at (connector_slots s + i)) (λ j h. ap (λ x. byte t (x + j)) (sym o) ∙ w.there (connector_slots s + i) j (omega arith) h)

    pub connector-attrs : (i : ℕ) → i < connector_count (model_of s) → (connector (model_of t) i).attrs ≡ slot σ i
    unfolding connector_at
    connector-attrs i l =
        let k : i < connector_slots s = rw (connectors-length s) at l in
        ap (λ (c : Connector). c.attrs) (connector-again i k) ∙ connector-slot i k

    pub out-attrs : (i : ℕ) → i < boundary_output_count (model_of s) → (boundary_output (model_of t) i).attrs ≡ slot σ (connector_count (model_of s) + i)
    unfolding boundary_output_at
    out-attrs i l =
        let k : i < output_slots s = rw (outputs-length s) at l in
        ap (λ (b : BoundaryOutput). b.attrs) (out-again i k) ∙ out-slot i k ∙ ap (λ n. slot σ (n + i)) (sym (connectors-length s))
