-- Records of one kind stand side by side: record i of a kind of fixed length stands i field lengths behind the first.
use mathlib.Core.Logic.{◌≢◌}
use Prim.Native.Nat.{◌+◌, ◌*◌, ℕ, zero, suc, ◌<◌, ◌≤◌}
use borrow.Author.Tests.{ne_eqb, eq-eqb, leb-true, leb-false, ltb-false}
use mathlib.Core.Path.{sym, ◌∙◌, ap, ◌≡◌, refl}
use native.Mathlib.Decide.{ℕ_discrete}
use native.Mathlib.Nat.{not-suc-le-zero, le_of_suc-le-suc, mul-suc, mul-zero}
use native.Mathlib.Omega.{arith}
use mathlib.Core.Bool.{Bool, true, false, cond, not, ◌||◌, ◌&&◌}
use mathlib.Core.List.{List, [], ◌∷◌}
use Rattle.std.specs.Prelude.{Some}
use lib.ListN.{length, get_or, length-map}
use lib.Dec.{leb, eqb, ltb}
use Rattle.base.specs.Lists.{keep}
use Rattle.numbers.specs.Bytes.{byte}
use Rattle.oce_model.specs.Format.{head_tag, enum_kind, dir_in, dir_out, fixed_length, leading_bytes, text_tag, block_tag, connector_tag, connection_tag, external_input_tag, boundary_input_tag, boundary_output_tag, connector_size, connection_size, external_input_size, boundary_input_size, boundary_output_size}
use Rattle.oce_model.specs.declared.Dir.TheVariants.{In, Out}
use Rattle.oce_model.specs.declared.Field.{Field}
use Rattle.oce_model.specs.Image.{field_at, field_end, fields, fields_from, first, of_tag, or_end, ord_of, start_of}
use Rattle.oce_model.specs.Model.{Connector, dir_of, dir_number, kind_of, kind_number, inwards, is_in, boundary_input, boundary_input_at, boundary_input_count, boundary_output, boundary_output_at, boundary_output_count, connection, connection_at, connection_count, connector, connector_at, connector_count, external_input_at, model_of}
use Rattle.oce_model.specs.Refusals.{attrs_offset, bad_attrs, bad_connector, bad_contents, bad_head, bad_length, bad_tag, on_attrs, tag_is_bad}
use Rattle.base.proofs.Lists.{or_parts}
use Rattle.base.proofs.Members.{get_or-map}
use Rattle.oce_model.proofs.Accepted.{Accepted, connection-is, connections-length, connector-is, connectors-length, fixed-length, input-is, inputs-length, output-is, outputs-length}
use Rattle.oce_model.proofs.Fields.{NonePass, and, none-mem, nth, nth-mem, nth-tag}

ascends : (f : Field) → bad_tag f ≡ false → f.prev ≤ f.tag
unfolding bad_tag tag_is_bad
ascends f h = ltb-false f.tag f.prev (or_parts (eqb f.tag 0 || ltb 8 f.tag) _ (or_parts (eqb f.tag 0 || ltb 8 f.tag || ltb f.tag f.prev) _ h).0).1

module _ (s : List ℕ) (t z : ℕ) where
  -- after a higher tag there is none
  past-tag : (k at prev ord : ℕ) → t < prev → NonePass bad_tag (fields_from k s at prev ord) → of_tag t (fields_from k s at prev ord) ≡ []
  unfolding fields_from of_tag keep field_at
  past-tag zero at prev ord l n = refl
  past-tag (suc k) at prev ord l n =
      arm (leb (field_end s at) (length s)) n (λ h. past-tag k (field_end s at) (byte s at) (suc (ord_of prev ord (byte s at))) h)
    where
      rest : List Field
      rest = fields_from k s (field_end s at) (byte s at) (suc (ord_of prev ord (byte s at)))

      arm : (b : Bool) → NonePass bad_tag (cond b (field_at s at prev (ord_of prev ord (byte s at)) ∷ rest) []) → (t < byte s at → NonePass bad_tag rest → of_tag t rest ≡ [])
          → of_tag t (cond b (field_at s at prev (ord_of prev ord (byte s at)) ∷ rest) []) ≡ []
      arm false n ih = refl
      arm true (and e n) ih =
          let a : prev ≤ byte s at = ascends (field_at s at prev (ord_of prev ord (byte s at))) e in
          let h : t < byte s at = omega arith in
          rw (ne_eqb (byte s at) t (λ q. absurd (omega arith))) (ih h n)

  -- the fields with the tag t among f and the ones behind it
  Run : List Field → ℕ → Type 0
  Run l at = (i : ℕ) (d : Field) → i < length (of_tag t l) → (get_or (of_tag t l) i d).at ≡ at + z * i

  head-run : (f : Field) (l : List Field) → (f.tag ≡ t → 3 + f.len ≡ z) → Run l (f.at + 3 + f.len) → (f.tag ≢ t → of_tag t l ≡ []) → Run (f ∷ l) f.at
  unfolding Run of_tag keep
  head-run f l len ih out i d h = arm (ℕ_discrete f.tag t) h
    where
      same : (i : ℕ) → f.tag ≡ t → i < length (f ∷ of_tag t l) → (get_or (f ∷ of_tag t l) i d).at ≡ f.at + z * i
      same zero e h = rw mul-zero (omega arith)
      same (suc i) e h = ih i d (le_of_suc-le-suc h) ∙ rw mul-suc (omega (arith, len e))

      arm : Dec (f.tag ≡ t) → i < length (of_tag t (f ∷ l)) → (get_or (of_tag t (f ∷ l)) i d).at ≡ f.at + z * i
      arm (yes e) = rw (eq-eqb f.tag t e) (same i e)
      arm (no n) = rw (ne_eqb f.tag t n, out n) (λ h. absurd (not-suc-le-zero h))

  empty : (at : ℕ) → Run [] at
  unfolding Run of_tag keep
  empty at i d h = absurd (not-suc-le-zero h)

  skip-run : (f : Field) (l : List Field) (at : ℕ) → f.tag ≢ t → Run l at → Run (f ∷ l) at
  unfolding Run of_tag keep
  skip-run f l at n h = rw (ne_eqb f.tag t n) h

  module _ (q : Field → Bool) (fixed : (f : Field) → f.tag ≡ t → q f ≡ false → 3 + f.len ≡ z) where
    -- after the tag t, or a higher one
    run : (k at prev ord : ℕ) → t ≤ prev → NonePass bad_tag (fields_from k s at prev ord) → NonePass q (fields_from k s at prev ord) → Run (fields_from k s at prev ord) at
    unfolding fields_from field_at field_end
    run zero at prev ord l n o = empty at
    run (suc k) at prev ord l n o = arm (leb (field_end s at) (length s)) n o (run k (field_end s at) (byte s at) (suc (ord_of prev ord (byte s at))))
      where
        rest : List Field
        rest = fields_from k s (field_end s at) (byte s at) (suc (ord_of prev ord (byte s at)))

        arm : (b : Bool) → NonePass bad_tag (cond b (field_at s at prev (ord_of prev ord (byte s at)) ∷ rest) []) → NonePass q (cond b (field_at s at prev (ord_of prev ord (byte s at)) ∷ rest) [])
            → (t ≤ byte s at → NonePass bad_tag rest → NonePass q rest → Run rest (field_end s at))
            → Run (cond b (field_at s at prev (ord_of prev ord (byte s at)) ∷ rest) []) at
        arm false n o ih = empty at
        arm true (and e n) (and g o) ih =
            let a : prev ≤ byte s at = ascends (field_at s at prev (ord_of prev ord (byte s at))) e in
            head-run (field_at s at prev (ord_of prev ord (byte s at))) rest (λ h. fixed (field_at s at prev (ord_of prev ord (byte s at))) h g) (ih (omega arith) n o)
            (λ h. past-tag k (field_end s at) (byte s at) _ (omega arith) n)

    -- from the start
    begin : (k at prev ord e : ℕ) → NonePass bad_tag (fields_from k s at prev ord) → NonePass q (fields_from k s at prev ord)
        → Run (fields_from k s at prev ord) (or_end (first (λ f. leb t f.tag) (fields_from k s at prev ord)) e)
    unfolding fields_from field_at field_end first
    begin zero at prev ord e n o = empty e
    begin (suc k) at prev ord e n o = arm (leb (field_end s at) (length s)) n o (begin k (field_end s at) (byte s at) (suc (ord_of prev ord (byte s at))) e)
      where
        rest : List Field
        rest = fields_from k s (field_end s at) (byte s at) (suc (ord_of prev ord (byte s at)))

        p : Field → Bool
        p = λ f. leb t f.tag

        arm : (b : Bool) → NonePass bad_tag (cond b (field_at s at prev (ord_of prev ord (byte s at)) ∷ rest) []) → NonePass q (cond b (field_at s at prev (ord_of prev ord (byte s at)) ∷ rest) [])
            → (NonePass bad_tag rest → NonePass q rest → Run rest (or_end (first p rest) e))
            → Run (cond b (field_at s at prev (ord_of prev ord (byte s at)) ∷ rest) []) (or_end (first p (cond b (field_at s at prev (ord_of prev ord (byte s at)) ∷ rest) [])) e)
        arm false n o ih = empty e
        arm true (and b n) (and g o) ih = side (leb t (byte s at)) refl
          where
            side : (c : Bool) → leb t (byte s at) ≡ c → Run (field_at s at prev (ord_of prev ord (byte s at)) ∷ rest) (or_end (cond c (Some at) (first p rest)) e)
            side true h =
                let l : t ≤ byte s at = leb-true _ _ h in
                head-run (field_at s at prev (ord_of prev ord (byte s at))) rest (λ h. fixed (field_at s at prev (ord_of prev ord (byte s at))) h g) (run k (field_end s at) (byte s at) _ l n o)
                (λ h. past-tag k (field_end s at) (byte s at) _ (omega arith) n)
            side false h = skip-run (field_at s at prev (ord_of prev ord (byte s at))) rest (or_end (first p rest) e) (λ q. absurd (omega (arith, leb-false t (byte s at) h))) (ih n o)

-- ---- of an accepted image

module _ (s : List ℕ) (acc : Accepted s) where
  -- the i-th field of a kind whose length is fixed
  pub nth-at : (t z i : ℕ) → t ≢ text_tag → t ≢ block_tag → leading_bytes + fixed_length t ≡ z → i < length (of_tag t (fields s)) → (nth t s i).at ≡ start_of t s + z * i
  unfolding start_of fields Run
  nth-at t z i n o e l =
      begin s t z (bad_length s)
      (λ f h b. ap (λ k. 3 + k) (fixed-length s f (λ q. n (sym h ∙ q)) (λ q. o (sym h ∙ q)) b ∙ ap fixed_length h) ∙ e)
      (length s) 0 0 0 (length s) acc.tags acc.lengths i (field_at s 0 0 0) l

  pub connector-at : (i : ℕ) → i < connector_count (model_of s) → connector (model_of s) i ≡ connector_at s (start_of connector_tag s + connector_size * i)
  unfolding fixed_length
  connector-at i l =
      connector-is s i l ∙ ap (connector_at s) (nth-at connector_tag connector_size i (omega arith) (omega arith) refl (rw (connectors-length s) at l))

  pub connection-at : (i : ℕ) → i < connection_count (model_of s) → connection (model_of s) i ≡ connection_at s (start_of connection_tag s + connection_size * i)
  unfolding fixed_length
  connection-at i l =
      connection-is s i l ∙ ap (connection_at s) (nth-at connection_tag connection_size i (omega arith) (omega arith) refl (rw (connections-length s) at l))

  pub external-at : (i d : ℕ) → i < length (model_of s).external_inputs → get_or (model_of s).external_inputs i d ≡ external_input_at s (start_of external_input_tag s + external_input_size * i)
  unfolding fixed_length model_of
  external-at i d l =
      let k : i < length (of_tag 6 (fields s)) = rw length-map at l in
      get_or-map (λ (f : Field). external_input_at s f.at) (of_tag 6 (fields s)) i (field_at s 0 0 0) d k
      ∙ ap (external_input_at s) (nth-at external_input_tag external_input_size i (omega arith) (omega arith) refl k)

  pub input-at : (i : ℕ) → i < boundary_input_count (model_of s) → boundary_input (model_of s) i ≡ boundary_input_at s (start_of boundary_input_tag s + boundary_input_size * i)
  unfolding fixed_length
  input-at i l =
      input-is s i l ∙ ap (boundary_input_at s) (nth-at boundary_input_tag boundary_input_size i (omega arith) (omega arith) refl (rw (inputs-length s) at l))

  pub output-at : (i : ℕ) → i < boundary_output_count (model_of s) → boundary_output (model_of s) i ≡ boundary_output_at s (start_of boundary_output_tag s + boundary_output_size * i)
  unfolding fixed_length
  output-at i l =
      output-is s i l ∙ ap (boundary_output_at s) (nth-at boundary_output_tag boundary_output_size i (omega arith) (omega arith) refl (rw (outputs-length s) at l))

-- ---- a direction as code has it

pub inwards_is : (c : Connector) → inwards (dir_of c) ≡ is_in c
unfolding dir_of
inwards_is c = by (is_in c)
  where
    by : (t : Bool) → inwards (cond t In Out) ≡ t
    by true = refl
    by false = refl

-- ---- a type as code has it

-- refusal 6 lets no other direction and no other type pass
front-ok : (s : List ℕ) (f : Field) → f.tag ≡ connector_tag → bad_contents s f ≡ false → ((connector_at s f.at).dir ≤ dir_out) × ((connector_at s f.at).value_type ≤ enum_kind)
unfolding bad_contents bad_connector
front-ok s f e h =
    let a = eqb f.tag head_tag && bad_head s f.at in
    let d = connector_at s f.at in
    let c = ltb 1 d.dir || ltb 4 d.value_type || (not (eqb d.value_type 4) && not (eqb d.enum_class 0)) in
    let g = (or_parts a (eqb f.tag connector_tag && c) (or_parts (a || (eqb f.tag connector_tag && c)) (on_attrs s bad_attrs (attrs_offset f)) h).0).1 in
    let k : c ≡ false = rw e at g in
    let p = or_parts (ltb 1 d.dir) _ (or_parts _ _ k).0 in
    (ltb-false 1 d.dir p.0, ltb-false 4 d.value_type p.1)

connector-front : (s : List ℕ) → Accepted s → (i : ℕ) → i < connector_count (model_of s) → ((connector (model_of s) i).dir ≤ dir_out) × ((connector (model_of s) i).value_type ≤ enum_kind)
connector-front s acc i l =
    let k = rw (connectors-length s) at l in
    rw (connector-is s i l) (front-ok s (nth connector_tag s i) (nth-tag connector_tag s i k) (none-mem (bad_contents s) (fields s) acc.contents (nth connector_tag s i) (nth-mem connector_tag s i k)))

pub connector-type : (s : List ℕ) → Accepted s → (i : ℕ) → i < connector_count (model_of s) → (connector (model_of s) i).value_type ≤ enum_kind
connector-type s acc i l = (connector-front s acc i l).1

pub connector-dir : (s : List ℕ) → Accepted s → (i : ℕ) → i < connector_count (model_of s) → dir_number (dir_of (connector (model_of s) i)) ≡ (connector (model_of s) i).dir
unfolding dir_of is_in
connector-dir s acc i l = dir-number (connector (model_of s) i).dir (connector-front s acc i l).0
  where
    dir-number : (n : ℕ) → n ≤ dir_out → dir_number (cond (eqb n dir_in) In Out) ≡ n
    dir-number zero h = refl
    dir-number (suc zero) h = refl
    dir-number (suc (suc n)) h = absurd (omega arith)

pub kind-number : (n : ℕ) → n ≤ enum_kind → kind_number (kind_of n) ≡ n
unfolding kind_of
kind-number zero l = refl
kind-number (suc zero) l = refl
kind-number (suc (suc zero)) l = refl
kind-number (suc (suc (suc zero))) l = refl
kind-number (suc (suc (suc (suc zero)))) l = refl
kind-number (suc (suc (suc (suc (suc n))))) l = absurd (omega arith)
