-- `text_count` meets its contract: the fields that the filter passes are those with the tag.
use Prim.Native.Nat.{ℕ, zero, suc, ◌≤◌}
use native.Mathlib.Omega.{arith}
use mathlib.Core.Logic.{inl}
use mathlib.Core.Path.{◌≡◌, refl, ap, ◌∙◌}
use mathlib.Core.Bool.{Bool, true, false, cond}
use mathlib.Core.List.{List, [], ◌∷◌}
use lib.Dec.{eqb, leb}
use lib.ListN.{length}
use Rattle.std.proofs.Common.{rules, tests}
use Rattle.std.proofs.lemmas.Iterator.Consumers.{YieldsList-at, YieldsList-from_first, YieldsList-from_filter, count_from_yields_List}
use Rattle.std.specs.List.{filter}
use Rattle.base.specs.Lists.{keep}
use Rattle.oce_model.specs.Format.{text_tag}
use Rattle.numbers.specs.Bytes.{byte}
use Rattle.oce_model.specs.Image.{field_end, fields, fields_from, of_tag, ord_of}
use Rattle.oce_model.specs.declared.Field.{Field}
use Rattle.image_accept.proofs.GoodSize.text_count.Goals as goal

is-kept : (p : Field → Bool) (l : List Field) → filter p l ≡ keep p l
unfolding keep
is-kept p [] = refl
is-kept p (f ∷ l) = rw (is-kept p l) refl

-- there are fewer fields than bytes
few-from : (k : ℕ) (s : List ℕ) (at prev n : ℕ) → length (fields_from k s at prev n) ≤ k
unfolding fields_from
few-from zero s at prev n = omega arith
few-from (suc k) s at prev n = arm _ _ (leb (field_end s at) (length s)) (few-from k s (field_end s at) (byte s at) (suc (ord_of prev n (byte s at))))
  where
    arm : (f : Field) (l : List Field) (b : Bool) → length l ≤ k → length (cond b (f ∷ l) []) ≤ suc k
    arm f l true h = omega arith
    arm f l false h = omega arith

few-fields : (s : List ℕ) → length (fields s) ≤ length s
unfolding fields
few-fields s = few-from (length s) s 0 0 0

pub count-requires-clause-fits : goal.count-requires-clause-fits
count-requires-clause-fits c = inl (omega (arith, ap length c.filter.ensures.source, ap length c.of.ensures, few-fields c.args.self.now.bytes.now, c.args.self.now.size.1))

pub returns : goal.returns
unfolding of_tag
returns c =
    let p : Field → Bool = λ f. eqb f.tag text_tag in
    count_from_yields_List c.filter.result c.count.result c.count.ensures.ran
    (YieldsList-from_filter _ p (YieldsList-at c.filter.ensures.source (YieldsList-from_first (λ x. x) (λ rest. rest) (fields c.args.self.now.bytes.now) c.of.ensures)) c.filter.ensures.closure (λ x r q k. search (rules, tests)))
    ∙ ap length (is-kept p (fields c.args.self.now.bytes.now))
