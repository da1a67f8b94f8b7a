-- Laws of decimal digits: one digit more, how many there are at most, and that they stand for the number.
use Prim.Native.Nat.{ℕ, zero, suc, ◌+◌, ◌-◌, ◌*◌, ◌/◌, ◌%◌, ◌^◌, ◌≤◌, ◌<◌}
use native.Mathlib.Nat.{pow-succ'}
use native.Mathlib.Omega.{arith}
use mathlib.Core.Path.{◌≡◌, refl, ap, ◌∙◌}
use mathlib.Core.Bool.{Bool, true, false, cond}
use mathlib.Core.List.{List, [], ◌∷◌, ◌++◌, append_assoc}
use lib.Dec.{ltb}
use lib.ListN.{length, take, drop, set, length-append, length-drop, length-set}
use borrow.Author.Tests.{lt-ltb, le-ltb, ltb-true}
use Rattle.std.proofs.lemmas.List.{drop-set, take_all}
use Rattle.decimal.specs.Decimal.{ten, digit_zero, digit, digits_in, decimal, wide_decimal, value_of, most_digits, most_wide_digits, most_byte_digits}

-- n / 10 below the next lower power
less : (k n : ℕ) → n < ten ^ suc (suc k) → n / ten < ten ^ suc k
less k n h = let l : n < ten * ten ^ suc k = rw (pow-succ' ten (suc k)) at h in omega arith

small : (n : ℕ) → n < ten ^ 1 → n < ten
small n h = rw (pow-succ' ten zero) at h

-- places beyond those that n needs don't count
more-places : (p q n : ℕ) → n < ten ^ suc p → n < ten ^ suc q → digits_in (suc p) n ≡ digits_in (suc q) n
unfolding digits_in
more-places zero q n h l = let m : n < ten = small n h in rw (lt-ltb n ten m)
more-places (suc p) zero n h l = let m : n < ten = small n l in rw (lt-ltb n ten m)
more-places (suc p) (suc q) n h l = rw (more-places p q (n / ten) (less p n h) (less q n l))

-- a number of 32 bits has the same digits among those of 64
pub decimal-wide : (n : ℕ) → n < 4294967296 → wide_decimal n ≡ decimal n
unfolding decimal wide_decimal
decimal-wide n h = more-places 19 9 n (omega arith) (omega arith)

-- below ten there is one digit
pub wide-one : (n : ℕ) → n < ten → wide_decimal n ≡ digit n ∷ []
unfolding wide_decimal digits_in
wide-one n h =
    let m : n % ten ≡ n = omega arith in
    rw (lt-ltb n ten h, m)

step : (p n : ℕ) → ten ≤ n → digits_in (suc p) n ≡ digits_in p (n / ten) ++ (digit (n % ten) ∷ [])
unfolding digits_in
step p n h = rw (le-ltb n ten h)

-- from ten on the last digit follows those of n / 10
pub wide-more : (n : ℕ) → n < 18446744073709551616 → ten ≤ n → wide_decimal n ≡ wide_decimal (n / ten) ++ (digit (n % ten) ∷ [])
unfolding wide_decimal
wide-more n f h = rw (step 19 n h, more-places 18 19 (n / ten) (omega arith) (omega arith))

-- as many places, as many digits
digits-most : (p n : ℕ) → length (digits_in p n) ≤ p
unfolding digits_in
digits-most zero n = omega arith
digits-most (suc p) n = arm (ltb n ten) (digits-most p (n / ten))
  where
    arm : (b : Bool) → length (digits_in p (n / ten)) ≤ p → length (cond b [] (digits_in p (n / ten)) ++ (digit (n % ten) ∷ [])) ≤ suc p
    arm true h = omega arith
    arm false h = rw length-append (omega arith)

pub decimal-few : (n : ℕ) → length (decimal n) ≤ most_digits
unfolding decimal
decimal-few n = digits-most most_digits n

pub wide-few : (n : ℕ) → length (wide_decimal n) ≤ most_wide_digits
unfolding wide_decimal
wide-few n = digits-most most_wide_digits n

-- those of n / 10 are fewer
pub wide-front : (n : ℕ) → n < 18446744073709551616 → length (wide_decimal (n / ten)) < most_wide_digits
unfolding wide_decimal
wide-front n f = rw (more-places 19 18 (n / ten) (omega arith) (omega arith)) (let h = digits-most 19 (n / ten) in omega arith)

pub decimal-byte : (n : ℕ) → n < 256 → length (decimal n) ≤ most_byte_digits
unfolding decimal
decimal-byte n h = rw (more-places 9 2 n (omega arith) (omega arith)) (digits-most most_byte_digits n)

-- ---- the digits from the last one on

-- those of n are those of rest, and behind them what stands in a buffer from an index on
pub record Found (n rest at : ℕ) (xs : List ℕ) : Type 0 where
  pub all : wide_decimal n ≡ wide_decimal rest ++ drop at xs
  pub size : length xs ≡ most_wide_digits
  pub within : at ≤ most_wide_digits

module _ {n rest at : ℕ} {xs : List ℕ} (v : Found n rest at xs) where
  -- while more than one digit is left there is room for the last of them
  pub found_room : rest < 18446744073709551616 → ten ≤ rest → 0 < at
  found_room f h =
      let few : length (wide_decimal rest) + length (drop at xs) ≤ most_wide_digits = rw (← length-append (wide_decimal rest) (drop at xs), ← v.all) (wide-few n) in
      let some : length (wide_decimal rest) ≡ length (wide_decimal (rest / ten)) + 1 = ap length (wide-more rest f h) ∙ length-append (wide_decimal (rest / ten)) (digit (rest % ten) ∷ []) in
      omega (arith, length-drop at xs, v.size, v.within)

  -- one digit more
  pub found_more : rest < 18446744073709551616 → ten ≤ rest → Found n (rest / ten) (at - 1) (set xs (at - 1) (digit (rest % ten)))
  found_more f h =
      let room : 0 < at = found_room f h in
      let d = digit (rest % ten) in
      let put : drop (at - 1) (set xs (at - 1) d) ≡ d ∷ drop at xs = drop-set xs (at - 1) d (omega (arith, v.size, v.within)) ∙ ap (λ (i : ℕ). d ∷ drop i xs) (omega arith) in
      record {
        all = v.all ∙ rw (wide-more rest f h, put) (append_assoc (wide_decimal (rest / ten)) (d ∷ []) (drop at xs));
        size = length-set xs (at - 1) d ∙ v.size;
        within = omega (arith, v.within);
      }

  -- the first digit is what is left
  pub found_all : rest < ten → wide_decimal n ≡ digit rest ∷ drop at xs
  found_all h = v.all ∙ ap (λ (ys : List ℕ). ys ++ drop at xs) (wide-one rest h)

  pub found_length : rest < ten → length (wide_decimal n) ≡ 1 + length (drop at xs)
  found_length h = let e = ap length (found_all h) in omega arith

  -- what stands behind it in the buffer, as a part of that
  pub found_part : take (most_wide_digits - at) (drop at xs) ≡ drop at xs
  found_part = take_all (most_wide_digits - at) (drop at xs) (omega (arith, length-drop at xs, v.size))

-- ---- the digits stand for the number

value-last : (a d : ℕ) (xs : List ℕ) → value_of a (xs ++ (digit d ∷ [])) ≡ ten * value_of a xs + d
unfolding value_of
value-last a d [] = omega arith
value-last a d (x ∷ xs) = value-last (ten * a + (x - digit_zero)) d xs

value-one : (n : ℕ) → n < ten → value_of 0 (digit (n % ten) ∷ []) ≡ n
unfolding value_of
value-one n h = omega arith

value-digits : (p n : ℕ) → n < ten ^ suc p → value_of 0 (digits_in (suc p) n) ≡ n
unfolding digits_in
value-digits zero n h = let m : n < ten = small n h in rw (lt-ltb n ten m) (value-one n m)
value-digits (suc p) n h = arm (ltb n ten) refl (value-digits p (n / ten) (less p n h))
  where
    arm : (b : Bool) → ltb n ten ≡ b → value_of 0 (digits_in (suc p) (n / ten)) ≡ n / ten → value_of 0 (cond b [] (digits_in (suc p) (n / ten)) ++ (digit (n % ten) ∷ [])) ≡ n
    arm true e ih = value-one n (ltb-true n ten e)
    arm false e ih = value-last 0 (n % ten) (digits_in (suc p) (n / ten)) ∙ rw ih (omega arith)

pub decimal-value : (n : ℕ) → n < 4294967296 → value_of 0 (decimal n) ≡ n
unfolding decimal
decimal-value n h = value-digits 9 n (omega arith)

pub wide_value : (n : ℕ) → n < 18446744073709551616 → value_of 0 (wide_decimal n) ≡ n
unfolding wide_decimal
wide_value n h = value-digits 19 n (omega arith)
