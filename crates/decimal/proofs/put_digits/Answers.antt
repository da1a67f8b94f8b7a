-- `put_digits` meets its contract: a number below ten is one digit, the digits of another are found one by one.
use Rattle.std.proofs.Common.{append_assoc, ap, length, arith, rules}
use Rattle.decimal.proofs.Decimal.{wide-one, found_room, found_more, found_all, found_length, found_part}
use Rattle.decimal.proofs.put_digits.Goals as goal

pub push-requires : goal.push-requires
push-requires g c = (search rules, omega (arith, ap length (wide-one c.args.n c.if-n-lt-TEN.true)))

pub returns-then-n-lt-TEN : goal.returns-then-n-lt-TEN
returns-then-n-lt-TEN g c = rw (c.push.ensures.items, c.digit.ensures, wide-one c.args.n c.if-n-lt-TEN.true)

pub overflow_sub-at : goal.overflow_sub-at
overflow_sub-at g c = found_room c.loop-rest.invariant (omega arith) (omega arith)

pub loop-rest-preserved : goal.loop-rest-preserved
loop-rest-preserved g c = rw c.digit-in-loop-rest.ensures (found_more c.loop-rest.invariant (omega arith) (omega arith))

pub push-requires-2 : goal.push-requires-2
push-requires-2 g c = (search rules, omega (arith, found_length c.loop-rest.invariant c.loop-rest-test.false))

pub put_bytes-requires : goal.put_bytes-requires
put_bytes-requires g c =
    let long = found_length c.loop-rest.invariant c.loop-rest-test.false in
    (search rules, rw (found_part c.loop-rest.invariant) (omega (arith, c.push-2.ensures.len, c.requires)))

pub returns : goal.returns
returns g c =
    rw (c.put_bytes.ensures, found_part c.loop-rest.invariant, c.push-2.ensures.items, c.digit-2.ensures, found_all c.loop-rest.invariant c.loop-rest-test.false) (append_assoc c.args.out.now.items _ _)
