use Rattle.std.proofs.Common.{arith}
use Rattle.image_records.proofs.Texts.{text-none, text-near, text-is}
use Rattle.image_records.proofs.image.Image.text.Goals as goal

pub overflow_add-at : goal.overflow_add-at
overflow_add-at c = let e = c.in-Some.ensures.lookup.3 in omega (arith, e.1 0, text-near c.self.invariant.0 c.self.invariant.1 e.0)

pub overflow_add-at-in-Some : goal.overflow_add-at-in-Some
overflow_add-at-in-Some c = let e = c.in-Some.ensures.lookup.3 in omega (arith, e.1 0, text-near c.self.invariant.0 c.self.invariant.1 e.0)

pub returns-in-Some : goal.returns-in-Some
returns-in-Some c =
    let e = c.in-Some.ensures.lookup.3 in
    rw (← c.self.view_is) (text-is c.self.invariant.0 c.self.invariant.1 e.0 (e.1 0) c.at16-length.ensures.0 c.part_of.ensures)

pub returns-in-None : goal.returns-in-None
returns-in-None c = rw (← c.self.view_is) (text-none c.self.invariant.0 c.self.invariant.1 c.in-None.ensures.lookup.3)
