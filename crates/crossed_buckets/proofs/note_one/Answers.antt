-- A member that takes part changes what is known of its bucket.
use mathlib.Core.Path.{sym, ap, ◌∙◌}
use native.Mathlib.Omega.{arith}
use Rattle.std.proofs.Common.{Some}
use Rattle.oce_model.specs.Model.{model_of}
use Rattle.crossed_buckets.specs.Buckets.{member_value}
use Rattle.crossed_buckets.proofs.Laws.{value-inside, noted-turn, noted-skip}
use Rattle.crossed_buckets.proofs.note_one.Goals as goal

pub slice_copy_out-with_member : goal.slice_copy_out-with_member
slice_copy_out-with_member c = let pre = c.requires in omega (arith, value-inside _ _ c.read_member-member.ensures c.in-Some.is, pre.1.long)

pub bounds-known-b : goal.bounds-known-b
bounds-known-b c = let pre = c.requires in omega (arith, value-inside _ _ c.read_member-member.ensures c.in-Some.is, pre.1.long)

pub returns-in-Some : goal.returns-in-Some
returns-in-Some c =
    let pre = c.requires in
    let told = c.read_member-member.ensures ∙ ap (λ s. member_value (model_of s) c.args.x) c.image.ensures in
    (told, noted-turn pre.1 told (c.in-Some.is ∙ ap Some (sym c.from-b.ensures)) c.member_external.ensures c.with_member.ensures)

pub returns-in_default : goal.returns-in_default
returns-in_default c =
    let told = c.read_member-member.ensures ∙ ap (λ s. member_value (model_of s) c.args.x) c.image.ensures in
    (told, noted-skip c.requires.1 told c.in_default.is)
