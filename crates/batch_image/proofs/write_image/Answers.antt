-- `batch_image::write_image` meets its contract: the field, then the report in the part behind it.
use borrow.Author.Rules.{rules}
use Rattle.batch_image.proofs.Laws.{field_room, behind-field, image-bare, image-whole}
use Rattle.batch_image.proofs.write_image.Goals as goal

pub put_field-requires : goal.put_field-requires
put_field-requires c = search (field_room, rules)

pub returns-then-count_of-eq0 : goal.returns-then-count_of-eq0
returns-then-count_of-eq0 c = search (image-bare, rules)

pub slice_bounds-summarize_into-count : goal.slice_bounds-summarize_into-count
slice_bounds-summarize_into-count c = search (behind-field, rules)

pub slice_bounds-summarize_into-start : goal.slice_bounds-summarize_into-start
slice_bounds-summarize_into-start c = search (behind-field, rules)

pub returns : goal.returns
returns c = search (image-whole, rules)
