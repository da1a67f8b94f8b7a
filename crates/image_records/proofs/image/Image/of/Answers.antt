-- `Image::of` meets its contract: tables that begin with the offsets, cut to their counts, hold them alone.
use mathlib.Core.Path.{sym}
use lib.Seq.{length-take-le}
use Rattle.image_records.proofs.Images.{texts-cut, texts-long, blocks-cut, blocks-long}
use Rattle.image_records.proofs.image.Image.of.Goals as goal

pub invariant_of-result : goal.invariant_of-result
invariant_of-result c = (c.requires.0, texts-cut c.requires.0 c.requires.1, blocks-cut c.requires.0 c.requires.2)

pub slice_bounds-result-end : goal.slice_bounds-result-end
slice_bounds-result-end c = sym (length-take-le _ _ (texts-long c.requires.0 c.requires.1))

pub slice_bounds-result-end-2 : goal.slice_bounds-result-end-2
slice_bounds-result-end-2 c = sym (length-take-le _ _ (blocks-long c.requires.0 c.requires.2))
