-- `streams::fail` meets its contract: four writes, each behind the one before.
use Rattle.std.proofs.Common.{ℕ, List, OnOk, Ok, Err}
use Rattle.std.specs.Prelude.{Result, Option, codes}
use Rattle.std.specs.Io.KnownBytes.{Appends}
use Rattle.std.proofs.KnownBytes.{Appends-trans}
use Rattle.streams.specs.Complaint.{Complains}
use Rattle.streams.proofs.fail.Goals as goal

complained : {T E : Type 0} (r : Result T E) (a b c d e : Option (List ℕ)) (what words : List ℕ) → Appends a b what → Appends b c (codes ": ") → Appends c d words
    → OnOk r (Appends d e (codes "\n")) → OnOk r (Complains a e what)
complained (Ok x) a b c d e what words p q s t = (words, Appends-trans a b e _ _ p (Appends-trans b c e _ _ q (Appends-trans c d e _ _ s t)))
complained (Err x) a b c d e what words p q s t = tt

pub returns : goal.returns
returns g c = complained _ _ _ _ _ _ _ _ c.in_ok-write_all.ensures.bytes c.in_ok-write_all-2.ensures.bytes c.in_ok-write_all-3.ensures.bytes c.write_all-4.ensures.bytes
