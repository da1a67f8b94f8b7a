use Rattle.std.proofs.Common.{rules}
use Rattle.oce_diag.proofs.Putting.{put-one}
use Rattle.oce_diag.proofs.report.Report.put.Goals as goal

pub returns : goal.returns
returns c = record { put = put-one (rw (← c.total.ensures.0) c.write.ensures) c.count-self.ensures.0 c.count-self.ensures.1; few = search rules; same = search rules }
