-- `page::whole::put_page` meets its contract: the first line, and the lines of all times where it ends.
-- Assumes nothing.
use native.Mathlib.Omega.{arith}
use Rattle.text.proofs.PutLaws.{within-then}
use Rattle.time_lines.proofs.LineLaws.{printed-put}
use Rattle.page.proofs.whole.put_page.Goals as goal

pub returns : goal.returns
returns c =
    let room = c.requires.1 in
    within-then (omega arith) (printed-put (omega arith) c.header_line.ensures c.unwrap-end.ensures) c.put_times.ensures
