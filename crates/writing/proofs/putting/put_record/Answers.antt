-- `writing::putting::put_record` meets its contract: header, losses and edits stand one after the other.
-- Assumes nothing.
use native.Mathlib.Omega.{arith}
use Rattle.record.specs.Lent.{tables_in}
use Rattle.record.proofs.AcceptedLaws.{accepted-cells, accepted-lengths}
use Rattle.writing.proofs.SizeLaws.{sizes}
use Rattle.writing.proofs.PuttingLaws.{small-edits, header-fits, losses-fit, edits-fit, record-put}
use Rattle.writing.proofs.putting.put_record.Goals as goal

pub put_header-after_header-requires : goal.put_header-after_header-requires
put_header-after_header-requires c =
    let s = sizes c.args.accepted in
    (omega arith, header-fits c.args.accepted.lists c.args.out.now c.requires)

pub put_losses-after_losses-requires : goal.put_losses-after_losses-requires
put_losses-after_losses-requires c = losses-fit c.args.accepted.lists c.args.out.now c.requires c.put_header-after_header.ensures

pub put_edits-requires : goal.put_edits-requires
put_edits-requires c =
    let l = c.args.accepted.lists in
    let good = c.args.accepted.good in
    let fit = accepted-lengths l.seats l.bound l.rounds (tables_in l) good in (
      small-edits _ _ _ _ (accepted-cells l.seats l.bound l.rounds (tables_in l) good),
      fit.times,
      fit.cells,
      fit.changes,
      edits-fit l c.args.out.now c.requires c.put_header-after_header.ensures c.put_losses-after_losses.ensures,
    )

pub returns : goal.returns
returns c =
    record-put c.args.accepted.lists c.args.out.now c.requires c.put_header-after_header.ensures c.put_losses-after_losses.ensures c.put_edits.ensures
