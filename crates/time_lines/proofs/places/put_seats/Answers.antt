-- `time_lines::places::put_seats` meets its contract: the line of each seat is put behind those of the seats before it.
-- Assumes nothing.
use Rattle.std.proofs.Common.{◌≡◌, refl, sym, ◌∙◌, add-one, get_or, arith}
use Rattle.knowledge.specs.Farm.{seat}
use Rattle.viewing.specs.Counts.{farm_in}
use Rattle.text.proofs.PutLaws.{puts-nothing, within-then}
use Rattle.time_lines.specs.Places.{lines_at}
use Rattle.time_lines.specs.Printing.{place_of}
use Rattle.time_lines.proofs.LineLaws.{shared-place, line-at}
use Rattle.time_lines.proofs.places.put_seats.Goals as goal
use Rattle.time_lines.proofs.places.put_seats.Goals.{then-set-shared, else-set-shared}

pub loop-seat-init : goal.loop-seat-init
unfolding lines_at
loop-seat-init c =
    let some = c.requires.0.accepted.bound in
    record {
      put = record { puts = puts-nothing c.args.out.now c.args.at; within = omega arith };
      asked = record { of = 0; inside = omega arith; known = refl; asked = c.ask_agreed-place.ensures };
    }

pub loop-seat-preserved : goal.loop-seat-preserved
unfolding lines_at
loop-seat-preserved c =
    let a = c.args in
    let inv = c.loop-seat.invariant in
    let here = seat c.loop-seat.seat in
    let less = c.loop-seat-test.true in
    -- What is asked of the place, where it was asked again or kept.
    let asked : (c.if-set-shared.place ≡ place_of a.farm a.edits here a.time) × (c.if-set-shared.shared ≡ get_or c.known_sets-known.result.of here.0 0) =
    elim c.if-set-shared.branch [
      | then-set-shared w ↦ (w.place-is ∙ w.ask_agreed-place-then-set-shared.ensures, w.shared-is)
      | else-set-shared w ↦ (
        w.place-is
            ∙ shared-place a.farm a.edits c.known_sets-known.result.of a.time c.loop-seat.place c.loop-seat.shared here.0
            c.requires.0.accepted.seats less c.requires.1 c.known_sets-known.ensures w.if-set-shared.false inv.asked,
        w.shared-is ∙ sym w.if-set-shared.false,
      )
    ] in
    let line = line-at (farm_in a.farm) a.edits.editors.now a.edits.times.now a.losers a.time here c.if-set-shared.place c.requires.0.all less c.requires.1 asked.0 in
    let put = within-then (omega arith) inv.put (rw line at c.put_line-end.ensures) in
    record {
      put = record { puts = rw add-one put.puts; within = omega (arith, put.within) };
      asked = record { of = here.0; inside = less; known = sym asked.1; asked = asked.0 };
    }
