-- `filling::fill::fill` meets its contract: the parts stand where the first pass found them, so each fill takes what that pass took.
-- Assumes nothing.
use Rattle.filling.proofs.GoodReading.{good-parts, Ready, ready, sets-ready, EditsReady, edits-ready, part-not-refused, good-answer, room, tables-filled}
use Rattle.checking.proofs.RecordLaws.{Head, header-was}
use Rattle.numbers.proofs.CursorLaws.{read-was-refused}
use Rattle.record.proofs.TakingLaws.{value-not-refused}
use Rattle.farm.specs.Limits.{limits}
use Rattle.std.proofs.Common.{arith, sym, ◌∙◌}
use Rattle.filling.proofs.fill.fill.Goals as goal
use Rattle.filling.proofs.fill.fill.Goals.{In_ok-header, In_ok-after_losses}

-- ════ What a part that was read tells ════

head : (c : In_ok-header) → Head c.args.bytes.now c.in_ok-header.header c.in_ok-header.after_header.at
head c = header-was _ _ _ c.in_ok-header.ensures

whole : (c : In_ok-header) → Ready c.args.bytes.now c.in_ok-header.header c.in_ok-header.after_header.at c.requires.0.what
whole c = ready _ _ _ c.requires.0 (head c)

behind : (c : In_ok-after_losses)
    → EditsReady c.args.bytes.now c.in_ok-header.header c.in_ok-header.after_header.at c.in_ok-after_losses.after_losses.at c.requires.0.what
behind c = edits-ready _ _ _ _ _ (whole (goal.at.In_ok-after_losses c).In_ok-header) c.in_ok-after_losses.ensures.0

-- ════ The parts in their places ════

pub slice_bounds-part-count : goal.slice_bounds-part-count
slice_bounds-part-count c = (head (goal.at.slice_bounds-part-count c).In_ok-header).inside

pub slice_bounds-part-start : goal.slice_bounds-part-start
slice_bounds-part-start c = (head (goal.at.slice_bounds-part-start c).In_ok-header).inside

pub fill_losses-requires : goal.fill_losses-requires
fill_losses-requires c =
    let w = whole (goal.at.fill_losses-requires c).In_ok-header in
    let s = sets-ready _ _ _ _ w in
    (s.0, s.1, omega (arith, w.count, (room _ c.requires.1).losses))

pub slice_bounds-fill_edits-count : goal.slice_bounds-fill_edits-count
slice_bounds-fill_edits-count c = (behind (goal.at.slice_bounds-fill_edits-count c).In_ok-after_losses).inside

pub slice_bounds-fill_edits-start : goal.slice_bounds-fill_edits-start
slice_bounds-fill_edits-start c = (behind (goal.at.slice_bounds-fill_edits-start c).In_ok-after_losses).inside

pub fill_edits-requires : goal.fill_edits-requires
fill_edits-requires c =
    let at = goal.at.fill_edits-requires c in
    let h = head at.In_ok-header in
    let r = room _ c.requires.1 in (
      omega (arith, h.some),
      record { what = _; rest = _; took = (behind at.In_ok-after_losses).edits },
      omega (arith, h.edits, r.seats),
      omega (arith, h.edits, r.times),
      omega (arith, h.edits, r.cells),
      omega (arith, h.edits, r.changes),
    )

-- ════ The answers ════

pub returns-in_err-header : goal.returns-in_err-header
returns-in_err-header c =
    let p = good-parts limits _ c.requires.0.what c.requires.0.is in
    absurd (value-not-refused _ _ _ (sym p.header ∙ read-was-refused _ _ _ (sym c.in_err-header.ensures)))

pub returns-in_err-after_losses : goal.returns-in_err-after_losses
returns-in_err-after_losses c =
    let w = whole (goal.at.returns-in_err-after_losses c).In_ok-header in
    absurd (part-not-refused _ _ _ _ _ w.numbers c.in_err-after_losses.ensures.0)

pub returns-in_err-fill_edits : goal.returns-in_err-fill_edits
returns-in_err-fill_edits c =
    absurd (part-not-refused _ _ _ _ _ (behind (goal.at.returns-in_err-fill_edits c).In_ok-after_losses).edits c.in_err-fill_edits.ensures.0)

pub returns : goal.returns
returns c =
    let at = goal.at.returns c in
    let w = whole at.In_ok-header in
    let f = c.in_ok-fill_edits.ensures.1 in (
      good-answer _ _ _ c.requires.0 (head at.In_ok-header),
      tables-filled _ c.requires.0.what _ _ c.requires.0.is _ _ w.numbers _ _ (behind at.In_ok-after_losses).edits
          c.in_ok-after_losses.ensures.1 (record { seats = f.seats; times = f.times; cells = f.cells; changes = f.changes }),
    )
