-- `checking::whole::check` meets its contract: header, losses and edits stand one after the other, the first refusal is the record's,
-- and bytes that are left come last. Assumes nothing.
use Rattle.checking.proofs.RecordLaws.{from, Head, header-was, Looked, losses-looked, edits-looked, reading-no-header, reading-no-losses, reading-no-edits, bytes_left, no-bytes-left}
use Rattle.numbers.proofs.CursorLaws.{read-was-refused, passed-was-refused}
use Rattle.record.proofs.RefusalLaws.{handed_up}
use Rattle.std.specs.Prelude.{List, ℕ, None}
use Rattle.record.specs.Answers.{checked_of}
use Rattle.record.specs.Edits.{take_edits}
use Rattle.record.specs.Losses.{take_rounds}
use Rattle.farm.specs.Limits.{limits}
use native.Mathlib.Omega.{arith}
use mathlib.Core.Path.{sym, ap, ◌∙◌}
use Rattle.checking.proofs.whole.check.Goals as goal
use Rattle.checking.proofs.whole.check.Goals.{In_ok-header, In_ok-after_losses, In_ok-after_edits}

-- ════ What a part that was read tells ════

head : (c : In_ok-header) → Head c.args.bytes.now c.in_ok-header.header c.in_ok-header.after_header.at
head c = header-was _ _ _ c.in_ok-header.ensures

abbrev after-header : In_ok-after_losses → List ℕ
after-header c = from c.in_ok-header.after_header.at c.args.bytes.now

middle : (c : In_ok-after_losses)
    → Looked (after-header c) (take_rounds limits c.in_ok-header.header.seats c.in_ok-header.header.rounds (after-header c)) c.in_ok-after_losses.after_losses.at
middle c = losses-looked _ _ _ _ c.in_ok-after_losses.ensures

abbrev after-losses : In_ok-after_edits → List ℕ
after-losses c = from c.in_ok-after_losses.after_losses.at (from c.in_ok-header.after_header.at c.args.bytes.now)

last : (c : In_ok-after_edits)
    → Looked (after-losses c) (take_edits limits c.in_ok-header.header.seats c.in_ok-header.header.rounds c.in_ok-header.header.edits None (after-losses c)) c.in_ok-after_edits.after_edits.at
last c = edits-looked _ _ _ _ _ c.in_ok-after_edits.ensures

-- ════ The parts in their places ════

pub slice_bounds-losses-count : goal.slice_bounds-losses-count
slice_bounds-losses-count c = (head (goal.at.slice_bounds-losses-count c).In_ok-header).inside

pub slice_bounds-losses-start : goal.slice_bounds-losses-start
slice_bounds-losses-start c = (head (goal.at.slice_bounds-losses-start c).In_ok-header).inside

pub check_losses-requires : goal.check_losses-requires
check_losses-requires c = let few = (head (goal.at.check_losses-requires c).In_ok-header).few in omega arith

pub slice_bounds-edits-count : goal.slice_bounds-edits-count
slice_bounds-edits-count c = (middle (goal.at.slice_bounds-edits-count c).In_ok-after_losses).inside

pub slice_bounds-edits-start : goal.slice_bounds-edits-start
slice_bounds-edits-start c = (middle (goal.at.slice_bounds-edits-start c).In_ok-after_losses).inside

pub check_edits-requires : goal.check_edits-requires
check_edits-requires c = let some = (head (goal.at.check_edits-requires c).In_ok-header).some in omega arith

-- ════ The answers ════

pub returns-in_err-header : goal.returns-in_err-header
unfolding checked_of
returns-in_err-header c =
    handed_up _ _ c.from_residual.ensures.1 ∙ sym (ap checked_of (reading-no-header limits _ _ (read-was-refused _ _ _ (sym c.in_err-header.ensures))))

pub returns-in_err-after_losses : goal.returns-in_err-after_losses
unfolding checked_of
returns-in_err-after_losses c =
    let h = head (goal.at.returns-in_err-after_losses c).In_ok-header in
    handed_up _ _ c.from_residual-in_err-after_losses.ensures.1
    ∙ sym (ap checked_of (reading-no-losses limits _ _ _ h.took _ (passed-was-refused _ _ _ (sym c.in_err-after_losses.ensures))))

pub returns-in_err-after_edits : goal.returns-in_err-after_edits
unfolding checked_of
returns-in_err-after_edits c =
    let at = goal.at.returns-in_err-after_edits c in
    let h = head at.In_ok-header in
    let m = middle at.In_ok-after_losses in
    handed_up _ _ c.from_residual-in_err-after_edits.ensures.1
    ∙ sym (ap checked_of (reading-no-edits limits _ _ _ h.took _ _ m.took _ (passed-was-refused _ _ _ (sym c.in_err-after_edits.ensures))))

pub returns-then-after_edits-edits : goal.returns-then-after_edits-edits
unfolding checked_of
returns-then-after_edits-edits c =
    let at = goal.at.returns-then-after_edits-edits c in
    let h = head at.In_ok-header in
    let m = middle at.In_ok-after_losses in
    sym (ap checked_of (bytes_left _ _ _ h.took _ _ m.took _ (last at.In_ok-after_edits) c.if-after_edits-edits.true))

pub returns : goal.returns
unfolding checked_of
returns c =
    let at = goal.at.returns c in
    let h = head at.In_ok-header in
    let m = middle at.In_ok-after_losses in
    sym (ap checked_of (no-bytes-left _ _ _ h.took _ _ m.took _ (last at.In_ok-after_edits) c.if-after_edits-edits.false))
