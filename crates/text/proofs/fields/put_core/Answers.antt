-- `text::fields::put_core` meets its contract. Assumes nothing.
use Rattle.std.proofs.Common.{take, pos, get_or, arith, add-one}
use mir.Syntax.{w16}
use mir.Val.{SFits}
use mir.ValLaws.{to_z-of_z}
use Rattle.text.proofs.PutLaws.{puts-nothing, within-then}
use Rattle.text.proofs.WordLaws.{following-none, following-more}
use Rattle.text.proofs.fields.put_core.Goals as goal

pub loop-number-init : goal.loop-number-init
loop-number-init c = record { puts = rw following-none (puts-nothing c.args.out.now c.args.at); within = omega arith }

pub loop-number-preserved : goal.loop-number-preserved
loop-number-preserved c =
    let core = take c.min.result c.args.core in
    let seat = c.loop-number.number-index in
    let fits : SFits w16 (get_or core seat (pos 0)) = record { sfits = omega arith } in
    let field = rw (to_z-of_z w16 _ fits) at c.put_signed_field-place.ensures in
    let put = within-then (omega arith) c.loop-number.invariant field in
    record { puts = rw (add-one, following-more core seat c.loop-number-test.true) put.puts; within = omega (arith, put.within) }
