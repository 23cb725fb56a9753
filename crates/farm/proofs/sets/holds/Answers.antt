use Rattle.std.proofs.Common.{rules, sym, arith, lit<, ◌<◌, ◌≤◌, ◌^◌}
use Rattle.std.proofs.Math.Nat.{pow-le-pow_right, lt_of_lt_of_le}
use Rattle.farm.proofs.SetLaws.{bit_below}
use Rattle.farm.specs.Sets.{bit}
use Rattle.farm.proofs.sets.holds.Goals as goal

pub returns-then-s-gt15 : goal.returns-then-s-gt15
returns-then-s-gt15 c =
    let narrow : c.args.set < 2 ^ 16 = omega arith in
    let far : 16 ≤ c.args.seat.0 = omega arith in
    sym (bit_below _ _ (lt_of_lt_of_le narrow (pow-le-pow_right {n = 2} (lit< tt) far)))

pub returns : goal.returns
unfolding bit
returns c = search rules
