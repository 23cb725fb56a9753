-- `writing::counting::has_room` meets its contract: no accepted lists take more bytes than any record of as many sets and edits can, and else the length decides.
-- Assumes nothing.
use native.Mathlib.Omega.{arith}
use Rattle.std.proofs.lemmas.Bool.Decides.{nat_tests}
use Rattle.writing.proofs.SizeLaws.{sizes}
use Rattle.writing.proofs.counting.has_room.Goals as goal

pub overflow_mul-most : goal.overflow_mul-most
overflow_mul-most c = let s = sizes c.args.accepted in omega arith

pub overflow_add-most-2 : goal.overflow_add-most-2
overflow_add-most-2 c = let s = sizes c.args.accepted in omega arith

pub returns-then-most-room : goal.returns-then-most-room
returns-then-most-room c = let s = sizes c.args.accepted in grind (arith, nat_tests, s.most)
