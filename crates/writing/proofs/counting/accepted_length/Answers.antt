-- `writing::counting::accepted_length` meets its contract: a byte for each loss set, seat and time, and the lengths of the other numbers are together the record's.
-- Assumes nothing.
use native.Mathlib.Omega.{arith}
use Rattle.writing.proofs.SizeLaws.{sizes}
use Rattle.writing.proofs.counting.accepted_length.Goals as goal

pub overflow_add-single : goal.overflow_add-single
overflow_add-single c = let s = sizes c.args.accepted in omega arith

pub header_length-requires : goal.header_length-requires
header_length-requires c = let s = sizes c.args.accepted in omega arith

pub overflow_add-result : goal.overflow_add-result
overflow_add-result c = let s = sizes c.args.accepted in omega arith

pub overflow_add-result-2 : goal.overflow_add-result-2
overflow_add-result-2 c = let s = sizes c.args.accepted in omega arith

pub overflow_add-result-3 : goal.overflow_add-result-3
overflow_add-result-3 c = let s = sizes c.args.accepted in omega arith

pub returns : goal.returns
returns c = let s = sizes c.args.accepted in omega arith
