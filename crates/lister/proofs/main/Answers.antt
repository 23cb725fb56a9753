-- `lister::main` is safe and ends: the buffer for the input has the room that taking it asks for, the longest good record and one
-- byte more. Assumes nothing.
use Rattle.std.proofs.Common.{sym}
use Rattle.taking.proofs.InputLaws.{room-is}
use Rattle.lister.proofs.main.Goals as goal

pub list_input-requires : goal.list_input-requires
list_input-requires c = sym room-is
