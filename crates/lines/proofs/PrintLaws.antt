-- A line where there is room, and where there is none. Assumes nothing.
use mathlib.Core.Path.{◌≡◌, sym, ◌∙◌, ap}
use mathlib.Core.Bool.{true, false}
use mathlib.Core.List.{List}
use Prim.Native.Nat.{ℕ, ◌+◌, ◌≤◌}
use native.Mathlib.Omega.{arith}
use lib.Dec.{leb}
use lib.ListN.{length}
use Rattle.text.specs.Digits.{Text}
use Rattle.text.specs.Putting.{PutsWithin}
use Rattle.lines.specs.Printing.{Prints, line_room}
use Rattle.std.specs.Prelude.{Ok, Err}
use Rattle.farm.specs.declared.refusals.Refusal.TheVariants.{NoRoom}

pub prints : {k : ℕ} {text : Text} {at end : ℕ} {old new : List ℕ} → leb (at + line_room) (length old) ≡ true → k ≤ line_room
    → PutsWithin k text at old new end → Prints text at old new (Ok end)
prints room few put = record {
  answered = rw room (ap Ok put.puts.end);
  bytes = rw room put.puts.bytes;
  short = λ fits. omega (arith, few, put.puts.end, put.within);
}

pub prints-nothing : (text : Text) (at : ℕ) (buffer : List ℕ) → leb (at + line_room) (length buffer) ≡ false
    → Prints text at buffer buffer (Err NoRoom)
prints-nothing text at buffer none = record {
  answered = rw none;
  bytes = rw none;
  short = λ fits. let z : false ≡ true = sym none ∙ fits in let no : ◌≡◌ {A = ℕ} 0 1 = cc in omega arith;
}
