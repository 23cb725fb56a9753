-- A host's numbers as parameters that a thin function hands on (`walks`' `Handed.antt`), and a number as what it answers.
-- Assumes nothing.
use Prim.Native.Nat.{ℕ, suc}
use mathlib.Core.List.{List, [], ◌∷◌, ◌++◌}
use mir.Syntax.{Ty, ty_int, w8, w32}
use denote.Builtin.{u8, i32}
use denote.Exit.{yes}
use denote.Plain.{uint_Lawful}
use denote.Signature.{Slot, plain}
use denote.Signed.{sint_Lawful}
use denote.Struct.Laws as LL
use denote.Triple.End.{Kepts}
use Rattle.walks.proofs.Answered.{Answer}
use Rattle.walks.proofs.Handed.{Handed, plus, by_value}
use Rattle.host.specs.contracts.numbers.SeatNumber as SeatNumber
use Rattle.host.proofs.numbers.SeatNumber.TheLaws as SeatNumber'
use Rattle.host.specs.contracts.numbers.TimeNumber as TimeNumber
use Rattle.host.proofs.numbers.TimeNumber.TheLaws as TimeNumber'

module _ {m l : ℕ} {ps : List (Slot (suc m))} {ks : Kepts ps} {ps' : List (Slot (plus l m))} {ks' : Kepts ps'} {τs : List Ty} where
  abbrev pub an-i32 : Handed m l ps ks ps' ks' τs → Handed m l (plain (λ _. i32) ∷ ps) (yes, ks) (plain (λ _. i32) ∷ ps') (yes, ks') (i32.mir ++ τs)
  an-i32 = by_value i32 (tt, λ M 𝓤 𝓛. sint_Lawful 𝓛 w32)

  abbrev pub a-seat-number : Handed m l ps ks ps' ks' τs
      → Handed m l (plain (λ _. SeatNumber.the_row) ∷ ps) (yes, ks) (plain (λ _. SeatNumber.the_row) ∷ ps') (yes, ks') ((SeatNumber.the_row).mir ++ τs)
  a-seat-number = by_value SeatNumber.the_row (tt, λ M 𝓤 𝓛. LL.lawful SeatNumber.the_type SeatNumber'.the_laws 𝓛)

  abbrev pub a-time-number : Handed m l ps ks ps' ks' τs
      → Handed m l (plain (λ _. TimeNumber.the_row) ∷ ps) (yes, ks) (plain (λ _. TimeNumber.the_row) ∷ ps') (yes, ks') ((TimeNumber.the_row).mir ++ τs)
  a-time-number = by_value TimeNumber.the_row (tt, λ M 𝓤 𝓛. LL.lawful TimeNumber.the_type TimeNumber'.the_laws 𝓛)

abbrev pub a-number : Answer u8
a-number = record { told = ty_int w8; typed = λ M 𝓤 𝓛 r w is. ((uint_Lawful 𝓛 w8).typed r (w ∷ []) is).0 }
