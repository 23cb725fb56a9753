-- A parameter in front of those that a thin function hands on (`Handed.antt`), for each type that the calls take.
-- Assumes nothing.
use Prim.Native.Nat.{ℕ, suc}
use mathlib.Core.List.{List, ◌∷◌, ◌++◌}
use mir.Syntax.{Ty, w8, w16, w32}
use denote.Builtin.{u8, u32, i16}
use denote.Exit.{yes}
use denote.Plain.{uint_Lawful}
use denote.Signature.{Slot, plain}
use denote.Signed.{sint_Lawful}
use denote.Struct.Laws as LL
use denote.Triple.End.{Kepts}
use Rattle.farm.specs.contracts.places.Seat as Seat
use Rattle.farm.proofs.places.Seat.TheLaws as Seat'
use Rattle.farm.specs.contracts.places.Time as Time
use Rattle.farm.proofs.places.Time.TheLaws as Time'
use Rattle.walks.proofs.Handed.{Handed, plus, by_value}

module _ {m l : ℕ} {ps : List (Slot (suc m))} {ks : Kepts ps} {ps' : List (Slot (plus l m))} {ks' : Kepts ps'} {τs : List Ty} where
  abbrev pub a-u8 : Handed m l ps ks ps' ks' τs → Handed m l (plain (λ _. u8) ∷ ps) (yes, ks) (plain (λ _. u8) ∷ ps') (yes, ks') (u8.mir ++ τs)
  a-u8 = by_value u8 (tt, λ M 𝓤 𝓛. uint_Lawful 𝓛 w8)

  abbrev pub a-u32 : Handed m l ps ks ps' ks' τs → Handed m l (plain (λ _. u32) ∷ ps) (yes, ks) (plain (λ _. u32) ∷ ps') (yes, ks') (u32.mir ++ τs)
  a-u32 = by_value u32 (tt, λ M 𝓤 𝓛. uint_Lawful 𝓛 w32)

  abbrev pub an-i16 : Handed m l ps ks ps' ks' τs → Handed m l (plain (λ _. i16) ∷ ps) (yes, ks) (plain (λ _. i16) ∷ ps') (yes, ks') (i16.mir ++ τs)
  an-i16 = by_value i16 (tt, λ M 𝓤 𝓛. sint_Lawful 𝓛 w16)

  abbrev pub a-seat : Handed m l ps ks ps' ks' τs → Handed m l (plain (λ _. Seat.the_row) ∷ ps) (yes, ks) (plain (λ _. Seat.the_row) ∷ ps') (yes, ks') ((Seat.the_row).mir ++ τs)
  a-seat = by_value Seat.the_row (tt, λ M 𝓤 𝓛. LL.lawful Seat.the_type Seat'.the_laws 𝓛)

  abbrev pub a-time : Handed m l ps ks ps' ks' τs → Handed m l (plain (λ _. Time.the_row) ∷ ps) (yes, ks) (plain (λ _. Time.the_row) ∷ ps') (yes, ks') ((Time.the_row).mir ++ τs)
  a-time = by_value Time.the_row (tt, λ M 𝓤 𝓛. LL.lawful Time.the_type Time'.the_laws 𝓛)
