-- What a thin function answers: a type of one machine value, an enum or a struct.
-- Assumes nothing.
use mathlib.Core.List.{[], ◌∷◌}
use seplogic.Ra.Ura.{Ura}
use mir.Syntax.{Ty}
use mir.Val.{Val}
use types.Logic.{Logic}
use denote.Enum.Declared as EnumDeclared
use denote.Enum.Enum.{Few}
use denote.Enum.Laws as Le
use denote.Laws.{Is}
use denote.Memory.{lone}
use denote.RattleType.{RattleType}
use denote.Struct.Declared.{Declared, row}
use denote.Struct.Laws as LL
use Rattle.walks.proofs.Changed.{lies}
use Rattle.walks.proofs.Thin.{Of}

pub record Answer (X : RattleType) : Type 2 where
  pub told : Ty
  pub typed : (M : Type 1) (𝓤 : Ura M) (𝓛 : Logic 𝓤) → (r : X.Denot) (w : Val) → Is X r (w ∷ []) → Of told w

abbrev pub an_enum : (E : EnumDeclared.Declared) → Le.Laws E → Few (EnumDeclared.shape E) → Answer (EnumDeclared.row E)
an_enum E L few = record { told = lone (EnumDeclared.row E).mir; typed = λ M 𝓤 𝓛 r w is. ((Le.lawful E L 𝓛 few).typed r (w ∷ []) is).0 }

abbrev pub a_struct : (S : Declared) → LL.Laws S → Answer (row S)
a_struct S L = record { told = lies S; typed = λ M 𝓤 𝓛 r w is. ((LL.lawful S L 𝓛).typed r (w ∷ []) is).0 }
