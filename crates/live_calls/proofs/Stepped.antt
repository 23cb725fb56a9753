-- What `Changed.antt` asks of the struct that a step returns.
-- Assumes nothing.
use mathlib.Core.Path.{refl, ap}
use mathlib.Core.List.{[], ◌∷◌}
use denote.Builtin.{unit}
use denote.Enum.Declared.{variants}
use denote.Enum.Enum.{Plainss}
use denote.Enum.Laws as Le
use denote.Memory.{lone}
use denote.Param.Laws.{of_field, field_told, enum_told}
use denote.Param.Shared.{copy_shared}
use denote.Steps.{only}
use denote.Struct.Field.{unit-field}
use denote.Struct.Laws as LL
use denote.Struct.Laws.{unit-laws, unit-plain, unit-copy}
use Rattle.std.specs.contracts.result.Result as R
use Rattle.std.proofs.result.Result.TheLaws as R'
use Rattle.farm.specs.contracts.refusals.Refusal as F
use Rattle.farm.proofs.refusals.Refusal.TheLaws as F'
use Rattle.live.specs.contracts.answers.Step as S
use Rattle.live.proofs.answers.Step.TheLaws as S'
use Rattle.live_table.specs.contracts.table.Table as T
use Rattle.live_table.proofs.table.Table.TheLaws as T'
use Rattle.live_calls.proofs.Live.{Stepping}

-- The laws of the answer, a `Result<(), Refusal>`, from those of its two parts.
abbrev answer_laws : Le.Laws (R.the_type unit F.the_row)
answer_laws =
    R'.the_laws unit F.the_row (of_field unit-field unit-laws refl (copy_shared unit-field unit-copy)) F'.the_row_laws
    (field_told unit-field unit-laws) (enum_told F.the_type F'.the_laws)

abbrev answer_plain : Plainss (variants (R.the_type unit F.the_row))
answer_plain = ((unit-plain, tt), ((Le.pure F.the_type F'.the_plain, tt), tt))

abbrev pub stepped : Stepping (R.the_row unit F.the_row) S.the_row
stepped M 𝓤 𝓛 = record {
  title = (S.the_type).name;
  told = lone (R.the_row unit F.the_row).mir;
  told_at = 0;
  table_at = 4;
  told_is = refl;
  table_is = refl;
  answer = λ s. s.answer;
  table = λ s. s.table;
  tells = λ d. Le.val (R.the_type unit F.the_row) answer_laws d;
  spelled = λ s w is. ap only (LL.tells S.the_type S'.the_laws s (w ∷ []) is);
  typed = λ s w is. (
    ((LL.lawful S.the_type S'.the_laws 𝓛).typed s (w ∷ []) is).0,
    ((Le.lawful (R.the_type unit F.the_row) answer_laws 𝓛 tt).typed s.answer _ (LL.owed S.the_type S'.the_laws s (w ∷ []) is).0).0,
    ((LL.lawful T.the_type T'.the_laws 𝓛).typed s.table _ (LL.owed S.the_type S'.the_laws s (w ∷ []) is).1.0).0,
  );
  answered = λ s w is. (LL.owed S.the_type S'.the_laws s (w ∷ []) is).0;
  tabled = λ s w is. (LL.owed S.the_type S'.the_laws s (w ∷ []) is).1.0;
  makes = Le.makes (R.the_type unit F.the_row) answer_plain 𝓛;
}
