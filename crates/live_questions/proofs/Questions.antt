-- The questions on the table, from the contracts of the functions beneath them: `Reading.antt` for each, at the contracts as they are
-- generated from the source. A contract that says less breaks these laws.
-- Assumes nothing.
use mathlib.Core.Path.{◌∙◌, ap}
use mathlib.Core.List.{[], ◌∷◌}
use seplogic.Ra.Ura.{Ura}
use base.Logic.{SProp, id⊢}
use contract.Monad.{Fun, fact_i, fact_mono}
use prog.Memory.{Memory}
use prog.Routine.{Routine}
use types.Logic.{Logic}
use denote.Builtin.{u8, i16, unit}
use denote.RattleType.{RattleType}
use Rattle.std.specs.contracts.result.Result as R
use Rattle.std.specs.Prelude.{Result}
use Rattle.farm.specs.declared.refusals.Refusal.{Refusal as Refused}
use Rattle.farm.specs.contracts.refusals.Refusal as Refusal
use Rattle.record.specs.contracts.header.Header as Header
use Rattle.record.specs.declared.header.Header.{Header as Head}
use Rattle.questions.specs.Answers.{standing_answer}
use Rattle.questions.specs.contracts.answers.Seen as Seen
use Rattle.questions.specs.contracts.answers.Agreed as Agreed
use Rattle.questions.specs.contracts.answers.Standing as Standing
use Rattle.carriers.specs.Carried.{Carried}
use Rattle.carriers.specs.contracts.carried.seen_in as seen-in
use Rattle.carriers.specs.contracts.carried.agreed_in as agreed-in
use Rattle.carriers.specs.contracts.carried.standing_in as standing-in
use Rattle.carriers.specs.contracts.carried.view_in as view-in
use Rattle.carriers.specs.contracts.carried.core_in as core-in
use Rattle.carriers.specs.contracts.carried.marks_in as marks-in
use Rattle.carriers.proofs.CarriedLaws.{loaded, sized, seen-carried, agreed-carried, standing-carried, view-carried, core-carried, marks-carried, fills_alike}
use Rattle.live_table.specs.contracts.table.Table as Table
use Rattle.live_table.specs.declared.table.Table.{Table as Whole}
use Rattle.live_table.specs.Used.{table_reading}
use Rattle.live_questions.specs.contracts.carrier.check_table as check-table
use Rattle.live_questions.specs.contracts.asks.seen as seen
use Rattle.live_questions.specs.contracts.asks.agreed as agreed
use Rattle.live_questions.specs.contracts.asks.standing as standing
use Rattle.live_questions.specs.contracts.asks.view as view
use Rattle.live_questions.specs.contracts.asks.core as core
use Rattle.live_questions.specs.contracts.asks.marks as marks
use Rattle.live_questions.proofs.Reading.{losses-lent, editors-lent, times-lent}
use Rattle.walks.proofs.Handed.{none, lent}
use Rattle.walks.proofs.Parameters.{a-seat, a-time}
use Rattle.walks.proofs.Read.{Agrees}

-- What a table reads as, and that it carries it.
abbrev Checked : RattleType
Checked = R.the_row Header.the_row Refusal.the_row

abbrev pub Reads : Whole → Result Head Refused → Type 0
Reads table checked = Carried (table_reading table) checked table.losses table.editors table.times

module _ {M : Type 1} {𝓤 : Ura M} (𝓛 : Logic 𝓤) (mem : Memory → SProp 𝓤) (run : Routine → Fun 𝓤) where
  pub seen-agrees : Agrees 𝓛 Table.the_type 0 1 (losses-lent 𝓛 0 tt ∷ []) _ _ _ _ _ (a-seat (a-time none)) Checked (R.the_row Seen.the_row Refusal.the_row) Reads (seen.clauses 𝓛 mem run) (check-table.clauses 𝓛 mem run) (seen-in.clauses 𝓛 mem run)
  seen-agrees = record {
    first-ghost = λ β t. tt;
    first-asks = λ β t. id⊢ 𝓤 _;
    first-says = λ β t x ls. id⊢ 𝓤 _;
    ghost = λ κs a x g. tt;
    asks = λ κs a x rd g. fact_i 𝓤 _ _ (sized rd);
    says = λ κs a x rd g y ls. fact_mono 𝓤 _ _ (λ p. p ∙ seen-carried rd _ _);
  }

  pub agreed-agrees : Agrees 𝓛 Table.the_type 0 3 (losses-lent 𝓛 0 tt ∷ editors-lent 𝓛 1 tt ∷ times-lent 𝓛 2 tt ∷ []) _ _ _ _ _ (a-seat (a-time none)) Checked (R.the_row Agreed.the_row Refusal.the_row) Reads (agreed.clauses 𝓛 mem run) (check-table.clauses 𝓛 mem run) (agreed-in.clauses 𝓛 mem run)
  agreed-agrees = record {
    first-ghost = λ β t. tt;
    first-asks = λ β t. id⊢ 𝓤 _;
    first-says = λ β t x ls. id⊢ 𝓤 _;
    ghost = λ κs a x g. tt;
    asks = λ κs a x rd g. fact_i 𝓤 _ _ (loaded rd);
    says = λ κs a x rd g y ls. fact_mono 𝓤 _ _ (λ p. p ∙ agreed-carried rd _ _);
  }

  pub standing-agrees : Agrees 𝓛 Table.the_type 0 1 (losses-lent 𝓛 0 tt ∷ []) _ _ _ _ _ (a-seat none) Checked (R.the_row Standing.the_row Refusal.the_row) Reads (standing.clauses 𝓛 mem run) (check-table.clauses 𝓛 mem run) (standing-in.clauses 𝓛 mem run)
  standing-agrees = record {
    first-ghost = λ β t. tt;
    first-asks = λ β t. id⊢ 𝓤 _;
    first-says = λ β t x ls. id⊢ 𝓤 _;
    ghost = λ κs a x g. tt;
    asks = λ κs a x rd g. id⊢ 𝓤 _;
    says = λ κs a x rd g y ls. fact_mono 𝓤 _ _ (λ p. p ∙ ap standing_answer (standing-carried rd _));
  }

  pub view-agrees : Agrees 𝓛 Table.the_type 1 1 (losses-lent 𝓛 0 tt ∷ []) _ _ _ _ _ (a-seat (a-time (lent 0 tt i16 none))) Checked (R.the_row unit Refusal.the_row) Reads (view.clauses 𝓛 mem run) (check-table.clauses 𝓛 mem run) (view-in.clauses 𝓛 mem run)
  view-agrees = record {
    first-ghost = λ β t. tt;
    first-asks = λ β t. id⊢ 𝓤 _;
    first-says = λ β t x ls. id⊢ 𝓤 _;
    ghost = λ κs a x g. tt;
    asks = λ κs a x rd g. fact_i 𝓤 _ _ (sized rd);
    says = λ κs a x rd g y ls. fact_mono 𝓤 _ _ (λ p. fills_alike (view-carried rd _ _) p);
  }

  pub core-agrees : Agrees 𝓛 Table.the_type 1 1 (losses-lent 𝓛 0 tt ∷ []) _ _ _ _ _ (a-seat (a-time (lent 0 tt i16 none))) Checked (R.the_row unit Refusal.the_row) Reads (core.clauses 𝓛 mem run) (check-table.clauses 𝓛 mem run) (core-in.clauses 𝓛 mem run)
  core-agrees = record {
    first-ghost = λ β t. tt;
    first-asks = λ β t. id⊢ 𝓤 _;
    first-says = λ β t x ls. id⊢ 𝓤 _;
    ghost = λ κs a x g. tt;
    asks = λ κs a x rd g. fact_i 𝓤 _ _ (sized rd);
    says = λ κs a x rd g y ls. fact_mono 𝓤 _ _ (λ p. fills_alike (core-carried rd _ _) p);
  }

  pub marks-agrees : Agrees 𝓛 Table.the_type 1 3 (losses-lent 𝓛 0 tt ∷ editors-lent 𝓛 1 tt ∷ times-lent 𝓛 2 tt ∷ []) _ _ _ _ _ (a-seat (a-time (lent 0 tt u8 none))) Checked (R.the_row unit Refusal.the_row) Reads (marks.clauses 𝓛 mem run) (check-table.clauses 𝓛 mem run) (marks-in.clauses 𝓛 mem run)
  marks-agrees = record {
    first-ghost = λ β t. tt;
    first-asks = λ β t. id⊢ 𝓤 _;
    first-says = λ β t x ls. id⊢ 𝓤 _;
    ghost = λ κs a x g. tt;
    asks = λ κs a x rd g. fact_i 𝓤 _ _ (loaded rd);
    says = λ κs a x rd g y ls. fact_mono 𝓤 _ _ (λ p. fills_alike (marks-carried rd _ _) p);
  }
