-- The exports on the table, from the contracts of the functions beneath them: `walks`' `Whole.antt` for each, at the contracts as they are
-- generated from the source. A contract that says less breaks these laws.
-- Assumes nothing.
use mathlib.Core.Path.{◌≡◌, refl, ◌∙◌, ap}
use mathlib.Core.List.{[], ◌∷◌}
use seplogic.Ra.Ura.{Ura}
use base.Logic.{SProp, ent, sep, via, id⊢}
use contract.Monad.{Fun, fact, conj, sep→conj}
use mir.Syntax.{Callee, ty_int, w8, w32}
use prog.Memory.{Memory}
use prog.Routine.{Routine}
use types.Logic.{Logic}
use denote.Builtin.{u8, u16, u32, i16, i32, unit, usize}
use denote.Exit.{yes}
use denote.Plain.{uint_Lawful}
use denote.RattleType.{RattleType}
use denote.Signature.{shr_slice, mut_slice}
use denote.Struct.Laws as LL
use Rattle.std.specs.contracts.result.Result as R
use Rattle.farm.proofs.Complete.{by-facts}
use Rattle.farm.specs.contracts.places.Seat as Seat
use Rattle.farm.proofs.places.Seat.TheLaws as Seat'
use Rattle.farm.specs.contracts.places.Time as Time
use Rattle.farm.proofs.places.Time.TheLaws as Time'
use Rattle.farm.specs.contracts.refusals.Refusal as Refusal
use Rattle.questions.specs.contracts.answers.Seen as Seen
use Rattle.questions.specs.contracts.answers.Agreed as Agreed
use Rattle.questions.specs.contracts.answers.Standing as Standing
use Rattle.host.specs.Numbers.{at_most}
use Rattle.host.specs.Results.{refusal_number, length_told}
use Rattle.host.specs.contracts.numbers.SeatNumber as SeatNumber
use Rattle.host.proofs.numbers.SeatNumber.TheLaws as SeatNumber'
use Rattle.host.specs.contracts.numbers.TimeNumber as TimeNumber
use Rattle.host.proofs.numbers.TimeNumber.TheLaws as TimeNumber'
use Rattle.host.specs.contracts.numbers.byte_of as byte-of
use Rattle.host.specs.contracts.numbers.SeatFromSeatNumber.from as seat-from
use Rattle.host.specs.contracts.numbers.TimeFromTimeNumber.from as time-from
use Rattle.host.specs.contracts.results.refusal_number as refusal-number
use Rattle.host.specs.contracts.results.SeenTold as SeenTold
use Rattle.host.specs.contracts.results.AgreedTold as AgreedTold
use Rattle.host.specs.contracts.results.StandingTold as StandingTold
use Rattle.host.specs.contracts.results.LengthTold as LengthTold
use Rattle.host.specs.contracts.results.SeenToldFromResultSeenRefusal.from as seen-told-from
use Rattle.host.specs.contracts.results.AgreedToldFromResultAgreedRefusal.from as agreed-told-from
use Rattle.host.specs.contracts.results.StandingToldFromResultStandingRefusal.from as standing-told-from
use Rattle.host.specs.contracts.results.LengthToldFromResultUsizeRefusal.from as length-told-from
use Rattle.host.proofs.AskedLaws.{seen-asked, agreed-asked, standing-asked, view-asked, core-asked, marks-asked}
use Rattle.live_table.specs.contracts.table.Table as Table
use Rattle.live.specs.contracts.places.open_into as open-into
use Rattle.live.specs.contracts.places.round_into as round-into
use Rattle.live.specs.contracts.places.edit_into as edit-into
use Rattle.live_questions.specs.contracts.asks.seen as seen
use Rattle.live_questions.specs.contracts.asks.agreed as agreed
use Rattle.live_questions.specs.contracts.asks.standing as standing
use Rattle.live_questions.specs.contracts.asks.view as view
use Rattle.live_questions.specs.contracts.asks.core as core
use Rattle.live_questions.specs.contracts.asks.marks as marks
use Rattle.live_questions.specs.contracts.asks.write_out as write-out
use Rattle.host_table.specs.contracts.calls.ricecrock_table_open as ricecrock-table-open
use Rattle.host_table.specs.contracts.calls.ricecrock_table_add_round as ricecrock-table-add-round
use Rattle.host_table.specs.contracts.calls.ricecrock_table_add_edit as ricecrock-table-add-edit
use Rattle.host_table.specs.contracts.calls.small_edit as small-edit
use Rattle.host_table.specs.contracts.calls.Small as Small
use Rattle.host_table.specs.contracts.asks.ricecrock_table_seen as ricecrock-table-seen
use Rattle.host_table.specs.contracts.asks.ricecrock_table_agreed as ricecrock-table-agreed
use Rattle.host_table.specs.contracts.asks.ricecrock_table_standing as ricecrock-table-standing
use Rattle.host_table.specs.contracts.asks.ricecrock_table_view as ricecrock-table-view
use Rattle.host_table.specs.contracts.asks.ricecrock_table_core as ricecrock-table-core
use Rattle.host_table.specs.contracts.asks.ricecrock_table_marks as ricecrock-table-marks
use Rattle.host_table.specs.contracts.asks.ricecrock_table_record as ricecrock-table-record
use Rattle.host_table.proofs.SoundLaws.{table-sound}
use Rattle.host_table.proofs.WideLaws.{ends_with, opening-handed, edit-handed}
use Rattle.host_table.specs.Codes.{EditHanded}
use Rattle.walks.proofs.Changed.{lies}
use Rattle.walks.proofs.Turned.{Turning, Says}
use Rattle.walks.proofs.Parted as parted
use Rattle.walks.proofs.Whole.{Agrees}
use Rattle.host_table.proofs.Whole.{Changed, Asked}

-- ════ What the calls before the question give ════

abbrev pub seat-by : Callee → Turning
seat-by c = record {
  by = c;
  from = SeatNumber.the_row;
  to = Seat.the_row;
  gives = λ s p. p ≡ record { 0 = at_most 255 s.0 };
  before = record { told = lies SeatNumber.the_type; typed = λ M 𝓤 𝓛. (LL.lawful SeatNumber.the_type SeatNumber'.the_laws 𝓛).typed };
  after = record { told = lies Seat.the_type; typed = λ M 𝓤 𝓛. (LL.lawful Seat.the_type Seat'.the_laws 𝓛).typed };
  fin = λ x. tt;
  lets-go = λ M 𝓤 𝓛 x. id⊢ 𝓤 _;
}

abbrev pub time-by : Callee → Turning
time-by c = record {
  by = c;
  from = TimeNumber.the_row;
  to = Time.the_row;
  gives = λ t ℓ. ℓ ≡ record { 0 = at_most 65535 t.0 };
  before = record { told = lies TimeNumber.the_type; typed = λ M 𝓤 𝓛. (LL.lawful TimeNumber.the_type TimeNumber'.the_laws 𝓛).typed };
  after = record { told = lies Time.the_type; typed = λ M 𝓤 𝓛. (LL.lawful Time.the_type Time'.the_laws 𝓛).typed };
  fin = λ x. tt;
  lets-go = λ M 𝓤 𝓛 x. id⊢ 𝓤 _;
}

abbrev pub byte-by : Callee → Turning
byte-by c = record {
  by = c;
  from = u32;
  to = u8;
  gives = λ n b. b ≡ at_most 255 n;
  before = record { told = ty_int w32; typed = λ M 𝓤 𝓛. (uint_Lawful 𝓛 w32).typed };
  after = record { told = ty_int w8; typed = λ M 𝓤 𝓛. (uint_Lawful 𝓛 w8).typed };
  fin = λ x. tt;
  lets-go = λ M 𝓤 𝓛 x. id⊢ 𝓤 _;
}

both : {M : Type 1} (𝓤 : Ura M) (P Q S : Type 0) → (P → Q → S) → ent 𝓤 (sep 𝓤 (fact 𝓤 P) (fact 𝓤 Q)) (fact 𝓤 S)
both {M} 𝓤 P Q S h = via 𝓤 (conj 𝓤 (fact 𝓤 P) (fact 𝓤 Q)) (sep→conj 𝓤 (fact 𝓤 P) (fact 𝓤 Q)) (by-facts M 𝓤 P Q S h)

-- ════ Each export ════

abbrev Done : RattleType
Done = R.the_row unit Refusal.the_row

module _ {M : Type 1} {𝓤 : Ura M} (𝓛 : Logic 𝓤) (mem : Memory → SProp 𝓤) (run : Routine → Fun 𝓤) (c d : Callee) where
  pub seat-says : Says 𝓛 (seat-by c) (seat-from.clauses 𝓛 mem run)
  seat-says = record { ghost = λ x. tt; asks = λ x. id⊢ 𝓤 _; says = λ x r ls. id⊢ 𝓤 _ }

  pub time-says : Says 𝓛 (time-by c) (time-from.clauses 𝓛 mem run)
  time-says = record { ghost = λ x. tt; asks = λ x. id⊢ 𝓤 _; says = λ x r ls. id⊢ 𝓤 _ }

  pub byte-says : Says 𝓛 (byte-by c) (byte-of.clauses 𝓛 mem run)
  byte-says = record { ghost = λ x. tt; asks = λ x. id⊢ 𝓤 _; says = λ x r ls. id⊢ 𝓤 _ }

  pub open-agrees : Agrees 1 (Changed 0) (byte-by c ∷ byte-by d ∷ []) ([]) tt Done u8 (ricecrock-table-open.clauses 𝓛 mem run) (open-into.clauses 𝓛 mem run) (refusal-number.clauses 𝓛 mem run)
  open-agrees = record {
    ghost = λ κs a rs g. tt;
    asks = λ κs a rs gs g. id⊢ 𝓤 _;
    last-ghost = λ x. tt;
    last-asks = λ x. id⊢ 𝓤 _;
    says = λ κs a rs gs g x ls y ms. both 𝓤 _ _ _ (λ p q. ends_with (opening-handed _ _ _ gs.0 gs.1.0) p q);
  }

  pub add-round-agrees : Agrees 2 (Changed 1) ([]) (shr_slice 1 tt (λ _. u16) ∷ []) (yes, tt) Done u8 (ricecrock-table-add-round.clauses 𝓛 mem run) (round-into.clauses 𝓛 mem run) (refusal-number.clauses 𝓛 mem run)
  add-round-agrees = record {
    ghost = λ κs a rs g. tt;
    asks = λ κs a rs gs g. id⊢ 𝓤 _;
    last-ghost = λ x. tt;
    last-asks = λ x. id⊢ 𝓤 _;
    says = λ κs a rs gs g x ls y ms. both 𝓤 _ _ _ (λ p q. (q ∙ ap refusal_number p.0, p.1));
  }

  pub seen-agrees : Agrees 1 (Asked 0) (seat-by c ∷ time-by d ∷ []) ([]) tt (R.the_row Seen.the_row Refusal.the_row) SeenTold.the_row (ricecrock-table-seen.clauses 𝓛 mem run) (seen.clauses 𝓛 mem run) (seen-told-from.clauses 𝓛 mem run)
  seen-agrees = record {
    ghost = λ κs a rs g. tt;
    asks = λ κs a rs gs g. id⊢ 𝓤 _;
    last-ghost = λ x. tt;
    last-asks = λ x. id⊢ 𝓤 _;
    says = λ κs a rs gs g x ls y ms. both 𝓤 _ _ _ (λ p q. seen-asked _ (table-sound _) refl _ _ gs.0 _ _ gs.1.0 p q);
  }

  pub agreed-agrees : Agrees 1 (Asked 0) (seat-by c ∷ time-by d ∷ []) ([]) tt (R.the_row Agreed.the_row Refusal.the_row) AgreedTold.the_row (ricecrock-table-agreed.clauses 𝓛 mem run) (agreed.clauses 𝓛 mem run) (agreed-told-from.clauses 𝓛 mem run)
  agreed-agrees = record {
    ghost = λ κs a rs g. tt;
    asks = λ κs a rs gs g. id⊢ 𝓤 _;
    last-ghost = λ x. tt;
    last-asks = λ x. id⊢ 𝓤 _;
    says = λ κs a rs gs g x ls y ms. both 𝓤 _ _ _ (λ p q. agreed-asked _ (table-sound _) refl _ _ gs.0 _ _ gs.1.0 p q);
  }

  pub standing-agrees : Agrees 1 (Asked 0) (seat-by c ∷ []) ([]) tt (R.the_row Standing.the_row Refusal.the_row) StandingTold.the_row (ricecrock-table-standing.clauses 𝓛 mem run) (standing.clauses 𝓛 mem run) (standing-told-from.clauses 𝓛 mem run)
  standing-agrees = record {
    ghost = λ κs a rs g. tt;
    asks = λ κs a rs gs g. id⊢ 𝓤 _;
    last-ghost = λ x. tt;
    last-asks = λ x. id⊢ 𝓤 _;
    says = λ κs a rs gs g x ls y ms. both 𝓤 _ _ _ (λ p q. standing-asked _ (table-sound _) refl _ _ gs.0 p q);
  }

  pub view-agrees : Agrees 2 (Asked 1) (seat-by c ∷ time-by d ∷ []) (mut_slice 1 tt (λ _. i16) ∷ []) (yes, tt) Done u8 (ricecrock-table-view.clauses 𝓛 mem run) (view.clauses 𝓛 mem run) (refusal-number.clauses 𝓛 mem run)
  view-agrees = record {
    ghost = λ κs a rs g. tt;
    asks = λ κs a rs gs g. id⊢ 𝓤 _;
    last-ghost = λ x. tt;
    last-asks = λ x. id⊢ 𝓤 _;
    says = λ κs a rs gs g x ls y ms. both 𝓤 _ _ _ (λ p q. view-asked _ (table-sound _) refl _ _ gs.0 _ _ gs.1.0 p q);
  }

  pub core-agrees : Agrees 2 (Asked 1) (seat-by c ∷ time-by d ∷ []) (mut_slice 1 tt (λ _. i16) ∷ []) (yes, tt) Done u8 (ricecrock-table-core.clauses 𝓛 mem run) (core.clauses 𝓛 mem run) (refusal-number.clauses 𝓛 mem run)
  core-agrees = record {
    ghost = λ κs a rs g. tt;
    asks = λ κs a rs gs g. id⊢ 𝓤 _;
    last-ghost = λ x. tt;
    last-asks = λ x. id⊢ 𝓤 _;
    says = λ κs a rs gs g x ls y ms. both 𝓤 _ _ _ (λ p q. core-asked _ (table-sound _) refl _ _ gs.0 _ _ gs.1.0 p q);
  }

  pub marks-agrees : Agrees 2 (Asked 1) (seat-by c ∷ time-by d ∷ []) (mut_slice 1 tt (λ _. u8) ∷ []) (yes, tt) Done u8 (ricecrock-table-marks.clauses 𝓛 mem run) (marks.clauses 𝓛 mem run) (refusal-number.clauses 𝓛 mem run)
  marks-agrees = record {
    ghost = λ κs a rs g. tt;
    asks = λ κs a rs gs g. id⊢ 𝓤 _;
    last-ghost = λ x. tt;
    last-asks = λ x. id⊢ 𝓤 _;
    says = λ κs a rs gs g x ls y ms. both 𝓤 _ _ _ (λ p q. marks-asked _ (table-sound _) refl _ _ gs.0 _ _ gs.1.0 p q);
  }

  pub record-agrees : Agrees 2 (Asked 1) ([]) (mut_slice 1 tt (λ _. u8) ∷ []) (yes, tt) (R.the_row usize Refusal.the_row) LengthTold.the_row (ricecrock-table-record.clauses 𝓛 mem run) (write-out.clauses 𝓛 mem run) (length-told-from.clauses 𝓛 mem run)
  record-agrees = record {
    ghost = λ κs a rs g. tt;
    asks = λ κs a rs gs g. id⊢ 𝓤 _;
    last-ghost = λ x. tt;
    last-asks = λ x. id⊢ 𝓤 _;
    says = λ κs a rs gs g x ls y ms. both 𝓤 _ _ _ (λ p q. record { answered = q ∙ ap length_told p.0; left = p.1 });
  }

  pub add-edit-agrees : parted.Agrees Table.the_type SeatNumber.the_row u32 i32 Seat.the_row i16 Small.the_row Done u8 (λ small. small.seat) (λ small. small.change) (λ seat change small. EditHanded seat change small.seat small.change)
      (ricecrock-table-add-edit.clauses 𝓛 mem run) (small-edit.clauses 𝓛 mem run) (edit-into.clauses 𝓛 mem run) (refusal-number.clauses 𝓛 mem run) (λ κs t small ls. (ls.0, (tt, (tt, (tt, tt)))))
  add-edit-agrees = record {
    first-ghost = λ seat change. tt;
    first-asks = λ seat change. id⊢ 𝓤 _;
    first-says = λ seat change small ls. id⊢ 𝓤 _;
    ghost = λ κs t small g. tt;
    asks = λ κs t small handed g. id⊢ 𝓤 _;
    last-ghost = λ x. tt;
    last-asks = λ x. id⊢ 𝓤 _;
    says = λ κs t small handed g x ls y ms. both 𝓤 _ _ _ (λ p q. ends_with (edit-handed _ _ _ _ _ _ handed) p q);
  }
