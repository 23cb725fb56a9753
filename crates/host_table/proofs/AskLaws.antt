-- A question of a host on the table, and its opening, by the numbers that are handed on. By these laws, about a table alone,
-- the check proves the exports by itself.
-- Assumes nothing.
use mathlib.Core.Path.{◌≡◌, refl, sym}
use Prim.Native.Nat.{ℕ}
use Rattle.questions.specs.Answers.{seen_asked, agreed_asked}
use Rattle.questions.specs.Question.{Lent, view_asked, core_asked, marks_asked, loser_asked}
use Rattle.live_table.specs.declared.table.Table.{Table}
use Rattle.live_table.specs.Used.{table_reading}
use Rattle.live.specs.Calls.{opening, answer_to, table_after}
use Rattle.host.specs.declared.numbers.SeatNumber.{SeatNumber}
use Rattle.host.specs.declared.numbers.TimeNumber.{TimeNumber}
use Rattle.host.specs.Numbers.{at_most, seat_named, time_named}
use Rattle.host.proofs.WideLaws.{seen-wide, agreed-wide, standing-wide, view-wide, core-wide, marks-wide}
use Rattle.host_table.proofs.SoundLaws.{table-sound}
use Rattle.host_table.proofs.WideLaws.{opening-handed}

module _ (table : Table) (s : SeatNumber) where
  pub standing-named : loser_asked (table_reading table) (seat_named s) ≡ loser_asked (table_reading table) (record { 0 = at_most 255 s.0 })
  standing-named = sym (standing-wide s.0 0 (table_reading table) (table-sound table))

  module _ (t : TimeNumber) where
    pub seen-named : seen_asked (table_reading table) (seat_named s) (time_named t) ≡ seen_asked (table_reading table) (record { 0 = at_most 255 s.0 }) (record { 0 = at_most 65535 t.0 })
    seen-named = sym (seen-wide s.0 t.0 (table_reading table) (table-sound table))

    pub agreed-named : agreed_asked (table_reading table) (seat_named s) (time_named t) ≡ agreed_asked (table_reading table) (record { 0 = at_most 255 s.0 }) (record { 0 = at_most 65535 t.0 })
    agreed-named = sym (agreed-wide s.0 t.0 (table_reading table) (table-sound table))

    pub view-named : (lent : Lent) → view_asked lent (table_reading table) (seat_named s) (time_named t) ≡ view_asked lent (table_reading table) (record { 0 = at_most 255 s.0 }) (record { 0 = at_most 65535 t.0 })
    view-named lent = sym (view-wide s.0 t.0 (table_reading table) (table-sound table) lent)

    pub core-named : (lent : Lent) → core_asked lent (table_reading table) (seat_named s) (time_named t) ≡ core_asked lent (table_reading table) (record { 0 = at_most 255 s.0 }) (record { 0 = at_most 65535 t.0 })
    core-named lent = sym (core-wide s.0 t.0 (table_reading table) (table-sound table) lent)

    pub marks-named : (lent : Lent) → marks_asked lent (table_reading table) (seat_named s) (time_named t) ≡ marks_asked lent (table_reading table) (record { 0 = at_most 255 s.0 }) (record { 0 = at_most 65535 t.0 })
    marks-named lent = sym (marks-wide s.0 t.0 (table_reading table) (table-sound table) lent)

pub ruleset named_questions = (standing-named, seen-named, agreed-named, view-named, core-named, marks-named)

module _ (n t : ℕ) (table : Table) where
  pub opening-answer : answer_to (opening n t) table ≡ answer_to (opening (at_most 255 n) (at_most 255 t)) table
  opening-answer = sym (opening-handed n t table refl refl).answers

  pub opening-table : table_after (opening n t) table ≡ table_after (opening (at_most 255 n) (at_most 255 t)) table
  opening-table = sym (opening-handed n t table refl refl).tables

pub ruleset named_calls = (opening-answer, opening-table)
