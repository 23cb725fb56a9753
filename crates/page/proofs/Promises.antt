-- The promises of specs/Promises.antt: the pages by computation, where every definition is opened. Assumes nothing.
use mathlib.Core.Path.{refl}
use Rattle.farm.specs.Sets as Sets
use Rattle.knowledge.specs.Farm as Farm
use Rattle.knowledge.specs.Views as Views
use Rattle.knowledge.specs.Known as Known
use Rattle.knowledge.specs.Settled as Settled
use Rattle.record.specs.Taking as Taking
use Rattle.record.specs.Numbers as Numbers
use Rattle.record.specs.Changes as Changes
use Rattle.record.specs.Header as Header
use Rattle.record.specs.Losses as Losses
use Rattle.record.specs.Edits as Edits
use Rattle.record.specs.Record as Record
use Rattle.questions.specs.Question as Question
use Rattle.text.specs.Digits as Digits
use Rattle.text.specs.Words as Words
use Rattle.lines.specs.Lines as Lines
use Rattle.time_lines.specs.Places as Places
use Rattle.page.specs.Page as Page
use Rattle.page.specs.Promises.{PrintedPage, printed_page, OverPage, over_page, BadRecords, NoInput}

pub printed-page : PrintedPage
unfolding printed_page over_page Page.page_of Page.record_page Places.lines_of Places.lines_at Places.line_at Places.line_of Lines.header_line Lines.standing Lines.place_line Lines.over_line Lines.refused_line Words.ascii Words.following Words.line Digits.digits_of Digits.decimal Digits.signed Question.in_core Question.count_of Sets.bit Sets.any Sets.collect Sets.size Sets.outside Farm.loses_in Farm.loses_by Farm.losers_by Farm.lost_in Views.up_to Views.joined Views.view Views.views_of Views.latest_times Known.missed_at Known.missed Known.known_in Settled.critical_time Settled.core_view Settled.next Settled.reached Settled.settle_from Settled.settle Settled.has_place Taking.◌>>=◌ Taking.when Numbers.groups_of Numbers.last_group Numbers.with_group Numbers.take_groups Numbers.take_number Numbers.take_within Changes.unmapped Header.take_header Losses.good_set Losses.take_set Losses.take_round Losses.take_rounds Edits.rises Edits.follows Edits.take_edit Edits.take_edits Record.take_record Record.whole Record.reading_of
printed-page = refl

pub over-page : OverPage
unfolding printed_page over_page Page.page_of Page.record_page Places.lines_of Places.lines_at Places.line_at Places.line_of Lines.header_line Lines.standing Lines.place_line Lines.over_line Lines.refused_line Words.ascii Words.following Words.line Digits.digits_of Digits.decimal Digits.signed Question.in_core Question.count_of Sets.bit Sets.any Sets.collect Sets.size Sets.outside Farm.loses_in Farm.loses_by Farm.losers_by Farm.lost_in Views.up_to Views.joined Views.view Views.views_of Views.latest_times Known.missed_at Known.missed Known.known_in Settled.critical_time Settled.core_view Settled.next Settled.reached Settled.settle_from Settled.settle Settled.has_place Taking.◌>>=◌ Taking.when Numbers.groups_of Numbers.last_group Numbers.with_group Numbers.take_groups Numbers.take_number Numbers.take_within Changes.unmapped Header.take_header Losses.good_set Losses.take_set Losses.take_round Losses.take_rounds Edits.rises Edits.follows Edits.take_edit Edits.take_edits Record.take_record Record.whole Record.reading_of
over-page = refl

pub bad-records : BadRecords
unfolding Page.page_of
bad-records bytes refusal e = rw e

pub no-input : NoInput
unfolding printed_page over_page Page.page_of Page.record_page Places.lines_of Places.lines_at Places.line_at Places.line_of Lines.header_line Lines.standing Lines.place_line Lines.over_line Lines.refused_line Words.ascii Words.following Words.line Digits.digits_of Digits.decimal Digits.signed Question.in_core Question.count_of Sets.bit Sets.any Sets.collect Sets.size Sets.outside Farm.loses_in Farm.loses_by Farm.losers_by Farm.lost_in Views.up_to Views.joined Views.view Views.views_of Views.latest_times Known.missed_at Known.missed Known.known_in Settled.critical_time Settled.core_view Settled.next Settled.reached Settled.settle_from Settled.settle Settled.has_place Taking.◌>>=◌ Taking.when Numbers.groups_of Numbers.last_group Numbers.with_group Numbers.take_groups Numbers.take_number Numbers.take_within Changes.unmapped Header.take_header Losses.good_set Losses.take_set Losses.take_round Losses.take_rounds Edits.rises Edits.follows Edits.take_edit Edits.take_edits Record.take_record Record.whole Record.reading_of
no-input = refl
