-- Document 01's examples, by computation: every definition is opened. Assumes nothing.
use mathlib.Core.Path.{refl}
use Rattle.farm.specs.Sets as Sets
use Rattle.knowledge.specs.Farm as Farm
use Rattle.knowledge.specs.Views as Views
use Rattle.knowledge.specs.Known as Known
use Rattle.knowledge.specs.Settled as Settled
use Rattle.record.specs.Taking as Taking
use Rattle.record.specs.Numbers as Numbers
use Rattle.record.specs.Changes as Changes
use Rattle.record.specs.Header as Header
use Rattle.record.specs.Losses as Losses
use Rattle.record.specs.Edits as Edits
use Rattle.record.specs.Record as Record
use Rattle.examples.specs.Examples.{ExamplesHold, answered, answer, settled_found, seats_in, bytes_again}

pub examples-hold : ExamplesHold
unfolding answered answer settled_found seats_in bytes_again Sets.bit Sets.any Sets.collect Sets.size Sets.outside Farm.lost_in Views.up_to Views.joined Views.view Views.views_of Views.latest_times Known.missed_at Known.missed Known.known_in Settled.critical_time Settled.core_view Settled.next Settled.reached Settled.settle_from Settled.settle Taking.◌>>=◌ Taking.when Numbers.groups_of Numbers.number_bytes Numbers.last_group Numbers.with_group Numbers.take_groups Numbers.take_number Numbers.take_within Changes.mapped Changes.unmapped Header.take_header Header.header_bytes Losses.good_set Losses.take_set Losses.take_round Losses.take_rounds Losses.loss_bytes Edits.rises Edits.follows Edits.take_edit Edits.take_edits Edits.edit_bytes Edits.edits_bytes Record.take_record Record.whole Record.reading_of Record.bytes_of
examples-hold = refl
