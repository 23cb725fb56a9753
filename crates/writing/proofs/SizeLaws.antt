-- How large accepted lists are, as lists and as bytes.
-- Assumes nothing.
use mathlib.Core.Path.{◌≡◌}
use Prim.Native.Nat.{◌+◌, ◌*◌, ◌≤◌}
use lib.ListN.{length}
use Rattle.farm.specs.Limits.{limits}
use Rattle.record.specs.declared.lists.Lists.{Lists}
use Rattle.record.specs.Header.{header_bytes}
use Rattle.record.specs.Lengths.{numbers_length, changes_length}
use Rattle.record.specs.Lent.{tables_in, record_in}
use Rattle.record.specs.Record.{bytes_of}
use Rattle.record.specs.Writing.{header_from}
use Rattle.record.proofs.AcceptedLaws.{accepted-header, accepted-sets-few, accepted-parts, accepted-most, accepted-size}
use Rattle.writing.specs.declared.accepted.Accepted.{Accepted}

pub record Sizes (l : Lists) : Type 0 where
  pub edits : length l.editors.now ≤ 512
  pub sets : length l.losses.now ≤ 889
  -- Every loss set, seat and time takes one byte.
  pub parts : length (bytes_of limits (record_in l))
      ≡ length (header_bytes limits (header_from l.seats l.bound l.rounds (tables_in l))) + (length l.losses.now + 2 * length l.editors.now) + numbers_length limits l.cells.now + changes_length limits l.changes.now
  pub most : length (bytes_of limits (record_in l)) ≤ 5 + length l.losses.now + 8 * length l.editors.now
  pub whole : length (bytes_of limits (record_in l)) ≤ 4990

pub sizes : (a : Accepted) → Sizes a.lists
sizes a =
    let l = a.lists in
    record {
      edits = (accepted-header l.seats l.bound l.rounds (tables_in l) a.good).edits;
      sets = accepted-sets-few l.seats l.bound l.rounds (tables_in l) a.good;
      parts = accepted-parts l.seats l.bound l.rounds (tables_in l) a.good;
      most = accepted-most l.seats l.bound l.rounds (tables_in l) a.good;
      whole = accepted-size l.seats l.bound l.rounds (tables_in l) a.good;
    }
