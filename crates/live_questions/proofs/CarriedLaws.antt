-- The live table as a carrier: 19, or the record in its used part.
-- Assumes nothing.
use mathlib.Core.Path.{◌≡◌, refl, sym}
use mathlib.Core.Bool.{true, false}
use mathlib.Core.List.{List}
use Prim.Native.Nat.{ℕ}
use Rattle.std.specs.Prelude.{Ok, Err}
use Rattle.farm.specs.Limits.{limits}
use Rattle.farm.specs.declared.refusals.Refusal.TheVariants.{BadTable}
use Rattle.record.specs.Answers.{checked_of}
use Rattle.record.specs.Good.{good_record}
use Rattle.carriers.specs.Carried.{Holds, Carried}
use Rattle.live_table.specs.declared.table.Table.{Table}
use Rattle.live_table.specs.Used.{used_record, table_reading}
use Rattle.live_table.proofs.UsedLaws.{reading-good, reads-bad}
use Rattle.live_questions.proofs.WriteLaws.{columns}

module _ (table : Table) where
  pub carried-bad : (losses who when : List ℕ) → good_record limits (used_record table) ≡ false → Carried (table_reading table) (Err BadTable) losses who when
  unfolding checked_of
  carried-bad losses who when h = record {
    told = rw (reads-bad table h) refl;
    holds = λ w is. let e = reads-bad table h in absurd cc;
  }

  pub carried-good : good_record limits (used_record table) ≡ true
      → Carried (table_reading table) (Ok (record { seats = table.seats; bound = table.bound; rounds = table.rounds; edits = table.edits })) table.losses table.editors table.times
  unfolding checked_of used_record
  carried-good g = record {
    told = rw (reading-good table g) refl;
    holds = λ w is.
        let e = reading-good table g in
        let same : used_record table ≡ w = cc in
        let held : Holds (used_record table) table.losses table.editors table.times =
        record { sound = g; losses = refl; seats = sym (columns table g).seats-same; times = sym (columns table g).times-same } in
        rw (← same) held;
  }
