-- What adding a block to a running tally promises: the rows with what stands of the block in the part, by the definitions of Counting.
use Rattle.std.specs.Prelude.{◌≡◌, ℕ, ◌+◌, ◌<◌, List, [], ◌∷◌, length, Option}
use Rattle.position.specs.declared.key.Coordinates.{Coordinates}
use Rattle.mapblock.specs.Data.{Block}
use Rattle.block_reader.specs.declared.scan.Scanned.{Scanned}
use Rattle.tally.specs.Rows.{Rows, plus}
use Rattle.tally.specs.Tally.{ones}
use Rattle.census.specs.UsedNames.{total_count}
use Rattle.running_tally.specs.RunningTally.{count_limit, Runs, Absorbed}
use Rattle.running_tally.specs.declared.state.RunningTally.{RunningTally}
use Rattle.position.specs.declared.part.Part.{Part}
use Rattle.meter.specs.Standing.{nodes_in}
use Rattle.meter.specs.Counting.{tally_of, by_one}
use Rattle.sheet.specs.Placed.{placed}
use Rattle.mapblock.specs.Table.{clear_table}
use Rattle.sheet.specs.Records.{ScannedAs}

-- the block b, which was scanned in s, may be added to the rows R by clear counters
pub record Adds (s : List ℕ) (w : Scanned) (counts t : List ℕ) (v : Option RunningTally) (b : Block) (R : Rows ones) : Type 0 where
  pub scanned : ScannedAs s w b
  pub clear : counts ≡ clear_table
  pub runs : Runs t v R
  pub total_fits : total_count R + 4096 < count_limit
  pub rows_fit : length R + 4096 < count_limit

-- the rows with what stands of the block in the part
abbrev pub with_block : Part → Coordinates → Block → Rows ones → Rows ones
with_block p at b R = plus ones (tally_of by_one (nodes_in p (placed at b ∷ []))) R

-- they are the running tally now, and the counters are clear again
pub record Added (counts t t' : List ℕ) (v : Option RunningTally) (R T : Rows ones) : Type 0 where
  pub clear : counts ≡ clear_table
  pub absorbed : Absorbed t t' v R T
