-- Rows by their framing alone: document 01, 'The numbers a call comes back with', 12: "a section not made of whole rows, over 65,535 rows".
use Rattle.std.specs.Prelude.{ℕ, zero, suc, false, cond, List, [], ◌∷◌, eqb, length, drop}
use Rattle.std.proofs.Math.Option.{Option, some, none, map}
use Rattle.wire.specs.Read.{Read, done, refused}
use Rattle.wire.specs.Formats.{u16}
use Rattle.mapblock.specs.Inventory.{BlockFormat}
use Rattle.mapblock.specs.Data.{NameRow, MetadataRow, TimerRow}
use Rattle.mapblock.specs.Layout.{name_row_by, timer_row_by}
use Rattle.mapblock.specs.MetadataChecks.{metadata_row_for}
use Rattle.mapblock.specs.declared.fault.Fault.{Fault}

-- A frame is a row of the layout whose id, position and private byte may have any value: these are the reader's to judge. Of a static object
-- the reader judges no value, so its row is its frame.
unfoldable pub name_frame : BlockFormat NameRow
name_frame = name_row_by u16

unfoldable pub metadata_frame : ℕ → BlockFormat MetadataRow
metadata_frame = metadata_row_for false

unfoldable pub timer_frame : BlockFormat TimerRow
timer_frame = timer_row_by u16

-- ---- whole rows
-- the front row, where it is whole, and the rows behind it
abbrev pub whole_row_then : {A : Type 0} → Read Fault A → (ℕ → Option (List A)) → Option (List A)
whole_row_then (done a n) behind = map (λ l. a ∷ l) (behind n)
whole_row_then (refused e p) behind = none

-- the rows that bytes are made of, one after another to the end, at most k
unfoldable pub rows_in : {A : Type 0} → BlockFormat A → ℕ → List ℕ → Option (List A)
rows_in f zero s = cond (eqb (length s) 0) (some []) none
rows_in f (suc k) s = cond (eqb (length s) 0) (some []) (whole_row_then (f.read s) λ n. rows_in f k (drop n s))

-- "over 65,535 rows"
abbrev pub max_rows : ℕ
max_rows = 65535

abbrev pub section_rows : {A : Type 0} → BlockFormat A → List ℕ → Option (List A)
section_rows f s = rows_in f max_rows s
