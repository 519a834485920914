-- The three kinds of counted rows that are read by one loop.
use Rattle.std.specs.Prelude.{ℕ, ◌≡◌, List, ◌∷◌}
use Rattle.wire.specs.Read.{done}
use Rattle.mapblock.specs.Inventory.{BlockFormat}
use Rattle.mapblock.specs.Data.{MetadataRow, ObjectRow, TimerRow}
use Rattle.mapblock.specs.Layout.{all, unused, metadata_row, object_row, timer_row}
use Rattle.mapblock.specs.Table.{Tabled}
use Rattle.mapblock.specs.Told.{told_reach, ended}
use Rattle.mapblock.specs.declared.rows.ListKind.{ListKind}
use Rattle.mapblock.specs.declared.rows.ListKind.TheVariants as kind
use Rattle.std.specs.Prelude.{Result}
use Rattle.mapblock.specs.declared.fault.Refusal.{Refusal}

abbrev pub RowOf : ListKind → Type 0
RowOf kind.Metadata = MetadataRow
RowOf kind.Objects = ObjectRow
RowOf kind.Timers = TimerRow

-- a row of a kind, told those before it
abbrev pub row_after : (k : ListKind) → ℕ → List (RowOf k) → BlockFormat (RowOf k)
row_after kind.Metadata v seen = metadata_row v seen
row_after kind.Objects v seen = object_row
row_after kind.Timers v seen = timer_row seen

-- the table marks the positions of the rows
abbrev pub Marked : (k : ListKind) → List (RowOf k) → List ℕ → Type 0
Marked kind.Metadata seen t = Tabled 4096 (unused (λ (r : MetadataRow). r.position) all seen) t
Marked kind.Objects seen t = Unit {0}
Marked kind.Timers seen t = Tabled 4096 (unused (λ (r : TimerRow). r.position) all seen) t

-- a row read after rows that the table t marks; u is the table after
pub record RowMarked (k : ListKind) (v : ℕ) (s t u : List ℕ) (r : Result ℕ Refusal) : Type 0 where
  pub told : (seen : List (RowOf k)) → Marked k seen t → told_reach r ≡ ended ((row_after k v seen).read s)
  pub marked : (seen : List (RowOf k)) (a : RowOf k) (n : ℕ) → Marked k seen t → (row_after k v seen).read s ≡ done a n → Marked k (a ∷ seen) u
