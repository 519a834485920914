-- The names of a block by places: a place is where a row stands in the section of names.
use Rattle.std.specs.Prelude.{ℕ, ◌+◌, List, [], map, drop, slice_index}
use Rattle.wire.specs.Read.{Read, done, refused}
use Rattle.mapblock.specs.Data.{NameRow}
use Rattle.mapblock.specs.Layout.{all, name_row}
use Rattle.mapblock.specs.declared.fault.Fault.{Fault}
use Rattle.tally.specs.Rows.{Row, Rows}
use Rattle.tally.specs.Tally.{ones}

-- the row that was read, with no name where none stands there
abbrev pub row_read : Read Fault NameRow → NameRow
row_read (done r n) = r
row_read (refused e p) = record { id = 0; name = [] }

-- the row at a place
unfoldable pub row_at : List ℕ → ℕ → NameRow
row_at s p = row_read ((name_row all []).read (drop p s))

-- how far behind the first byte the name in the row at a place starts, which was read there: behind its id and its length; at the first byte
-- where no row stands there
abbrev pub name_start : ℕ → Read Fault NameRow → ℕ
name_start p (done r n) = p + 4
name_start p (refused e q) = 0

unfoldable pub name_start_at : List ℕ → ℕ → ℕ
name_start_at s p = name_start p ((name_row all []).read (drop p s))

-- what the counters tell of its id
abbrev pub count_at : List ℕ → List ℕ → ℕ → ℕ
count_at s t p = slice_index t (row_at s p).id

-- a name with its count
abbrev pub named_at : List ℕ → List ℕ → ℕ → Row ℕ
named_at s t p = record { name = (row_at s p).name; count = count_at s t p }

-- the same of a list of places
abbrev pub counted_names : List ℕ → List ℕ → List ℕ → Rows ones
counted_names s t ps = map (named_at s t) ps
