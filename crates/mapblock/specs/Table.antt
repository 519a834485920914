-- Tables of marks: a byte for each number, 0 where it is free. They tell which positions and ids are distinct, which document 01's 'Block layout'
-- asks in its further rules.
use Rattle.std.specs.Prelude.{ℕ, ◌<◌, ◌≡◌, List, [], ◌∷◌, Bool, eqb, length, get_or, set, replicate}
use Rattle.wire.specs.Read.{Read, done, refused}
use Rattle.wire.specs.Walk.{rows_read}
use Rattle.mapblock.specs.Data.{NameRow, NameMapping}
use Rattle.mapblock.specs.Layout.{all, unmapped, name_row}
use Rattle.mapblock.specs.declared.fault.Fault.{Fault}

abbrev pub free_in : List ℕ → ℕ → Bool
free_in t i = eqb (get_or t i 0) 0

-- the table of n numbers tells which are free
pub record Tabled (n : ℕ) (free : ℕ → Bool) (t : List ℕ) : Type 0 where
  pub size : length t ≡ n
  pub tells : (i : ℕ) → i < n → free i ≡ free_in t i

-- the ids of the rows marked, and their marks taken off
abbrev pub marked : List ℕ → List NameRow → List ℕ
marked t [] = t
marked t (r ∷ l) = marked (set t r.id 1) l

abbrev pub unmarked : List ℕ → List NameRow → List ℕ
unmarked t [] = t
unmarked t (r ∷ l) = unmarked (set t r.id 0) l

-- the rows that can be read from the front, at most k
abbrev pub front_rows : ℕ → List ℕ → List NameRow
front_rows = rows_read (name_row all []).read

-- all of them: a row has bytes, so that there are no more rows than bytes
abbrev pub all_rows : List ℕ → List NameRow
all_rows s = front_rows (length s) s

-- the table after rows were read: their ids are marked, and on a refusal it is as it was
abbrev pub marked_by : List ℕ → Read Fault (List NameRow) → List ℕ
marked_by t (done l n) = marked t l
marked_by t (refused e p) = t

-- The table u after names were read from the table t: it marks their ids beside those that t marks, and can be put back.
pub record NamesMarked (t u : List ℕ) (names : List NameRow) : Type 0 where
  pub is : u ≡ marked t names
  pub tabled : Tabled 65536 (unmapped (free_in t) names) u
  pub undone : unmarked u names ≡ t

abbrev pub RowsMarked : List ℕ → List ℕ → Read Fault (List NameRow) → Type 0
RowsMarked t u (done l n) = NamesMarked t u l
RowsMarked t u (refused e p) = u ≡ t

abbrev pub NameMappingMarked : List ℕ → List ℕ → Read Fault NameMapping → Type 0
NameMappingMarked t u (done x n) = NamesMarked t u x.names
NameMappingMarked t u (refused e p) = u ≡ t

-- a table of which nothing is set
unfoldable pub clear_table : List ℕ
clear_table = replicate 65536 0
