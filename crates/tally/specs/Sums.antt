-- The sum of two lists of rows, as merging walks it: a row at a time from the front of both.
use Rattle.std.specs.Prelude.{ℕ, ◌+◌, ◌-◌, ◌≤◌, ◌≡◌, true, false, cond, List, [], ◌∷◌, eqb, length, take, drop}
use Rattle.wire.specs.Bytes.{to_be}
use Rattle.wire.specs.Store.{overwrite, stored}
use Rattle.wire.specs.Formats.{prefixed}
use Rattle.wire.specs.Answer.{Answered}
use Rattle.tally.specs.Rows.{Row, Rows, plus}
use Rattle.tally.specs.Tally.{malformed, fields, limited, ones, one}
use Rattle.tally.specs.Operations.{tallied}
use Rattle.tally.specs.Told.{told_merge}
use Rattle.tally.specs.Walks.{rows_bytes, Holds}
use Rattle.tally.specs.declared.merge.SumRow.{SumRow}
use Rattle.tally.specs.declared.merge.SumSize.{SumSize}
use Rattle.tally.specs.declared.merge.TooMany.{TooMany}
use Rattle.std.specs.Prelude.{Option, Some, None, Result, Ok, Err}
use Rattle.tally.specs.declared.merge.MergeError.{MergeError}

-- the list that the name of the next row stands in
abbrev pub side : ℕ → List ℕ → List ℕ → List ℕ
side first x y = cond (eqb first 0) y x

-- where that row stands: what the code may slice
pub record SumRowInside (x y : List ℕ) (first second size : ℕ) : Type 0 where
  pub first-in : first ≤ length x
  pub second-in : second ≤ length y
  pub side-in : size ≤ length (side first x y)
  pub long : 10 ≤ size
  pub short : size ≤ first + second

-- what it is, where the lists are the rows X and Y: P and Q are left
pub record SumRowTold (x y : List ℕ) (first second size count : ℕ) (X Y : Rows ones) : Type 0 where
  pub r : Row ℕ
  pub P : Rows ones
  pub Q : Rows ones
  pub sum : plus ones X Y ≡ r ∷ plus ones P Q
  pub left : Holds one (drop first x) P
  pub right : Holds one (drop second y) Q
  pub counts : r.count ≡ count
  pub sized : length ((fields one).encode r) ≡ size
  pub lead : take (size - 8) (side first x y) ≡ (prefixed {ends = malformed} 2).encode r.name

abbrev pub SumRowIs : List ℕ → List ℕ → Result (Option SumRow) TooMany → Type 0
SumRowIs x y (Ok None) = (X Y : Rows ones) → Holds one x X → Holds one y Y → plus ones X Y ≡ []
SumRowIs x y (Ok (Some r)) =
    SumRowInside x y r.first r.second r.size × ((X Y : Rows ones) → Holds one x X → Holds one y Y → SumRowTold x y r.first r.second r.size r.count X Y)
SumRowIs x y (Err e) = (X Y : Rows ones) → Holds one x X → Holds one y Y → limited one (plus ones X Y) ≡ false

-- ---- the measuring pass
pub record MeasuredRows (rows size : ℕ) (A B : Rows ones) : Type 0 where
  pub fits : limited one (plus ones A B) ≡ true
  pub counts : rows ≡ length (plus ones A B)
  pub sized : size ≡ length (rows_bytes one (plus ones A B))

abbrev pub MeasuredAs : List ℕ → List ℕ → Result SumSize TooMany → Type 0
MeasuredAs a b (Ok m) = (A B : Rows ones) → Holds one a A → Holds one b B → MeasuredRows m.rows m.size A B
MeasuredAs a b (Err e) = (A B : Rows ones) → Holds one a A → Holds one b B → limited one (plus ones A B) ≡ false

-- ---- the writing pass
-- the row of so many bytes at the front of s, with another count, put where it fits
abbrev pub put_with_count : ℕ → List ℕ → ℕ → ℕ → List ℕ → List ℕ
put_with_count at s size count d = stored (at + (size - 8)) (to_be 8 count) (stored at (take (size - 8) s) d)

-- a sum that can be written into a buffer
pub record SumFits (a b d : List ℕ) (A B : Rows ones) : Type 0 where
  pub left : Holds one a A
  pub right : Holds one b B
  pub limit : limited one (plus ones A B) ≡ true
  pub room : length (rows_bytes one (plus ones A B)) ≤ length d

abbrev pub SumPut : List ℕ → List ℕ → List ℕ → List ℕ → Type 0
SumPut a b before after = (A B : Rows ones) → SumFits a b before A B → after ≡ overwrite 0 (rows_bytes one (plus ones A B)) before

-- ---- the sum of two lists of rows as a tally in a room
abbrev pub MergedAs : List ℕ → List ℕ → List ℕ → List ℕ → Result ℕ MergeError → Type 0
MergedAs a b before after r =
    (A B : Rows ones) → Holds one a A → Holds one b B → Answered (told_merge r) before after (tallied one (length before) (plus ones A B))
