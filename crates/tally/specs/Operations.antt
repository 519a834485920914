-- What the operations on tallies answer: document 01, 'Tallies, lots, spans, sheets', 'Cuts and merges' and 'Order'.
use Rattle.std.specs.Prelude.{ℕ, cond, List, [], leb, eqb, length, take, drop}
use Rattle.std.proofs.Math.Option.{Option}
use Rattle.wire.specs.Answer.{Answer, good, plain, some_or, in_room, parts_misfit, tally_malformed, too_many, no_such}
use Rattle.wire.specs.Formats.{head_length}
use Rattle.tally.specs.Rows.{is_name, add_row, plus}
use Rattle.wire.specs.Read.{to_option}
use Rattle.tally.specs.Tally.{TallyKind, TallyRow, TallyRows, row, tally, rows_of, countable}

-- 13, or what comes of the rows
abbrev pub with_rows : {R A : Type 0} → Option R → (R → Answer A) → Answer A
with_rows = some_or tally_malformed

module _ (k : TallyKind) where
  -- ---- looking
  -- whether the bytes are a tally, with the number of its rows
  abbrev pub check_of : List ℕ → Answer ℕ
  check_of s = with_rows (rows_of k s) λ r. good (length r)

  -- the rows of a tally, as its bytes behind the head
  abbrev pub row_bytes_of : List ℕ → Answer (List ℕ)
  row_bytes_of s = with_rows (rows_of k s) λ r. good (drop head_length s)

  -- the front row of bytes, judged alone, and its length; 16 where there are no bytes
  abbrev pub front_of : List ℕ → Answer (TallyRow k × ℕ)
  front_of s = cond (eqb (length s) 0) (plain no_such) (with_rows (to_option ((row k []).read s)) good)

  -- ---- the tally of rows in a room: 14, then 11
  unfoldable pub tallied : ℕ → TallyRows k → Answer (List ℕ)
  tallied room l = cond (countable k l) (in_room room ((tally k).encode l)) (plain too_many)

  -- ---- Merging: 13 (first tally first), 14, 11.
  unfoldable pub merge_of : ℕ → List ℕ → List ℕ → Answer (List ℕ)
  merge_of room a b = with_rows (rows_of k a) λ x. with_rows (rows_of k b) λ y. tallied room (plus k.counts x y)

  -- ---- Adding, in a buffer whose first n bytes are the tally: 12, 13 (also a stated length beyond the buffer), 14, 11. Adding 0 changes
  -- nothing.
  abbrev pub added : List ℕ → ℕ → TallyRow k → TallyRows k → Answer (List ℕ)
  added buffer n r l = cond (k.counts.stands r.count) (tallied (length buffer) (add_row k.counts r l)) (good (take n buffer))

  unfoldable pub add_of : List ℕ → ℕ → TallyRow k → Answer (List ℕ)
  add_of buffer n r = cond (is_name r.name)
      (cond (leb n (length buffer)) (with_rows (rows_of k (take n buffer)) (added buffer n r)) (plain tally_malformed))
      (plain parts_misfit)
