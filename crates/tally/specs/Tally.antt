-- The bytes of a tally: document 01, 'Tallies, lots, spans, sheets'.
use Rattle.std.specs.Prelude.{ℕ, ◌+◌, ◌^◌, ◌<◌, ◌≡◌, refl, Bool, true, cond, ◌&&◌, List, [], ◌∷◌, ◌++◌, ◌↔◌, leb, eqb, length}
use Rattle.std.proofs.Math.Option.{Option, some, none}
use Rattle.std.proofs.Common.{arith, lit<, leb-true, le-leb}
use Rattle.wire.specs.Bytes.{to_be, to_be-length}
use Rattle.wire.specs.Order.{order, is_before}
use Rattle.wire.specs.Read.{Read, done, refused}
use Rattle.wire.specs.Format.{Format, refine, run, iso}
use Rattle.wire.specs.Formats.{◌▹◌, u64, number, prefixed, listed, headed, head, into, Shape}
use Rattle.tally.specs.Rows.{Counts, Row, Rows, is_name}

-- The one fault of a tally: document 01 gives 13 no offset and tells no two of them apart.
pub data Malformed : Type 0 where
  malformed : Malformed

abbrev pub TallyFormat : Type 0 → Type 1
TallyFormat A = Format Malformed malformed A

-- A kind of tally: the version that names it, what its counts are, their bytes, and the limit up to which a count has bytes.
pub record TallyKind : Type 1 where
  pub counts : Counts
  pub version : ℕ
  pub version-fits : version < 65536
  pub count : TallyFormat counts.C
  pub width : ℕ
  pub count-length : (c : counts.C) → length (count.encode c) ≡ width
  pub limit : counts.C → Bool
  pub limit-ok : (c : counts.C) → (limit c ≡ true) ↔ count.Ok c
  pub limit-part : (c d : counts.C) → limit (counts.add c d) ≡ true → limit d ≡ true

-- ---- the bytes
abbrev pub tally_mark : List ℕ  -- TLY
tally_mark = 84 ∷ 76 ∷ 89 ∷ []

-- the head of version 1, which tells the number of rows
abbrev pub tally_head : TallyFormat ℕ
tally_head = head tally_mark

abbrev pub max_rows : ℕ  -- 2^32-1
max_rows = 4294967295

-- a name may follow the rows before it, the last one first: names rise strictly
abbrev pub rises : {C : Type 0} → List (Row C) → List ℕ → Bool
rises [] n = true
rises (r ∷ seen) n = is_before (order r.name n)

abbrev pub row_shape : {C : Type 0} → Shape (List ℕ × C) (Row C)
row_shape {C} = record {
  make = λ (x : List ℕ × C). record { name = x.0; count = x.1 };
  parts = λ (r : Row C). (r.name, r.count);
  there = λ b. refl;
  back = λ a. refl;
}

-- what was read, where it ends with the bytes
abbrev pub whole : {A : Type 0} → List ℕ → Read Malformed A → Option A
whole s (done a n) = cond (eqb n (length s)) (some a) none
whole s (refused e p) = none

module _ (k : TallyKind) where
  abbrev pub TallyRow : Type 0
  TallyRow = Row k.counts.C

  abbrev pub TallyRows : Type 0
  TallyRows = Rows k.counts

  -- a row's fields, a u16 length with the name and the count, not judged
  unfoldable pub fields : TallyFormat TallyRow
  fields = into row_shape
      (prefixed 2  -- name
      ▹ k.count)

  -- what a row must be after those before it: its name rises, and its name and its count may stand in a tally
  abbrev pub may_stand : TallyRows → TallyRow → Bool
  may_stand seen r = rises seen r.name && (is_name r.name && k.counts.stands r.count)

  unfoldable pub row : TallyRows → TallyFormat TallyRow
  row seen = refine (may_stand seen) malformed fields

  -- document 01's tally: the mark, the u16 version, the u32 number of rows, and the rows
  unfoldable pub tally : TallyFormat TallyRows
  tally = headed tally_mark k.version malformed (listed 4 row)

  -- what stands before n rows
  abbrev pub head_bytes : ℕ → List ℕ
  head_bytes n = tally_mark ++ (to_be 2 k.version ++ to_be 4 n)

  -- the rows of bytes that are a tally, with no byte after
  unfoldable pub rows_of : List ℕ → Option TallyRows
  rows_of s = whole s (tally.read s)

  -- ---- no count above the limit, and no more rows than a u32 counts
  abbrev pub limited : TallyRows → Bool
  limited [] = true
  limited (r ∷ l) = k.limit r.count && limited l

  abbrev pub countable : TallyRows → Bool
  countable l = limited l && leb (length l) max_rows

-- ---- version 1: one u64 to a row
abbrev pub ones : Counts
ones = record {
  C = ℕ;
  none = 0;
  add = λ a b. a + b;
  add_none = λ c. omega arith;
  add_comm = λ c d. omega arith;
  add_assoc = λ c d e. omega arith;
  stands = λ c. leb 1 c;
  stands-add = λ c d h k. let p = leb-true 1 c h in le-leb 1 (c + d) (omega arith);
  none-stands = refl;
}

abbrev pub max_count : ℕ  -- 2^64-1
max_count = 18446744073709551615

pub u64-length : (c : ℕ) → length ((u64 {ends = malformed}).encode c) ≡ 8
unfolding number iso run
u64-length c = to_be-length 8 c

pub u64-limit : (c : ℕ) → (leb c max_count ≡ true) ↔ (u64 {ends = malformed}).Ok c
unfolding number iso
u64-limit c = (λ h. (let p = leb-true c max_count h in omega arith), λ (h : c < 256 ^ 8). le-leb c max_count (omega arith))

abbrev pub one : TallyKind
one = record {
  counts = ones;
  version = 1;
  version-fits = lit< tt;
  count = u64;
  width = 8;
  count-length = u64-length;
  limit = λ c. leb c max_count;
  limit-ok = u64-limit;
  limit-part = λ c d h. let p = leb-true (c + d) max_count h in le-leb d max_count (omega arith);
}
