-- Rows of names one behind the other: their bytes, and the walk over them, whatever the bytes are.
use Prim.Native.Nat.{ℕ, zero, suc, ◌+◌, ◌≤◌}
use mathlib.Core.Path.{◌≡◌, refl, ap, sym, ◌∙◌}
use mathlib.Core.List.{List, [], ◌∷◌, ◌++◌, append_assoc}
use native.Mathlib.Omega.{arith}
use lib.ListN.{length, take, drop, length-append, length-drop}
use lib.Seq.{drop-append_seam, take_at, drop_at}
use Rattle.wire.proofs.Lists.{nil_is}
use Rattle.wire.specs.Bytes.{Bytes, bytes_drop}
use Rattle.wire.specs.Ranges.{bytes_in}
use Rattle.wire.specs.Read.{Read, done, refused, map_read, not_done, map-done, map-refused}
use Rattle.wire.specs.Format.{run, refine, ◌⨾◌, iso, encode_items, ends-in}
use Rattle.wire.specs.Formats.{number, prefixed}
use Rattle.wire.specs.Walk.{rows_read, row_then}
use Rattle.mapblock.specs.Data.{NameRow}
use Rattle.mapblock.specs.Layout.{all, unused, name_row}
use Rattle.mapblock.specs.Rows.{name_fields}
use Rattle.mapblock.specs.Table.{front_rows, all_rows}
use Rattle.block_reader.specs.Questions.{NameRun}
use Rattle.mapblock.specs.declared.fault.Fault.{Fault}
use Rattle.mapblock.specs.declared.fault.Fault.TheVariants as fault
use Rattle.mapblock.specs.declared.names.NameFields.{NameFields}
use Rattle.mapblock.proofs.Readings.{num}
use Rattle.block_reader.proofs.ListLengths.{num-length}
use Rattle.mapblock.proofs.GoodRows.{name-ok}

-- ---- rows
-- a row's id and length
abbrev pub row_head : NameRow → List ℕ
row_head r = (num 2).encode r.id ++ (num 2).encode (length r.name)

pub head-length : (r : NameRow) → length (row_head r) ≡ 4
head-length r = rw (length-append, num-length 2 r.id, num-length 2 (length r.name))

pub row-bytes : (seen : List NameRow) (r : NameRow) → (name_row all seen).encode r ≡ row_head r ++ r.name
unfolding name_row iso ◌⨾◌ refine prefixed run
row-bytes seen r = sym (append_assoc ((num 2).encode r.id) ((num 2).encode (length r.name)) r.name)

pub row-length : (seen : List NameRow) (r : NameRow) → length ((name_row all seen).encode r) ≡ 4 + length r.name
row-length seen r = ap (length {A = ℕ}) (row-bytes seen r) ∙ length-append (row_head r) r.name ∙ ap (λ (n : ℕ). n + length r.name) (head-length r)

-- the bytes do not say which rows were seen
pub seen_same : (seen also l : List NameRow) → encode_items (name_row all) seen l ≡ encode_items (name_row all) also l
seen_same seen also [] = refl
seen_same seen also (r ∷ l) = rw (row-bytes seen r, row-bytes also r, seen_same (r ∷ seen) (r ∷ also) l)

-- ---- a row that was read
module _ (s : List ℕ) {row : NameFields} {n : ℕ} (h : done row n ≡ map_read name_fields ((name_row all []).read s)) where
  found_row : (r : NameRow) × ((name_row all []).read s ≡ done r n) × (name_fields r ≡ row)
  found_row = map-done name_fields ((name_row all []).read s) row n (sym h)

  pub row-start : row.name.start ≡ 4
  row-start = sym (ap (λ (x : NameFields). x.name.start) found_row.2)

  pub row_inside : n ≤ length s
  row_inside = ends-in (name_row all []) found_row.1

  pub row-size : Bytes s → n ≡ 4 + row.name.length
  row-size w =
      let x = found_row in
      ((name_row all []).backward s x.0 n w x.1).ends ∙ row-length [] x.0 ∙ ap (λ (y : NameFields). 4 + y.name.length) x.2

-- its name's bytes stand behind the id and the length
pub name-there : (s : List ℕ) (r : NameRow) (n : ℕ) → Bytes s → (name_row all []).read s ≡ done r n → bytes_in s (name_fields r).name ≡ r.name
name-there s r n w e =
    let t = (name_row all []).backward s r n w e in
    let bytes : s ≡ row_head r ++ (r.name ++ drop n s) = t.front ∙ ap (λ (l : List ℕ). l ++ drop n s) (row-bytes [] r) ∙ append_assoc (row_head r) r.name (drop n s) in
    ap (λ (l : List ℕ). take (length r.name) (drop 4 l)) bytes ∙ ap (take (length r.name)) (drop_at (row_head r) (r.name ++ drop n s) 4 (head-length r))
    ∙ take_at r.name (drop n s) (length r.name) refl

-- ---- all rows at the front of some bytes
-- no row stands behind the end
pub nothing-there : (name_row all []).read [] ≡ refused fault.Ends 0
unfolding name_row iso ◌⨾◌ refine number run prefixed unused
nothing-there = refl

front-nothing : (k : ℕ) → front_rows k [] ≡ []
unfolding rows_read
front-nothing zero = refl
front-nothing (suc k) = rw nothing-there

-- as many as there are bytes are enough
front_same : (k : ℕ) (s : List ℕ) → Bytes s → length s ≤ k → (j : ℕ) → length s ≤ j → front_rows k s ≡ front_rows j s
unfolding rows_read
front_same zero s w h j i = sym (ap (front_rows j) (nil_is s (omega arith)) ∙ front-nothing j)
front_same (suc k) s w h j i = by (λ n. front_same k (drop n s) (bytes_drop n s w)) j i
  where
    go : ((n : ℕ) → length (drop n s) ≤ k → (j : ℕ) → length (drop n s) ≤ j → front_rows k (drop n s) ≡ front_rows j (drop n s)) → (j : ℕ) → length s ≤ suc j
        → (y : Read Fault NameRow) → (name_row all []).read s ≡ y → row_then y (λ n. front_rows k (drop n s)) ≡ row_then y (λ n. front_rows j (drop n s))
    go again j i (refused e p) g = refl
    go again j i (done r n) g =
        let size = row-size s (sym (ap (map_read name_fields) g)) w in
        ap (λ (l : List NameRow). r ∷ l) (again n (omega (arith, size, length-drop n s)) j (omega (arith, size, length-drop n s)))

    by : ((n : ℕ) → length (drop n s) ≤ k → (j : ℕ) → length (drop n s) ≤ j → front_rows k (drop n s) ≡ front_rows j (drop n s)) → (j : ℕ) → length s ≤ j → front_rows (suc k) s ≡ front_rows j s
    by again zero i = ap (front_rows (suc k)) (nil_is s (omega arith)) ∙ front-nothing (suc k)
    by again (suc j) i = go again j i ((name_row all []).read s) refl

pub all_none : (s : List ℕ) → length s ≡ 0 → all_rows s ≡ []
all_none [] h = front-nothing 0
all_none (x ∷ s) h = absurd (omega arith)

pub all-refused : (s : List ℕ) {e : Fault} {p : ℕ} → refused e p ≡ map_read name_fields ((name_row all []).read s) → all_rows s ≡ []
unfolding rows_read
all-refused [] h = refl
all-refused (x ∷ s) {e} {p} h = rw (map-refused name_fields ((name_row all []).read (x ∷ s)) e p (sym h))

-- the first of them, by what was read, and those behind it
pub record FirstRow (s : List ℕ) (fields₀ : NameFields) (n : ℕ) : Type 0 where
  pub row : NameRow
  pub fields : name_fields row ≡ fields₀
  pub name : bytes_in s fields₀.name ≡ row.name
  pub size : 4 + length row.name ≡ n
  pub rows : all_rows s ≡ row ∷ all_rows (drop n s)

pub first-row : (s : List ℕ) {row : NameFields} {n : ℕ} → Bytes s → done row n ≡ map_read name_fields ((name_row all []).read s) → FirstRow s row n
unfolding rows_read
first-row [] w h = not_done (sym (h ∙ ap (map_read name_fields) nothing-there))
first-row (x ∷ s) {row} {n} w h =
    let y = found_row (x ∷ s) h in
    let size : 4 + length y.0.name ≡ n = ap (λ (z : NameFields). 4 + z.name.length) y.2 ∙ sym (row-size (x ∷ s) h w) in
    record {
      row = y.0;
      fields = y.2;
      name = ap (λ (f : NameFields). bytes_in (x ∷ s) f.name) (sym y.2) ∙ name-there (x ∷ s) y.0 n w y.1;
      size = size;
      rows = rw y.1 (ap (λ (l : List NameRow). y.0 ∷ l) (front_same (length s) (drop n (x ∷ s)) (bytes_drop n (x ∷ s) w) (omega (arith, size, length-drop n (x ∷ s))) (length (drop n (x ∷ s))) (omega arith)));
    }

-- ---- bytes that are rows
module _ {s : List ℕ} {r : NameRow} {l : List NameRow} (h : NameRun s (r ∷ l)) where
  pub run-reads : (name_row all []).read s ≡ done r (4 + length r.name)
  unfolding unused
  run-reads =
      rw (h.bytes, (name_row all []).forward r ((name-ok [] r).1 (h.good.0, refl)) (encode_items (name_row all) (r ∷ []) l), row-length [] r)

  pub run-rest : NameRun (drop (4 + length r.name) s) l
  run-rest = record {
    bytes = rw (h.bytes, ← row-length [] r, drop-append_seam) (seen_same (r ∷ []) [] l);
    good = h.good.1;
  }

pub run_none : {s : List ℕ} (l : List NameRow) → NameRun s l → length s ≡ 0 → l ≡ []
run_none [] h z = refl
run_none (r ∷ l) h z = absurd (omega (arith, ap (length {A = ℕ}) h.bytes, length-append ((name_row all []).encode r) (encode_items (name_row all) (r ∷ []) l), row-length [] r))

-- all of them are those
run-front : (k : ℕ) (s : List ℕ) (l : List NameRow) → NameRun s l → length s ≤ k → front_rows k s ≡ l
unfolding rows_read
run-front k s [] h i = ap (front_rows k) h.bytes ∙ front-nothing k
run-front zero s (r ∷ l) h i = sym (run_none (r ∷ l) h (omega arith))
run-front (suc k) s (r ∷ l) h i =
    rw (run-reads h) (ap (λ (m : List NameRow). r ∷ m) (run-front k (drop (4 + length r.name) s) l (run-rest h) (omega (arith, length-drop (4 + length r.name) s))))

pub all-run : {s : List ℕ} {l : List NameRow} → NameRun s l → all_rows s ≡ l
all-run {s} {l} h = run-front (length s) s l h (omega arith)
