-- The row at a place, by what was read there.
use Rattle.std.proofs.Common.{◌≡◌, ℕ, ◌+◌, ◌-◌, ◌<◌, ◌≤◌, min, List, [], length, take, drop, sym, ap, ◌∙◌, arith, length-append, drop_of_length-le}
use native.Mathlib.Nat.{min-eq_left}
use Rattle.wire.proofs.Lists.{rest-is}
use Rattle.wire.specs.Bytes.{Bytes, bytes_drop}
use Rattle.wire.specs.Read.{done, refused, map_read, map-done, map-refused}
use Rattle.mapblock.specs.Data.{NameRow}
use Rattle.mapblock.specs.Layout.{all, name_row}
use Rattle.mapblock.specs.Rows.{name_fields}
use Rattle.wire.specs.Ranges.{bytes_in}
use Rattle.mapblock.specs.declared.fault.Fault.{Fault}
use Rattle.mapblock.specs.declared.names.NameFields.{NameFields}
use Rattle.block_reader.proofs.NameWalks.{head-length, row-bytes, name-there, nothing-there}
use Rattle.census.specs.NamePlaces.{row_read, row_at, name_start, name_start_at}

pub row-beyond : (s : List ℕ) (p : ℕ) → length s < p → row_at s p ≡ record { id = 0; name = [] }
unfolding row_at
row-beyond s p h = rw (drop_of_length-le s {i = p} (omega arith), nothing-there)

pub start-beyond : (s : List ℕ) (p : ℕ) → length s < p → 0 ≡ name_start_at s p
unfolding name_start_at
start-beyond s p h = rw (drop_of_length-le s {i = p} (omega arith), nothing-there)

module _ (s : List ℕ) (p : ℕ) where
  -- the bytes from a place on, as code has them
  abbrev pub from : List ℕ
  from = take (length s - p) (drop p s)

  from_is : from ≡ drop p s
  from_is = rest-is p s

  module _ {e : Fault} {q : ℕ} (h : refused e q ≡ map_read name_fields ((name_row all []).read from)) where
    pub row-refused : row_at s p ≡ record { id = 0; name = [] }
    unfolding row_at
    row-refused = ap row_read (map-refused name_fields ((name_row all []).read (drop p s)) e q (sym (h ∙ ap (λ (l : List ℕ). map_read name_fields ((name_row all []).read l)) from_is)))

    pub start-refused : 0 ≡ name_start_at s p
    unfolding name_start_at
    start-refused = sym (ap (name_start p) (map-refused name_fields ((name_row all []).read (drop p s)) e q (sym (h ∙ ap (λ (l : List ℕ). map_read name_fields ((name_row all []).read l)) from_is))))

  module _ {row : NameFields} {n : ℕ} (h : done row n ≡ map_read name_fields ((name_row all []).read from)) where
    reads : (r : NameRow) × ((name_row all []).read (drop p s) ≡ done r n) × (name_fields r ≡ row)
    reads = map-done name_fields ((name_row all []).read (drop p s)) row n (sym (h ∙ ap (λ (l : List ℕ). map_read name_fields ((name_row all []).read l)) from_is))

    is : row_at s p ≡ reads.0
    unfolding row_at
    is = ap row_read reads.1

    pub row-id : row.id ≡ (row_at s p).id
    row-id = sym (ap (λ (r : NameRow). r.id) is ∙ ap (λ (f : NameFields). f.id) reads.2)

    -- its name
    pub row-name : Bytes s → bytes_in from row.name ≡ (row_at s p).name
    row-name b =
        ap (λ (f : NameFields). bytes_in from f.name) (sym reads.2) ∙ ap (λ (l : List ℕ). bytes_in l (name_fields reads.0).name) from_is
        ∙ name-there (drop p s) reads.0 n (bytes_drop p s b) reads.1 ∙ sym (ap (λ (r : NameRow). r.name) is)

    -- and there it starts, of bytes that lie at o in what they are lent from
    pub row-start : (a o : ℕ) → Bytes s → ◌≡◌ {A = ℕ × ℕ} (a, (p + o) + min row.name.start (length from)) (a, o + name_start_at s p)
    unfolding name_start_at
    row-start a o b =
        let r = reads.0 in
        let t = (name_row all []).backward (drop p s) r n (bytes_drop p s b) reads.1 in
        let long : 4 ≤ length from = rw (from_is, t.front, row-bytes [] r, length-append, length-append, head-length r) (omega arith) in
        let four : row.name.start ≡ 4 = sym (ap (λ (f : NameFields). f.name.start) reads.2) in
        let least : min row.name.start (length from) ≡ 4 = rw four (min-eq_left long) in
        let there : name_start p ((name_row all []).read (drop p s)) ≡ p + 4 = ap (name_start p) reads.1 in
        let e : (p + o) + min row.name.start (length from) ≡ o + name_start p ((name_row all []).read (drop p s)) = omega (arith, least, there) in
        ap (λ (x : ℕ). (a, x)) e
