-- The runs of a row stand where a row question tells them.
use Prim.Native.Nat.{ℕ, ◌+◌, ◌<◌, ◌≤◌}
use mathlib.Core.Path.{◌≡◌, refl, ap, sym, ◌∙◌}
use mathlib.Core.List.{List, [], ◌++◌, append_assoc}
use native.Mathlib.Omega.{arith}
use lib.IntN.{ℤ}
use lib.ListN.{length, drop, length-append}
use borrow.Author.Tests.{le-leb, lt-leb}
use Rattle.wire.specs.Bytes.{Bytes}
use Rattle.wire.specs.Read.{done}
use Rattle.wire.specs.Format.{Parsed, run, nothing, refine, ◌⨾◌, iso, items, encode_items}
use Rattle.wire.specs.Formats.{signed, unsigned_of, half32, prefixed, listed}
use Rattle.mapblock.specs.Inventory.{inventory}
use Rattle.mapblock.specs.Data.{NameRow, MetadataRow, ObjectRow}
use Rattle.mapblock.specs.Layout.{all, variable, name_row, metadata_row, object_row}
use Rattle.wire.specs.Ranges.{no_range}
use Rattle.mapblock.specs.Rows.{name_fields, object_fields, variable_bytes}
use Rattle.mapblock.specs.Valid.{MetadataGood}
use Rattle.block_reader.specs.Theorems.{Holds, MetadataRunsIn, RunsAreThere}
use Rattle.mapblock.proofs.Readings.{num}
use Rattle.block_reader.proofs.ListLengths.{num-length}
use Rattle.mapblock.proofs.GoodRows.{either, metadata-row-ok}
use Rattle.block_reader.proofs.NameWalks.{row_head, head-length, row-bytes}
use Rattle.block_reader.proofs.SectionsThere.{part-holds}

-- ---- names
name-there : (s : List ℕ) (r : NameRow) (n : ℕ) → Bytes s → (name_row all []).read s ≡ done r n → Holds s (name_fields r).name r.name
name-there s r n w h =
    let t = (name_row all []).backward s r n w h in
    let overwrite : s ≡ row_head r ++ (r.name ++ drop n s) = t.front ∙ ap (λ (l : List ℕ). l ++ drop n s) (row-bytes [] r) ∙ append_assoc (row_head r) r.name (drop n s) in
    part-holds s (row_head r) r.name (drop n s) 4 overwrite (sym (head-length r))

-- ---- objects
-- a row's type, coordinates and size
abbrev coordinate : ℤ → List ℕ
coordinate z = (num 4).encode (unsigned_of half32 z)

abbrev object_head : ObjectRow → List ℕ
object_head r = (num 1).encode r.kind ++ (coordinate r.x ++ (coordinate r.y ++ (coordinate r.z ++ (num 2).encode (length r.content))))

object-head-length : (r : ObjectRow) → length (object_head r) ≡ 15
object-head-length r = simp (length-append, num-length)

object-bytes : (r : ObjectRow) → object_row.encode r ≡ object_head r ++ r.content
unfolding object_row iso ◌⨾◌ signed prefixed run
object-bytes r = simp append_assoc

object-there : (s : List ℕ) (r : ObjectRow) (n : ℕ) → Bytes s → object_row.read s ≡ done r n → Holds s (object_fields r).content r.content
object-there s r n w h =
    let t = object_row.backward s r n w h in
    let overwrite : s ≡ object_head r ++ (r.content ++ drop n s) = t.front ∙ ap (λ (l : List ℕ). l ++ drop n s) (object-bytes r) ∙ append_assoc (object_head r) r.content (drop n s) in
    part-holds s (object_head r) r.content (drop n s) 15 overwrite (sym (object-head-length r))

-- ---- metadata
-- nothing stands nowhere
no_range-holds : (s r : List ℕ) → r ≡ [] → Holds s no_range r
no_range-holds s r e = rw e record { inside = omega arith; bytes = refl }

module _ (v : ℕ) (r : MetadataRow) where
  -- version 22: position, type and size
  abbrev old_head : List ℕ
  old_head = (num 2).encode r.position ++ ((num 2).encode r.kind ++ (num 2).encode (length r.content))

  -- from 23: position and the number of variables
  abbrev new_head : List ℕ
  new_head = (num 2).encode r.position ++ (num 4).encode (length r.variables)

  abbrev variables : List ℕ
  variables = encode_items (λ _. variable v) [] r.variables

  old-length : length old_head ≡ 6
  old-length = simp (length-append, num-length)

  new-length : length new_head ≡ 6
  new-length = simp (length-append, num-length)

  old-bytes : v < 23 → (metadata_row v []).encode r ≡ old_head ++ (r.content ++ [])
  unfolding metadata_row iso ◌⨾◌ refine nothing prefixed run
  old-bytes h = rw (lt-leb 23 v h) (simp append_assoc)

  new-bytes : 23 ≤ v → (metadata_row v []).encode r ≡ new_head ++ (variables ++ r.inventory)
  unfolding metadata_row iso ◌⨾◌ refine nothing listed items inventory
  new-bytes h = rw (le-leb 23 v h) (simp append_assoc)

metadata-there : (v : ℕ) (s : List ℕ) (r : MetadataRow) (n : ℕ) → Bytes s → (metadata_row v []).read s ≡ done r n → MetadataRunsIn v s r
metadata-there v s r n w h = either 23 v new old
  where
    t : Parsed (metadata_row v []).Ok (metadata_row v []).encode s r n
    t = (metadata_row v []).backward s r n w h

    good : MetadataGood v r
    good = ((metadata-row-ok v [] r).0 t.ok).0

    old : v < 23 → MetadataRunsIn v s r
    old k =
        let g = good.in-22 k in
        let overwrite : s ≡ old_head v r ++ (r.content ++ drop n s) = t.front ∙ ap (λ (l : List ℕ). l ++ drop n s) (old-bytes v r k) ∙ simp append_assoc in
        let none : variables v r ≡ [] = ap (encode_items (λ _. variable v) []) g.no-variables in
        record {
          content = rw (lt-leb 23 v k) (part-holds s (old_head v r) r.content (drop n s) 6 overwrite (sym (old-length v r)));
          variables = rw (lt-leb 23 v k) (no_range-holds s (variables v r) none);
          inventory = rw (lt-leb 23 v k) (no_range-holds s r.inventory g.no-inventory);
        }

    new : 23 ≤ v → MetadataRunsIn v s r
    new k =
        let g = good.from-23 k in
        let overwrite : s ≡ new_head v r ++ (variables v r ++ (r.inventory ++ drop n s)) = t.front ∙ ap (λ (l : List ℕ). l ++ drop n s) (new-bytes v r k) ∙ simp append_assoc in
        let apart : s ≡ (new_head v r ++ variables v r) ++ (r.inventory ++ drop n s) = overwrite ∙ simp append_assoc in
        let place : 6 + variable_bytes v r ≡ length (new_head v r ++ variables v r) = rw (length-append, new-length v r) in
        record {
          content = rw (le-leb 23 v k) (no_range-holds s r.content g.no-content);
          variables = rw (le-leb 23 v k) (part-holds s (new_head v r) (variables v r) (r.inventory ++ drop n s) 6 overwrite (sym (new-length v r)));
          inventory = rw (le-leb 23 v k) (part-holds s (new_head v r ++ variables v r) r.inventory (drop n s) (6 + variable_bytes v r) apart place);
        }

pub runs-are-there : RunsAreThere
runs-are-there = record { name = name-there; metadata = metadata-there; object = object-there }
