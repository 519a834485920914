-- The bytes that the code puts are those of the block that the parts make.
use Prim.Native.Nat.{ℕ, suc}
use mathlib.Core.Path.{◌≡◌, refl, ap₂, ◌∙◌}
use mathlib.Core.List.{List, [], ◌∷◌, ◌++◌}
use mathlib.Core.Bool.{Bool, true, false, cond, not}
use native.Mathlib.Omega.{arith}
use lib.Dec.{leb, eqb}
use lib.ListN.{length}
use borrow.Author.Tests.{leb-true, leb-false, eq-eqb, ne_eqb}
use Rattle.wire.specs.Bytes.{Bytes, to_be}
use Rattle.wire.specs.Format.{run, nothing, refine, ◌⨾◌, iso, items, encode_items}
use Rattle.wire.specs.Formats.{number, behind, fixed, listed, only, tagged}
use Rattle.mapblock.specs.Inventory.{BlockFormat}
use Rattle.mapblock.specs.Data.{NameRow, MetadataRow, ObjectRow, TimerRow, Nodes, Opening, NameMapping, MetadataList, Timers, no_mapping, no_timers}
use Rattle.mapblock.specs.Layout.{since, before, all, name_row, metadata_row, object_row, timer_row, opening, name_mapping, params, nodes, is_counted, list_form, metadata, objects, timer_byte_field, has_timers, timers_of24, early_timers, late_timers, front, rest, steps}
use Rattle.mapblock.specs.Block.{block, opening_of, name_mapping_of, metadata_of, timers_of}
use Rattle.mapblock.specs.declared.fault.Fault.{Fault}
use Rattle.mapblock.specs.declared.fault.Fault.TheVariants as fault
use Rattle.block_writer.specs.BlockParts.{BlockParts, made}
use Rattle.block_writer.specs.declared.counts.RowCounts.{RowCounts}
use Rattle.block_writer.specs.Pieces.{list_bytes, list_if, mapping_bytes, nodes_bytes, metadata_bytes, early_bytes, objects_bytes, late_bytes, block_bytes}

-- a list behind a number that is fixed, and its count
fixed-bytes : {A : Type 0} (item : List A → BlockFormat A) (l : List A) (k v : ℕ) (e : Fault) → (fixed k v e (listed 2 item)).encode l ≡ to_be k v ++ list_bytes (length l) (encode_items item [] l)
unfolding behind listed iso ◌⨾◌ refine items number run
fixed-bytes item l k v e = refl

-- ---- formats chosen by a test
cond-bytes : {A : Type 0} (b : Bool) (f g : BlockFormat A) (a : A) → (cond b f g).encode a ≡ cond b (f.encode a) (g.encode a)
cond-bytes true f g a = refl
cond-bytes false f g a = refl

-- what stands in one of two places
module _ {A : Type 0} (none : A) (f : BlockFormat A) (a : A) where
  only_here : (b : Bool) → (only b none f).encode (cond b a none) ≡ cond b (f.encode a) []
  unfolding nothing
  only_here true = refl
  only_here false = refl

  only-there : (b : Bool) → (only (not b) none f).encode (cond b none a) ≡ cond (not b) (f.encode a) []
  unfolding nothing
  only-there true = refl
  only-there false = refl

-- ---- the pieces
pub opening-bytes : (o : Opening) → opening.encode o ≡ to_be 1 o.version ++ (to_be 1 o.flags ++ cond (since 27 o.version) (to_be 2 o.lighting) [])
unfolding opening iso ◌⨾◌ refine nothing number run
opening-bytes o = rw (cond-bytes (since 27 o.version) (number {ends = fault.Ends} 2) (nothing 65535) o.lighting)

pub name-mapping-bytes : (x : NameMapping) → (name_mapping all).encode x ≡ mapping_bytes x.timestamp (length x.names) (encode_items (name_row all) [] x.names)
unfolding name_mapping behind listed iso ◌⨾◌ refine items number run
name-mapping-bytes x = refl

bytes_same : (seen l : List ℕ) → Bytes l → encode_items (λ (_ : List ℕ). number {ends = fault.Ends} 1) seen l ≡ l
unfolding number iso run
bytes_same seen [] h = refl
bytes_same seen (x ∷ l) h = ap₂ ◌∷◌ (omega (arith, h 0)) (bytes_same (x ∷ seen) l (λ i. h (suc i)))

pub nodes-bytes : (v : ℕ) (n : Nodes) → Bytes n.param1 → Bytes n.param2 → (nodes v).encode n ≡ nodes_bytes v n.param0 n.param1 n.param2
unfolding nodes params behind iso ◌⨾◌ refine items number run
nodes-bytes v n h k = rw (bytes_same [] n.param1 h, bytes_same [] n.param2 k)

-- a list behind a tag
tagged-bytes : {A : Type 0} (tag : BlockFormat ℕ) (test : ℕ → Bool) (item : List A → BlockFormat A) (t : ℕ) (l : List A)
    → (tagged tag test [] (listed 2 item)).encode (t, l) ≡ tag.encode t ++ list_if (test t) (length l) (encode_items item [] l)
unfolding listed iso ◌⨾◌ nothing items number run
tagged-bytes tag test item t l = rw (cond-bytes (test t) (listed 2 item) (nothing []) l)

pub metadata-bytes : (v : ℕ) (x : MetadataList) → (metadata v).encode x ≡ metadata_bytes v x.form (length x.rows) (encode_items (metadata_row v) [] x.rows)
unfolding metadata list_form iso refine number run
metadata-bytes v x = tagged-bytes (list_form v) is_counted (metadata_row v) x.form x.rows

pub objects-bytes : (l : List ObjectRow) → objects.encode l ≡ objects_bytes (length l) (encode_items (λ _. object_row) [] l)
unfolding objects
objects-bytes l = fixed-bytes (λ _. object_row) l 1 0 fault.ObjectVersion

-- version 24 or 23, told by bounds
chosen : (v : ℕ) (x y : List ℕ) → cond (before 25 v) (cond (since 24 v) x (cond (since 23 v) y [])) [] ≡ cond (eqb v 24) x (cond (eqb v 23) y [])
chosen v x y = go (leb 25 v) refl (leb 24 v) refl (leb 23 v) refl
  where
    go : (a : Bool) → leb 25 v ≡ a → (b : Bool) → leb 24 v ≡ b → (c : Bool) → leb 23 v ≡ c
        → cond (before 25 v) (cond (since 24 v) x (cond (since 23 v) y [])) [] ≡ cond (eqb v 24) x (cond (eqb v 23) y [])
    go true e b f c g = let h = leb-true 25 v e in rw (e, ne_eqb v 24 (λ q. omega arith), ne_eqb v 23 (λ q. omega arith))
    go false e true f c g = let h = leb-false 25 v e in let k = leb-true 24 v f in rw (e, f, eq-eqb v 24 (omega arith))
    go false e false f true g = let h = leb-false 24 v f in let k = leb-true 23 v g in rw (e, f, g, ne_eqb v 24 (λ q. omega arith), eq-eqb v 23 (omega arith))
    go false e false f false g = let h = leb-false 23 v g in rw (e, f, g, ne_eqb v 24 (λ q. omega arith), ne_eqb v 23 (λ q. omega arith))

bytes-of-24 : (x : Timers) → timers_of24.encode x ≡ to_be 1 x.byte ++ list_if (has_timers x.byte) (length x.rows) (encode_items timer_row [] x.rows)
unfolding iso refine number run
bytes-of-24 x = tagged-bytes timer_byte_field has_timers timer_row x.byte x.rows

abbrev zero_of23 : BlockFormat Timers
zero_of23 = fixed 1 0 fault.ByteOf23 (nothing no_timers)

pub early-bytes : (v : ℕ) (x : Timers) → (early_timers v).encode (cond (since 25 v) no_timers x) ≡ early_bytes v x.byte (length x.rows) (encode_items timer_row [] x.rows)
unfolding early_timers behind iso ◌⨾◌ refine nothing number run
early-bytes v x =
    let below = cond (since 23 v) zero_of23 (nothing no_timers) in
    only-there no_timers (cond (since 24 v) timers_of24 below) x (since 25 v)
    ∙ rw (cond-bytes (since 24 v) timers_of24 below x, cond-bytes (since 23 v) zero_of23 (nothing no_timers) x, bytes-of-24 x)
    (chosen v (to_be 1 x.byte ++ list_if (has_timers x.byte) (length x.rows) (encode_items timer_row [] x.rows)) (to_be 1 0))

pub late-bytes : (v : ℕ) (x : Timers) → (late_timers v).encode (cond (since 25 v) x no_timers) ≡ late_bytes v (length x.rows) (encode_items timer_row [] x.rows)
unfolding late_timers behind listed iso ◌⨾◌ refine nothing items number run
late-bytes v x = only_here no_timers _ x (since 25 v)

-- ---- the whole
pub encoded : (p : BlockParts) (c : RowCounts) (l : List NameRow) (m : List MetadataRow) (o : List ObjectRow) (k : List TimerRow) → Bytes p.param1 → Bytes p.param2
    → length l ≡ c.names → length m ≡ c.metadata → length o ≡ c.objects → length k ≡ c.timers
    → (block all).encode (made p l m o k)
    ≡ block_bytes p.head c p.param0 p.param1 p.param2
    (encode_items (name_row all) [] l) (encode_items (metadata_row p.head.version) [] m) (encode_items (λ _. object_row) [] o) (encode_items timer_row [] k)
unfolding block steps front rest iso ◌⨾◌ block_bytes
encoded p c l m o k b₁ b₂ e₁ e₂ e₃ e₄ =
    let b = made p l m o k in
    let v = p.head.version in
    rw (
      opening-bytes (opening_of b),
      only_here no_mapping (name_mapping all) (name_mapping_of b) (since 29 v),
      nodes-bytes v b.nodes b₁ b₂,
      metadata-bytes v (metadata_of b),
      early-bytes v (timers_of b),
      objects-bytes o,
      only-there no_mapping (name_mapping all) (name_mapping_of b) (since 29 v),
      late-bytes v (timers_of b),
      name-mapping-bytes (name_mapping_of b),
      e₁,
      e₂,
      e₃,
      e₄,
    )
