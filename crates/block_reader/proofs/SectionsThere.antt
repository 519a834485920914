-- A block that was read has its param lists in the bytes; one that is taken has its sections there, and they hold their rows.
use Prim.Native.Nat.{ℕ, suc, ◌+◌, ◌-◌, ◌*◌, ◌≤◌}
use mathlib.Core.Path.{◌≡◌, refl, ap, sym, subst⁻¹, ◌∙◌}
use mathlib.Core.List.{List, [], ◌++◌, append_assoc, append-nil}
use mathlib.Core.Bool.{Bool, true, false, cond, not}
use native.Mathlib.Nat.{suc-mul, mul_comm, mul-le-mul_right}
use native.Mathlib.Omega.{arith}
use lib.ListN.{length, get_or, take, drop, length-append, length-drop}
use lib.Seq.{drop_at, take-append_seam, drop-drop}
use Rattle.wire.specs.Bytes.{Bytes, from_be}
use Rattle.wire.specs.Read.{done}
use Rattle.wire.specs.Format.{Parsed, nothing, refine, ◌⨾◌, iso, items, encode_items}
use Rattle.wire.specs.Formats.{behind, fixed, listed, only, tagged}
use Rattle.mapblock.specs.Inventory.{BlockFormat}
use Rattle.mapblock.specs.Data.{Block, NameMapping, Timers, Nodes, MetadataList, ObjectRow, no_mapping, no_timers}
use Rattle.mapblock.specs.Layout.{since, before, all, width, name_row, metadata_row, object_row, timer_row, opening, name_mapping, nodes, is_counted, list_form, metadata, timer_byte_field, has_timers, timers_of24, early_timers, objects, late_timers, front, rest, steps}
use Rattle.mapblock.specs.Block.{block, opening_of, name_mapping_of, metadata_of, timers_of, lists_at, front_names_end, param0_at, verdict}
use Rattle.mapblock.specs.Params.{lists_of}
use Rattle.wire.specs.Ranges.{range_at}
use Rattle.block_reader.specs.Sections.{range_to, sections}
use Rattle.block_reader.specs.Theorems.{Holds, RowsIn, SectionsAreRows, Param0There}
use Rattle.mapblock.specs.declared.fault.Fault.{Fault}
use Rattle.mapblock.specs.declared.fault.Fault.TheVariants as fault
use Rattle.wire.proofs.Steps.{number-done}
use Rattle.mapblock.proofs.Readings.{num}
use Rattle.mapblock.proofs.Entries.{entries_at, nodes-done}
use Rattle.block_reader.proofs.ListLengths.{early_by}
use Rattle.block_reader.proofs.ValidOk.{valid-is-ok}
use Rattle.block_reader.proofs.Taken.{taken}

-- ---- parts of bytes
pub part-holds : (s p r q : List ℕ) (at : ℕ) → s ≡ p ++ (r ++ q) → at ≡ length p → Holds s (range_at at (length r)) r
part-holds s p r q at e z = rw e record {
  inside = rw (length-append, length-append) (omega arith);
  bytes = rw (drop_at p (r ++ q) at (sym z), take-append_seam);
}

-- r stands at the end of x
abbrev Ending : List ℕ → List ℕ → Type 0
Ending x r = (h : List ℕ) × (x ≡ h ++ r)

-- rows at the end of x, which stands behind p
rows-hold : (s p x q : List ℕ) {r : List ℕ} (end : ℕ) → s ≡ p ++ (x ++ q) → Ending x r → end ≡ length p + length x → Holds s (range_to end (length r)) r
rows-hold s p x q {r} end e (h, g) z =
    let size : length x ≡ length h + length r = ap (length {A = ℕ}) g ∙ length-append h r in
    let place : end - length r ≡ length (p ++ h) = rw length-append (omega arith) in
    part-holds s (p ++ h) r q (end - length r) (e ∙ rw g (simp append_assoc)) place

-- ---- rows stand at the end of their lists
module _ {A : Type 0} (k : ℕ) (item : List A → BlockFormat A) where
  listed-ending : (l : List A) → Ending ((listed k item).encode l) (encode_items item [] l)
  unfolding listed iso ◌⨾◌ items
  listed-ending l = ((num k).encode (length l), refl)

  fixed-ending : (j v : ℕ) (e : Fault) (l : List A) → Ending ((fixed j v e (listed k item)).encode l) (encode_items item [] l)
  unfolding behind iso ◌⨾◌ refine
  fixed-ending j v e l =
      let x = listed-ending l in
      ((num j).encode v ++ x.0, rw x.1 (sym (append_assoc ((num j).encode v) x.0 (encode_items item [] l))))

  -- behind a tag, where the list is written or has no items
  tagged-ending : (tag : BlockFormat ℕ) (test : ℕ → Bool) (t : ℕ) (l : List A) → (only (test t) [] (listed k item)).Ok l
      → Ending ((tagged tag test [] (listed k item)).encode (t, l)) (encode_items item [] l)
  unfolding ◌⨾◌ nothing
  tagged-ending tag test t l h = go (test t) h
    where
      go : (b : Bool) → (only b [] (listed k item)).Ok l → Ending (tag.encode t ++ (only b [] (listed k item)).encode l) (encode_items item [] l)
      go true o =
          let x = listed-ending l in
          (tag.encode t ++ x.0, rw x.1 (sym (append_assoc (tag.encode t) x.0 (encode_items item [] l))))
      go false o = rw o (tag.encode t, refl)

names-ending : (sv : NameMapping) → Ending ((name_mapping all).encode sv) (encode_items (name_row all) [] sv.names)
unfolding name_mapping iso ◌⨾◌
names-ending sv =
    let x = fixed-ending 2 (name_row all) 1 0 fault.MappingVersion sv.names in
    ((num 4).encode sv.timestamp ++ x.0, rw x.1 (sym (append_assoc ((num 4).encode sv.timestamp) x.0 (encode_items (name_row all) [] sv.names))))

metadata-ending : (v : ℕ) (x : MetadataList) → (metadata v).Ok x → Ending ((metadata v).encode x) (encode_items (metadata_row v) [] x.rows)
unfolding metadata iso ◌⨾◌
metadata-ending v x h = tagged-ending 2 (metadata_row v) (list_form v) is_counted x.form x.rows h.1

objects-ending : (l : List ObjectRow) → Ending (objects.encode l) (encode_items (λ _. object_row) [] l)
unfolding objects
objects-ending l = fixed-ending 2 (λ _. object_row) 1 0 fault.ObjectVersion l

-- no rows stand at the end of anything
none-ending : (x : List ℕ) (k : Timers) → k ≡ no_timers → Ending x (encode_items timer_row [] k.rows)
none-ending x k h = subst⁻¹ (λ (y : Timers). Ending x (encode_items timer_row [] y.rows)) h (x, sym (append-nil x))

ending-of-24 : (k : Timers) → timers_of24.Ok k → Ending (timers_of24.encode k) (encode_items timer_row [] k.rows)
unfolding iso ◌⨾◌
ending-of-24 k h = tagged-ending 2 timer_row timer_byte_field has_timers k.byte k.rows h.1

ending-by : (a b c : Bool) (k : Timers) → (early_by a b c).Ok k → Ending ((early_by a b c).encode k) (encode_items timer_row [] k.rows)
unfolding nothing behind iso ◌⨾◌
ending-by true true c k h = ending-of-24 k h
ending-by true false true k h = none-ending _ k h.1
ending-by true false false k h = none-ending _ k h
ending-by false b c k h = none-ending _ k h

early-ending : (v : ℕ) (k : Timers) → (early_timers v).Ok k → Ending ((early_timers v).encode k) (encode_items timer_row [] k.rows)
unfolding early_timers
early-ending v k h = ending-by (before 25 v) (since 24 v) (since 23 v) k h

late-ending : (v : ℕ) (k : Timers) → since 25 v ≡ true → Ending ((late_timers v).encode k) (encode_items timer_row [] k.rows)
unfolding late_timers iso ◌⨾◌ nothing
late-ending v k h = rw h (fixed-ending 2 timer_row 1 10 fault.TimerRowLength k.rows)

-- ---- the pieces of a block's bytes; in_front: the names stand in front, at_end: the timers stand at the end
pub record Pieces : Type 0 where
  in_front : Bool
  at_end : Bool
  opening : List ℕ
  name_mapping : List ℕ
  nodes : List ℕ
  metadata : List ℕ
  early : List ℕ
  objects : List ℕ
  late : List ℕ

first-length : (b : Bool) (x : List ℕ) → length (cond b x []) ≡ cond b (length x) 0
first-length true x = refl
first-length false x = refl

second-length : (b : Bool) (x : List ℕ) → length (cond b [] x) ≡ cond b 0 (length x)
second-length true x = refl
second-length false x = refl

module _ (x : Pieces) where
  -- names and timers, each in one of two places
  abbrev names₁ : List ℕ
  names₁ = cond x.in_front x.name_mapping []

  abbrev names₂ : List ℕ
  names₂ = cond x.in_front [] x.name_mapping

  abbrev timers₁ : List ℕ
  timers₁ = cond x.at_end [] x.early

  abbrev timers₂ : List ℕ
  timers₂ = cond x.at_end x.late []

  -- the bytes up to the node data, and behind the metadata
  abbrev pub to_nodes : List ℕ
  to_nodes = x.opening ++ (names₁ ++ x.nodes)

  abbrev pub behind_metadata : List ℕ
  behind_metadata = timers₁ ++ (x.objects ++ (names₂ ++ timers₂))

  abbrev pub whole : List ℕ
  whole = to_nodes ++ (x.metadata ++ behind_metadata)

  abbrev front_end : ℕ
  front_end = length x.opening + cond x.in_front (length x.name_mapping) 0

  abbrev metadata_end : ℕ
  metadata_end = front_end + length x.nodes + length x.metadata

  abbrev early_end : ℕ
  early_end = metadata_end + cond x.at_end 0 (length x.early)

  abbrev objects_end : ℕ
  objects_end = early_end + length x.objects

  abbrev names_end : ℕ
  names_end = objects_end + cond x.in_front 0 (length x.name_mapping)

  abbrev late_end : ℕ
  late_end = names_end + cond x.at_end (length x.late) 0

  nodes-size : length to_nodes ≡ front_end + length x.nodes
  nodes-size = rw (length-append, length-append, first-length x.in_front x.name_mapping) (omega arith)

  -- whatever follows
  nodes-lie : (t : List ℕ) → drop front_end (whole ++ t) ≡ x.nodes ++ ((x.metadata ++ behind_metadata) ++ t)
  nodes-lie t =
      let size : length (x.opening ++ names₁) ≡ front_end = rw (length-append, first-length x.in_front x.name_mapping) in
      let apart : whole ++ t ≡ (x.opening ++ names₁) ++ (x.nodes ++ ((x.metadata ++ behind_metadata) ++ t)) = simp append_assoc in
      ap (drop front_end) apart ∙ drop_at (x.opening ++ names₁) (x.nodes ++ ((x.metadata ++ behind_metadata) ++ t)) front_end size

  -- up to a piece behind the metadata
  to-size : (p : List ℕ) → length (to_nodes ++ (x.metadata ++ p)) ≡ metadata_end + length p
  to-size p = rw (length-append to_nodes (x.metadata ++ p), length-append x.metadata p) (omega (arith, nodes-size))

  metadata-holds : {r : List ℕ} → Ending x.metadata r → Holds whole (range_to metadata_end (length r)) r
  metadata-holds h = rows-hold whole to_nodes x.metadata behind_metadata _ refl h (omega (arith, nodes-size))

  objects-hold : {r : List ℕ} → Ending x.objects r → Holds whole (range_to objects_end (length r)) r
  objects-hold h = rows-hold whole (to_nodes ++ (x.metadata ++ timers₁)) x.objects (names₂ ++ timers₂) _ (simp append_assoc) h (rw (to-size timers₁, second-length x.at_end x.early))

  names-hold : {r : List ℕ} → Ending x.name_mapping r → Holds whole (range_to (cond x.in_front front_end names_end) (length r)) r
  names-hold {r} h = go x.in_front refl
    where
      go : (b : Bool) → x.in_front ≡ b → Holds whole (range_to (cond x.in_front front_end names_end) (length r)) r
      go true z = rows-hold whole x.opening x.name_mapping (x.nodes ++ (x.metadata ++ behind_metadata)) _ (rw z (simp append_assoc)) h (rw z refl)
      go false z =
          let size : length (timers₁ ++ x.objects) ≡ cond x.at_end 0 (length x.early) + length x.objects = rw (length-append, second-length x.at_end x.early) in
          let end : length (to_nodes ++ (x.metadata ++ (timers₁ ++ x.objects))) ≡ objects_end = rw (to-size (timers₁ ++ x.objects)) (omega arith) in
          rows-hold whole (to_nodes ++ (x.metadata ++ (timers₁ ++ x.objects))) x.name_mapping timers₂ _ (rw z (simp append_assoc)) h (rw (end, z))

  timers-hold : {r : List ℕ} → (x.at_end ≡ false → Ending x.early r) → (x.at_end ≡ true → Ending x.late r)
      → Holds whole (range_to (cond x.at_end late_end early_end) (length r)) r
  timers-hold {r} early late = go x.at_end refl
    where
      go : (b : Bool) → x.at_end ≡ b → Holds whole (range_to (cond x.at_end late_end early_end) (length r)) r
      go true z =
          let size : length (timers₁ ++ (x.objects ++ names₂)) ≡ cond x.at_end 0 (length x.early) + (length x.objects + cond x.in_front 0 (length x.name_mapping)) = rw (length-append timers₁ (x.objects ++ names₂), length-append x.objects names₂, second-length x.at_end x.early, second-length x.in_front x.name_mapping) in
          let end : length (to_nodes ++ (x.metadata ++ (timers₁ ++ (x.objects ++ names₂)))) ≡ names_end = rw (to-size (timers₁ ++ (x.objects ++ names₂))) (omega arith) in
          rows-hold whole (to_nodes ++ (x.metadata ++ (timers₁ ++ (x.objects ++ names₂)))) x.late [] _ (rw z (simp (append_assoc, append-nil))) (late z) (rw (end, z))
      go false z =
          let end : length (to_nodes ++ (x.metadata ++ [])) ≡ metadata_end = rw (to-size []) (omega arith) in
          rows-hold whole (to_nodes ++ (x.metadata ++ [])) x.early (x.objects ++ (names₂ ++ [])) _ (rw z (simp append_assoc)) (early z) (rw (end, z))

-- ---- a block's bytes
slot-first : {A : Type 0} (b : Bool) (f : BlockFormat A) (x u : A) → (only b u f).encode (cond b x u) ≡ cond b (f.encode x) []
unfolding nothing
slot-first true f x u = refl
slot-first false f x u = refl

slot-second : {A : Type 0} (b : Bool) (f : BlockFormat A) (x u : A) → (only (not b) u f).encode (cond b u x) ≡ cond b [] (f.encode x)
unfolding nothing
slot-second true f x u = refl
slot-second false f x u = refl

-- where the other place has the format itself
same_second : {A : Type 0} (b : Bool) (f : BlockFormat A) (x u : A) → (only (not b) u f).encode (cond b u x) ≡ cond b [] ((only (not b) u f).encode x)
unfolding nothing
same_second true f x u = refl
same_second false f x u = refl

same_first : {A : Type 0} (b : Bool) (f : BlockFormat A) (x u : A) → (only b u f).encode (cond b x u) ≡ cond b ((only b u f).encode x) []
unfolding nothing
same_first true f x u = refl
same_first false f x u = refl

early-slot : (v : ℕ) (k : Timers) → (early_timers v).encode (cond (since 25 v) no_timers k) ≡ cond (since 25 v) [] ((early_timers v).encode k)
unfolding early_timers
early-slot v k = same_second (since 25 v) _ k no_timers

late_slot : (v : ℕ) (k : Timers) → (late_timers v).encode (cond (since 25 v) k no_timers) ≡ cond (since 25 v) ((late_timers v).encode k) []
unfolding late_timers
late_slot v k = same_first (since 25 v) _ k no_timers

module _ (b : Block) where
  abbrev v : ℕ
  v = b.head.version

  abbrev pub pieces : Pieces
  pieces = record {
    in_front = since 29 v;
    at_end = since 25 v;
    opening = opening.encode (opening_of b);
    name_mapping = (name_mapping all).encode (name_mapping_of b);
    nodes = (nodes v).encode b.nodes;
    metadata = (metadata v).encode (metadata_of b);
    early = (early_timers v).encode (timers_of b);
    objects = objects.encode b.objects;
    late = (late_timers v).encode (timers_of b);
  }

  pub block-pieces : (block all).encode b ≡ whole pieces
  unfolding block iso steps front rest ◌⨾◌
  block-pieces = rw (slot-first (since 29 v) (name_mapping all) (name_mapping_of b) no_mapping, slot-second (since 29 v) (name_mapping all) (name_mapping_of b) no_mapping, early-slot v (timers_of b), late_slot v (timers_of b))

  nodes-ok : (block all).Ok b → (nodes v).Ok b.nodes
  unfolding block iso steps front ◌⨾◌
  nodes-ok h = h.0.1.1

  pub metadata-ok : (block all).Ok b → (metadata v).Ok (metadata_of b)
  unfolding block iso steps rest ◌⨾◌
  metadata-ok h = h.1.0

  early-ok : (block all).Ok b → since 25 v ≡ false → (early_timers v).Ok (timers_of b)
  unfolding block iso steps rest ◌⨾◌
  early-ok h z = rw z at h.1.1.0

-- ---- a block that was read
module _ (s : List ℕ) (b : Block) (n : ℕ) (w : Bytes s) (h : (block all).read s ≡ done b n) where
  abbrev version : ℕ
  version = b.head.version

  took : Parsed (block all).Ok (block all).encode s b n
  took = (block all).backward s b n w h

  nodes-read : (nodes version).read (drop (front_names_end b) s) ≡ done b.nodes (length ((nodes version).encode b.nodes))
  nodes-read =
      let behind = (metadata version).encode (metadata_of b) ++ behind_metadata (pieces b) in
      ap (λ (x : List ℕ). (nodes version).read (drop (front_names_end b) x)) (took.front ∙ ap (λ (x : List ℕ). x ++ drop n s) (block-pieces b))
      ∙ ap (nodes version).read (nodes-lie (pieces b) (drop n s))
      ∙ (nodes version).forward b.nodes (nodes-ok b took.ok) (behind ++ drop n s)

  -- the param lists lie in the bytes, and are the block's nodes
  pub lists-inside : lists_at b + (4096 * width version + 8192) ≤ length s
  lists-inside =
      let x = nodes-done version (drop (front_names_end b) s) nodes-read in
      omega (arith, x.0, x.1, length-drop (front_names_end b) s)

  pub lists-there : b.nodes ≡ lists_of (width version) (drop (lists_at b) s)
  lists-there = (nodes-done version (drop (front_names_end b) s) nodes-read).2 ∙ ap (lists_of (width version)) (drop-drop 2 (front_names_end b) s)

pub param0-there : Param0There
param0-there s b n w h i k =
    let v = b.head.version in
    let at : drop (width v * i) (drop (lists_at b) s) ≡ drop (param0_at b i) s = drop-drop (width v * i) (lists_at b) s in
    let end : suc i * width v ≤ 4096 * width v = mul-le-mul_right (width v) k in
    let room : width v ≤ length (drop (param0_at b i) s) = rw length-drop (omega (arith, lists-inside s b n w h, suc-mul i (width v), mul_comm i (width v))) in
    number-done fault.Ends (width v) (drop (param0_at b i) s) room
    ∙ ap (λ (x : List ℕ). done (from_be 0 (take (width v) x)) (width v)) (sym at)
    ∙ ap (λ (x : ℕ). done x (width v)) (sym (ap (λ (x : Nodes). get_or x.param0 i 0) (lists-there s b n w h) ∙ entries_at (width v) 4096 (drop (lists_at b) s) i k))

-- ---- a block that is taken
module _ (s : List ℕ) (b : Block) (n : ℕ) (w : Bytes s) (h : verdict all s ≡ done b n) where
  ok : (block all).Ok b
  ok = ((valid-is-ok b).0 ((taken s b n w).0 h).0).0

  bytes-pieces : s ≡ whole (pieces b)
  bytes-pieces = ((taken s b n w).0 h).1 ∙ block-pieces b

  rows_in_lem : RowsIn (whole (pieces b)) b
  unfolding sections
  rows_in_lem =
      let v = b.head.version in record {
        names = names-hold (pieces b) (names-ending (name_mapping_of b));
        metadata = metadata-holds (pieces b) (metadata-ending v (metadata_of b) (metadata-ok b ok));
        objects = objects-hold (pieces b) (objects-ending b.objects);
        timers = timers-hold (pieces b) (λ z. early-ending v (timers_of b) (early-ok b ok z)) (late-ending v (timers_of b));
      }

pub sections-are-rows : SectionsAreRows
sections-are-rows s b n w h = subst⁻¹ (λ (x : List ℕ). RowsIn x b) (bytes-pieces s b n w h) (rows_in_lem s b n w h)
