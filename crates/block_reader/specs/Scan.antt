-- What the scan knows on its way: its own promises, between its functions.
use Rattle.std.specs.Prelude.{ℕ, ◌+◌, ◌-◌, ◌*◌, ◌≤◌, ◌≡◌, refl, List, Bool, cond, length, drop}
use Rattle.wire.specs.Read.{Read, done, refused, shift}
use Rattle.wire.specs.Formats.{Shape, into, ◌▹◌}
use Rattle.mapblock.specs.Inventory.{BlockFormat}
use Rattle.mapblock.specs.Data.{MetadataList, ObjectRow, Opening, Timers, Front, Block}
use Rattle.mapblock.specs.Layout.{since, all, width, unmapped, opening, name_mapping, list_version_bytes, is_counted, metadata, has_timers, early_timers, objects, late_timers, front}
use Rattle.mapblock.specs.Block.{block}
use Rattle.mapblock.specs.Params.{lists_of}
use Rattle.wire.specs.Ranges.{range_at, InReach}
use Rattle.block_reader.specs.Sections.{scanned_of}
use Rattle.mapblock.specs.Table.{free_in, Tabled, front_rows, NamesMarked}
use Rattle.mapblock.specs.declared.fault.Fault.{Fault}
use Rattle.wire.specs.declared.ranges.Range.{Range}
use Rattle.block_reader.specs.declared.scan.OpeningFields.{OpeningFields}
use Rattle.block_reader.specs.declared.scan.FrontFields.{FrontFields}
use Rattle.block_reader.specs.declared.scan.MiddleFields.{MiddleFields}
use Rattle.block_reader.specs.declared.scan.Scanned.{Scanned}
use Rattle.std.specs.Prelude.{Ok, Err, Result}
use Rattle.mapblock.specs.declared.fault.Refusal.{Refusal}

-- ---- step 1
abbrev pub opening_on : ℕ → ℕ → ℕ → Opening
opening_on v flags lighting = record { version = v; flags = flags; lighting = lighting }

abbrev pub opening_is : OpeningFields → Opening
opening_is o = opening_on o.version o.flags o.lighting

abbrev pub told_opening : Result (OpeningFields × ℕ) Refusal → Read Fault Opening
told_opening (Ok (o, n)) = done (opening_is o) n
told_opening (Err w) = refused w.fault w.offset

-- ---- up to the node data
-- the bytes of a timestamp with its names, in front or not
abbrev pub mapping_length : Bool → Front → ℕ
mapping_length b x = cond b (length ((name_mapping all).encode x.mapping)) 0

-- the front was read; t is the table before, and u after
pub record FrontIs (t u s : List ℕ) (w : FrontFields) : Type 0 where
  pub x : Front
  pub reads : (front (free_in t)).read s ≡ done x w.end
  pub opened : x.opening ≡ opening_on w.version w.flags w.lighting
  pub time : x.mapping.timestamp ≡ w.timestamp
  pub count : length x.mapping.names ≡ w.count
  pub at : w.lists ≡ length (opening.encode x.opening) + mapping_length (since 29 w.version) x + 2
  pub nodes : x.nodes ≡ lists_of (width w.version) (drop w.lists s)
  pub ends : w.end ≡ w.lists + (4096 * width w.version + 8192)
  pub marked : NamesMarked t u x.mapping.names
  pub rows : front_rows w.count (drop 11 s) ≡ x.mapping.names

abbrev pub FrontTold : List ℕ → List ℕ → List ℕ → Result FrontFields Refusal → Type 0
FrontTold t u s (Ok w) = FrontIs t u s w
FrontTold t u s (Err w) = ((front (free_in t)).read s ≡ refused w.fault w.offset) × (u ≡ t)

-- ---- metadata, what follows it, static objects
pub record MiddleRows : Type 0 where
  pub metadata : MetadataList
  pub early : Timers
  pub objects : List ObjectRow

abbrev pub middle_shape : Shape (MetadataList × (Timers × List ObjectRow)) MiddleRows
middle_shape = record {
  make = λ (m, (e, o)). record { metadata = m; early = e; objects = o };
  parts = λ r. (r.metadata, (r.early, r.objects));
  there = λ r. refl;
  back = λ x. refl;
}

abbrev pub middle : ℕ → BlockFormat MiddleRows
middle v = into middle_shape (metadata v ▹ early_timers v ▹ objects)

pub record MiddleIs (v : ℕ) (s : List ℕ) (w : MiddleFields) : Type 0 where
  pub x : MiddleRows
  pub reads : (middle v).read s ≡ done x (w.metadata + (w.early + w.objects))
  pub first : w.metadata ≡ length ((metadata v).encode x.metadata)
  pub second : w.early ≡ length ((early_timers v).encode x.early)
  pub third : w.objects ≡ length (objects.encode x.objects)
  pub form : x.metadata.form ≡ w.form
  pub timer : x.early.byte ≡ w.timer

abbrev pub MiddleTold : ℕ → List ℕ → Result MiddleFields Refusal → Type 0
MiddleTold v s (Ok w) = MiddleIs v s w
MiddleTold v s (Err w) = (middle v).read s ≡ refused w.fault w.offset

-- ---- all but the late timers
-- what stands in a list before its rows
abbrev pub metadata_head : ℕ → ℕ → ℕ
metadata_head v form = list_version_bytes v + cond (is_counted form) 2 0

abbrev pub early_head : MiddleFields → ℕ
early_head m = cond (has_timers m.timer) 3 m.early

abbrev pub without_late_timers : FrontFields → MiddleFields → ℕ → Range → Scanned
without_late_timers w m time names = record {
  head = record { version = w.version; flags = w.flags; lighting = w.lighting; timestamp = time; timer = m.timer; form = m.form };
  lists = w.lists;
  sections = record {
    names = names;
    metadata = range_at (w.end + metadata_head w.version m.form) (m.metadata - metadata_head w.version m.form);
    objects = range_at (w.end + m.metadata + m.early + 3) (m.objects - 3);
    timers = range_at (w.end + m.metadata + early_head m) (m.early - early_head m);
  };
}

-- the lists hold their heads, and all is in reach
pub record Sized (w : FrontFields) (m : MiddleFields) : Type 0 where
  pub metadata : metadata_head w.version m.form ≤ m.metadata
  pub early : early_head m ≤ m.early
  pub objects : 3 ≤ m.objects
  pub fits : InReach (w.end + m.metadata + m.early + m.objects)

-- with the late timers, which are the n bytes from a place on
abbrev pub with_late_timers_at : Scanned → ℕ → ℕ → Scanned
with_late_timers_at w at n = record {
  head = w.head;
  lists = w.lists;
  sections = record {
    names = w.sections.names;
    metadata = w.sections.metadata;
    objects = w.sections.objects;
    timers = cond (since 25 w.head.version) (range_at (at + 3) (n - 3)) w.sections.timers;
  };
}

-- the block was read up to a place, where late timers may stand; t marks its names
pub record ReadUpTo (free : ℕ → Bool) (s : List ℕ) (w : Scanned) (at : ℕ) (t : List ℕ) : Type 0 where
  pub with : Timers → Block
  pub reads : (block free).read s ≡ shift at with ((late_timers w.head.version).read (drop at s))
  pub shows : (k : Timers) (n : ℕ) → (late_timers w.head.version).read (drop at s) ≡ done k n → scanned_of (with k) ≡ with_late_timers_at w at n
  pub version : (k : Timers) → (with k).head.version ≡ w.head.version
  pub nodes : (k : Timers) → (with k).nodes ≡ lists_of (width w.head.version) (drop w.lists s)
  pub marked : (k : Timers) → Tabled 65536 (unmapped free (with k).names) t
  pub long : w.lists + (4096 * width w.head.version + 8192) ≤ at
  pub inside : at ≤ length s

-- ---- the whole
