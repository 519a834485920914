-- The parts that a writer takes, and the block that they make: document 01, 'Reading, looking, writing' and number 12.
use Rattle.std.specs.Prelude.{ℕ, List, [], ◌∷◌, Bool, true, cond, ◌&&◌, ◌||◌, ltb, eqb, length, get_or}
use Rattle.std.proofs.Math.Option.{Option, some, none}
use Rattle.wire.specs.Bytes.{Bytes}
use Rattle.mapblock.specs.Data.{NameRow, MetadataRow, ObjectRow, TimerRow, Block}
use Rattle.mapblock.specs.Layout.{since, is_counted, list_zero, object_row}
use Rattle.mapblock.specs.Valid.{U8, U16, U32}
use Rattle.block_reader.specs.Questions.{are_whole}
use Rattle.mapblock.specs.declared.head.Head.{Head}
use Rattle.block_writer.specs.Frames.{name_frame, metadata_frame, timer_frame, section_rows}

-- "head, lists and sections"; a section is the bytes of its rows
pub record BlockParts : Type 0 where
  pub head : Head
  pub param0 : List ℕ
  pub param1 : List ℕ
  pub param2 : List ℕ
  pub names : List ℕ
  pub metadata : List ℕ
  pub objects : List ℕ
  pub timers : List ℕ

abbrev pub block_parts : Head → List ℕ → List ℕ → List ℕ → List ℕ → List ℕ → List ℕ → List ℕ → BlockParts
block_parts head param0 param1 param2 names metadata objects timers = record {
  head = head;
  param0 = param0;
  param1 = param1;
  param2 = param2;
  names = names;
  metadata = metadata;
  objects = objects;
  timers = timers;
}

-- what the types of a call hold
pub record WellTyped (p : BlockParts) : Type 0 where
  pub version : U8 p.head.version
  pub flags : U8 p.head.flags
  pub lighting : U16 p.head.lighting
  pub timestamp : U32 p.head.timestamp
  pub timer : U8 p.head.timer
  pub form : U8 p.head.form
  pub param0 : (i : ℕ) → U16 (get_or p.param0 i 0)
  pub param1 : Bytes p.param1
  pub param2 : Bytes p.param2
  pub names : Bytes p.names
  pub metadata : Bytes p.metadata
  pub objects : Bytes p.objects
  pub timers : Bytes p.timers

-- ---- parts that fit
-- Document 02, item 3: no form of the metadata list but counted and a single 0, and no "0 in version 22"
abbrev pub form_fits : Head → Bool
form_fits h = cond (is_counted h.form) true (eqb h.form list_zero && since 23 h.version)

-- no "head value the version doesn't carry (lighting not 65,535 under 27, timer byte not 0 outside 24)", nor such a form
abbrev pub head_fits : Head → Bool
head_fits h =
    cond (since 27 h.version) true (eqb h.lighting 65535)
    && (cond (eqb h.version 24) true (eqb h.timer 0) && form_fits h)

unfoldable pub all_below : ℕ → List ℕ → Bool
all_below m [] = true
all_below m (x ∷ l) = ltb x m && all_below m l

-- no "param0 above 255 up to version 23"
abbrev pub param0_fits : ℕ → List ℕ → Bool
param0_fits v param0 = cond (since 24 v) true (all_below 256 param0)

-- Document 02, item 3: no "0 with metadata rows present"
abbrev pub metadata_fits : Head → List ℕ → Bool
metadata_fits h metadata = cond (is_counted h.form) true (eqb (length metadata) 0)

-- no "timers in 22, in 23, or in 24 with a timer byte not 1"
abbrev pub timers_fit : Head → List ℕ → Bool
timers_fit h timers = cond (since 25 h.version || (eqb h.version 24 && eqb h.timer 1)) true (eqb (length timers) 0)

-- no "lent list not of 4,096", and those above
abbrev pub fits : BlockParts → Bool
fits p = are_whole (length p.param0) (length p.param1) (length p.param2)
    && (head_fits p.head && (param0_fits p.head.version p.param0 && (metadata_fits p.head p.metadata && timers_fit p.head p.timers)))

-- ---- the block that they make
abbrev pub given : {A B : Type 0} → Option A → (A → Option B) → Option B
given none f = none
given (some a) f = f a

abbrev pub made : BlockParts → List NameRow → List MetadataRow → List ObjectRow → List TimerRow → Block
made p n m o t = record {
  head = p.head;
  names = n;
  nodes = record { param0 = p.param0; param1 = p.param1; param2 = p.param2 };
  metadata = m;
  objects = o;
  timers = t;
}

-- no "section not made of whole rows, over 65,535 rows"
abbrev pub rows_made : BlockParts → Option Block
rows_made p =
    given (section_rows name_frame p.names) λ n.
    given (section_rows (metadata_frame p.head.version) p.metadata) λ m.
    given (section_rows object_row p.objects) λ o.
    given (section_rows timer_frame p.timers) λ t.
    some (made p n m o t)

-- none where they do not fit
unfoldable pub block_made : BlockParts → Option Block
block_made p = cond (fits p) (rows_made p) none
