-- Well formed, in plain words: document 01, 'Block layout' (its steps are cited by number) and, for the head, 'Reading, looking, writing'.
-- Each field of a record is a rule. `Valid` speaks of a block's parts; how they stand in its bytes, with the widths, list versions and counts
-- that are no parts, is Layout.antt. That the parts which can stand there are the valid ones is a theorem: `ValidIsOk` of Theorems.antt.
use Rattle.std.specs.Prelude.{ℕ, ◌<◌, ◌≤◌, ◌≡◌, ◌⊎◌, List, [], ◌∷◌, true, ℤ, pos, negsuc, ◌≤ℤ◌, length, get_or}
use Rattle.std.proofs.Math.Option.{some}
use Rattle.wire.specs.Bytes.{Bytes}
use Rattle.mapblock.specs.Inventory.{through}
use Rattle.mapblock.specs.Data.{NameRow, Variable, MetadataRow, ObjectRow, TimerRow, Nodes, Block}
use Rattle.mapblock.specs.Block.{id_at}
use Rattle.mapblock.specs.declared.head.Head.{Head}

-- ---- lists
-- Every element is good.
abbrev pub Each : {A : Type 0} → (A → Type 0) → List A → Type 0
Each Good [] = Unit {0}
Each Good (a ∷ l) = Good a × Each Good l

-- Some element has the key k.
abbrev pub Has : {A K : Type 0} → (A → K) → K → List A → Type 0
Has key k [] = ⊥
Has key k (a ∷ l) = (key a ≡ k) ⊎ Has key k l

-- No two elements have the same key.
abbrev pub Distinct : {A K : Type 0} → (A → K) → List A → Type 0
Distinct key [] = Unit {0}
Distinct key (a ∷ l) = (Has key (key a) l → ⊥) × Distinct key l

-- ---- fields
-- what a u8, a u16, a u32 and an s32 can hold; `negsuc n` is -(n + 1)
abbrev pub U8 : ℕ → Type 0
U8 n = n < 256

abbrev pub U16 : ℕ → Type 0
U16 n = n < 65536

abbrev pub U32 : ℕ → Type 0
U32 n = n < 4294967296

abbrev pub S32 : ℤ → Type 0
S32 z = (negsuc 2147483647 ≤ℤ z) × (z ≤ℤ pos 2147483647)

-- bytes whose length is a u16, or a u32
abbrev pub Run16 : List ℕ → Type 0
Run16 l = U16 (length l) × Bytes l

abbrev pub Run32 : List ℕ → Type 0
Run32 l = U32 (length l) × Bytes l

-- ---- rows, each by itself
-- step 7: "name rows of u16 id, u16 length, name"
pub record NameGood (r : NameRow) : Type 0 where
  pub id : U16 r.id
  pub name : Run16 r.name

-- step 5: "the variables (u16 length, key, u32 length, value, and in list version 2 a u8 0 or 1)"
pub record VariableGood (version : ℕ) (r : Variable) : Type 0 where
  pub key : Run16 r.key
  pub value : Run32 r.value
  -- the private byte
  pub hidden : r.hidden ≤ 1
  -- list version 2 is that of 28 and 29; without the byte it is 0
  pub hidden-before-28 : version < 28 → r.hidden ≡ 0

-- "An inventory runs through the first line that is exactly `EndInventory` with its newline": the first such line ends it.
pub record InventoryGood (l : List ℕ) : Type 0 where
  pub bytes : Bytes l
  pub ends : through true l ≡ some (length l)

-- step 5, version 22: "u16 type, u16 size, that many bytes"; it has nothing else
pub record OldMetadata (r : MetadataRow) : Type 0 where
  pub kind : U16 r.kind
  pub content : Run16 r.content
  pub no-variables : r.variables ≡ []
  pub no-inventory : r.inventory ≡ []

-- step 5, from 23: "u32 number of variables, then the variables .. then one inventory"; it has nothing else
pub record NewMetadata (version : ℕ) (r : MetadataRow) : Type 0 where
  pub variables-count : U32 (length r.variables)
  pub variables : Each (VariableGood version) r.variables
  pub inventory : InventoryGood r.inventory
  pub no_kind : r.kind ≡ 0
  pub no-content : r.content ≡ []

pub record MetadataGood (version : ℕ) (r : MetadataRow) : Type 0 where
  -- "positions are 0..4095"
  pub position : r.position ≤ 4095
  pub in-22 : version < 23 → OldMetadata r
  pub from-23 : 23 ≤ version → NewMetadata version r

-- step 6: "static objects: u8 type, three s32, u16 size, that many bytes"
pub record ObjectGood (r : ObjectRow) : Type 0 where
  pub kind : U8 r.kind
  pub x : S32 r.x
  pub y : S32 r.y
  pub z : S32 r.z
  pub content : Run16 r.content

-- step 8: "timer rows of u16 position, s32 timeout, s32 elapsed"
pub record TimerGood (r : TimerRow) : Type 0 where
  -- "positions are 0..4095"
  pub position : r.position ≤ 4095
  pub timeout : S32 r.timeout
  pub elapsed : S32 r.elapsed

-- a list of rows: "u16 count", and every row is good
pub record Rows {A : Type 0} (Good : A → Type 0) (l : List A) : Type 0 where
  pub count : U16 (length l)
  pub each : Each Good l

-- ---- the head
pub record HeadGood (h : Head) : Type 0 where
  -- step 1: "u8 version 22..29"
  pub version : (22 ≤ h.version) × (h.version ≤ 29)
  -- "u8 flags, any value"
  pub flags : U8 h.flags
  -- "from 27, u16 lighting. Under 27 the reader reports lighting 65,535."
  pub lighting : U16 h.lighting
  pub lighting-before-27 : h.version < 27 → h.lighting ≡ 65535
  -- steps 2 and 7: "u32 timestamp"
  pub timestamp : U32 h.timestamp
  -- step 5: "version 24 has a u8 timer byte, 0 .. or 1"
  pub timer : h.timer ≤ 1
  -- "The timer byte is 0 except in version 24."
  pub timer-except-24 : (h.version ≡ 24 → ⊥) → h.timer ≡ 0
  -- document 02, item 3: "which of the two forms was read, counted or 0", as 0 and 1; the second is there "from version 23 on"
  pub form : h.form ≤ 1
  pub form-in-22 : h.version < 23 → h.form ≡ 0

-- ---- the nodes
-- step 4: 4,096 entries, each below a limit
pub record Entries (limit : ℕ) (l : List ℕ) : Type 0 where
  pub size : length l ≡ 4096
  pub each : (i : ℕ) → i < 4096 → get_or l i 0 < limit

pub record NodesGood (version : ℕ) (n : Nodes) : Type 0 where
  -- step 3: "content width (1 up to version 23, then 2)"
  pub param0-to-23 : version < 24 → Entries 256 n.param0
  pub param0-from-24 : 24 ≤ version → Entries 65536 n.param0
  pub param1 : Entries 256 n.param1
  pub param2 : Entries 256 n.param2

-- ---- the block
pub record Valid (b : Block) : Type 0 where
  pub head : HeadGood b.head
  pub nodes : NodesGood b.head.version b.nodes
  pub names : Rows NameGood b.names
  pub metadata : Rows (MetadataGood b.head.version) b.metadata
  pub objects : Rows ObjectGood b.objects
  pub timers : Rows TimerGood b.timers
  -- document 02, item 3: "list version 0 means an empty list"
  pub metadata-of-zero : b.head.form ≡ 1 → b.metadata ≡ []
  -- Versions 22 and 23 have no timers, and 24 has none where its timer byte is 0.
  pub timers-before-24 : b.head.version < 24 → b.timers ≡ []
  pub timers-of-24 : b.head.version ≡ 24 → b.head.timer ≡ 0 → b.timers ≡ []
  -- "distinct within the metadata list and within the timer list"
  pub metadata-distinct : Distinct (λ (r : MetadataRow). r.position) b.metadata
  pub timers-distinct : Distinct (λ (r : TimerRow). r.position) b.timers
  -- "mapped ids are distinct"
  pub ids-distinct : Distinct (λ (r : NameRow). r.id) b.names
  -- "every content id used is mapped"
  pub ids-mapped : (i : ℕ) → i < 4096 → Has (λ (r : NameRow). r.id) (id_at b i) b.names
