-- What the reader says of bytes that are not written yet, list by list: document 01, 'Order', "then what the reader would say of the bytes".
use Rattle.std.specs.Prelude.{ℕ, ◌+◌, ◌*◌, ◌<◌, ◌≤◌, ◌≡◌, List, Bool, true, cond, length, get_or}
use Rattle.std.proofs.Math.Option.{Option}
use Rattle.wire.specs.Read.{Read, done}
use Rattle.wire.specs.Formats.{◌▹◌, only}
use Rattle.mapblock.specs.Inventory.{BlockFormat}
use Rattle.mapblock.specs.Data.{NameRow, MetadataRow, ObjectRow, TimerRow, Opening, NameMapping, MetadataList, Timers, Nodes, Front, Rest, no_mapping, no_timers}
use Rattle.mapblock.specs.Layout.{since, before, all, width, is_version, unmapped, name_mapping, front, rest, late_timers}
use Rattle.mapblock.specs.Block.{content_id, first_from, block, verdict}
use Rattle.block_reader.specs.Scan as scan
use Rattle.mapblock.specs.Table.{free_in, Tabled}
use Rattle.mapblock.specs.Told.{ended}
use Rattle.mapblock.specs.declared.fault.Fault.{Fault}
use Rattle.mapblock.specs.declared.head.Head.{Head}
use Rattle.block_writer.specs.BlockParts.{BlockParts, WellTyped, fits, made}
use Rattle.block_writer.specs.Sections.{SectionRows}
use Rattle.block_writer.specs.declared.counts.RowCounts.{RowCounts}

-- what is said of a value's bytes, but for the value
abbrev pub verdict_on : {A : Type 0} → BlockFormat A → A → Read Fault (Unit {0})
verdict_on f a = ended (f.read (f.encode a))

-- a section of at most 65,535 rows, each of at most 65,550 bytes: all but the metadata
abbrev pub Small : List ℕ → Type 0
Small s = length s ≤ 65535 * 65550

-- the bytes of step 1, and of the param lists
abbrev pub opening_length : ℕ → ℕ
opening_length v = cond (since 27 v) 4 2

abbrev pub lists_length : ℕ → ℕ
lists_length v = 4096 * width v + 8192

-- ---- what a head and rows put where: as a block's pieces have it
abbrev pub opening_on : Head → Opening
opening_on h = scan.opening_on h.version h.flags h.lighting

abbrev pub mapping_on : Head → List NameRow → NameMapping
mapping_on h l = record { timestamp = h.timestamp; names = l }

abbrev pub mapping_front : Head → List NameRow → NameMapping
mapping_front h l = cond (since 29 h.version) (mapping_on h l) no_mapping

abbrev pub mapping_behind : Head → List NameRow → NameMapping
mapping_behind h l = cond (since 29 h.version) no_mapping (mapping_on h l)

abbrev pub metadata_on : Head → List MetadataRow → MetadataList
metadata_on h l = record { form = h.form; rows = l }

abbrev pub timers_on : Head → List TimerRow → Timers
timers_on h l = record { byte = h.timer; rows = l }

abbrev pub timers_early : Head → List TimerRow → Timers
timers_early h l = cond (since 25 h.version) no_timers (timers_on h l)

abbrev pub timers_late : Head → List TimerRow → Timers
timers_late h l = cond (since 25 h.version) (timers_on h l) no_timers

abbrev pub front_on : Head → List NameRow → Nodes → Front
front_on h l n = record { opening = opening_on h; mapping = mapping_front h l; nodes = n }

abbrev pub rest_on : Head → List NameRow → List MetadataRow → List ObjectRow → List TimerRow → Rest
rest_on h l m o k = record { metadata = metadata_on h m; early = timers_early h k; objects = o; mapping = mapping_behind h l; late = timers_late h k }

-- ---- names; the table t tells which ids are free, and u is the table after
pub record MappingJudged (t u : List ℕ) (x : NameMapping) (r : Read Fault (Unit {0})) : Type 0 where
  pub judged : r ≡ verdict_on (name_mapping (free_in t)) x
  pub marks : (n : ℕ) → r ≡ done tt n → Tabled 65536 (unmapped (free_in t) x.names) u

-- up to the end of the node data
pub record FrontJudged (t u : List ℕ) (h : Head) (l : List NameRow) (n : Nodes) (r : Read Fault (Unit {0})) : Type 0 where
  pub judged : r ≡ verdict_on (front (free_in t)) (front_on h l n)
  pub marks : (k : ℕ) → 29 ≤ h.version → r ≡ done tt k → Tabled 65536 (unmapped (free_in t) l) u
  pub kept : h.version < 29 → u ≡ t

-- behind the static objects: names before version 29, timers from 25 on
abbrev pub ending : (ℕ → Bool) → ℕ → BlockFormat (NameMapping × Timers)
ending free v = only (before 29 v) no_mapping (name_mapping free) ▹ late_timers v

-- `free` matters where the names stand behind
pub record EndingJudged (t u : List ℕ) (h : Head) (l : List NameRow) (k : List TimerRow) (r : Read Fault (Unit {0})) : Type 0 where
  pub judged : (free : ℕ → Bool) → (h.version < 29 → free ≡ free_in t) → r ≡ verdict_on (ending free h.version) (mapping_behind h l, timers_late h k)
  pub marks : (n : ℕ) → h.version < 29 → r ≡ done tt n → Tabled 65536 (unmapped (free_in t) l) u
  pub kept : 29 ≤ h.version → u ≡ t

-- what follows the node data
pub record RestJudged (t u : List ℕ) (h : Head) (l : List NameRow) (m : List MetadataRow) (o : List ObjectRow) (k : List TimerRow) (r : Read Fault (Unit {0})) : Type 0 where
  pub judged : (free : ℕ → Bool) → (h.version < 29 → free ≡ free_in t) → r ≡ verdict_on (rest free h.version) (rest_on h l m o k)
  pub marks : (n : ℕ) → h.version < 29 → r ≡ done tt n → Tabled 65536 (unmapped (free_in t) l) u
  pub kept : 29 ≤ h.version → u ≡ t

-- ---- the whole block
-- parts that may be judged: they fit, and no length passes a usize
pub record Judgeable (p : BlockParts) : Type 0 where
  pub version : is_version p.head.version ≡ true
  pub fit : fits p ≡ true
  pub typed : WellTyped p
  pub small : Small p.names × (Small p.objects × Small p.timers)

-- the reader's verdict on the bytes of the block that the parts make
abbrev pub BlockJudged : BlockParts → RowCounts → Read Fault (Unit {0}) → Type 0
BlockJudged p counts r =
    (l : List NameRow) (m : List MetadataRow) (o : List ObjectRow) (k : List TimerRow)
    → SectionRows p.head.version p.names p.metadata p.objects p.timers counts l m o k
    → r ≡ ended (verdict all ((block all).encode (made p l m o k)))

-- ---- content ids
-- whether a node's id has no mark in the table, and the first node whose id has none
abbrev pub unmarked_among : ℕ → List ℕ → List ℕ → List ℕ → ℕ → Bool
unmarked_among v param0 param2 t i = free_in t (content_id v (get_or param0 i 0) (get_or param2 i 0))

abbrev pub first_unmapped_among : ℕ → List ℕ → List ℕ → List ℕ → Option ℕ
first_unmapped_among v param0 param2 t = first_from (unmarked_among v param0 param2 t) 4096 0
