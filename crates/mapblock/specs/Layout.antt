-- Document 01, 'Block layout', straight down its eight steps, in the language of wire's Formats.
-- `free` are the ids that may be mapped: `all` in a block of its own. A caller who lends a table of marks may hold some back.
use Rattle.std.specs.Prelude.{ℕ, ◌≡◌, refl, List, [], ◌∷◌, Bool, true, false, cond, not, ◌&&◌, ◌||◌, leb, eqb}
use Rattle.std.proofs.Common.{sym, eqb-true}
use Rattle.wire.specs.Choice.{no_true}
use Rattle.wire.specs.Format.{nothing, refine, ◌⨾◌}
use Rattle.wire.specs.Formats.{◌▹◌, u8, u16, u32, s32, number, prefixed, listed, fixed, times, only, tagged, coded, into}
use Rattle.mapblock.specs.Inventory.{BlockFormat, inventory}
use Rattle.mapblock.specs.Data.{NameRow, Variable, MetadataRow, ObjectRow, TimerRow, Nodes, Opening, NameMapping, MetadataList, Timers, Front, Rest, Steps, no_mapping, no_timers, name_shape, variable_shape, metadata_shape, object_shape, timer_shape, node_shape, opening_shape, name_mapping_shape, metadata_list_shape, timers_shape, front_shape, rest_shape, steps_shape}
use Rattle.mapblock.specs.declared.fault.Fault.TheVariants as fault

abbrev pub since : ℕ → ℕ → Bool
since n v = leb n v

abbrev pub before : ℕ → ℕ → Bool
before n v = not (leb n v)

-- ---- rows
-- all but one
abbrev pub without : ℕ → (ℕ → Bool) → ℕ → Bool
without m free n = cond (eqb n m) false (free n)

-- A number is unused where it was free before the list and no row of the list has it.
unfoldable pub unused : {A : Type 0} → (A → ℕ) → (ℕ → Bool) → List A → ℕ → Bool
unused key free [] = free
unused key free (a ∷ l) = without (key a) (unused key free l)

-- all numbers are free in a list of its own
abbrev pub all : ℕ → Bool
all n = true

abbrev pub position : BlockFormat ℕ
position = refine (λ p. leb p 4095) fault.PositionAbove u16

abbrev pub new_position : {A : Type 0} → (A → ℕ) → List A → BlockFormat ℕ
new_position key seen = refine (unused key all seen) fault.PositionTwice position

abbrev pub unmapped : (ℕ → Bool) → List NameRow → ℕ → Bool
unmapped = unused (λ (r : NameRow). r.id)

-- A row is laid out over the fields that its list judges: an id, a position, the private byte of a variable.
abbrev pub name_row_by : BlockFormat ℕ → BlockFormat NameRow
name_row_by id = into name_shape
    (id
    ▹ prefixed 2)  -- name

unfoldable pub name_row : (ℕ → Bool) → List NameRow → BlockFormat NameRow
name_row free seen = name_row_by (refine (unmapped free seen) fault.IdTwice u16)

abbrev pub variable_by : BlockFormat ℕ → ℕ → BlockFormat Variable
variable_by hidden v = into variable_shape
    (prefixed 2  -- key
    ▹ prefixed 4  -- value
    ▹ only (since 28 v) 0 hidden)  -- private

unfoldable pub variable : ℕ → BlockFormat Variable
variable v = variable_by (refine (λ b. leb b 1) fault.PrivateByte u8) v

abbrev pub metadata_row_by : BlockFormat ℕ → BlockFormat Variable → ℕ → BlockFormat MetadataRow
metadata_row_by at variable v = into metadata_shape
    (at
    ▹ only (before 23 v) 0 u16  -- type
    ▹ only (before 23 v) [] (prefixed 2)  -- content
    ▹ only (since 23 v) [] (listed 4 λ _. variable)
    ▹ only (since 23 v) [] inventory)

unfoldable pub metadata_row : ℕ → List MetadataRow → BlockFormat MetadataRow
metadata_row v seen = metadata_row_by (new_position (λ (r : MetadataRow). r.position) seen) (variable v) v

unfoldable pub object_row : BlockFormat ObjectRow
object_row = into object_shape
    (u8  -- type
    ▹ s32 ▹ s32 ▹ s32  -- x, y, z
    ▹ prefixed 2)  -- content

abbrev pub timer_row_by : BlockFormat ℕ → BlockFormat TimerRow
timer_row_by at = into timer_shape
    (at
    ▹ s32 ▹ s32)  -- timeout, elapsed

unfoldable pub timer_row : List TimerRow → BlockFormat TimerRow
timer_row seen = timer_row_by (new_position (λ (r : TimerRow). r.position) seen)

-- ---- lists
-- timestamp and names
unfoldable pub name_mapping : (ℕ → Bool) → BlockFormat NameMapping
name_mapping free = into name_mapping_shape
    (u32  -- timestamp
    ▹ fixed 1 0 fault.MappingVersion (listed 2 (name_row free)))

abbrev pub width : ℕ → ℕ
width v = cond (since 24 v) 2 1

unfoldable pub params : ℕ → BlockFormat Nodes
params v = into node_shape
    (times 4096 (number (width v))  -- param0
    ▹ times 4096 u8  -- param1
    ▹ times 4096 u8)  -- param2

unfoldable pub nodes : ℕ → BlockFormat Nodes
nodes v = fixed 1 (width v) fault.ContentWidth (fixed 1 2 fault.ParamsWidth (params v))

-- the bytes of the metadata's list version, and its value where the list has a count
abbrev pub list_version_bytes : ℕ → ℕ
list_version_bytes v = cond (since 23 v) 1 2

abbrev pub list_version : ℕ → ℕ
list_version v = cond (since 28 v) 2 1

-- Document 02, item 3: "From version 23 on, list version 0 means an empty list with no count."
abbrev pub is_zero_form : ℕ → ℕ → Bool
is_zero_form v n = eqb n 0 && since 23 v

abbrev pub is_list_version : ℕ → ℕ → Bool
is_list_version v n = eqb n (list_version v) || is_zero_form v n

-- "the head carries which of the two forms was read, counted or 0"
abbrev pub list_counted : ℕ
list_counted = 0

abbrev pub list_zero : ℕ
list_zero = 1

-- it has a count, and rows behind that
abbrev pub is_counted : ℕ → Bool
is_counted form = eqb form list_counted

-- the form of a list version, and the list version of a form
abbrev pub form_of : ℕ → ℕ
form_of n = cond (eqb n 0) list_zero list_counted

abbrev pub list_version_of : ℕ → ℕ → ℕ
list_version_of v form = cond (is_counted form) (list_version v) 0

abbrev pub list_version_field : ℕ → BlockFormat ℕ
list_version_field v = refine (is_list_version v) fault.MetadataVersion (number (list_version_bytes v))

pub form-back : (v n : ℕ) → (list_version_field v).Ok n → list_version_of v (form_of n) ≡ n
unfolding refine
form-back v n h = go (eqb n 0) refl (eqb n (list_version v)) refl
  where
    go : (b : Bool) → eqb n 0 ≡ b → (c : Bool) → eqb n (list_version v) ≡ c → list_version_of v (cond b list_zero list_counted) ≡ n
    go true e c f = sym (eqb-true n 0 e)
    go false e true f = sym (eqb-true n (list_version v) f)
    go false e false f = no_true (rw (f, e) at h.1)

-- the list version, read as a form
unfoldable pub list_form : ℕ → BlockFormat ℕ
list_form v = coded form_of (list_version_of v) (list_version_field v) (form-back v)

unfoldable pub metadata : ℕ → BlockFormat MetadataList
metadata v = into metadata_list_shape (tagged (list_form v) is_counted [] (listed 2 (metadata_row v)))

unfoldable pub objects : BlockFormat (List ObjectRow)
objects = fixed 1 0 fault.ObjectVersion (listed 2 λ _. object_row)

-- version 24's timer byte, and the rows that it has where it is 1
abbrev pub timer_byte_field : BlockFormat ℕ
timer_byte_field = refine (λ t. leb t 1) fault.TimerByte u8

abbrev pub has_timers : ℕ → Bool
has_timers byte = eqb byte 1

abbrev pub timers_of24 : BlockFormat Timers
timers_of24 = into timers_shape (tagged timer_byte_field has_timers [] (listed 2 timer_row))

-- behind the metadata: version 24's timers, version 23's 0, else nothing
unfoldable pub early_timers : ℕ → BlockFormat Timers
early_timers v = only (before 25 v) no_timers
    (cond (since 24 v) timers_of24
    (cond (since 23 v) (fixed 1 0 fault.ByteOf23 (nothing no_timers))
    (nothing no_timers)))

-- at the end, from version 25
unfoldable pub late_timers : ℕ → BlockFormat Timers
late_timers v = only (since 25 v) no_timers (into timers_shape (nothing 0 ▹ fixed 1 10 fault.TimerRowLength (listed 2 timer_row)))

-- ---- the eight steps
abbrev pub is_version : ℕ → Bool
is_version v = leb 22 v && leb v 29

unfoldable pub opening : BlockFormat Opening
opening = into opening_shape
    (refine is_version fault.Version u8 ⨾ λ v.  -- 1. version
    u8  --    flags
    ▹ only (since 27 v) 65535 u16)  --    lighting

unfoldable pub front : (ℕ → Bool) → BlockFormat Front
front free = into front_shape
    (opening ⨾ λ o.
    let v = o.version in
    only (since 29 v) no_mapping (name_mapping free)  -- 2. timestamp and names
    ▹ nodes v)  -- 3. 4. widths, params

unfoldable pub rest : (ℕ → Bool) → ℕ → BlockFormat Rest
rest free v = into rest_shape
    (metadata v  -- 5. metadata
    ▹ early_timers v  --    and what follows it
    ▹ objects  -- 6. static objects
    ▹ only (before 29 v) no_mapping (name_mapping free)  -- 7. timestamp and names
    ▹ late_timers v)  -- 8. timers

unfoldable pub steps : (ℕ → Bool) → BlockFormat Steps
steps free = into steps_shape (front free ⨾ λ f. rest free f.opening.version)
