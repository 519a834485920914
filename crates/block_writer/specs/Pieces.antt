-- The bytes of a block as the code puts them, from the sections' bytes and the number of their rows: document 01, 'Block layout', as mapblock's
-- Layout.antt has it.
use Rattle.std.specs.Prelude.{ℕ, Bool, cond, List, [], ◌++◌, eqb}
use Rattle.wire.specs.Bytes.{to_be}
use Rattle.wire.specs.Format.{encode_items}
use Rattle.wire.specs.Formats.{number}
use Rattle.mapblock.specs.Layout.{since, before, width, list_version_bytes, is_counted, list_version_of, has_timers}
use Rattle.mapblock.specs.declared.head.Head.{Head}
use Rattle.mapblock.specs.declared.fault.Fault.TheVariants as fault
use Rattle.block_writer.specs.declared.counts.RowCounts.{RowCounts}

abbrev pub opening_bytes : Head → List ℕ
opening_bytes h = to_be 1 h.version ++ (to_be 1 h.flags ++ cond (since 27 h.version) (to_be 2 h.lighting) [])

-- a count, and the rows
abbrev pub list_bytes : ℕ → List ℕ → List ℕ
list_bytes count rows = to_be 2 count ++ rows

-- the same where they stand here
abbrev pub list_if : Bool → ℕ → List ℕ → List ℕ
list_if here count rows = cond here (list_bytes count rows) []

abbrev pub mapping_bytes : ℕ → ℕ → List ℕ → List ℕ
mapping_bytes time count rows = to_be 4 time ++ (to_be 1 0 ++ list_bytes count rows)

-- entries of w bytes each
abbrev pub entry_bytes : ℕ → List ℕ → List ℕ
entry_bytes w l = encode_items (λ _. number {ends = fault.Ends} w) [] l

abbrev pub nodes_bytes : ℕ → List ℕ → List ℕ → List ℕ → List ℕ
nodes_bytes v param0 param1 param2 = to_be 1 (width v) ++ (to_be 1 2 ++ (entry_bytes (width v) param0 ++ (param1 ++ param2)))

abbrev pub metadata_bytes : ℕ → ℕ → ℕ → List ℕ → List ℕ
metadata_bytes v form count rows = to_be (list_version_bytes v) (list_version_of v form) ++ list_if (is_counted form) count rows

abbrev pub early_bytes : ℕ → ℕ → ℕ → List ℕ → List ℕ
early_bytes v timer count rows =
    cond (eqb v 24) (to_be 1 timer ++ list_if (has_timers timer) count rows)
    (cond (eqb v 23) (to_be 1 0) [])

abbrev pub objects_bytes : ℕ → List ℕ → List ℕ
objects_bytes count rows = to_be 1 0 ++ list_bytes count rows

abbrev pub late_bytes : ℕ → ℕ → List ℕ → List ℕ
late_bytes v count rows = cond (since 25 v) (to_be 1 10 ++ list_bytes count rows) []

-- steps 1 to 4; names stand in front in version 29
abbrev pub front_bytes : Head → ℕ → List ℕ → List ℕ → List ℕ → List ℕ → List ℕ
front_bytes h count names param0 param1 param2 =
    opening_bytes h
    ++ (cond (since 29 h.version) (mapping_bytes h.timestamp count names) []
    ++ nodes_bytes h.version param0 param1 param2)

-- steps 5 to 8
abbrev pub rest_bytes : Head → RowCounts → List ℕ → List ℕ → List ℕ → List ℕ → List ℕ
rest_bytes h counts names metadata objects timers =
    metadata_bytes h.version h.form counts.metadata metadata
    ++ (early_bytes h.version h.timer counts.timers timers
    ++ (objects_bytes counts.objects objects
    ++ (cond (before 29 h.version) (mapping_bytes h.timestamp counts.names names) []
    ++ late_bytes h.version counts.timers timers)))

unfoldable pub block_bytes : Head → RowCounts → List ℕ → List ℕ → List ℕ → List ℕ → List ℕ → List ℕ → List ℕ → List ℕ
block_bytes h counts param0 param1 param2 names metadata objects timers =
    front_bytes h counts.names names param0 param1 param2 ++ rest_bytes h counts names metadata objects timers
