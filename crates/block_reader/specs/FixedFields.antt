-- Which field that is fixed has another value, and where it starts: document 02, item 2. Each of 31 to 38 is given exactly where its field
-- differs: `GivenExactlyWhere`, proved in proofs/FixedFields.antt.
use Rattle.std.specs.Prelude.{ℕ, ◌≡◌, ◌↔◌, ◌⊎◌, List, reverse, Bool, true, false, cond, ◌&&◌, leb, ltb, eqb, drop}
use Rattle.wire.specs.Read.{done}
use Rattle.wire.specs.Format.{◌⨾◌, items}
use Rattle.wire.specs.Formats.{◌▹◌, constant, number, u16, u32, prefixed, only}
use Rattle.wire.specs.Answer.{refusal, content_width_differs, params_width_differs, metadata_version_differs, private_byte_differs, timer_byte_differs, object_version_differs, mapping_version_differs, timer_row_length_differs}
use Rattle.mapblock.specs.Inventory.{BlockFormat}
use Rattle.mapblock.specs.Data.{Variable, MetadataRow, MetadataList, ObjectRow, Opening, NameMapping, Timers, Front, no_mapping}
use Rattle.mapblock.specs.Layout.{since, before, all, new_position, variable, metadata_row, width, name_mapping, list_version_bytes, is_list_version, is_counted, list_form, metadata, early_timers, objects, opening, front}
use Rattle.block_reader.specs.Questions.{block_of}
use Rattle.mapblock.specs.declared.fault.Fault.TheVariants as fault

-- A field that is fixed: what stands before it in a block; and, told that, whether the block has the field, its bytes, and the values that it
-- may have.
pub record FixedField (A : Type 0) : Type 1 where
  pub before : BlockFormat A
  pub present : A → Bool
  pub bytes : A → ℕ
  pub allowed : A → ℕ → Bool

-- a number of k bytes stands in front of s, and it is not allowed
pub record NotAllowed (k : ℕ) (allowed : ℕ → Bool) (s : List ℕ) : Type 0 where
  pub value : ℕ
  pub reads : (number {ends = fault.Ends} k).read s ≡ done value k
  pub differs : allowed value ≡ false

-- The field starts at p and has another value: what stands before it was read and ends there, and the number that then stands is not allowed.
pub record Differs {A : Type 0} (f : FixedField A) (s : List ℕ) (p : ℕ) : Type 0 where
  pub earlier : A
  pub reads : f.before.read s ≡ done earlier p
  pub present : f.present earlier ≡ true
  pub other : NotAllowed (f.bytes earlier) (f.allowed earlier) (drop p s)

-- ---- the fields, by the steps of document 01's 'Block layout'
-- a field of one byte that has one value in every version
abbrev byte : {A : Type 0} → BlockFormat A → (A → Bool) → ℕ → FixedField A
byte before present v = record { before = before; present = present; bytes = λ a. 1; allowed = λ a n. eqb n v }

-- step 2, which version 29 has
abbrev pub front_mapping : ℕ → BlockFormat NameMapping
front_mapping v = only (since 29 v) no_mapping (name_mapping all)

abbrev pub front_version : Front → ℕ
front_version f = f.opening.version

-- step 3: "u8 content width (1 up to version 23, then 2), u8 params width 2"
abbrev pub content_width : FixedField (Opening × NameMapping)
content_width = record {
  before = opening ⨾ λ o. front_mapping o.version;
  present = λ x. true;
  bytes = λ x. 1;
  allowed = λ x w. eqb w (width x.0.version);
}

abbrev pub params_width : FixedField (Opening × (NameMapping × ℕ))
params_width = byte (opening ⨾ λ o. front_mapping o.version ▹ constant 1 (width o.version) fault.ContentWidth) (λ x. true) 2

-- step 5: the list version, in the two forms that document 02's item 3 has
abbrev pub metadata_version : FixedField Front
metadata_version = record {
  before = front all;
  present = λ f. true;
  bytes = λ f. list_version_bytes (front_version f);
  allowed = λ f n. is_list_version (front_version f) n;
}

-- step 5: the byte at the end of a variable, behind so many rows of metadata and so many variables of its own row, where the list has a count
abbrev pub private_byte : ℕ → ℕ → FixedField (Front × (ℕ × (ℕ × (List MetadataRow × (ℕ × (ℕ × (List Variable × (List ℕ × List ℕ))))))))
private_byte rows_before variables_before = record {
  before =
      front all ⨾ λ f.
      let v = front_version f in
      list_form v
      ▹ u16  -- number of rows
      ▹ items (metadata_row v) rows_before ⨾ λ rows.
      new_position (λ (r : MetadataRow). r.position) (reverse rows)
      ▹ u32  -- number of variables
      ▹ items (λ _. variable v) variables_before
      ▹ prefixed 2 ▹ prefixed 4;  -- key, value
  present = λ (f, (form, (rows, (_, (_, (variables, _)))))).
      is_counted form && (ltb rows_before rows && (ltb variables_before variables && since 28 (front_version f)));
  bytes = λ x. 1;
  allowed = λ x b. leb b 1;
}

-- step 5: what follows the metadata, in version 23 a 0 and in version 24 a 0 or a 1
abbrev pub timer_byte : FixedField (Front × MetadataList)
timer_byte = record {
  before = front all ⨾ λ f. metadata (front_version f);
  present = λ x. since 23 (front_version x.0) && before 25 (front_version x.0);
  bytes = λ x. 1;
  allowed = λ x t. cond (since 24 (front_version x.0)) (leb t 1) (eqb t 0);
}

-- step 6
abbrev pub object_version : FixedField (Front × (MetadataList × Timers))
object_version = byte (front all ⨾ λ f. metadata (front_version f) ▹ early_timers (front_version f)) (λ x. true) 0

-- steps 2 and 7, behind the timestamp
abbrev pub mapping_version_in_front : FixedField (Opening × ℕ)
mapping_version_in_front = byte (opening ▹ u32) (λ x. since 29 x.0.version) 0

abbrev pub mapping_version_behind : FixedField (Front × (MetadataList × (Timers × (List ObjectRow × ℕ))))
mapping_version_behind =
    byte (front all ⨾ λ f. metadata (front_version f) ▹ early_timers (front_version f) ▹ objects ▹ u32) (λ x. before 29 (front_version x.0)) 0

-- step 8
abbrev pub timer_row_length : FixedField (Front × (MetadataList × (Timers × (List ObjectRow × NameMapping))))
timer_row_length =
    byte
    (front all ⨾ λ f.
    metadata (front_version f) ▹ early_timers (front_version f) ▹ objects ▹ only (before 29 (front_version f)) no_mapping (name_mapping all))
    (λ x. since 25 (front_version x.0))
    10

-- ---- the theorem
-- the reader gives the number with a place exactly where this holds of the bytes and the place
abbrev pub ExactlyWhere : ℕ → (List ℕ → ℕ → Type 0) → Type 0
ExactlyWhere n At = (s : List ℕ) (p : ℕ) → (block_of s ≡ refusal n 0 p) ↔ At s p

-- "31 to 38, each exactly where 3 was given for that field"
pub record GivenExactlyWhere : Type 0 where
  pub content-width : ExactlyWhere content_width_differs (Differs content_width)
  pub params-width : ExactlyWhere params_width_differs (Differs params_width)
  pub metadata-version : ExactlyWhere metadata_version_differs (Differs metadata_version)
  pub private-byte : ExactlyWhere private_byte_differs (λ s p. (i : ℕ) × (j : ℕ) × Differs (private_byte i j) s p)
  pub timer-byte : ExactlyWhere timer_byte_differs (Differs timer_byte)
  pub object-version : ExactlyWhere object_version_differs (Differs object_version)
  pub mapping-version : ExactlyWhere mapping_version_differs (λ s p. Differs mapping_version_in_front s p ⊎ Differs mapping_version_behind s p)
  pub timer-row-length : ExactlyWhere timer_row_length_differs (Differs timer_row_length)
