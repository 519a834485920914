-- A MapBlock as data: document 01, 'Block layout'. Each record holds its fields in the order in which they are written.
use Rattle.std.specs.Prelude.{ℕ, refl, List, [], ℤ}
use Rattle.wire.specs.Formats.{Shape}
use Rattle.mapblock.specs.declared.head.Head.{Head}

pub record NameRow : Type 0 where
  pub id : ℕ
  pub name : List ℕ

-- a variable of a node's metadata; `hidden` is the private byte, 0 before version 28
pub record Variable : Type 0 where
  pub key : List ℕ
  pub value : List ℕ
  pub hidden : ℕ

-- in version 22 type and content, from 23 on variables and inventory; the others are 0 and empty
pub record MetadataRow : Type 0 where
  pub position : ℕ
  pub kind : ℕ
  pub content : List ℕ
  pub variables : List Variable
  pub inventory : List ℕ

-- a static object
pub record ObjectRow : Type 0 where
  pub kind : ℕ
  pub x : ℤ
  pub y : ℤ
  pub z : ℤ
  pub content : List ℕ

pub record TimerRow : Type 0 where
  pub position : ℕ
  pub timeout : ℤ
  pub elapsed : ℤ

-- step 4: the three lists
pub record Nodes : Type 0 where
  pub param0 : List ℕ
  pub param1 : List ℕ
  pub param2 : List ℕ

pub record Block : Type 0 where
  pub head : Head
  pub names : List NameRow
  pub nodes : Nodes
  pub metadata : List MetadataRow
  pub objects : List ObjectRow
  pub timers : List TimerRow

-- ---- what stands together in the bytes
-- step 1
pub record Opening : Type 0 where
  pub version : ℕ
  pub flags : ℕ
  pub lighting : ℕ

-- step 7, and in version 29 step 2
pub record NameMapping : Type 0 where
  pub timestamp : ℕ
  pub names : List NameRow

-- step 5: the metadata list's form, document 02's item 3, and its rows
pub record MetadataList : Type 0 where
  pub form : ℕ
  pub rows : List MetadataRow

-- the end of step 5, and step 8
pub record Timers : Type 0 where
  pub byte : ℕ
  pub rows : List TimerRow

-- steps 1 to 4: up to the end of the node data
pub record Front : Type 0 where
  pub opening : Opening
  pub mapping : NameMapping
  pub nodes : Nodes

-- steps 5 to 8
pub record Rest : Type 0 where
  pub metadata : MetadataList
  pub early : Timers
  pub objects : List ObjectRow
  pub mapping : NameMapping
  pub late : Timers

-- the eight steps
pub record Steps : Type 0 where
  pub front : Front
  pub rest : Rest

-- where a version has none
abbrev pub no_mapping : NameMapping
no_mapping = record { timestamp = 0; names = [] }

abbrev pub no_timers : Timers
no_timers = record { byte = 0; rows = [] }

-- ---- the records, from and to nested pairs
abbrev pub name_shape : Shape (ℕ × List ℕ) NameRow
name_shape = record { make = λ (id, name). record { id = id; name = name }; parts = λ r. (r.id, r.name); there = λ r. refl; back = λ x. refl }

abbrev pub variable_shape : Shape (List ℕ × (List ℕ × ℕ)) Variable
variable_shape = record {
  make = λ (key, (value, hidden)). record { key = key; value = value; hidden = hidden };
  parts = λ r. (r.key, (r.value, r.hidden));
  there = λ r. refl;
  back = λ x. refl;
}

abbrev pub metadata_shape : Shape (ℕ × (ℕ × (List ℕ × (List Variable × List ℕ)))) MetadataRow
metadata_shape = record {
  make = λ (position, (kind, (content, (variables, inventory)))).
      record { position = position; kind = kind; content = content; variables = variables; inventory = inventory };
  parts = λ r. (r.position, (r.kind, (r.content, (r.variables, r.inventory))));
  there = λ r. refl;
  back = λ x. refl;
}

abbrev pub object_shape : Shape (ℕ × (ℤ × (ℤ × (ℤ × List ℕ)))) ObjectRow
object_shape = record {
  make = λ (kind, (x, (y, (z, content)))). record { kind = kind; x = x; y = y; z = z; content = content };
  parts = λ r. (r.kind, (r.x, (r.y, (r.z, r.content))));
  there = λ r. refl;
  back = λ x. refl;
}

abbrev pub timer_shape : Shape (ℕ × (ℤ × ℤ)) TimerRow
timer_shape = record {
  make = λ (position, (timeout, elapsed)). record { position = position; timeout = timeout; elapsed = elapsed };
  parts = λ r. (r.position, (r.timeout, r.elapsed));
  there = λ r. refl;
  back = λ x. refl;
}

abbrev pub node_shape : Shape (List ℕ × (List ℕ × List ℕ)) Nodes
node_shape = record {
  make = λ (param0, (param1, param2)). record { param0 = param0; param1 = param1; param2 = param2 };
  parts = λ r. (r.param0, (r.param1, r.param2));
  there = λ r. refl;
  back = λ x. refl;
}

abbrev pub opening_shape : Shape (ℕ × (ℕ × ℕ)) Opening
opening_shape = record {
  make = λ (version, (flags, lighting)). record { version = version; flags = flags; lighting = lighting };
  parts = λ r. (r.version, (r.flags, r.lighting));
  there = λ r. refl;
  back = λ x. refl;
}

abbrev pub name_mapping_shape : Shape (ℕ × List NameRow) NameMapping
name_mapping_shape = record { make = λ (timestamp, names). record { timestamp = timestamp; names = names }; parts = λ r. (r.timestamp, r.names); there = λ r. refl; back = λ x. refl }

abbrev pub metadata_list_shape : Shape (ℕ × List MetadataRow) MetadataList
metadata_list_shape = record { make = λ (form, rows). record { form = form; rows = rows }; parts = λ r. (r.form, r.rows); there = λ r. refl; back = λ x. refl }

abbrev pub timers_shape : Shape (ℕ × List TimerRow) Timers
timers_shape = record { make = λ (byte, rows). record { byte = byte; rows = rows }; parts = λ r. (r.byte, r.rows); there = λ r. refl; back = λ x. refl }

abbrev pub front_shape : Shape (Opening × (NameMapping × Nodes)) Front
front_shape = record {
  make = λ (opening, (mapping, nodes)). record { opening = opening; mapping = mapping; nodes = nodes };
  parts = λ r. (r.opening, (r.mapping, r.nodes));
  there = λ r. refl;
  back = λ x. refl;
}

abbrev pub rest_shape : Shape (MetadataList × (Timers × (List ObjectRow × (NameMapping × Timers)))) Rest
rest_shape = record {
  make = λ (metadata, (early, (objects, (mapping, late)))).
      record { metadata = metadata; early = early; objects = objects; mapping = mapping; late = late };
  parts = λ r. (r.metadata, (r.early, (r.objects, (r.mapping, r.late))));
  there = λ r. refl;
  back = λ x. refl;
}

abbrev pub steps_shape : Shape (Front × Rest) Steps
steps_shape = record { make = λ (front, rest). record { front = front; rest = rest }; parts = λ r. (r.front, r.rest); there = λ r. refl; back = λ x. refl }
