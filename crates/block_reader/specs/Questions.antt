-- The reader, and the questions asked of a whole block: document 01, 'Reading, looking, writing' and 'Order'.
use Rattle.std.specs.Prelude.{ℕ, ◌+◌, List, [], ◌∷◌, Bool, cond, ◌&&◌, ◌≡◌, leb, eqb, length}
use Rattle.wire.specs.Read.{Read, done, refused}
use Rattle.wire.specs.Format.{encode_items}
use Rattle.wire.specs.Answer.{Answer, good, refusal, plain, map_answer, then_answer, lent, parts_misfit, no_such}
use Rattle.mapblock.specs.Data.{NameRow, Nodes, Block}
use Rattle.mapblock.specs.Layout.{all, name_row}
use Rattle.mapblock.specs.Block.{id_at, verdict}
use Rattle.mapblock.specs.Numbers.{refusal_number}
use Rattle.wire.specs.Ranges.{range_at, no_range}
use Rattle.mapblock.specs.Valid.{Each, NameGood}
use Rattle.block_reader.specs.Sections.{sections, names_range}
use Rattle.mapblock.specs.declared.fault.Fault.{Fault}
use Rattle.mapblock.specs.declared.head.Head.{Head}
use Rattle.wire.specs.declared.ranges.Range.{Range}
use Rattle.mapblock.specs.declared.head.Sections.{Sections}
use Rattle.std.specs.Prelude.{Ok, Err, Result}
use Rattle.mapblock.specs.declared.fault.Refusal.{Refusal}
use Rattle.block_reader.specs.declared.read.ReadError.{ReadError}
use Rattle.block_reader.specs.declared.node.NodeNameError.{NodeNameError}
use Rattle.block_reader.specs.declared.read.ReadError.TheVariants as read_errors
use Rattle.block_reader.specs.declared.node.NodeNameError.TheVariants as name_errors

-- the block, or the number and place of its fault
abbrev pub block_answer : Read Fault Block → Answer Block
block_answer (done b n) = good b
block_answer (refused f p) = refusal (refusal_number f) 0 p

unfoldable pub block_of : List ℕ → Answer Block
block_of s = block_answer (verdict all s)

-- what the reader and the section question tell of a block
abbrev pub shown : Block → Head × Sections
shown b = (b.head, sections b)

abbrev pub sections_of : List ℕ → Answer (Head × Sections)
sections_of s = map_answer shown (block_of s)

-- each of three lists lent is of 4,096
abbrev pub are_whole : ℕ → ℕ → ℕ → Bool
are_whole a b c = eqb a 4096 && (eqb b 4096 && eqb c 4096)

-- The reader: 12 where a list lent is not of 4,096, and then the block. The numbers are the lengths of the lists.
abbrev pub read_of : List ℕ → ℕ → ℕ → ℕ → Answer Block
read_of s a b c = cond (are_whole a b c) (block_of s) (plain parts_misfit)

-- three lists lent for param0, param1 and param2
abbrev pub lists : List ℕ → List ℕ → List ℕ → Nodes
lists a b c = record { param0 = a; param1 = b; param2 = c }

abbrev pub read_into : List ℕ → Nodes → Answer Block
read_into s before = read_of s (length before.param0) (length before.param1) (length before.param2)

-- The lists hold the params of the block, or what they held where it is refused.
abbrev pub ListsHold : Answer Block → Nodes → Nodes → Type 0
ListsHold x before after =
    (after.param0 ≡ lent (map_answer (λ (b : Block). b.nodes.param0) x) before.param0)
    × (after.param1 ≡ lent (map_answer (λ (b : Block). b.nodes.param1) x) before.param1)
    × (after.param2 ≡ lent (map_answer (λ (b : Block). b.nodes.param2) x) before.param2)

-- what the reader tells, and what the lists lent hold before and after
abbrev pub ReadInto : List ℕ → Answer (Head × Sections) → Nodes → Nodes → Type 0
ReadInto s told before after = (told ≡ map_answer shown (read_into s before)) × ListsHold (read_into s before) before after

-- where the sections are; nowhere when refused
abbrev pub section_ranges_of : Answer (Head × Sections) → Sections
section_ranges_of (good x) = x.1
section_ranges_of (refusal n r o) = record { names = no_range; metadata = no_range; objects = no_range; timers = no_range }

-- ---- the name of a node
-- the name that an id has in the rows
abbrev pub name_of : List NameRow → ℕ → List ℕ
name_of [] id = []
name_of (r ∷ l) id = cond (eqb id r.id) r.name (name_of l id)

-- the name of the node at an index
abbrev pub name_at : Block → ℕ → List ℕ
name_at b i = name_of b.names (id_at b i)

-- where an id's name stands in rows that start at a place; a row's name stands behind its id and length
abbrev pub name_range_of : List NameRow → ℕ → ℕ → Range
name_range_of [] at id = range_at at 0
name_range_of (r ∷ l) at id = cond (eqb id r.id) (range_at (at + 4) (length r.name)) (name_range_of l (at + 4 + length r.name) id)

abbrev pub name_range : Block → ℕ → Range
name_range b i = name_range_of b.names (names_range b).start (id_at b i)

-- the reader's number, then 16 for an index above 4095
abbrev pub node_name_in : ℕ → Answer Block → Answer Range
node_name_in i a = then_answer a λ b. cond (leb i 4095) (good (name_range b i)) (plain no_such)

abbrev pub node_name_of : List ℕ → ℕ → Answer Range
node_name_of s i = node_name_in i (block_of s)

-- bytes that are the rows of names
pub record NameRun (s : List ℕ) (l : List NameRow) : Type 0 where
  pub bytes : s ≡ encode_items (name_row all) [] l
  pub good : Each NameGood l

-- ---- what the code's answers say
abbrev pub told_read : Result (Head × Sections) ReadError → Answer (Head × Sections)
told_read (Ok (h, s)) = good (h, s)
told_read (Err read_errors.Misfit) = plain parts_misfit
told_read (Err (read_errors.Refused w)) = refusal (refusal_number w.fault) 0 w.offset

abbrev pub told_sections : Result (Head × Sections) Refusal → Answer (Head × Sections)
told_sections (Ok (h, s)) = good (h, s)
told_sections (Err w) = refusal (refusal_number w.fault) 0 w.offset

abbrev pub told_node_name : Result Range NodeNameError → Answer Range
told_node_name (Ok p) = good p
told_node_name (Err name_errors.NoSuchNode) = plain no_such
told_node_name (Err (name_errors.Refused w)) = refusal (refusal_number w.fault) 0 w.offset
