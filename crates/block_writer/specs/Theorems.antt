-- The round trip: demand 2, "what was read writes back to the same bytes, and what was written reads back to the same parts".
-- proofs/RoundTrip.antt proves it.
use Rattle.std.specs.Prelude.{ℕ, ◌≤◌, ◌≡◌, List, ◌++◌, length, take, drop}
use Rattle.wire.specs.Bytes.{Bytes}
use Rattle.wire.specs.Read.{done}
use Rattle.wire.specs.Answer.{Answer, good, refusal, map_answer, lent, RefusedWith}
use Rattle.mapblock.specs.Data.{Block}
use Rattle.mapblock.specs.Layout.{all}
use Rattle.mapblock.specs.Block.{verdict}
use Rattle.block_reader.specs.Sections.{sections}
use Rattle.wire.specs.Ranges.{bytes_in}
use Rattle.block_writer.specs.BlockParts.{BlockParts, WellTyped, block_parts}
use Rattle.block_writer.specs.Write.{writer_numbers, write_of}

-- what the reader hands out of the bytes s, which it takes with the block b: head, lists, and sections as slices of s
abbrev pub handed_out : List ℕ → Block → BlockParts
handed_out s b =
    block_parts b.head b.nodes.param0 b.nodes.param1 b.nodes.param2
    (bytes_in s (sections b).names) (bytes_in s (sections b).metadata) (bytes_in s (sections b).objects) (bytes_in s (sections b).timers)

-- what a writer answers, and what the buffer lent holds then
abbrev pub Writer : Type 0
Writer = BlockParts → List ℕ → Answer ℕ × List ℕ

-- the one that the contract of `write` cites
abbrev pub written : Writer
written p out = (map_answer length (write_of p (length out)), lent (write_of p (length out)) out)

-- What was read writes back to the same bytes, in any room that holds them.
abbrev pub WritesBackBy : Writer → Type 0
WritesBackBy w = (s : List ℕ) (b : Block) (n : ℕ) → Bytes s → verdict all s ≡ done b n → (out : List ℕ) → length s ≤ length out
    → ((w (handed_out s b) out).0 ≡ good (length s)) × ((w (handed_out s b) out).1 ≡ s ++ drop (length s) out)

-- bytes that the reader takes, with the parts p
pub record ReadAs (s : List ℕ) (p : BlockParts) : Type 0 where
  pub b : Block
  pub taken : verdict all s ≡ done b (length s)
  pub parts : handed_out s b ≡ p

-- What was written, n bytes at the front of the buffer, reads back to the same parts; the rest of the buffer is as it was.
abbrev pub ReadsBackBy : Writer → Type 0
ReadsBackBy w = (p : BlockParts) (out : List ℕ) (n : ℕ) → WellTyped p → (w p out).0 ≡ good n
    → (n ≤ length out) × ReadAs (take n (w p out).1) p × (drop n (w p out).1 ≡ drop n out)

abbrev pub RoundTrip : Type 0
RoundTrip = WritesBackBy written × ReadsBackBy written

-- ---- what may not slip through: document 01, the section of that name
-- a writer that does nothing
abbrev pub DoesNothing : Writer → Type 0
DoesNothing w = (p : BlockParts) (out : List ℕ) → (w p out).1 ≡ out

-- a writer that refuses everything
abbrev pub RefusesAll : Writer → Type 0
RefusesAll w = (p : BlockParts) (out : List ℕ) → (n : ℕ) × (r : ℕ) × (o : ℕ) × ((w p out).0 ≡ refusal n r o)

-- A writer that writes back what was read is neither.
abbrev pub ShutOut : Type 0
ShutOut = (w : Writer) → WritesBackBy w → (DoesNothing w → ⊥) × (RefusesAll w → ⊥)

-- ---- the numbers of the writer: document 01, 'Order'
-- "Writer: 2, 12, then what the reader would say of the bytes, then 11": of the reader's numbers these are `value_numbers` and 8, and so of 31 to
-- 38 it gives 34 and 35 alone. proofs/WriterNumbers.antt proves it.
abbrev pub WriterNumbers : Type 0
WriterNumbers = (p : BlockParts) (room : ℕ) → WellTyped p → RefusedWith writer_numbers (write_of p room)
