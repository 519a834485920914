-- What the measuring pass promises the writing pass: the answer for every room.
use Rattle.std.specs.Prelude.{ℕ, ◌<◌, ◌≤◌, ◌≡◌, List, length, Ok, Err, Result}
use Rattle.wire.specs.Answer.{good, refusal, plain, no_room, parts_misfit}
use Rattle.mapblock.specs.Numbers.{refusal_number}
use Rattle.block_writer.specs.BlockParts.{BlockParts}
use Rattle.block_writer.specs.Pieces.{block_bytes}
use Rattle.block_writer.specs.Write.{write_of}
use Rattle.block_writer.specs.declared.counts.RowCounts.{RowCounts}
use Rattle.block_reader.specs.declared.read.ReadError.TheVariants as read_errors
use Rattle.block_reader.specs.declared.read.ReadError.{ReadError}

-- the bytes to be put
abbrev pub bytes_for : BlockParts → RowCounts → List ℕ
bytes_for p counts = block_bytes p.head counts p.param0 p.param1 p.param2 p.names p.metadata p.objects p.timers

-- n bytes, which are written wherever they fit
pub record Written (p : BlockParts) (counts : RowCounts) (n : ℕ) : Type 0 where
  pub long : n ≡ length (bytes_for p counts)
  pub in-room : (room : ℕ) → n ≤ room → write_of p room ≡ good (bytes_for p counts)
  pub no-room : (room : ℕ) → room < n → write_of p room ≡ plain no_room

abbrev pub MeasuredAs : BlockParts → Result (RowCounts × ℕ) ReadError → Type 0
MeasuredAs p (Ok (counts, n)) = Written p counts n
MeasuredAs p (Err read_errors.Misfit) = (room : ℕ) → write_of p room ≡ plain parts_misfit
MeasuredAs p (Err (read_errors.Refused w)) = (room : ℕ) → write_of p room ≡ refusal (refusal_number w.fault) 0 w.offset
