-- The calls of a host, and the numbers that each may be refused with: document 01, 'Order', with what document 02 adds. include/anowhetele.h tells
-- the same of each function. proofs/Calls.antt proves the theorems.
use Rattle.std.specs.Prelude.{ℕ, ◌≡◌, List, [], ◌∷◌, ℤ}
use Rattle.wire.specs.Answer.{Answer, refusal, map_answer, RefusedWith, out_of_range, bad_part, no_room, parts_misfit, tally_malformed, too_many, sheet_malformed, no_such, rates_malformed}
use Rattle.position.specs.Keys.{join_of, split_of}
use Rattle.position.specs.declared.lot.Lot.{Lot}
use Rattle.position.specs.declared.part.Part.{Part}
use Rattle.position.specs.declared.span.Span.{Span}
use Rattle.mapblock.specs.Data.{Nodes}
use Rattle.mapblock.specs.Numbers.{block_numbers}
use Rattle.block_reader.specs.Questions.{read_into, sections_of, node_name_of}
use Rattle.block_reader.specs.RowQuestions.{name_row_of, metadata_row_of, object_row_of, timer_row_of, name_row_numbers, metadata_row_numbers, object_row_numbers, timer_row_numbers}
use Rattle.block_writer.specs.BlockParts.{BlockParts, WellTyped}
use Rattle.block_writer.specs.Write.{writer_numbers, write_of}
use Rattle.tally.specs.Tally.{TallyRow, one}
use Rattle.tally.specs.Operations.{check_of, add_of, merge_of}
use Rattle.meter.specs.Counting.{by_one}
use Rattle.meter.specs.Tallying.{tally_block_of}
use Rattle.meter.specs.SheetTally.{tally_sheet_of}
use Rattle.rates.specs.Rates.{check_rates_of}
use Rattle.pricing.specs.Pricing.{price_block_of, price_sheet_of}
use Rattle.anowhetele.specs.Places as places

-- Every call that can be refused, with what it is given. Of a lent buffer the length matters, a room, and of the lists that a block is read into
-- what they hold before.
pub data Call : Type 0 where
  key_join : ℤ → ℤ → ℤ → Call
  key_split : ℤ → Call
  lot_has : Lot → ℤ → ℤ → ℤ → Call
  span_has : Span → ℕ → Call
  read : List ℕ → Nodes → Call
  sections : List ℕ → Call
  row_name : List ℕ → Call
  row_metadata : ℕ → List ℕ → Call
  row_object : List ℕ → Call
  row_timer : List ℕ → Call
  node_name : List ℕ → ℕ → Call
  write : (p : BlockParts) → WellTyped p → ℕ → Call
  tally_check : List ℕ → Call
  tally_add : List ℕ → ℕ → TallyRow one → Call
  tally_merge : ℕ → List ℕ → List ℕ → Call
  tally_block : ℤ → List ℕ → Part → ℕ → Call
  tally_sheet : List ℕ → Part → ℕ → ℕ → Call
  rates_check : List ℕ → Call
  price_block : ℤ → List ℕ → List ℕ → Part → Call
  price_sheet : List ℕ → List ℕ → Part → Call

-- an answer but for what it gives
abbrev pub without_value : {A : Type 0} → Answer A → Answer (Unit {0})
without_value a = map_answer (λ _. tt) a

abbrev pub call_answer : Call → Answer (Unit {0})
call_answer (key_join x y z) = without_value (join_of x y z)
call_answer (key_split k) = without_value (split_of k)
call_answer (lot_has l x y z) = without_value (places.lot_has l x y z)
call_answer (span_has s t) = without_value (places.span_has s t)
call_answer (read s lists) = without_value (read_into s lists)
call_answer (sections s) = without_value (sections_of s)
call_answer (row_name s) = without_value (name_row_of s)
call_answer (row_metadata v s) = without_value (metadata_row_of v s)
call_answer (row_object s) = without_value (object_row_of s)
call_answer (row_timer s) = without_value (timer_row_of s)
call_answer (node_name s i) = without_value (node_name_of s i)
call_answer (write p h room) = without_value (write_of p room)
call_answer (tally_check s) = without_value (check_of one s)
call_answer (tally_add s n r) = without_value (add_of one s n r)
call_answer (tally_merge room s t) = without_value (merge_of one room s t)
call_answer (tally_block k s p room) = without_value (tally_block_of by_one k s p room)
call_answer (tally_sheet s p room spare) = without_value (tally_sheet_of by_one s p room spare)
call_answer (rates_check s) = without_value (check_rates_of s)
call_answer (price_block k s r p) = without_value (price_block_of k s r p)
call_answer (price_sheet s r p) = without_value (price_sheet_of s r p)

abbrev pub numbers_of : Call → List ℕ
numbers_of (key_join x y z) = out_of_range ∷ []
numbers_of (key_split k) = out_of_range ∷ []
numbers_of (lot_has l x y z) = bad_part ∷ []
numbers_of (span_has s t) = bad_part ∷ []
numbers_of (read s lists) = parts_misfit ∷ block_numbers
numbers_of (sections s) = block_numbers
numbers_of (row_name s) = name_row_numbers
numbers_of (row_metadata v s) = metadata_row_numbers
numbers_of (row_object s) = object_row_numbers
numbers_of (row_timer s) = timer_row_numbers
numbers_of (node_name s i) = no_such ∷ block_numbers
numbers_of (write p h room) = writer_numbers
numbers_of (tally_check s) = tally_malformed ∷ []
numbers_of (tally_add s n r) = parts_misfit ∷ tally_malformed ∷ too_many ∷ no_room ∷ []
numbers_of (tally_merge room s t) = tally_malformed ∷ too_many ∷ no_room ∷ []
numbers_of (tally_block k s p room) = bad_part ∷ out_of_range ∷ no_room ∷ block_numbers
numbers_of (tally_sheet s p room spare) = bad_part ∷ parts_misfit ∷ sheet_malformed ∷ out_of_range ∷ no_room ∷ too_many ∷ block_numbers
numbers_of (rates_check s) = rates_malformed ∷ []
numbers_of (price_block k s r p) = bad_part ∷ rates_malformed ∷ out_of_range ∷ block_numbers
numbers_of (price_sheet s r p) = bad_part ∷ rates_malformed ∷ sheet_malformed ∷ out_of_range ∷ too_many ∷ block_numbers

-- A call is refused with one of its numbers, or not at all.
abbrev pub CallNumbers : Type 0
CallNumbers = (c : Call) → RefusedWith (numbers_of c) (call_answer c)

-- document 02, item 2: "3 never"
abbrev pub NeverThree : Type 0
NeverThree = (c : Call) (r o : ℕ) → call_answer c ≡ refusal 3 r o → ⊥
