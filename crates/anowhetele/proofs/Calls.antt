-- The numbers of each call.
use Prim.Native.Nat.{ℕ, zero, suc}
use mathlib.Core.Path.{◌≡◌, refl, sym, subst, ◌∙◌}
use mathlib.Core.Option.{Option, some, none}
use mathlib.Core.List.{List, [], ◌∷◌, ◌++◌}
use mathlib.Core.Bool.{Bool, true, false}
use lib.Dec.{leb, eqb}
use lib.IntN.{ℤ, nat_abs}
use lib.ListN.{length, take, drop}
use Rattle.wire.specs.Choice.{no_true}
use Rattle.wire.specs.Read.{Read, done, refused}
use Rattle.wire.specs.Answer.{Answer, good, refusal, plain, map_answer, in_room, is_one_of, RefusedWith, out_of_range, bad_part, no_room, parts_misfit, tally_malformed, too_many, sheet_malformed, no_such, rates_malformed}
use Rattle.wire.proofs.Answers.{with-more, with-cond, with-map, with-then, with-some, with-room}
use Rattle.position.specs.Lots.{good_lot, in_lot}
use Rattle.position.specs.Spans.{good_span, in_span}
use Rattle.position.specs.Parts.{good_part}
use Rattle.position.specs.declared.part.Part.{Part}
use Rattle.position.specs.Keys.{all_inside, key_of, is_key, moved, fields, join_of, split_of}
use Rattle.mapblock.specs.Numbers.{block_numbers}
use Rattle.mapblock.specs.Data.{Block, Nodes}
use Rattle.mapblock.specs.Layout.{all}
use Rattle.mapblock.specs.Block.{verdict}
use Rattle.mapblock.specs.declared.fault.Fault.{Fault}
use Rattle.block_reader.specs.Questions.{block_answer, block_of, shown, are_whole, read_into, sections_of, name_range, node_name_of}
use Rattle.block_reader.specs.RowQuestions.{name_row_of, metadata_row_of, object_row_of, timer_row_of}
use Rattle.block_writer.specs.Write.{write_of}
use Rattle.block_reader.proofs.AnswerNumbers.{row-numbers, block-answer-numbers, block-numbers}
use Rattle.block_writer.proofs.WriterNumbers.{writer-numbers}
use Rattle.tally.specs.Tally.{max_rows, max_count, TallyRow, TallyRows, tally, rows_of, countable, one}
use Rattle.tally.specs.Rows.{is_name, plus, add_row}
use Rattle.tally.specs.Operations.{check_of, tallied, merge_of, add_of}
use Rattle.sheet.specs.Sheet.{Misframed, SheetRecord, frame, sheet_head, rises, framed, in_record, judged_in, judge_record, records_from, sheet_of}
use Rattle.sheet.specs.Placed.{Placed, placed, placed_at}
use Rattle.meter.specs.Standing.{nodes_in}
use Rattle.meter.specs.Counting.{tally_of, by_one}
use Rattle.meter.specs.Tallying.{tally_block_of}
use Rattle.meter.specs.SheetTally.{fitted_sheet, tally_sheet_of}
use Rattle.rates.specs.Rates.{rates_of, check_rates_of}
use Rattle.pricing.specs.Bills.{bill_of}
use Rattle.pricing.specs.Pricing.{price_block_of, price_sheet_of}
use Rattle.anowhetele.specs.Calls.{Call, numbers_of, CallNumbers, NeverThree, key_join, key_split, lot_has, span_has, read, sections, row_name, row_metadata, row_object, row_timer, node_name, write, tally_check, tally_add, tally_merge, tally_block, tally_sheet, rates_check, price_block, price_sheet}
use Rattle.anowhetele.specs.Places as places

-- ---- what the calls share
-- a key; 9 is among the numbers
split-numbers : (numbers : List ℕ) → is_one_of out_of_range numbers ≡ true → (k : ℤ) → RefusedWith numbers (split_of k)
unfolding split_of
split-numbers numbers own k = with-cond numbers (is_key k) (good (fields (nat_abs (moved k)))) (plain out_of_range) tt own

-- a block at a key: the block's numbers are among them
placed-numbers : (numbers : List ℕ) → is_one_of out_of_range numbers ≡ true → (k : ℤ) (s : List ℕ) → RefusedWith numbers (block_of s) → RefusedWith numbers (placed_at k s)
unfolding placed_at
placed-numbers numbers own k s h = with-then numbers (split_of k) (λ c. map_answer (placed c) (block_of s)) (split-numbers numbers own k) (λ c. with-map numbers (placed c) (block_of s) h)

-- the blocks of a sheet: 9, 15 and the block's numbers are among them
module _ (numbers : List ℕ) (range : is_one_of out_of_range numbers ≡ true) (frames : is_one_of sheet_malformed numbers ≡ true)
    (blocks : (r : Read Fault Block) → RefusedWith numbers (block_answer r)) where
  in-record : {A : Type 0} (i : ℕ) (a : Answer A) → RefusedWith numbers a → RefusedWith numbers (in_record i a)
  in-record i (good a) h = tt
  in-record i (refusal n r o) h = h

  framed-numbers : {A B : Type 0} (i : ℕ) (r : Read Misframed A) (f : A → ℕ → Answer B) → ((a : A) (n : ℕ) → RefusedWith numbers (f a n)) → RefusedWith numbers (framed i r f)
  framed-numbers i (done a n) f h = h a n
  framed-numbers i (refused e p) f h = frames

  judge-numbers : (last : Option ℤ) (r : SheetRecord) → RefusedWith numbers (judge_record last r)
  unfolding judged_in
  judge-numbers last r =
      let x = block_answer (verdict all r.block) in
      with-then numbers (split_of r.key) _ (split-numbers numbers range r.key)
      (λ c. with-cond numbers (rises last r.key) (map_answer (placed c) x) (plain sheet_malformed) (with-map numbers (placed c) x (blocks (verdict all r.block))) frames)

  records-numbers : (k i : ℕ) (last : Option ℤ) (s : List ℕ) → RefusedWith numbers (records_from k i last s)
  unfolding records_from
  records-numbers zero i last s = with-cond numbers (eqb (length s) 0) (good []) (refusal sheet_malformed i 0) tt frames
  records-numbers (suc k) i last s =
      framed-numbers i (frame.read s) _
      (λ r n.
      with-then numbers (in_record i (judge_record last r)) _ (in-record i (judge_record last r) (judge-numbers last r))
      (λ x. with-map numbers (λ (l : List Placed). x ∷ l) (records_from k (suc i) (some r.key) (drop n s)) (records-numbers k (suc i) (some r.key) (drop n s))))

  sheet-numbers : (s : List ℕ) → RefusedWith numbers (sheet_of s)
  unfolding sheet_of
  sheet-numbers s = framed-numbers 0 (sheet_head.read s) _ (λ n k. records-numbers n 0 none (drop k s))

-- rows put into a room: 14 and 11
tallied-numbers : (numbers : List ℕ) → is_one_of too_many numbers ≡ true → is_one_of no_room numbers ≡ true → (room : ℕ) (l : TallyRows one) → RefusedWith numbers (tallied one room l)
unfolding tallied
tallied-numbers numbers many small room l =
    let bytes = (tally one).encode l in
    with-cond numbers (countable one l) (in_room room bytes) (plain too_many) (with-room numbers room bytes small) many

-- ---- the calls
-- behind more numbers
block-in : (more : List ℕ) (r : Read Fault Block) → RefusedWith (more ++ block_numbers) (block_answer r)
block-in more r = with-more more block_numbers (block_answer r) (block-answer-numbers r)

block-of-in : (more s : List ℕ) → RefusedWith (more ++ block_numbers) (block_of s)
block-of-in more s = with-more more block_numbers (block_of s) (block-numbers s)

join-numbers : (x y z : ℤ) → RefusedWith (out_of_range ∷ []) (join_of x y z)
unfolding join_of
join-numbers x y z = with-cond (out_of_range ∷ []) (all_inside x y z) (good (key_of x y z)) (plain out_of_range) tt refl

asked-numbers : (fit has : Bool) → RefusedWith (bad_part ∷ []) (places.asked fit has)
asked-numbers fit has = with-cond (bad_part ∷ []) fit (good has) (plain bad_part) tt refl

read-numbers : (s : List ℕ) (lists : Nodes) → RefusedWith (parts_misfit ∷ block_numbers) (read_into s lists)
read-numbers s lists =
    with-cond (parts_misfit ∷ block_numbers) (are_whole (length lists.param0) (length lists.param1) (length lists.param2)) (block_of s) (plain parts_misfit)
    (block-of-in (parts_misfit ∷ []) s) refl

node-numbers : (s : List ℕ) (i : ℕ) → RefusedWith (no_such ∷ block_numbers) (node_name_of s i)
node-numbers s i =
    with-then (no_such ∷ block_numbers) (block_of s) _ (block-of-in (no_such ∷ []) s)
    (λ b. with-cond (no_such ∷ block_numbers) (leb i 4095) (good (name_range b i)) (plain no_such) tt refl)

check-numbers : (s : List ℕ) → RefusedWith (tally_malformed ∷ []) (check_of one s)
check-numbers s = with-some (tally_malformed ∷ []) tally_malformed (rows_of one s) _ refl (λ r. tt)

add-numbers : (s : List ℕ) (n : ℕ) (r : TallyRow one) → RefusedWith (parts_misfit ∷ tally_malformed ∷ too_many ∷ no_room ∷ []) (add_of one s n r)
unfolding add_of
add-numbers s n r =
    let numbers = parts_misfit ∷ tally_malformed ∷ too_many ∷ no_room ∷ [] in
    with-cond numbers (is_name r.name) _ (plain parts_misfit)
    (with-cond numbers (leb n (length s)) _ (plain tally_malformed)
    (with-some numbers tally_malformed (rows_of one (take n s)) _ refl
    (λ l. with-cond numbers (one.counts.stands r.count) _ (good (take n s)) (tallied-numbers numbers refl refl (length s) (add_row one.counts r l)) tt))
    refl)
    refl

merge-numbers : (room : ℕ) (s t : List ℕ) → RefusedWith (tally_malformed ∷ too_many ∷ no_room ∷ []) (merge_of one room s t)
unfolding merge_of
merge-numbers room s t =
    let numbers = tally_malformed ∷ too_many ∷ no_room ∷ [] in
    with-some numbers tally_malformed (rows_of one s) _ refl
    (λ x. with-some numbers tally_malformed (rows_of one t) _ refl (λ y. tallied-numbers numbers refl refl room (plus one.counts x y)))

tally-block-numbers : (k : ℤ) (s : List ℕ) (p : Part) (room : ℕ) → RefusedWith (bad_part ∷ out_of_range ∷ no_room ∷ block_numbers) (tally_block_of by_one k s p room)
unfolding tally_block_of
tally-block-numbers k s p room =
    let numbers = bad_part ∷ out_of_range ∷ no_room ∷ block_numbers in
    with-cond numbers (good_part p) _ (plain bad_part)
    (with-then numbers (placed_at k s) _ (placed-numbers numbers refl k s (block-of-in (bad_part ∷ out_of_range ∷ no_room ∷ []) s))
    (λ x. with-room numbers room ((tally one).encode (tally_of by_one (nodes_in p (x ∷ [])))) refl))
    refl

-- the tally of a sheet in a room: 11 and 14 are among the numbers
fitted-numbers : (numbers : List ℕ) → is_one_of no_room numbers ≡ true → is_one_of too_many numbers ≡ true → (room : ℕ) (l : TallyRows one) (n : ℕ)
    → RefusedWith numbers (fitted_sheet by_one room l n)
unfolding fitted_sheet
fitted-numbers numbers small many room l n =
    let bytes = (tally one).encode l in
    with-cond numbers (leb (length bytes) room) _ (refusal no_room n 0) (with-cond numbers (leb (length l) max_rows) (good bytes) (refusal too_many n 0) tt many) small

tally-sheet-numbers : (s : List ℕ) (p : Part) (room spare : ℕ)
    → RefusedWith (bad_part ∷ parts_misfit ∷ sheet_malformed ∷ out_of_range ∷ no_room ∷ too_many ∷ block_numbers) (tally_sheet_of by_one s p room spare)
unfolding tally_sheet_of
tally-sheet-numbers s p room spare =
    let more = bad_part ∷ parts_misfit ∷ sheet_malformed ∷ out_of_range ∷ no_room ∷ too_many ∷ [] in
    let numbers = more ++ block_numbers in
    with-cond numbers (good_part p) _ (plain bad_part)
    (with-cond numbers (leb room spare) _ (plain parts_misfit)
    (with-then numbers (sheet_of s) _ (sheet-numbers numbers refl refl (block-in more) s) (λ l. fitted-numbers numbers refl refl room (tally_of by_one (nodes_in p l)) (length l)))
    refl)
    refl

rates-check-numbers : (s : List ℕ) → RefusedWith (rates_malformed ∷ []) (check_rates_of s)
rates-check-numbers s = with-some (rates_malformed ∷ []) rates_malformed (rates_of s) _ refl (λ l. tt)

price-block-numbers : (k : ℤ) (s r : List ℕ) (p : Part) → RefusedWith (bad_part ∷ rates_malformed ∷ out_of_range ∷ block_numbers) (price_block_of k s r p)
unfolding price_block_of
price-block-numbers k s r p =
    let more = bad_part ∷ rates_malformed ∷ out_of_range ∷ [] in
    let numbers = more ++ block_numbers in
    with-cond numbers (good_part p) _ (plain bad_part)
    (with-some numbers rates_malformed (rates_of r) _ refl (λ rs. with-map numbers _ (placed_at k s) (placed-numbers numbers refl k s (block-of-in more s))))
    refl

price-sheet-numbers : (s r : List ℕ) (p : Part) → RefusedWith (bad_part ∷ rates_malformed ∷ sheet_malformed ∷ out_of_range ∷ too_many ∷ block_numbers) (price_sheet_of s r p)
unfolding price_sheet_of
price-sheet-numbers s r p =
    let more = bad_part ∷ rates_malformed ∷ sheet_malformed ∷ out_of_range ∷ too_many ∷ [] in
    let numbers = more ++ block_numbers in
    with-cond numbers (good_part p) _ (plain bad_part)
    (with-some numbers rates_malformed (rates_of r) _ refl
    (λ rs.
    with-then numbers (sheet_of s) _ (sheet-numbers numbers refl refl (block-in more) s)
    (λ l. let b = bill_of rs (nodes_in p l) in with-cond numbers (leb b.total max_count) (good b) (refusal too_many (length l) 0) tt refl)))
    refl

pub call-numbers : CallNumbers
call-numbers (key_join x y z) = with-map (numbers_of (key_join x y z)) _ (join_of x y z) (join-numbers x y z)
call-numbers (key_split k) = with-map (numbers_of (key_split k)) _ (split_of k) (split-numbers (out_of_range ∷ []) refl k)
call-numbers (lot_has l x y z) = with-map (numbers_of (lot_has l x y z)) _ (places.lot_has l x y z) (asked-numbers (good_lot l) (in_lot l x y z))
call-numbers (span_has s t) = with-map (numbers_of (span_has s t)) _ (places.span_has s t) (asked-numbers (good_span s) (in_span s t))
call-numbers (read s lists) = with-map (numbers_of (read s lists)) _ (read_into s lists) (read-numbers s lists)
call-numbers (sections s) = with-map (numbers_of (sections s)) _ (sections_of s) (with-map block_numbers shown (block_of s) (block-numbers s))
call-numbers (row_name s) = with-map (numbers_of (row_name s)) _ (name_row_of s) (row-numbers.name s)
call-numbers (row_metadata v s) = with-map (numbers_of (row_metadata v s)) _ (metadata_row_of v s) (row-numbers.metadata v s)
call-numbers (row_object s) = with-map (numbers_of (row_object s)) _ (object_row_of s) (row-numbers.object s)
call-numbers (row_timer s) = with-map (numbers_of (row_timer s)) _ (timer_row_of s) (row-numbers.timer s)
call-numbers (node_name s i) = with-map (numbers_of (node_name s i)) _ (node_name_of s i) (node-numbers s i)
call-numbers (write p h room) = with-map (numbers_of (write p h room)) _ (write_of p room) (writer-numbers p room h)
call-numbers (tally_check s) = with-map (numbers_of (tally_check s)) _ (check_of one s) (check-numbers s)
call-numbers (tally_add s n r) = with-map (numbers_of (tally_add s n r)) _ (add_of one s n r) (add-numbers s n r)
call-numbers (tally_merge room s t) = with-map (numbers_of (tally_merge room s t)) _ (merge_of one room s t) (merge-numbers room s t)
call-numbers (tally_block k s p room) = with-map (numbers_of (tally_block k s p room)) _ (tally_block_of by_one k s p room) (tally-block-numbers k s p room)
call-numbers (tally_sheet s p room spare) = with-map (numbers_of (tally_sheet s p room spare)) _ (tally_sheet_of by_one s p room spare) (tally-sheet-numbers s p room spare)
call-numbers (rates_check s) = with-map (numbers_of (rates_check s)) _ (check_rates_of s) (rates-check-numbers s)
call-numbers (price_block k s r p) = with-map (numbers_of (price_block k s r p)) _ (price_block_of k s r p) (price-block-numbers k s r p)
call-numbers (price_sheet s r p) = with-map (numbers_of (price_sheet s r p)) _ (price_sheet_of s r p) (price-sheet-numbers s r p)

-- ---- 3
not-three : (c : Call) → is_one_of 3 (numbers_of c) ≡ false
not-three (key_join x y z) = refl
not-three (key_split k) = refl
not-three (lot_has l x y z) = refl
not-three (span_has s t) = refl
not-three (read s lists) = refl
not-three (sections s) = refl
not-three (row_name s) = refl
not-three (row_metadata v s) = refl
not-three (row_object s) = refl
not-three (row_timer s) = refl
not-three (node_name s i) = refl
not-three (write p h room) = refl
not-three (tally_check s) = refl
not-three (tally_add s n r) = refl
not-three (tally_merge room s t) = refl
not-three (tally_block k s p room) = refl
not-three (tally_sheet s p room spare) = refl
not-three (rates_check s) = refl
not-three (price_block k s r p) = refl
not-three (price_sheet s r p) = refl

pub never-three : NeverThree
never-three c r o h = no_true (sym (not-three c) ∙ subst (RefusedWith (numbers_of c)) h (call-numbers c))
