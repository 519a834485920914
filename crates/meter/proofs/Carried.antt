-- A sheet between its records: what start, a step and finish make of the state.
use Rattle.std.proofs.Common.{◌≡◌, ℕ, ◌+◌, ◌%◌, ◌<◌, ◌≤◌, Bool, true, false, cond, leb, List, [], ◌∷◌, ◌++◌, length, take, drop, ℤ, sym, refl, ap, ◌∙◌, subst, zero-le, arith}
use Rattle.wire.specs.Told.{option_of}
use mathlib.Core.Path.{subst⁻¹}
use mathlib.Core.Option.{Option, some}
use Rattle.wire.specs.Answer.{Answer, good, refusal, plain, bad_part, parts_misfit, no_room, too_many, map_answer, Answered, Matches}
use Rattle.wire.specs.Store.{stored, overwrite}
use Rattle.wire.proofs.Overwrites.{stored-fits, overwrite-length}
use Rattle.position.specs.declared.key.Coordinates.{Coordinates}
use Rattle.block_reader.specs.declared.scan.Scanned.{Scanned}
use Rattle.tally.specs.Rows.{Rows, plus}
use Rattle.tally.specs.Tally.{tally, head_bytes, max_rows, ones, one}
use Rattle.tally.specs.Walks.{rows_bytes}
use Rattle.tally.proofs.Held.{tally-size, head-size}
use Rattle.census.specs.UsedNames.{total_count}
use Rattle.running_tally.specs.RunningTally.{Held, Runs}
use Rattle.running_tally.specs.declared.state.RunningTally.{RunningTally}
use Rattle.running_tally.proofs.Counts.{total_count-add, total_count-plus}
use Rattle.running_tally.proofs.Absorbing.{runs-empty}
use Rattle.position.specs.declared.part.Part.{Part}
use Rattle.position.specs.Parts.{good_part}
use Rattle.sheet.specs.Placed.{Placed, placed}
use Rattle.meter.specs.Standing.{Node, in_part, standing, nodes_in}
use Rattle.meter.specs.Counting.{row_of, tally_of, by_one}
use Rattle.sheet.specs.Sheet.{judge_record}
use Rattle.meter.specs.Streaming.{State, no_records, start_of, taking, step_of, finish_of}
use Rattle.sheet.specs.Records.{record_of, fault_number, fault_offset, faulty}
use Rattle.mapblock.specs.Table.{clear_table}
use Rattle.meter.specs.Adding.{Adds, Added, with_block}
use Rattle.meter.specs.Progress.{Carries, begun, Steps}
use Rattle.sheet.specs.declared.records.RecordFault.{RecordFault}
use Rattle.meter.specs.declared.stream.Progress.{Progress}
use Rattle.meter.proofs.Amounts.{filter_nodes-fewer, add-fewer, tally-fewer}
use Rattle.meter.proofs.Blocks.{standing-number}
use Rattle.sheet.proofs.Judging.{KeptOf}
use Rattle.meter.proofs.Streaming.{step-refused, step-good}
use Rattle.meter.proofs.Putting.{sheet-short, sheet-many, sheet-all, tally-overwrite}
use Rattle.std.specs.Prelude.{Some, None}
use Rattle.std.specs.Prelude.{Option as Optional}

-- ---- start
-- every spare carries it
pub begun-carried : (t : List ℕ) → Carries t begun (no_records by_one)
begun-carried t = record { last = refl; records = refl; runs = runs-empty t; total_fits = zero-le; rows_fit = zero-le }

module _ (p : Part) (room spare : ℕ) where
  abbrev starting : Answer Progress
  starting = map_answer (λ (_ : State by_one). begun) (start_of by_one p room spare)

  -- what start told, by what any spare carries
  pub start-matches : (t : List ℕ) {a : Answer Progress} → a ≡ starting → Matches (Carries t) a (start_of by_one p room spare)
  unfolding start_of
  start-matches t e = subst⁻¹ (λ (a : Answer Progress). Matches (Carries t) a (start_of by_one p room spare)) e (go (good_part p) (leb room spare))
    where
      go : (g b : Bool) → let x = cond g (cond b (good (no_records by_one)) (plain parts_misfit)) (plain bad_part) in Matches (Carries t) (map_answer (λ (_ : State by_one). begun) x) x
      go true true = (no_records by_one, refl, begun-carried t)
      go true false = refl
      go false b = refl

-- ---- a step
total_count-tally : (l : List Node) → total_count (tally_of by_one l) ≡ length l
unfolding tally_of
total_count-tally [] = refl
total_count-tally (x ∷ l) = total_count-add (row_of by_one x) (tally_of by_one l) ∙ omega (arith, total_count-tally l)

plus-fewer : (a b : Rows ones) → length (plus ones a b) ≤ length a + length b
plus-fewer [] b = omega arith
plus-fewer (r ∷ a) b = omega (arith, add-fewer by_one r (plus ones a b), plus-fewer a b)

pub block-nodes : (p : Part) (x : Placed) → length (nodes_in p (x ∷ [])) ≤ 4096
block-nodes p x = omega (arith, filter_nodes-fewer (in_part p) (standing (x ∷ [])), standing-number (x ∷ []))

-- the same block at the same place
pub placed_same : (x : Placed) {at : Coordinates} → x.at ≡ at → x ≡ placed at x.block
placed_same x e = λ i. record { at = e i; block = x.block }

module _ {ids counts t : List ℕ} {q : Progress} {w : State by_one} (s : Steps ids counts t q w) (p : Part) (key : ℤ) (block : List ℕ) where
  judged : {a : Answer Placed} → judge_record (option_of q.last) (record_of key block) ≡ a → judge_record w.last (record_of key block) ≡ a
  judged h = ap (λ (l : Option ℤ). judge_record l (record_of key block)) (sym s.carries.last) ∙ h

  pub stepped-refused : (f : RecordFault) → judge_record (option_of q.last) (record_of key block) ≡ faulty f 0 → step_of by_one p w (record_of key block) ≡ faulty f q.records
  stepped-refused f h = step-refused by_one p w (record_of key block) (judged h) ∙ ap (λ (i : ℕ). refusal (fault_number f) i (fault_offset f)) (sym s.carries.records)

  module _ {at : Coordinates} {f : Scanned} (h : Matches (KeptOf block) (good (at, f)) (judge_record (option_of q.last) (record_of key block))) where
    abbrev taken : Placed
    taken = h.0

    pub may-step : Adds block f counts t q.tally taken.block w.rows
    may-step = record {
      scanned = h.2.1;
      clear = s.counts-clear;
      runs = s.carries.runs;
      total_fits = omega (arith, s.carries.total_fits, s.number);
      rows_fit = omega (arith, s.carries.rows_fit, s.number);
    }

    pub stepped-taken : {counts' t' : List ℕ} {r : Optional RunningTally} {k : ℤ} {n : ℕ} → k ≡ key → n ≡ (q.records + 1) % 4294967296
        → Added counts' t t' r w.rows (with_block p at taken.block w.rows)
        → Matches (Carries t') (good (record { last = (Some k); records = n; tally = r })) (step_of by_one p w (record_of key block)) × (counts' ≡ clear_table)
    stepped-taken {counts'} {t'} {r} {k} {n} e g a =
        let same : with_block p at taken.block w.rows ≡ plus ones (tally_of by_one (nodes_in p (taken ∷ []))) w.rows = ap (λ (x : Placed). plus ones (tally_of by_one (nodes_in p (x ∷ []))) w.rows) (sym (placed_same taken h.2.0)) in
        let nodes = block-nodes p taken in (
          (
            taking by_one p w key taken,
            step-good by_one p w (record_of key block) (judged h.1),
            record {
              last = ap some e;
              records = omega (arith, g, s.carries.records, s.number);
              runs = subst (Runs t' r) same a.absorbed.runs;
              total_fits = omega (arith, total_count-plus (tally_of by_one (nodes_in p (taken ∷ []))) w.rows, total_count-tally (nodes_in p (taken ∷ [])), s.carries.total_fits);
              rows_fit = omega (arith, plus-fewer (tally_of by_one (nodes_in p (taken ∷ []))) w.rows, tally-fewer by_one (nodes_in p (taken ∷ [])), s.carries.rows_fit);
            },
          ),
          a.clear,
        )

-- ---- finish
module _ {t : List ℕ} {q : Progress} {w : State by_one} (c : Carries t q w) (d : List ℕ) (fits : length d ≤ length t) where
  abbrev Finished : Answer ℕ → List ℕ → Type 0
  Finished a e = Answered a d e (finish_of by_one (length d) w)

  no_room_lem : length d < length ((tally one).encode w.rows) → Finished (refusal no_room q.records 0) d
  no_room_lem h = subst (λ (i : ℕ). Finished (refusal no_room i 0) d) (sym c.records) (sheet-short d w.rows w.records h)

  pub finished-over : q.tally ≡ None → Finished (refusal no_room q.records 0) d
  finished-over o = no_room_lem (omega (arith, c.runs.lost o, tally-size one w.rows))

  module _ {u : RunningTally} (o : q.tally ≡ Some u) where
    held : Held t u w.rows
    held = c.runs.held u o

    -- the spare holds the rows
    pub finished-held : u.size ≤ length t
    finished-held = held.inside

    long : length ((tally one).encode w.rows) ≡ u.size + 9
    long = omega (arith, tally-size one w.rows, held.size)

    pub finished-short : length d < u.size + 9 → Finished (refusal no_room q.records 0) d
    finished-short h = no_room_lem (omega (arith, long))

    module _ (k : u.size + 9 ≤ length d) where
      pub finished-many : max_rows < u.rows → Finished (refusal too_many q.records 0) d
      finished-many m = subst (λ (i : ℕ). Finished (refusal too_many i 0) d) (sym c.records) (sheet-many d w.rows w.records (omega (arith, long)) (omega (arith, held.rows)))

      pub finished-all : {n : ℕ} {a e : List ℕ} → n ≡ u.rows → n ≤ max_rows → a ≡ stored 0 (head_bytes one n) d → e ≡ stored 9 (take u.size t) a → Finished (good (u.size + 9)) e
      finished-all {n} {a} {e} z m x y =
          let H = head_bytes one n in
          let front : a ≡ overwrite 0 H d = x ∙ stored-fits 0 H d (omega (arith, head-size one u.rows)) in
          let size : length a ≡ length d = ap length front ∙ overwrite-length 0 H d (omega (arith, head-size one u.rows)) in
          let put : e ≡ overwrite 9 (rows_bytes one w.rows) a = y ∙ ap (λ (l : List ℕ). stored 9 l a) held.bytes ∙ stored-fits 9 (rows_bytes one w.rows) a (omega (arith, held.size)) in
          let all : e ≡ (tally one).encode w.rows ++ drop (length ((tally one).encode w.rows)) d = put ∙ ap (overwrite 9 (rows_bytes one w.rows)) x ∙ tally-overwrite n w.rows d (z ∙ held.rows) (omega (arith, long)) in
          sheet-all d w.rows w.records long (omega arith) (omega (arith, z, held.rows)) (all ∙ ap (λ (i : ℕ). (tally one).encode w.rows ++ drop i d) long)
