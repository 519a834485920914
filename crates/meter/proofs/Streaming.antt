-- A sheet tallied a record at a time: start, a step for each record and finish answer what tallying the sheet answers.
use Rattle.std.proofs.Common.{◌≡◌, ℕ, suc, ◌+◌, ◌-◌, ◌^◌, ◌<◌, Bool, true, false, cond, leb, List, [], ◌∷◌, ◌++◌, length, drop, ℤ, sym, refl, ap, ◌∙◌, subst, append_assoc, append-nil, add-zero, zero-add, arith}
use mathlib.Core.Option.{Option, some, none}
use Rattle.wire.specs.Bytes.{Bytes, bytes_drop}
use Rattle.wire.specs.Read.{done, refused}
use Rattle.wire.specs.Format.{encode_items}
use Rattle.wire.specs.Answer.{Answer, good, refusal, plain, map_answer, bad_part, parts_misfit, then_answer}
use Rattle.wire.proofs.Answers.{no-good, map-good}
use Rattle.mapblock.specs.Valid.{Valid}
use Rattle.tally.specs.Rows.{plus, Canonical}
use Rattle.tally.proofs.Canon.{canonical-plus, plus_comm, plus_assoc, plus-unit}
use Rattle.position.specs.declared.part.Part.{Part}
use Rattle.position.specs.Parts.{good_part}
use Rattle.sheet.specs.Placed.{Placed}
use Rattle.meter.specs.Standing.{in_part, nodes_from, standing, filter_nodes, nodes_in}
use Rattle.meter.specs.Counting.{Measure, MeasureRows, tally_of}
use Rattle.sheet.specs.Sheet.{Misframed, SheetRecord, frame, judge_record, records_from, sheet_of}
use Rattle.meter.specs.SheetTally.{fitted_sheet, tally_sheet_of}
use Rattle.meter.specs.Streaming.{State, no_records, start_of, taking, step_of, steps_of, finish_of}
use Rattle.sheet.specs.Theorems.{sheet_bytes, Framed}
use Rattle.meter.specs.Theorems.{streamed, broken, Streams}
use Rattle.meter.proofs.Amounts.{filter_nodes-append, named-filter_nodes, tally-append}
use Rattle.sheet.proofs.TakenBlocks.{AllValid}
use Rattle.meter.proofs.Blocks.{standing-named, held, rows-canonical}
use Rattle.sheet.proofs.RecordSteps.{records-end, records-more, records-misframed, records-on, written-refused, written_on, none-taken}
use Rattle.sheet.proofs.SheetTaken.{sheet-behind, record-valid, records-valid}

-- ---- one answer after another
pub then_same : {A B : Type 0} (a : Answer A) (f g : A → Answer B) → ((x : A) → a ≡ good x → f x ≡ g x) → then_answer a f ≡ then_answer a g
then_same (good x) f g h = h x refl
then_same (refusal n r o) f g h = refl

then_map : {A B C : Type 0} (a : Answer A) (f : A → B) (g : B → Answer C) → then_answer (map_answer f a) g ≡ then_answer a (λ x. g (f x))
then_map (good x) f g = refl
then_map (refusal n r o) f g = refl

pub then-then : {A B C : Type 0} (a : Answer A) (f : A → Answer B) (g : B → Answer C) → then_answer (then_answer a f) g ≡ then_answer a (λ x. then_answer (f x) g)
then-then (good x) f g = refl
then-then (refusal n r o) f g = refl

-- ---- the blocks of records that are written
-- so many records in these bytes have blocks that are well formed, where they are taken
abbrev Clean : ℕ → List ℕ → Type 0
Clean k t = (i : ℕ) (last : Option ℤ) (l : List Placed) → records_from k i last t ≡ good l → AllValid l

clean-first : (k : ℕ) (r : SheetRecord) (t : List ℕ) → frame.Ok r → Clean k t → Clean (suc k) (frame.encode r ++ t)
clean-first k r t ok c i last l h = go (judge_record last r) refl
  where
    go : (a : Answer Placed) → judge_record last r ≡ a → AllValid l
    go (good x) j =
        let y = map-good (λ (l : List Placed). x ∷ l) (records_from k (suc i) (some r.key) t) l (sym (written_on k i last r t ok j) ∙ h) in
        subst AllValid y.2 (record-valid last r x ok j, c (suc i) (some r.key) y.0 y.1)
    go (refusal a b d) j = no-good (sym (written-refused k i last r t ok j) ∙ h)

-- these records and so many more
abbrev pub more : ℕ → List SheetRecord → ℕ
more k [] = k
more k (r ∷ rs) = suc (more k rs)

pub more-is : (k : ℕ) (rs : List SheetRecord) → more k rs ≡ k + length rs
more-is k [] = omega arith
more-is k (r ∷ rs) = omega (arith, more-is k rs)

-- these records, and then these bytes
abbrev pub frames : List SheetRecord → List SheetRecord → List ℕ → List ℕ
frames seen rs rest = encode_items (λ _. frame) seen rs ++ rest

pub frames-first : (seen : List SheetRecord) (r : SheetRecord) (rs : List SheetRecord) (rest : List ℕ) → frames seen (r ∷ rs) rest ≡ frame.encode r ++ frames (r ∷ seen) rs rest
frames-first seen r rs rest = append_assoc (frame.encode r) (encode_items (λ _. frame) (r ∷ seen) rs) rest

clean_all : (k : ℕ) (seen rs : List SheetRecord) (rest : List ℕ) → Framed rs → Clean k rest → Clean (more k rs) (frames seen rs rest)
clean_all k seen [] rest f c = c
clean_all k seen (r ∷ rs) rest f c =
    subst (Clean (suc (more k rs))) (sym (frames-first seen r rs rest)) (clean-first (more k rs) r (frames (r ∷ seen) rs rest) f.0 (clean_all k (r ∷ seen) rs rest f.1 c))

-- ---- the rows of blocks
module _ (m : Measure) (p : Part) where
  nodes-first : (x : Placed) (l : List Placed) → nodes_in p (x ∷ l) ≡ nodes_in p (x ∷ []) ++ nodes_in p l
  unfolding standing
  nodes-first x l = rw (append-nil (nodes_from x 4096 0)) (filter_nodes-append (in_part p) (nodes_from x 4096 0) (standing l))

  rows-first : (x : Placed) (l : List Placed) → Valid x.block → AllValid l → held m p (x ∷ l) ≡ plus m.kind.counts (held m p (x ∷ [])) (held m p l)
  rows-first x l v h =
      ap (tally_of m) (nodes-first x l)
      ∙ tally-append m (nodes_in p (x ∷ [])) (nodes_in p l) (named-filter_nodes (in_part p) (standing (x ∷ [])) (standing-named (x ∷ []) (v, tt))) (named-filter_nodes (in_part p) (standing l) (standing-named l h))

  -- the first block's rows may be added before the others
  rows_on : (x : Placed) (l : List Placed) (R : MeasureRows m) → Valid x.block → AllValid l → Canonical m.kind.counts R
      → plus m.kind.counts (held m p (x ∷ l)) R ≡ plus m.kind.counts (held m p l) (plus m.kind.counts (held m p (x ∷ [])) R)
  rows_on x l R v h c =
      let S = m.kind.counts in
      let a = rows-canonical m p (x ∷ []) (v, tt) in
      let b = rows-canonical m p l h in
      ap (λ (q : MeasureRows m). plus S q R) (rows-first x l v h ∙ plus_comm S (held m p (x ∷ [])) (held m p l) a b) ∙ plus_assoc S (held m p l) (held m p (x ∷ [])) R b a c

  no_rows : held m p [] ≡ []
  unfolding standing filter_nodes tally_of
  no_rows = refl

  pub taking-canonical : (w : State m) (key : ℤ) (x : Placed) → Valid x.block → Canonical m.kind.counts w.rows → Canonical m.kind.counts (taking m p w key x).rows
  taking-canonical w key x v c = canonical-plus m.kind.counts (held m p (x ∷ [])) w.rows (rows-canonical m p (x ∷ []) (v, tt)) c

  -- ---- a step
  pub step-refused : (w : State m) (r : SheetRecord) {a b c : ℕ} → judge_record w.last r ≡ refusal a b c → step_of m p w r ≡ refusal a w.records c
  unfolding step_of
  step-refused w r j = rw j

  pub step-good : (w : State m) (r : SheetRecord) {x : Placed} → judge_record w.last r ≡ good x → step_of m p w r ≡ good (taking m p w r.key x)
  unfolding step_of
  step-good w r j = rw j

  -- ---- what is answered where blocks follow those of a state
  module _ (room : ℕ) where
    abbrev pub finishing : State m → List Placed → Answer (List ℕ)
    finishing w l = fitted_sheet m room (plus m.kind.counts (held m p l) w.rows) (w.records + length l)

    pub finishing-none : (w : State m) → finishing w [] ≡ finish_of m room w
    finishing-none w = rw (no_rows, add-zero)

    pub finishing-first : (l : List Placed) → AllValid l → finishing (no_records m) l ≡ fitted_sheet m room (held m p l) (length l)
    finishing-first l h = rw (plus-unit m.kind.counts (held m p l) (rows-canonical m p l h), zero-add)

    pub finishing-on : (w : State m) (key : ℤ) (x : Placed) (l : List Placed) → Valid x.block → AllValid l → Canonical m.kind.counts w.rows → finishing w (x ∷ l) ≡ finishing (taking m p w key x) l
    finishing-on w key x l v h c =
        let n : w.records + suc (length l) ≡ suc w.records + length l = omega arith in
        rw (rows_on x l w.rows v h c, n)

    -- a block before others
    finishing-more : (w : State m) (key : ℤ) (x : Placed) (a : Answer (List Placed)) → Valid x.block → ((l : List Placed) → a ≡ good l → AllValid l) → Canonical m.kind.counts w.rows
        → then_answer (map_answer (λ (l : List Placed). x ∷ l) a) (finishing w) ≡ then_answer a (finishing (taking m p w key x))
    finishing-more w key x a v h c =
        then_map a (λ (l : List Placed). x ∷ l) (finishing w)
        ∙ then_same a (λ l. finishing w (x ∷ l)) (finishing (taking m p w key x)) (λ l e. finishing-on w key x l v (h l e) c)

    -- a record that is taken, in any bytes
    pub record-on : (k : ℕ) (s : List ℕ) {r : SheetRecord} {n : ℕ} {x : Placed} → Bytes s → frame.read s ≡ done r n → (w : State m) → Canonical m.kind.counts w.rows → judge_record w.last r ≡ good x
        → then_answer (records_from (suc k) w.records w.last s) (finishing w) ≡ then_answer (records_from k (suc w.records) (some r.key) (drop n s)) (finishing (taking m p w r.key x))
    record-on k s {r} {n} {x} b e w c j =
        let valid = record-valid w.last r x (frame.backward s r n b e).ok j in
        let rest = records_from k (suc w.records) (some r.key) (drop n s) in
        rw (records-on w.records w.last s k e j)
        (finishing-more w r.key x rest valid (λ l h. records-valid k (suc w.records) (some r.key) (drop n s) l (bytes_drop n s b) h) c)

    -- a record that is written: what is said of the records behind it is said behind a step
    module _ (k : ℕ) (r : SheetRecord) (t : List ℕ) (ok : frame.Ok r) (clean : Clean k t) (w : State m) (c : Canonical m.kind.counts w.rows) where
      stepped : (next : State m → Answer (List ℕ)) → ((v : State m) → Canonical m.kind.counts v.rows → then_answer (records_from k v.records v.last t) (finishing v) ≡ next v)
          → then_answer (records_from (suc k) w.records w.last (frame.encode r ++ t)) (finishing w) ≡ then_answer (step_of m p w r) next
      stepped next h = go (judge_record w.last r) refl
        where
          go : (a : Answer Placed) → judge_record w.last r ≡ a → then_answer (records_from (suc k) w.records w.last (frame.encode r ++ t)) (finishing w) ≡ then_answer (step_of m p w r) next
          go (refusal a b d) j = rw (written-refused k w.records w.last r t ok j, step-refused w r j)
          go (good x) j =
              let v = taking m p w r.key x in
              let valid = record-valid w.last r x ok j in
              rw (written_on k w.records w.last r t ok j, step-good w r j)
              (finishing-more w r.key x (records_from k v.records v.last t) valid (clean v.records v.last) c ∙ h v (taking-canonical w r.key x valid c))

    -- all that are written, and then an end
    module _ (k : ℕ) (rest : List ℕ) (clean : Clean k rest) (end : State m → Answer (List ℕ)) (ends : (v : State m) → then_answer (records_from k v.records v.last rest) (finishing v) ≡ end v) where
      all-stepped : (seen rs : List SheetRecord) → Framed rs → (w : State m) → Canonical m.kind.counts w.rows
          → then_answer (records_from (more k rs) w.records w.last (frames seen rs rest)) (finishing w) ≡ then_answer (steps_of m p w rs) end
      unfolding steps_of
      all-stepped seen [] f w c = ends w
      all-stepped seen (r ∷ rs) f w c =
          ap (λ (s : List ℕ). then_answer (records_from (suc (more k rs)) w.records w.last s) (finishing w)) (frames-first seen r rs rest)
          ∙ stepped (more k rs) r (frames (r ∷ seen) rs rest) f.0 (clean_all k (r ∷ seen) rs rest f.1 clean) w c (λ v. then_answer (steps_of m p v rs) end) (λ v d. all-stepped (r ∷ seen) rs f.1 v d)
          ∙ sym (then-then (step_of m p w r) (λ v. steps_of m p v rs) end)

      -- the whole sheet
      sheet-stepped : (spare n : ℕ) (rs : List SheetRecord) → Framed rs → more k rs ≡ n → n < 256 ^ 4 → tally_sheet_of m (sheet_bytes n rs rest) p room spare ≡ streamed m p room spare rs end
      unfolding tally_sheet_of start_of
      sheet-stepped spare n rs f e h = go (good_part p) (leb room spare)
        where
          read : sheet_of (sheet_bytes n rs rest) ≡ records_from (more k rs) 0 none (frames [] rs rest)
          read = sheet-behind n (frames [] rs rest) h ∙ ap (λ (i : ℕ). records_from i 0 none (frames [] rs rest)) (sym e)

          all : then_answer (sheet_of (sheet_bytes n rs rest)) (λ l. fitted_sheet m room (held m p l) (length l)) ≡ then_answer (steps_of m p (no_records m) rs) end
          all =
              let x = records_from (more k rs) 0 none (frames [] rs rest) in
              ap (λ (a : Answer (List Placed)). then_answer a (λ l. fitted_sheet m room (held m p l) (length l))) read
              ∙ then_same x (λ l. fitted_sheet m room (held m p l) (length l)) (finishing (no_records m)) (λ l g. sym (finishing-first l (clean_all k [] rs rest f clean 0 none l g)))
              ∙ all-stepped [] rs f (no_records m) tt

          go : (a b : Bool)
              → cond a (cond b (then_answer (sheet_of (sheet_bytes n rs rest)) (λ l. fitted_sheet m room (held m p l) (length l))) (plain parts_misfit)) (plain bad_part)
              ≡ then_answer (cond a (cond b (good (no_records m)) (plain parts_misfit)) (plain bad_part)) (λ w. then_answer (steps_of m p w rs) end)
          go true true = all
          go true false = refl
          go false b = refl

-- ---- the three ways to end
no_more : (rest : List ℕ) → Clean 0 rest
no_more rest i last l h = subst AllValid (sym (none-taken i last rest l h).1) tt

misframed-next : (k : ℕ) (rest : List ℕ) {e : Misframed} {q : ℕ} → frame.read rest ≡ refused e q → Clean (suc k) rest
misframed-next k rest h i last l g = no-good (sym (records-misframed i last rest k h) ∙ g)

module _ (m : Measure) (p : Part) (room : ℕ) where
  at-end : (v : State m) → then_answer (records_from 0 v.records v.last []) (finishing m p room v) ≡ finish_of m room v
  at-end v = rw (records-end v.records v.last [] refl) (finishing-none m p room v)

  at-short : (k : ℕ) (rest : List ℕ) {e : Misframed} {q : ℕ} → frame.read rest ≡ refused e q → (v : State m) → then_answer (records_from (suc k) v.records v.last rest) (finishing m p room v) ≡ broken m v
  at-short k rest h v = rw (records-misframed v.records v.last rest k h)

  at-longer : (rest : List ℕ) → 0 < length rest → (v : State m) → then_answer (records_from 0 v.records v.last rest) (finishing m p room v) ≡ broken m v
  at-longer rest h v = rw (records-more v.records v.last rest h)

pub streams : (m : Measure) → Streams m
streams m = record {
  whole = λ p room spare rs f h. sheet-stepped m p room 0 [] (no_more []) (finish_of m room) (at-end m p room) spare (length rs) rs f (more-is 0 rs ∙ zero-add (length rs)) h;
  short = λ p room spare n rs rest e q f h l g.
      let k = n - suc (length rs) in
      let size : more (suc k) rs ≡ n = omega (arith, more-is (suc k) rs) in
      sheet-stepped m p room (suc k) rest (misframed-next k rest g) (broken m) (at-short m p room k rest g) spare n rs f size h;
  longer = λ p room spare rs rest f h l. sheet-stepped m p room 0 rest (no_more rest) (broken m) (at-longer m p room rest l) spare (length rs) rs f (more-is 0 rs ∙ zero-add (length rs)) h;
}
