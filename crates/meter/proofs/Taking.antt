-- The record at the front of some bytes: what is taken, and what a sheet's answer then is.
use Rattle.std.proofs.Common.{◌≡◌, ℕ, suc, ◌+◌, ◌-◌, ◌≤◌, List, length, take, drop, ℤ, sym, refl, ap, ◌∙◌, arith}
use Rattle.wire.specs.Bytes.{Bytes}
use Rattle.wire.specs.Read.{Read, done, refused, to_option, to_option-done, to_option-none, Misread, at_place}
use Rattle.wire.specs.Format.{ends-in}
use Rattle.wire.specs.Answer.{Answer, good, refusal, sheet_malformed, then_answer, Answered, Matches}
use Rattle.wire.proofs.Answers.{no-good}
use Rattle.tally.specs.Rows.{Canonical}
use Rattle.tally.specs.Tally.{ones}
use Rattle.position.specs.declared.part.Part.{Part}
use Rattle.sheet.specs.Placed.{Placed}
use Rattle.meter.specs.Counting.{by_one}
use Rattle.sheet.specs.Sheet.{Misframed, SheetRecord, frame, judge_record}
use Rattle.meter.specs.Streaming.{State, taking, step_of, take_of}
use Rattle.mapblock.specs.Table.{clear_table}
use Rattle.sheet.specs.Records.{record_of, told_frame, faulty}
use Rattle.meter.specs.Progress.{Carries, Steps, Refuses, StepMatches}
use Rattle.meter.specs.SheetTold.{answer_from}
use Rattle.sheet.specs.declared.records.RecordFault.{RecordFault}
use Rattle.meter.specs.declared.stream.Progress.{Progress}
use Rattle.sheet.proofs.RecordSteps.{records-misframed, records-refused}
use Rattle.meter.proofs.Streaming.{finishing, step-refused, step-good, record-on}
use Rattle.std.specs.Prelude.{Option, Some, None, Ok, Err, Result}
use Rattle.meter.specs.declared.answer.SheetError.{SheetError}
use Rattle.meter.specs.declared.answer.SheetError.TheVariants as sheet_errors

-- a refusal is the same whatever was asked
pub refusal-as : {A B : Type 0} {a i c x y z : ℕ} → ◌≡◌ {A = Answer A} (refusal a i c) (refusal x y z) → ◌≡◌ {A = Answer B} (refusal a i c) (refusal x y z)
refusal-as {a = a} {i = i} {c = c} {x = x} {y = y} {z = z} h = let p : a ≡ x = cc in let q : i ≡ y = cc in let r : c ≡ z = cc in rw (p, q, r)

-- and leaves a lent buffer as it was
pub refuses-lent : (d : List ℕ) (a : Answer ℕ) (x : Answer (List ℕ)) → Refuses a x → Answered a d d x
refuses-lent d (good n) x h = absurd h
refuses-lent d (refusal n r o) x h = rw h (refl, refl)

-- where every refusal of x is one of y, so is this
pub refuses-on : {A B : Type 0} (a : Answer ℕ) (x : Answer A) (y : Answer B) → ((n r o : ℕ) → x ≡ refusal n r o → y ≡ refusal n r o) → Refuses a x → Refuses a y
refuses-on (good n) x y f h = absurd h
refuses-on (refusal n r o) x y f h = f n r o h

-- ---- a step, taken apart
module _ (p : Part) (w : State by_one) (r : SheetRecord) where
  step-taken : (v : State by_one) → step_of by_one p w r ≡ good v → (x : Placed) × (judge_record w.last r ≡ good x) × (taking by_one p w r.key x ≡ v)
  step-taken v h = go (judge_record w.last r) refl
    where
      go : (a : Answer Placed) → judge_record w.last r ≡ a → (x : Placed) × (judge_record w.last r ≡ good x) × (taking by_one p w r.key x ≡ v)
      go (good x) e = let z : good (taking by_one p w r.key x) ≡ good v = sym (step-good by_one p w r e) ∙ h in (x, e, cc)
      go (refusal a b c) e = no-good (sym (step-refused by_one p w r e) ∙ h)

  -- the sheet's answer is that of the step
  step-refuses : (room k : ℕ) (s : List ℕ) {n a i c : ℕ} → frame.read s ≡ done r n → step_of by_one p w r ≡ refusal a i c → answer_from p room w (suc k) s ≡ refusal a i c
  step-refuses room k s {a = a} {i = i} {c = c} f h = go (judge_record w.last r) refl
    where
      go : (b : Answer Placed) → judge_record w.last r ≡ b → answer_from p room w (suc k) s ≡ refusal a i c
      go (good x) e = no-good (sym h ∙ step-good by_one p w r e)
      go (refusal x y z) e = ap (λ l. then_answer l (finishing by_one p room w)) (records-refused w.records w.last s k f e) ∙ refusal-as (sym (step-refused by_one p w r e) ∙ h)

-- ---- a record framed, as the code cuts it out: its block stands between byte 12 and its end
abbrev pub block_in : List ℕ → ℕ → List ℕ
block_in s n = take ((n + 12) - 12) (drop 12 s)

module _ (s : List ℕ) {r : Option (ℤ × ℕ)} {key : ℤ} {n : ℕ} (f : told_frame s r ≡ to_option (frame.read s)) (e : r ≡ Some (key, n)) where
  framed-at : frame.read s ≡ done (record_of key (take n (drop 12 s))) (12 + n)
  framed-at = to_option-done (frame.read s) (rw e at f)

  pub framed-as : frame.read s ≡ done (record_of key (block_in s n)) (n + 12)
  framed-as =
      let size : n ≡ (n + 12) - 12 = omega arith in
      let end : 12 + n ≡ n + 12 = omega arith in
      framed-at ∙ ap (λ (i : ℕ). done (record_of key (take i (drop 12 s))) (12 + n)) size ∙ ap (done (record_of key (block_in s n))) end

  pub framed-inside : n + 12 ≤ length s
  framed-inside = omega (arith, ends-in frame framed-at)

-- ---- the record at the front
module _ (p : Part) (w : State by_one) (s : List ℕ) where
  pub take-misframed : {e : Misframed} {q : ℕ} → frame.read s ≡ refused e q → take_of by_one p w s ≡ refusal sheet_malformed w.records 0
  unfolding take_of
  take-misframed f = rw f

  module _ {r : SheetRecord} {n : ℕ} (f : frame.read s ≡ done r n) where
    pub take-refused : {a i c : ℕ} → step_of by_one p w r ≡ refusal a i c → take_of by_one p w s ≡ refusal a i c
    unfolding take_of
    take-refused h = rw (f, h)

    pub take-good : {v : State by_one} → step_of by_one p w r ≡ good v → take_of by_one p w s ≡ good (v, n)
    unfolding take_of
    take-good h = rw (f, h)

  -- a record that is refused is the sheet's refusal
  pub from-refused : (room k : ℕ) {a i c : ℕ} → take_of by_one p w s ≡ refusal a i c → answer_from p room w (suc k) s ≡ refusal a i c
  from-refused room k {a} {i} {c} h = framed (frame.read s) refl
    where
      stepped : (r : SheetRecord) (n : ℕ) → frame.read s ≡ done r n → (b : Answer (State by_one)) → step_of by_one p w r ≡ b → answer_from p room w (suc k) s ≡ refusal a i c
      stepped r n f (good v) e = no-good (sym h ∙ take-good f e)
      stepped r n f (refusal x y z) e = step-refuses p w r room k s f e ∙ refusal-as (sym (take-refused f e) ∙ h)

      framed : (x : Read Misframed SheetRecord) → frame.read s ≡ x → answer_from p room w (suc k) s ≡ refusal a i c
      framed (refused e q) f = ap (λ l. then_answer l (finishing by_one p room w)) (records-misframed w.records w.last s k f) ∙ refusal-as (sym (take-misframed f) ∙ h)
      framed (done r n) f = stepped r n f (step_of by_one p w r) refl

  -- one that is taken
  pub record RecordTaken (v : State by_one) (n : ℕ) : Type 0 where
    pub taken : SheetRecord
    pub reads : frame.read s ≡ done taken n
    pub block : Placed
    pub judged : judge_record w.last taken ≡ good block
    pub state : taking by_one p w taken.key block ≡ v

  pub record-taken : {v : State by_one} {n : ℕ} → take_of by_one p w s ≡ good (v, n) → RecordTaken v n
  record-taken {v} {n} h = framed (frame.read s) refl
    where
      stepped : (r : SheetRecord) (m : ℕ) → frame.read s ≡ done r m → (b : Answer (State by_one)) → step_of by_one p w r ≡ b → RecordTaken v n
      stepped r m f (refusal x y z) e = no-good (sym (take-refused f e) ∙ h)
      stepped r m f (good u) e =
          let z : ◌≡◌ {A = Answer (State by_one × ℕ)} (good (u, m)) (good (v, n)) = sym (take-good f e) ∙ h in
          let y : ◌≡◌ {A = State by_one × ℕ} (u, m) (v, n) = cc in
          let same : u ≡ v = ap (λ (x : State by_one × ℕ). x.0) y in
          let end : m ≡ n = ap (λ (x : State by_one × ℕ). x.1) y in
          let x = step-taken p w r v (e ∙ ap good same) in
          record { taken = r; reads = f ∙ ap (done r) end; block = x.0; judged = x.1; state = x.2 }

      framed : (x : Read Misframed SheetRecord) → frame.read s ≡ x → RecordTaken v n
      framed (refused e q) f = no-good (sym (take-misframed f) ∙ h)
      framed (done r m) f = stepped r m f (step_of by_one p w r) refl

  module _ {v : State by_one} {n : ℕ} (h : take_of by_one p w s ≡ good (v, n)) where
    pub take-number : v.records ≡ suc w.records
    take-number = sym (ap (λ (u : State by_one). u.records) (record-taken h).state)

    -- what follows it is answered from the next state on
    pub from-good : (room k : ℕ) → Bytes s → Canonical ones w.rows → answer_from p room w (suc k) s ≡ answer_from p room v k (drop n s)
    from-good room k b c =
        let x = record-taken h in
        record-on by_one p room k s b x.reads w c x.judged ∙ ap (λ (u : State by_one). answer_from p room u k (drop n s)) x.state

-- ---- what is told of it
abbrev pub StepTold : List ℕ → List ℕ → Result (Progress × ℕ) SheetError → Answer (State by_one × ℕ) → Type 0
StepTold counts t r a = StepMatches t r a × (counts ≡ clear_table)

module _ (p : Part) (w : State by_one) (s : List ℕ) where
  pub told-misframed : {ids counts t : List ℕ} {q : Progress} → told_frame s None ≡ to_option (frame.read s) → Steps ids counts t q w
      → StepTold counts t (Err (sheet_errors.Malformed q.records)) (take_of by_one p w s)
  told-misframed {q = q} f k = (go (to_option-none (frame.read s) f) ∙ ap (λ (i : ℕ). refusal sheet_malformed i 0) (sym k.carries.records), k.counts-clear)
    where
      go : Misread (frame.read s) → take_of by_one p w s ≡ refusal sheet_malformed w.records 0
      go (at_place x e) = take-misframed p w s e

  module _ {r : SheetRecord} {n : ℕ} (f : frame.read s ≡ done r n) where
    pub told-refused : {ids counts t : List ℕ} {q : Progress} (e : RecordFault) → step_of by_one p w r ≡ faulty e q.records → Steps ids counts t q w
        → StepTold counts t (Err (sheet_errors.Record e q.records)) (take_of by_one p w s)
    told-refused e h k = (take-refused p w s f h, k.counts-clear)

    pub told-taken : {counts t : List ℕ} {q : Progress} → Matches (Carries t) (good q) (step_of by_one p w r) × (counts ≡ clear_table) → StepTold counts t (Ok (q, n)) (take_of by_one p w s)
    told-taken h = ((h.0.0, take-good p w s f h.0.1, h.0.2), h.1)
