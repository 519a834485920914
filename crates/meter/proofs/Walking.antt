-- A sheet's records, walked from one to the next: what the walk knows, and its steps.
use Rattle.std.proofs.Common.{◌≡◌, ℕ, suc, ◌+◌, ◌-◌, ◌<◌, ◌≤◌, List, length, take, drop, sym, refl, ap, ◌∙◌, subst, le_refl, arith, length-drop}
use Rattle.wire.proofs.Lists.{rest-is}
use Rattle.wire.specs.Bytes.{Bytes, bytes_drop}
use Rattle.wire.specs.Answer.{refusal, sheet_malformed, then_answer, Answered}
use Rattle.position.specs.declared.part.Part.{Part}
use Rattle.meter.specs.Counting.{by_one}
use Rattle.meter.specs.Streaming.{State, take_of, finish_of}
use Rattle.mapblock.specs.Table.{clear_table}
use Rattle.meter.specs.Progress.{Carries, Steps}
use Rattle.meter.specs.SheetTold.{answer_from, Numbered, told_sheet, told_sheet_error}
use Rattle.meter.specs.declared.stream.Progress.{Progress}
use Rattle.sheet.proofs.RecordSteps.{records-end, records-more}
use Rattle.meter.proofs.Streaming.{finishing, finishing-none}
use Rattle.meter.proofs.Taking.{refuses-lent, refuses-on, take-number, from-refused, from-good, StepTold}
use Rattle.std.specs.Prelude.{Ok, Err, Result}
use Rattle.meter.specs.declared.answer.SheetError.{SheetError}
use Rattle.meter.specs.declared.answer.SheetError.TheVariants as sheet_errors

-- ---- the walk
-- a state from which it may begin: the spare carries it, its records can be numbered, and the tables are clear
pub record Begins (t : List ℕ) (q : Progress) (ids counts : List ℕ) (count : ℕ) (w : State by_one) : Type 0 where
  pub carries : Carries t q w
  pub numbered : Numbered w count
  pub ids-clear : ids ≡ clear_table
  pub counts-clear : counts ≡ clear_table

-- from the state w with so many records in s to come, to the state v with so many left in the rest
pub record Following (p : Part) (w : State by_one) (count : ℕ) (s t ids counts rest : List ℕ) (left : ℕ) (q : Progress) : Type 0 where
  pub v : State by_one
  pub carries : Carries t q v
  pub ids-clear : ids ≡ clear_table
  pub counts-clear : counts ≡ clear_table
  pub number : v.records + left ≡ w.records + count
  pub same : (room : ℕ) → answer_from p room v left rest ≡ answer_from p room w count s

pub record Walking (p : Part) (s : List ℕ) (count : ℕ) (t₀ : List ℕ) (q₀ : Progress) (ids₀ counts₀ t ids counts rest : List ℕ) (left : ℕ) (q : Progress) : Type 0 where
  pub bytes : Bytes rest
  pub short : length rest ≤ length s
  pub size : length t ≡ length t₀
  pub follows : (w : State by_one) → Begins t₀ q₀ ids₀ counts₀ count w → Following p w count s t ids counts rest left q

pub walking_start : (p : Part) (s : List ℕ) (count : ℕ) (t : List ℕ) (q : Progress) (ids counts : List ℕ) → Bytes s → Walking p s count t q ids counts t ids counts s count q
walking_start p s count t q ids counts b = record {
  bytes = b;
  short = le_refl _;
  size = refl;
  follows = λ w g. record { v = w; carries = g.carries; ids-clear = g.ids-clear; counts-clear = g.counts-clear; number = refl; same = λ room. refl };
}

-- what is answered at the end, and put into the output, of every state that the walk may have begun with
abbrev pub AnsweredAll : Part → List ℕ → ℕ → List ℕ → Progress → List ℕ → List ℕ → List ℕ → List ℕ → Result ℕ SheetError → Type 0
AnsweredAll p s count t₀ q₀ ids₀ counts₀ d e r =
    (w : State by_one) → Begins t₀ q₀ ids₀ counts₀ count w → length d ≤ length t₀ → Answered (told_sheet r) d e (answer_from p (length d) w count s)

module _ {p : Part} {s : List ℕ} {count : ℕ} {t₀ : List ℕ} {q₀ : Progress} {ids₀ counts₀ t ids counts rest : List ℕ} {left : ℕ} {q : Progress} (k : Walking p s count t₀ q₀ ids₀ counts₀ t ids counts rest left q) where
  -- no record is left, and a byte follows
  pub walking-more : left ≡ 0 → 0 < length rest → (d : List ℕ) → AnsweredAll p s count t₀ q₀ ids₀ counts₀ d d (Err (sheet_errors.Malformed q.records))
  walking-more h l d w g f =
      let x = k.follows w g in
      let end : answer_from p (length d) x.v 0 rest ≡ refusal sheet_malformed x.v.records 0 = ap (λ a. then_answer a (finishing by_one p (length d) x.v)) (records-more x.v.records x.v.last rest l) in
      refuses-lent d (refusal sheet_malformed q.records 0) _ (sym (x.same (length d)) ∙ ap (λ (n : ℕ). answer_from p (length d) x.v n rest) h ∙ end ∙ ap (λ (i : ℕ). refusal sheet_malformed i 0) (sym x.carries.records))

  -- no record is left and no byte follows, and it is finished
  pub walking-end : left ≡ 0 → length rest ≡ 0 → (d e : List ℕ) (r : Result ℕ SheetError) → ((v : State by_one) → Carries t q v → length d ≤ length t → Answered (told_sheet r) d e (finish_of by_one (length d) v))
      → AnsweredAll p s count t₀ q₀ ids₀ counts₀ d e r
  walking-end h l d e r f w g z =
      let x = k.follows w g in
      let end : answer_from p (length d) x.v 0 rest ≡ finish_of by_one (length d) x.v = ap (λ a. then_answer a (finishing by_one p (length d) x.v)) (records-end x.v.records x.v.last rest l) ∙ finishing-none by_one p (length d) x.v in
      let same : finish_of by_one (length d) x.v ≡ answer_from p (length d) w count s = sym (ap (λ (n : ℕ). answer_from p (length d) x.v n rest) h ∙ end) ∙ x.same (length d) in
      subst (Answered (told_sheet r) d e) same (f x.v x.carries (omega (arith, k.size)))

  -- one record more is asked for, and what was told of it
  module _ {more : ℕ} (h : left ≡ suc more) (counts' t' : List ℕ) (a : Result (Progress × ℕ) SheetError) (y : (v : State by_one) → Steps ids counts t q v → StepTold counts' t' a (take_of by_one p v rest)) where
    may-go : (w : State by_one) (g : Begins t₀ q₀ ids₀ counts₀ count w) → Steps ids counts t q (k.follows w g).v
    may-go w g = let x = k.follows w g in record { ids-clear = x.ids-clear; counts-clear = x.counts-clear; carries = x.carries; number = omega (arith, h, x.number, g.numbered) }

    told : (w : State by_one) (g : Begins t₀ q₀ ids₀ counts₀ count w) {b : Result (Progress × ℕ) SheetError} → a ≡ b → StepTold counts' t' b (take_of by_one p (k.follows w g).v rest)
    told w g e = subst (λ (b : Result (Progress × ℕ) SheetError). StepTold counts' t' b (take_of by_one p (k.follows w g).v rest)) e (y (k.follows w g).v (may-go w g))

    -- what the walk answers from here on
    onward : (w : State by_one) (g : Begins t₀ q₀ ids₀ counts₀ count w) (room : ℕ) → answer_from p room (k.follows w g).v (suc more) rest ≡ answer_from p room w count s
    onward w g room = let x = k.follows w g in sym (ap (λ (n : ℕ). answer_from p room x.v n rest) h) ∙ x.same room

    -- its refusal is that of the whole
    pub walking-stop : {e : SheetError} → a ≡ (Err e) → (d : List ℕ) → AnsweredAll p s count t₀ q₀ ids₀ counts₀ d d (Err e)
    walking-stop {e} j d w g f =
        let x = k.follows w g in
        refuses-lent d (told_sheet_error e) _ (refuses-on (told_sheet_error e) _ _ (λ n i c r. sym (onward w g (length d)) ∙ from-refused p x.v rest (length d) more r) (told w g j).0)

    pub walking_on : {o : Progress} {n : ℕ} {ids' : List ℕ} → ids' ≡ ids → length t' ≡ length t → a ≡ (Ok (o, n))
        → Walking p s count t₀ q₀ ids₀ counts₀ t' ids' counts' (take (length rest - n) (drop n rest)) more o
    walking_on {o} {n} z l j = rw (rest-is n rest) record {
      bytes = bytes_drop n rest k.bytes;
      short = omega (arith, k.short, length-drop n rest);
      size = l ∙ k.size;
      follows = λ w g.
          let x = k.follows w g in
          let u = (told w g j).0 in
          record {
            v = u.0;
            carries = u.2;
            ids-clear = z ∙ x.ids-clear;
            counts-clear = (told w g j).1;
            number = omega (arith, h, x.number, take-number p x.v rest u.1);
            same = λ room. sym (from-good p x.v rest u.1 room more k.bytes x.carries.runs.canonical) ∙ onward w g room;
          };
    }

pub begins : {t ids counts : List ℕ} {q : Progress} {count : ℕ} {w : State by_one} → Carries t q w → Numbered w count → ids ≡ clear_table → counts ≡ clear_table → Begins t q ids counts count w
begins c n i d = record { carries = c; numbered = n; ids-clear = i; counts-clear = d }
