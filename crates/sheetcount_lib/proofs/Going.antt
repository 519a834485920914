-- From one record to the next, in the bytes that are read.
use Prim.Native.Nat.{ℕ, suc, ◌+◌, ◌<◌}
use mathlib.Core.Path.{◌≡◌, ap, sym, subst, ◌∙◌}
use mathlib.Core.List.{List, [], ◌++◌, append_assoc}
use native.Mathlib.Nat.{zero-add}
use native.Mathlib.Omega.{arith}
use Rattle.wire.specs.Bytes.{Bytes, bytes-nil, bytes-append}
use Rattle.wire.specs.Answer.{Answered}
use Rattle.meter.specs.Counting.{by_one}
use Rattle.meter.specs.Streaming.{State, no_records}
use Rattle.mapblock.specs.Table.{clear_table}
use Rattle.meter.specs.Progress.{Carries, Steps, StepMatches}
use Rattle.meter.specs.SheetTold.{told_sheet, told_sheet_error}
use Rattle.sheetcount_lib.specs.Program.{next_of, counted_from}
use Rattle.meter.specs.declared.stream.Progress.{Progress}
use Rattle.meter.proofs.Taking.{refuses-lent, refuses-on, StepTold}
use Rattle.sheetcount_lib.proofs.Sheetcount.{next-bytes, counted-refused}
use Rattle.sheetcount_lib.specs.Reading.{Ready, SheetCounted, Ended}
use Rattle.std.specs.Prelude.{Ok, Err, Result}
use Rattle.meter.specs.declared.answer.SheetError.{SheetError}

-- behind some records, in the bytes s: the state from which the others are counted, in whatever follows
pub record Reached (count left : ℕ) (t : List ℕ) (q : Progress) : Type 0 where
  pub s : List ℕ
  pub bytes : Bytes s
  pub v : State by_one
  pub carries : Carries t q v
  pub number : v.records + left ≡ count
  pub same : (rest : List ℕ) → counted_from count (no_records by_one) (s ++ rest) ≡ counted_from left v rest

-- and the tables are clear
pub record Going (count : ℕ) (t ids counts : List ℕ) (left : ℕ) (q : Progress) : Type 0 where
  pub ids-clear : ids ≡ clear_table
  pub counts-clear : counts ≡ clear_table
  pub reached : Reached count left t q

pub going_start : {count left : ℕ} {t ids counts : List ℕ} {q : Progress} → left ≡ count → Ready ids counts → Carries t q (no_records by_one) → Going count t ids counts left q
going_start e g c = record {
  ids-clear = g.ids-clear;
  counts-clear = g.counts-clear;
  reached = record { s = []; bytes = bytes-nil; v = no_records by_one; carries = c; number = zero-add _ ∙ e; same = λ rest. ap (λ (n : ℕ). counted_from n (no_records by_one) rest) (sym e) };
}

module _ {count : ℕ} {t ids counts : List ℕ} {left : ℕ} {q : Progress} (g : Going count t ids counts left q) (fits : count < 4294967296) {more : ℕ} (h : left ≡ suc more)
    (s t' counts' : List ℕ) (b : Bytes s) (a : Result (Progress × ℕ) SheetError) (y : (w : State by_one) → Steps ids counts t q w → StepTold counts' t' a (next_of w s)) where
  abbrev at : State by_one
  at = g.reached.v

  steps_on : Steps ids counts t q at
  steps_on = record { ids-clear = g.ids-clear; counts-clear = g.counts-clear; carries = g.reached.carries; number = omega (arith, g.reached.number, h) }

  told : {c : Result (Progress × ℕ) SheetError} → a ≡ c → StepMatches t' c (next_of at s)
  told e = subst (λ (c : Result (Progress × ℕ) SheetError). StepMatches t' c (next_of at s)) e (y at steps_on).0

  -- behind them one record more is counted
  onward : (rest : List ℕ) → counted_from count (no_records by_one) (g.reached.s ++ rest) ≡ counted_from (suc more) at rest
  onward rest = g.reached.same rest ∙ ap (λ (n : ℕ). counted_from n at rest) h

  -- a record is refused, and so are all
  pub going-stop : {e : SheetError} → a ≡ Err e → (d : List ℕ) → SheetCounted (counted_from count (no_records by_one)) d d (Err e)
  going-stop {e} x d = record {
    s = g.reached.s ++ s;
    bytes = bytes-append g.reached.s s g.reached.bytes b;
    answered = refuses-lent d (told_sheet_error e) _ (refuses-on (told_sheet_error e) (next_of at s) _ (λ n i o x. onward s ∙ counted-refused at s more x) (told x));
  }

  pub going_on : {o : Progress} {n : ℕ} {ids' : List ℕ} → ids' ≡ ids → a ≡ Ok (o, n) → Going count t' ids' counts' more o
  going_on i e =
      let x = told e in
      let n = next-bytes at s b x.1 in
      record {
        ids-clear = i ∙ g.ids-clear;
        counts-clear = (y at steps_on).1;
        reached = record {
          s = g.reached.s ++ n.bytes;
          bytes = bytes-append g.reached.s n.bytes g.reached.bytes n.are-bytes;
          v = x.0;
          carries = x.2;
          number = omega (arith, g.reached.number, n.number, h);
          same = λ rest. ap (counted_from count (no_records by_one)) (append_assoc g.reached.s n.bytes rest) ∙ onward (n.bytes ++ rest) ∙ n.on more rest;
        };
      }

-- all are taken, and some bytes follow
pub going_end : {count : ℕ} {t ids counts : List ℕ} {left : ℕ} {q : Progress} → Going count t ids counts left q → left ≡ 0 → (d e : List ℕ) (r : Result ℕ SheetError) → Ended t q d e r
    → SheetCounted (counted_from count (no_records by_one)) d e r
going_end {count} g h d e r y =
    let x = g.reached in
    let same : counted_from 0 x.v y.s ≡ counted_from count (no_records by_one) (x.s ++ y.s) = sym (x.same y.s ∙ ap (λ (n : ℕ). counted_from n x.v y.s) h) in
    record {
      s = x.s ++ y.s;
      bytes = bytes-append x.s y.s x.bytes y.bytes;
      answered = subst (Answered (told_sheet r) d e) same (y.answered x.v x.carries);
    }
