-- The start, the head, the records and the end, put together.
use Prim.Native.Nat.{ℕ, ◌<◌, ◌^◌}
use mathlib.Core.Path.{◌≡◌, refl, ap, sym, subst, subst⁻¹, ◌∙◌}
use mathlib.Core.List.{List, ◌++◌}
use mathlib.Core.Option.{none}
use Rattle.wire.specs.Bytes.{Bytes, bytes-append}
use Rattle.wire.specs.Answer.{Answer, good, map_answer, Answered}
use Rattle.wire.proofs.Answers.{no-good}
use Rattle.wire.specs.Read.{to_option, to_option-none, Misread, at_place}
use Rattle.position.specs.Keys.{between}
use Rattle.position.specs.Lots.{axis}
use Rattle.meter.specs.Counting.{by_one}
use Rattle.meter.specs.Streaming.{State, no_records, start_of}
use Rattle.sheet.specs.Sheet.{sheet_head}
use Rattle.meter.specs.Progress.{Carries, begun, told_start}
use Rattle.meter.specs.SheetTold.{told_sheet}
use Rattle.sheetcount_lib.specs.Program.{everything, max_tally_length, counted_from, sheetcount_of}
use Rattle.meter.specs.declared.stream.Progress.{Progress}
use Rattle.sheet.proofs.SheetTaken.{ok-head}
use Rattle.meter.proofs.Carried.{begun-carried}
use Rattle.sheetcount_lib.proofs.Nexts.{no-tally}
use Rattle.sheetcount_lib.proofs.Sheetcount.{behind-head, headless}
use Rattle.sheetcount_lib.specs.Reading.{SheetCounted, IfRead}
use Rattle.sheetcount_lib.specs.declared.reading.CountError.{CountError}
use Rattle.sheetcount_lib.specs.declared.reading.CountError.TheVariants as count_errors
use Rattle.std.specs.Prelude.{Option, None, Ok, Err, Result, ok_or}
use Rattle.meter.specs.declared.answer.SheetError.{SheetError}
use Rattle.meter.specs.declared.answer.SheetError.TheVariants as sheet_errors

-- ---- the start
module _ (room spare : ℕ) (r : room ≡ max_tally_length) (p : spare ≡ max_tally_length) where
  everything-starts : start_of by_one everything max_tally_length max_tally_length ≡ good (no_records by_one)
  unfolding start_of axis between
  everything-starts = refl

  -- the whole world and all time, with a spare as long as the output, are refused nowhere
  starts-so : {a : Answer Progress} → a ≡ map_answer (λ (_ : State by_one). begun) (start_of by_one everything room spare) → a ≡ good begun
  starts-so h = h ∙ rw (r, p) (ap (map_answer (λ (_ : State by_one). begun)) everything-starts)

  pub never-bad : {C : Type 0} (e : SheetError) → told_start (Err e) ≡ map_answer (λ (_ : State by_one). begun) (start_of by_one everything room spare) → C
  never-bad e h = no-good (sym (no-tally {A = Progress} e).3 ∙ starts-so h)

  pub started : (t : List ℕ) (q : Progress) → good q ≡ map_answer (λ (_ : State by_one). begun) (start_of by_one everything room spare) → Carries t q (no_records by_one)
  started t q h = let e = starts-so h in let same : begun ≡ q = cc in subst (λ (x : Progress). Carries t x (no_records by_one)) same (begun-carried t)

-- ---- the head, the records and the end
-- the head is none
pub counted-headless : (s d : List ℕ) → Bytes s → none ≡ to_option (sheet_head.read s) → SheetCounted sheetcount_of d d (Err (sheet_errors.Malformed 0))
counted-headless s d b e = go (to_option-none (sheet_head.read s) e)
  where
    go : Misread (sheet_head.read s) → SheetCounted sheetcount_of d d (Err (sheet_errors.Malformed 0))
    go (at_place p h) = record { s = s; bytes = b; answered = rw (headless s h) (refl, refl) }

-- what is counted behind the head of a sheet that states n records is what the program makes of the sheet
pub counted-behind : (n : ℕ) → n < 256 ^ 4 → {d e : List ℕ} (r : Result ℕ SheetError) → SheetCounted (counted_from n (no_records by_one)) d e r → SheetCounted sheetcount_of d e r
counted-behind n h {d} {e} r x = record {
  s = sheet_head.encode n ++ x.s;
  bytes = bytes-append (sheet_head.encode n) x.s (sheet_head.bytes n (ok-head n h)) x.bytes;
  answered = subst⁻¹ (Answered (told_sheet r) d e) (behind-head n x.s h) x.answered;
}

-- ---- unless a read failed
pub if-read : {P Q : Result ℕ SheetError → Type 0} → ((r : Result ℕ SheetError) → P r → Q r) → (a : Result ℕ CountError) → IfRead P a → IfRead Q a
if-read f (Ok n) x = f (Ok n) x
if-read f (Err (count_errors.Sheet e)) x = f (Err e) x
if-read f (Err (count_errors.Read e)) x = tt

-- the error that `?` hands on behind `ok_or`
pub none-error : {A : Type 0} {o : Option A} {e w : SheetError} → Err w ≡ ok_or o e → o ≡ None → w ≡ e
none-error {A} {o} {e} {w} v n =
    let u : ◌≡◌ {A = Result A SheetError} (Err w) (Err e) = rw n at v in
    cc
