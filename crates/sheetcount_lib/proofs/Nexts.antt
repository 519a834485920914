-- A record that the program takes, and the end of its input, as the code told them.
use Prim.Native.Nat.{ℕ, ◌<◌}
use mathlib.Core.Path.{◌≡◌, refl, ap, sym, subst, subst⁻¹, ◌∙◌}
use mathlib.Core.List.{List}
use lib.ListN.{length}
use Rattle.wire.specs.Answer.{Answer, good, refusal, sheet_malformed, Answered}
use Rattle.meter.specs.Counting.{by_one}
use Rattle.meter.specs.Streaming.{State, take_of, finish_of}
use Rattle.meter.specs.Progress.{Carries, Steps, Refuses}
use Rattle.meter.specs.SheetTold.{told_sheet, told_sheet_error}
use Rattle.sheetcount_lib.specs.Program.{everything, max_tally_length, block_length_of, next_of, counted_from}
use Rattle.meter.specs.declared.stream.Progress.{Progress}
use Rattle.meter.proofs.Taking.{refuses-lent, StepTold}
use Rattle.sheetcount_lib.proofs.Sheetcount.{next-unread, next-take, counted-more, counted_none}
use Rattle.std.specs.Prelude.{Err, Result}
use Rattle.meter.specs.declared.answer.SheetError.{SheetError}
use Rattle.meter.specs.declared.answer.SheetError.TheVariants as sheet_errors

-- ---- an error is a refusal
pub no-tally : {A : Type 0} (e : SheetError) → (n : ℕ) × (i : ℕ) × (o : ℕ) × (told_sheet_error {A = A} e ≡ refusal n i o)
no-tally sheet_errors.BadPart = (_, _, _, refl)
no-tally sheet_errors.Misfit = (_, _, _, refl)
no-tally (sheet_errors.Malformed i) = (_, _, _, refl)
no-tally (sheet_errors.Record f i) = (_, _, _, refl)
no-tally (sheet_errors.NoRoom i) = (_, _, _, refl)
no-tally (sheet_errors.TooMany i) = (_, _, _, refl)

module _ (w : State by_one) (s : List ℕ) {q : Progress} {ids counts t : List ℕ} (k : Steps ids counts t q w) where
  numbered : block_length_of q.records s ≡ block_length_of w.records s
  numbered = ap (λ (i : ℕ). block_length_of i s) k.carries.records

  -- ---- its block is not to be read
  pub next-stops : (e : SheetError) → told_sheet (Err e) ≡ block_length_of q.records s → StepTold counts t (Err e) (next_of w s)
  next-stops e h =
      let r = no-tally {A = ℕ} e in
      (subst⁻¹ (λ (a : Answer ℕ). Refuses a (next_of w s)) r.3 (next-unread w s (sym (h ∙ numbered) ∙ r.3)), k.counts-clear)

  -- ---- the record was taken or refused
  pub next-told : {n : ℕ} → good n ≡ block_length_of q.records s → (counts' t' : List ℕ) (r : Result (Progress × ℕ) SheetError) → StepTold counts' t' r (take_of by_one everything w s) → StepTold counts' t' r (next_of w s)
  next-told h counts' t' r y = subst⁻¹ (StepTold counts' t' r) (next-take w s (sym (h ∙ numbered))) y

-- ---- the end
-- a byte more
pub ended-more : (w : State by_one) (s d : List ℕ) {t : List ℕ} {q : Progress} → Carries t q w → 0 < length s → Answered (told_sheet (Err (sheet_errors.Malformed q.records))) d d (counted_from 0 w s)
ended-more w s d {q = q} c h = refuses-lent d (refusal sheet_malformed q.records 0) _ (counted-more w s h ∙ ap (λ (i : ℕ). refusal sheet_malformed i 0) (sym c.records))

-- none, and the tally
pub ended : (w : State by_one) (s d e : List ℕ) (r : Result ℕ SheetError) → length s ≡ 0 → length d ≡ max_tally_length → Answered (told_sheet r) d e (finish_of by_one (length d) w) → Answered (told_sheet r) d e (counted_from 0 w s)
ended w s d e r n l f =
    let x : finish_of by_one (length d) w ≡ counted_from 0 w s = ap (λ (n : ℕ). finish_of by_one n w) l ∙ sym (counted_none w s n) in
    subst (Answered (told_sheet r) d e) x f
