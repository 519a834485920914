-- The tally of a sheet, by cases, as the code answers it.
use Rattle.std.proofs.Common.{◌≡◌, ℕ, ◌≤◌, Bool, true, false, cond, leb, List, length, drop, sym, refl, subst, arith, leb-true}
use mathlib.Core.Option.{none}
use Rattle.wire.specs.Bytes.{Bytes, bytes_drop}
use Rattle.wire.specs.Read.{done, Misread, at_place}
use Rattle.wire.specs.Answer.{Answer, good, refusal, plain, bad_part, parts_misfit, map_answer, then_answer, Answered, Matches}
use Rattle.wire.proofs.Answers.{no-good}
use Rattle.position.specs.declared.part.Part.{Part}
use Rattle.position.specs.Parts.{good_part}
use Rattle.meter.specs.Standing.{nodes_in}
use Rattle.meter.specs.Counting.{tally_of, by_one}
use Rattle.sheet.specs.Sheet.{sheet_head, records_from, sheet_of}
use Rattle.meter.specs.SheetTally.{fitted_sheet, tally_sheet_of}
use Rattle.meter.specs.Streaming.{State, no_records, start_of}
use Rattle.meter.specs.Progress.{Carries, begun, Refuses}
use Rattle.meter.specs.SheetTold.{answer_from, Numbered, told_sheet, told_sheet_error, SheetPut}
use Rattle.meter.specs.declared.stream.Progress.{Progress}
use Rattle.sheet.proofs.RecordSteps.{sheet-misframed, sheet-on}
use Rattle.sheet.proofs.SheetTaken.{head_ok, records-valid}
use Rattle.meter.proofs.Streaming.{then_same, finishing, finishing-first}
use Rattle.meter.proofs.Taking.{refusal-as, refuses-lent, refuses-on}
use Rattle.std.specs.Prelude.{Err, Result}
use Rattle.meter.specs.declared.answer.SheetError.{SheetError}
use Rattle.meter.specs.declared.answer.SheetError.TheVariants as sheet_errors

-- the tally of the sheet's blocks
abbrev pub blocks_tally : Part → List ℕ → ℕ → Answer (List ℕ)
blocks_tally p s room = then_answer (sheet_of s) λ l. fitted_sheet by_one room (tally_of by_one (nodes_in p l)) (length l)

-- ---- the head, then the records
module _ (p : Part) (s : List ℕ) (d : List ℕ) where
  pub put-headless : Misread (sheet_head.read s) → SheetPut p s d d (Err (sheet_errors.Malformed 0))
  put-headless (at_place e h) = rw (sheet-misframed s h) (refl, refl)

  module _ (b : Bytes s) {n k : ℕ} (h : sheet_head.read s ≡ done n k) where
    pub head-number : Numbered (no_records by_one) n
    head-number = omega (arith, head_ok n (sheet_head.backward s n k b h).ok)

    pub from-head : (room : ℕ) → blocks_tally p s room ≡ answer_from p room (no_records by_one) n (drop k s)
    from-head room =
        rw (sheet-on s h)
        (then_same (records_from n 0 none (drop k s)) (λ l. fitted_sheet by_one room (tally_of by_one (nodes_in p l)) (length l)) (finishing by_one p room (no_records by_one))
        (λ l g. sym (finishing-first by_one p room l (records-valid n 0 none (drop k s) l (bytes_drop k s b) g))))

    pub put-records : {e : List ℕ} (r : Result ℕ SheetError) → Answered (told_sheet r) d e (answer_from p (length d) (no_records by_one) n (drop k s)) → SheetPut p s d e r
    put-records r g = rw (from-head (length d)) g

-- ---- the part and the buffers
refused-back : {n r o : ℕ} (x : Answer (State by_one)) → ◌≡◌ {A = Answer Progress} (refusal n r o) (map_answer (λ (_ : State by_one). begun) x) → x ≡ refusal n r o
refused-back (good v) h = no-good h
refused-back (refusal a b c) h = refusal-as (sym h)

start-refuses : (e : SheetError) (x : Answer (State by_one)) → ◌≡◌ {A = Answer Progress} (told_sheet_error e) (map_answer (λ (_ : State by_one). begun) x) → Refuses (told_sheet_error e) x
start-refuses sheet_errors.BadPart x h = refused-back x h
start-refuses sheet_errors.Misfit x h = refused-back x h
start-refuses (sheet_errors.Malformed i) x h = refused-back x h
start-refuses (sheet_errors.Record f i) x h = refused-back x h
start-refuses (sheet_errors.NoRoom i) x h = refused-back x h
start-refuses (sheet_errors.TooMany i) x h = refused-back x h

module _ (p : Part) (s d : List ℕ) (spare : ℕ) where
  abbrev whole : Answer (List ℕ)
  whole = tally_sheet_of by_one s p (length d) spare

  -- a refusal of start is the sheet's
  refused-whole : {n r o : ℕ} → start_of by_one p (length d) spare ≡ refusal n r o → whole ≡ refusal n r o
  unfolding start_of tally_sheet_of
  refused-whole {n} {r} {o} h = go (good_part p) (leb (length d) spare) h
    where
      go : (a b : Bool) → cond a (cond b (good (no_records by_one)) (plain parts_misfit)) (plain bad_part) ≡ refusal n r o
          → cond a (cond b (blocks_tally p s (length d)) (plain parts_misfit)) (plain bad_part) ≡ refusal n r o
      go true true e = no-good (sym e)
      go true false e = refusal-as e
      go false b e = refusal-as e

  pub sheet-stop : (e : SheetError) → ◌≡◌ {A = Answer Progress} (told_sheet_error e) (map_answer (λ (_ : State by_one). begun) (start_of by_one p (length d) spare)) → Answered (told_sheet_error e) d d whole
  sheet-stop e h = refuses-lent d (told_sheet_error e) whole (refuses-on (told_sheet_error e) _ whole (λ n r o. refused-whole) (start-refuses e _ h))

  -- it is started
  pub record Begun (t : List ℕ) (q : Progress) : Type 0 where
    pub carries : Carries t q (no_records by_one)
    pub fits : length d ≤ spare
    pub same : whole ≡ blocks_tally p s (length d)

  pub start-begun : (t : List ℕ) (q : Progress) → Matches (Carries t) (good q) (start_of by_one p (length d) spare) → Begun t q
  unfolding start_of tally_sheet_of
  start-begun t q (w, e, c) = go (good_part p) (leb (length d) spare) refl refl e
    where
      go : (a b : Bool) → good_part p ≡ a → leb (length d) spare ≡ b → cond a (cond b (good (no_records by_one)) (plain parts_misfit)) (plain bad_part) ≡ good w → Begun t q
      go true true f g h =
          let z : w ≡ no_records by_one = cc in
          record { carries = subst (Carries t q) z c; fits = leb-true _ _ g; same = rw (f, g) }
      go true false f g h = no-good h
      go false b f g h = no-good h

  pub sheet-put : {t e : List ℕ} {q : Progress} (r : Result ℕ SheetError) → Matches (Carries t) (good q) (start_of by_one p (length d) spare)
      → (Carries t q (no_records by_one) → length d ≤ spare → SheetPut p s d e r) → Answered (told_sheet r) d e whole
  sheet-put {t} {q = q} r g f = let k = start-begun t q g in rw k.same (f k.carries k.fits)
