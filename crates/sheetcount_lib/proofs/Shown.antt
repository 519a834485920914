-- What is printed of an answer.
use Prim.Native.Nat.{ℕ, ◌≤◌}
use mathlib.Core.Path.{◌≡◌, ap, sym, subst, ◌∙◌}
use mathlib.Core.List.{List, ◌++◌}
use native.Mathlib.Omega.{arith}
use lib.ListN.{length, take, drop, length-append}
use lib.Seq.{take-append_seam}
use Rattle.wire.specs.Bytes.{Bytes}
use Rattle.wire.specs.Answer.{Answer, good, refusal, map_answer, lent}
use Rattle.wire.proofs.Answers.{no-good, map-good}
use Rattle.report.specs.Text.{refusal_text, tally_text_of, printed}
use Rattle.report.specs.Told.{told_text, length_put}
use Rattle.report.proofs.Shorts.{tally-text-fits}
use Rattle.meter.specs.Counting.{by_one}
use Rattle.meter.specs.SheetTold.{told_sheet}
use Rattle.meter.specs.Theorems.{whole-sheet}
use Rattle.sheetcount_lib.specs.Program.{everything, max_tally_length, sheetcount_of}
use Rattle.meter.proofs.Exactness.{told-tallied, is-tally}
use Rattle.sheetcount_lib.proofs.Sheetcount.{sheetcount}
use Rattle.sheetcount_lib.specs.Reading.{CountedAs}
use Rattle.sheetcount_lib.specs.Printing.{max_text_length, TextIs, Shows}
use Rattle.std.specs.Prelude.{Ok, Err, Result}
use Rattle.report.specs.declared.text.TextError.{TextError}
use Rattle.meter.specs.declared.answer.SheetError.{SheetError}
use Rattle.report.specs.declared.text.TextError.TheVariants as text_errors

length-told : (a : Result ℕ TextError) (n : ℕ) → told_text a ≡ good n → length_put a ≡ n
length-told (Ok m) n h = cc
length-told (Err text_errors.Malformed) n h = no-good h
length-told (Err text_errors.NoRoom) n h = no-good h

-- a text that was put stands at the front
pub shown : (a : Result ℕ TextError) (r : ℕ) (y : Answer (List ℕ)) (x before after : List ℕ) → y ≡ good x → r ≡ length_put a → told_text a ≡ map_answer length y → after ≡ lent y before → TextIs r after x
shown a r y x before after e z t l =
    let size : r ≡ length x = z ∙ length-told a (length x) (t ∙ ap (map_answer length) e) in
    let front : after ≡ x ++ drop (length x) before = l ∙ ap (λ (b : Answer (List ℕ)). lent b before) e in
    rw (front, size) (record { inside = rw length-append (omega arith); same = take-append_seam x (drop (length x) before) })

-- ---- a refusal
printed-refusal : (x : Answer (List ℕ)) {n i o : ℕ} → refusal n i o ≡ map_answer length x → printed x ≡ refusal_text n i
unfolding printed
printed-refusal (good t) h = no-good h
printed-refusal (refusal a b c) {n} {i} {o} h = let p : n ≡ a = cc in let q : i ≡ b = cc in rw (p, q)

pub refused-shown : {out : List ℕ} {answer : Result ℕ SheetError} (c : CountedAs out answer) {n i o : ℕ} (r : ℕ) (text : List ℕ) → told_sheet answer ≡ refusal n i o → TextIs r text (refusal_text n i) → Shows r text c.into.s
refused-shown c r text e b = subst (TextIs r text) (sym (printed-refusal (sheetcount_of c.into.s) (sym e ∙ c.into.answered.0))) b

-- ---- a tally
-- what was counted, and where it stands
pub record TallyAtFront (out : List ℕ) (n : ℕ) (s : List ℕ) : Type 0 where
  pub t : List ℕ
  pub good-tally : sheetcount_of s ≡ good t
  pub size : length t ≡ n
  pub inside : n ≤ length out
  pub front : take n out ≡ t

stands : (t before out : List ℕ) (n : ℕ) → length t ≡ n → out ≡ t ++ drop (length t) before → (n ≤ length out) × (take n out ≡ t)
stands t before out n l e = rw (e, sym l) (rw length-append (omega arith), take-append_seam t (drop (length t) before))

pub counted : {out : List ℕ} {answer : Result ℕ SheetError} (c : CountedAs out answer) {n : ℕ} → told_sheet answer ≡ good n → TallyAtFront out n c.into.s
counted {out} c {n} e =
    let x = map-good length (sheetcount_of c.into.s) n (sym c.into.answered.0 ∙ e) in
    let y = stands x.0 c.before out n x.2 (c.into.answered.1 ∙ ap (λ (a : Answer (List ℕ)). lent a c.before) x.1) in
    record { t = x.0; good-tally = x.1; size = x.2; inside = y.0; front = y.1 }

-- its text fits
text-fits : (s t : List ℕ) → Bytes s → sheetcount_of s ≡ good t → tally_text_of max_text_length t ≡ good (printed (sheetcount_of s))
unfolding printed
text-fits s t b h =
    let y = told-tallied by_one (whole-sheet s max_tally_length) everything max_tally_length t b (sheetcount.tallied s t b h) in
    let k = is-tally by_one b y in
    tally-text-fits max_text_length t k (omega (arith, y.can.fits.1, ap length y.bytes)) ∙ rw (h, k.1.1)

pub tally-shown : {out : List ℕ} {answer : Result ℕ SheetError} (c : CountedAs out answer) {n : ℕ} (h : told_sheet answer ≡ good n) (a : Result ℕ TextError) (r : ℕ) (old text : List ℕ) → length old ≡ max_text_length → r ≡ length_put a
    → told_text a ≡ map_answer length (tally_text_of (length old) (take n out)) → text ≡ lent (tally_text_of (length old) (take n out)) old → Shows r text c.into.s
tally-shown c h a r old text l z t e =
    let x = counted c h in
    shown a r (tally_text_of (length old) _) (printed (sheetcount_of c.into.s)) old text (rw (l, x.front) (text-fits c.into.s x.t c.into.bytes x.good-tally)) z t e
