-- What merging answers, and what it leaves in the buffer.
use Prim.Native.Nat.{ℕ, ◌+◌, ◌-◌, ◌<◌, ◌≤◌}
use mathlib.Core.Path.{◌≡◌, refl, ap, sym, ◌∙◌}
use mathlib.Core.Bool.{true, false}
use mathlib.Core.List.{List, ◌++◌}
use mathlib.Core.Logic.{inl, inr}
use native.Mathlib.Nat.{zero-add}
use native.Mathlib.Omega.{arith}
use lib.Dec.{leb}
use lib.ListN.{length, take, drop, length-drop}
use lib.Seq.{drop-drop}
use borrow.Author.Tests.{le-leb, lt-leb}
use borrow.Rule.Slice.PartMut.{put_mid}
use Rattle.wire.specs.Answer.{plain, tally_malformed, Answered}
use Rattle.wire.proofs.Tests.{yes_and, and_no}
use Rattle.wire.proofs.Lists.{rest-is}
use Rattle.wire.specs.Store.{overwrite, stored}
use Rattle.wire.proofs.Overwrites.{overwrite-length, overwrite-two, stored-fits, part-back}
use Rattle.tally.specs.Rows.{Rows, plus}
use Rattle.tally.specs.Tally.{head_bytes, tally, limited, countable, ones, one, max_rows}
use Rattle.tally.specs.Operations.{check_of, merge_of}
use Rattle.tally.specs.Told.{told_merge}
use Rattle.tally.specs.Walks.{rows_bytes}
use Rattle.tally.specs.Sums.{MeasuredRows, MeasuredAs, SumPut, MergedAs}
use Rattle.tally.specs.declared.merge.SumSize.{SumSize}
use Rattle.tally.specs.declared.merge.TooMany.{TooMany}
use Rattle.tally.proofs.Held.{tally-bytes, head-size, tally-size, Opened}
use Rattle.tally.proofs.Checks.{Checked, unchecked}
use Rattle.tally.proofs.Fitting.{many-answered, room-answered, good-answered, merge-first, merge-second, merge-both}
use Rattle.std.specs.Prelude.{Ok, Err, Result}
use Rattle.std.specs.Result.{is_ok, result_ok, MatchResult}
use Rattle.std.proofs.lemmas.Option.{same_Some}
use Rattle.wire.specs.Choice.{no_true}
use Rattle.tally.specs.declared.merge.MergeError.{MergeError}
use Rattle.tally.specs.declared.merge.MergeError.TheVariants as merge_errors

-- ---- a sum that was measured
module _ {A B : Rows ones} {rows size : ℕ} (m : MeasuredRows rows size A B) where
  measured-size : length ((tally one).encode (plus ones A B)) ≡ size + 9
  measured-size = omega (arith, tally-size one (plus ones A B), m.sized)

  measured-fits : rows ≤ max_rows → countable one (plus ones A B) ≡ true
  measured-fits h = yes_and m.fits (le-leb (length (plus ones A B)) max_rows (omega (arith, m.counts)))

  measured-many : max_rows < rows → countable one (plus ones A B) ≡ false
  measured-many h = and_no (limited one (plus ones A B)) _ (inr (lt-leb (length (plus ones A B)) max_rows (omega (arith, m.counts))))

-- ---- what merging rows answers, by what was measured
-- what is put into a slice that goes to the end, in the whole
part-overwrite : (n : ℕ) (w t ys : List ℕ) → n + length w ≤ length t → ys ≡ overwrite 0 w (drop n t) → put_mid n (length t - n) t ys ≡ overwrite n w t
part-overwrite n w t ys h e = part-back n t ys (omega arith) ∙ ap (λ (z : List ℕ). take n t ++ z) (e ∙ rw (zero-add, drop-drop (length w) n t))

pub merged-many : (a b d : List ℕ) (r : Result SumSize TooMany) → false ≡ is_ok r → MeasuredAs a b r → MergedAs a b d d (Err merge_errors.TooMany)
merged-many a b d (Ok s) e m = no_true e
merged-many a b d (Err t) e m = λ A B p q. many-answered one d (plus ones A B) (and_no _ (leb (length (plus ones A B)) max_rows) (inl (m A B p q)))

-- what was measured, where the code was told a size
module _ (a b d : List ℕ) (s : SumSize) (r : Result SumSize TooMany) (c : MatchResult r (λ x. ◌≡◌ {A = Result SumSize MergeError} (Ok s) (Ok x)) (λ e. ⊥)) (told : MeasuredAs a b r) where
  measured-as : (r : Result SumSize TooMany) → MatchResult r (λ x. ◌≡◌ {A = Result SumSize MergeError} (Ok s) (Ok x)) (λ e. ⊥) → MeasuredAs a b r → MeasuredAs a b (Ok s)
  measured-as (Ok x) e m = rw (same_Some _ _ (ap result_ok e)) m
  measured-as (Err t) e m = absurd e

  m : MeasuredAs a b (Ok s)
  m = measured-as r c told

  pub merged-rows : max_rows < s.rows → MergedAs a b d d (Err merge_errors.TooMany)
  merged-rows h A B p q = many-answered one d (plus ones A B) (measured-many (m A B p q) h)

  module _ (h : s.rows ≤ max_rows) where
    pub merged-room : length d < s.size + 9 → MergedAs a b d d (Err merge_errors.NoRoom)
    merged-room k A B p q = let n = m A B p q in room-answered one d (plus ones A B) (measured-fits n h) (omega (arith, measured-size n))

    -- t is the buffer with the head, and ys are its bytes behind the head with the s.rows
    pub merged-all : (t ys : List ℕ) → s.size + 9 ≤ length d → t ≡ stored 0 (head_bytes one s.rows) d → SumPut a b (take (length t - 9) (drop 9 t)) ys
        → MergedAs a b d (put_mid 9 (length t - 9) t ys) (Ok (s.size + 9))
    merged-all t ys k e put A B p q =
        let n = m A B p q in
        let T = plus ones A B in
        let H = head_bytes one s.rows in
        let w = rows_bytes one T in
        let head : t ≡ overwrite 0 H d = e ∙ stored-fits 0 H d (omega (arith, head-size one s.rows)) in
        let long : length t ≡ length d = ap length head ∙ overwrite-length 0 H d (omega (arith, head-size one s.rows)) in
        let room : 9 + length w ≤ length t = omega (arith, n.sized) in
        let overwrites : ys ≡ overwrite 0 w (drop 9 t) = (rw (rest-is 9 t) at put) A B record { left = p; right = q; limit = n.fits; room = rw length-drop (omega arith) } in
        let whole : H ++ w ≡ (tally one).encode T = ap (λ (i : ℕ). head_bytes one i ++ w) n.counts ∙ sym (tally-bytes one T) in
        let all = part-overwrite 9 w t ys room overwrites ∙ ap (overwrite 9 w) head ∙ overwrite-two 0 H w d (omega arith) ∙ ap (λ (u : List ℕ). overwrite 0 u d) whole in
        good-answered one d T (measured-fits n h) (measured-size n) k (all ∙ rw (zero-add, measured-size n))

-- ---- two tallies
module _ (a b d : List ℕ) where
  pub first-bad : plain tally_malformed ≡ check_of one a → Answered (told_merge (Err merge_errors.Malformed)) d d (merge_of one (length d) a b)
  first-bad h = rw (merge-first one (length d) a b (unchecked one a h)) (refl, refl)

  pub second-bad : {n : ℕ} → Checked one a n → plain tally_malformed ≡ check_of one b → Answered (told_merge (Err merge_errors.Malformed)) d d (merge_of one (length d) a b)
  second-bad x h = rw (merge-second one (length d) a b x.is (unchecked one b h)) (refl, refl)

  pub both-good : {after : List ℕ} (r : Result ℕ MergeError) {n m : ℕ} (x : Checked one a n) (y : Checked one b m) → Opened one a x.l → Opened one b y.l
      → MergedAs (take (length a - 9) (drop 9 a)) (take (length b - 9) (drop 9 b)) d after r → Answered (told_merge r) d after (merge_of one (length d) a b)
  both-good r x y p q m = rw (merge-both one (length d) a b x.is y.is) ((rw (rest-is 9 a, rest-is 9 b) at m) x.l y.l p.holds q.holds)
