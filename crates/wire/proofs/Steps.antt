-- One law for each way on, of each way to make a format: what a proof about code cites.
use Prim.Native.Nat.{ℕ, suc, ◌+◌, ◌*◌, ◌^◌, ◌<◌, ◌≤◌}
use mathlib.Core.Path.{◌≡◌, refl, ap, sym, ◌∙◌}
use mathlib.Core.List.{List}
use mathlib.Core.Bool.{Bool, true, false, cond}
use native.Mathlib.Nat.{pow-suc, pow-le-pow_right, lt_of_lt_of_le}
use native.Mathlib.Numerals.{add-one}
use native.Mathlib.Omega.{arith}
use lib.Dec.{leb, lit<}
use lib.IntN.{ℤ}
use lib.ListN.{length, get_or, take, drop}
use lib.Seq.{drop-cons}
use borrow.Author.Tests.{le-leb, lt-leb}
use Rattle.wire.specs.Bytes.{from_be}
use Rattle.wire.specs.Read.{Read, done, refused, bind, map_read, shift, with_fault}
use Rattle.wire.specs.Format.{Format, run, refine, ◌⨾◌, next, iso, pair}
use Rattle.wire.specs.Formats.{number, signed, signed_of, prefixed, behind, mark}
use Rattle.wire.specs.Marks.{starts, starts-long, starts-take}
use Rattle.std.specs.Prelude.{Option, Some, None, Result, Ok, Err}
use Rattle.wire.specs.Told.{Short, short, told_number, told_run}
use Rattle.wire.specs.declared.fields.EndsAt.{EndsAt}

-- ---- a number, byte by byte
pub from_be-on : (v : ℕ) (s : List ℕ) (i : ℕ) → i < length s → from_be v (drop i s) ≡ from_be (v * 256 + get_or s i 0) (drop (i + 1) s)
from_be-on v s i h = rw (drop-cons s i 0 h, add-one)

pub digit-below : (n : ℕ) {v b : ℕ} → v < 256 ^ n → b < 256 → v * 256 + b < 256 ^ suc n
digit-below n hv hb = rw pow-suc (omega arith)

-- seven bytes and one more are a u64
pub digit-fits : (n : ℕ) {v b : ℕ} → n < 8 → v < 256 ^ n → b < 256 → v * 256 + b < 2 ^ 64
digit-fits n h hv hb = lt_of_lt_of_le (digit-below n hv hb) (pow-le-pow_right {n = 256} (lit< tt) {j = 8} h)

module _ {E : Type 0} (ends : E) where
  -- ---- runs and numbers
  pub run-done : (n : ℕ) (s : List ℕ) → n ≤ length s → (run {ends = ends} n).read s ≡ done (take n s) n
  unfolding run
  run-done n s h = simp (le-leb _ _ h)

  pub run_ends : (n : ℕ) (s : List ℕ) → length s < n → (run {ends = ends} n).read s ≡ refused ends 0
  unfolding run
  run_ends n s h = simp (lt-leb _ _ h)

  pub number-done : (k : ℕ) (s : List ℕ) → k ≤ length s → (number {ends = ends} k).read s ≡ done (from_be 0 (take k s)) k
  unfolding number iso
  number-done k s h = rw (run-done k s h)

  pub number-ends : (k : ℕ) (s : List ℕ) → length s < k → (number {ends = ends} k).read s ≡ refused ends 0
  unfolding number iso
  number-ends k s h = rw (run_ends k s h)

  pub prefixed-done : (k : ℕ) (s : List ℕ) {n m : ℕ} → (number {ends = ends} k).read s ≡ done n m → n ≤ length (drop m s)
      → (prefixed {ends = ends} k).read s ≡ done (take n (drop m s)) (m + n)
  unfolding prefixed iso ◌⨾◌
  prefixed-done k s h f = rw (h, run-done _ _ f)

  pub prefixed-ends : (k : ℕ) (s : List ℕ) {n m : ℕ} → (number {ends = ends} k).read s ≡ done n m → length (drop m s) < n
      → (prefixed {ends = ends} k).read s ≡ refused ends (m + 0)
  unfolding prefixed iso ◌⨾◌
  prefixed-ends k s h f = rw (h, run_ends _ _ f)

  pub prefixed-refused : (k : ℕ) (s : List ℕ) {e : E} {p : ℕ} → (number {ends = ends} k).read s ≡ refused e p → (prefixed {ends = ends} k).read s ≡ refused e p
  unfolding prefixed iso ◌⨾◌
  prefixed-refused k s h = rw h

  -- ---- marks
  module _ {A : Type 0} (m : List ℕ) (e : E) (f : Format E ends A) (s : List ℕ) where
    pub mark-done : {r : Read E A} → starts m s ≡ true → f.read (drop (length m) s) ≡ r → (mark m e f).read s ≡ shift (length m) (λ a. a) r
    unfolding behind iso ◌⨾◌ refine
    mark-done {r = done a n} h k = rw (run-done (length m) s (starts-long m s h), starts-take m s, h, k)
    mark-done {r = refused k₁ p} h k = rw (run-done (length m) s (starts-long m s h), starts-take m s, h, k)

    pub mark-fails : length m ≤ length s → starts m s ≡ false → (mark m e f).read s ≡ refused e 0
    unfolding behind iso ◌⨾◌ refine
    mark-fails l h = rw (run-done (length m) s l, starts-take m s, h)

    pub mark-ends : length s < length m → (mark m e f).read s ≡ refused ends 0
    unfolding behind iso ◌⨾◌ refine
    mark-ends l = rw (run_ends (length m) s l)

-- ---- what a leaf told, in the case that the code is in
pub told-as : {R A : Type 0} {x y : R} (told : R → A) {z : A} → told x ≡ z → x ≡ y → told y ≡ z
told-as told e g = sym (ap told g) ∙ e

-- ---- what a leaf was told, with the fault that its caller gives
module _ {E : Type 0} (ends : E) where
  run-blamed : (n : ℕ) (s : List ℕ) → (run {ends = ends} n).read s ≡ with_fault ends ((run {ends = short} n).read s)
  unfolding run
  run-blamed n s = go (leb n (length s))
    where
      go : (b : Bool) → cond b (done (take n s) n) (refused ends 0) ≡ with_fault ends (cond b (done (take n s) n) (refused short 0))
      go true = refl
      go false = refl

  map-blamed : {A B : Type 0} (f : A → B) (r : Read Short A) → map_read f (with_fault ends r) ≡ with_fault ends (map_read f r)
  map-blamed f (done a n) = refl
  map-blamed f (refused e p) = refl

  number-blamed : (k : ℕ) (s : List ℕ) → (number {ends = ends} k).read s ≡ with_fault ends ((number {ends = short} k).read s)
  unfolding number iso
  number-blamed k s = rw (run-blamed k s) (map-blamed (from_be 0) ((run {ends = short} k).read s))

  pub number-told : (k : ℕ) (s : List ℕ) {r : Read Short ℕ} → r ≡ (number {ends = short} k).read s → (number {ends = ends} k).read s ≡ with_fault ends r
  number-told k s h = rw h (number-blamed k s)

  pub signed-told : (k half : ℕ) (h : 256 ^ k ≡ half + half) (s : List ℕ) {r : Read Short ℤ} → r ≡ (signed {ends = short} k half h).read s
      → (signed {ends = ends} k half h).read s ≡ with_fault ends r
  unfolding signed iso
  signed-told k half h s e = rw (e, number-blamed k s) (map-blamed (signed_of half) ((number {ends = short} k).read s))

  prefixed-by : (s : List ℕ) (r : Read Short ℕ) → bind (with_fault ends r) (next (run {ends = ends}) s) ≡ with_fault ends (bind r (next (run {ends = short}) s))
  prefixed-by s (done n m) = rw (run-blamed n (drop m s)) (go ((run {ends = short} n).read (drop m s)))
    where
      go : (r : Read Short (List ℕ)) → shift m (pair n) (with_fault ends r) ≡ with_fault ends (shift m (pair n) r)
      go (done a i) = refl
      go (refused e p) = refl
  prefixed-by s (refused e p) = refl

  pub prefixed-told : (k : ℕ) (s : List ℕ) {r : Read Short (List ℕ)} → r ≡ (prefixed {ends = short} k).read s → (prefixed {ends = ends} k).read s ≡ with_fault ends r
  unfolding prefixed iso ◌⨾◌
  prefixed-told k s h = rw (h, number-blamed k s, prefixed-by s ((number {ends = short} k).read s)) (map-blamed _ (bind ((number {ends = short} k).read s) (next (run {ends = short}) s)))

-- ---- what `number_at` and `run_at` told, in each case of their answers
module _ {E : Type 0} (ends : E) (k : ℕ) (s : List ℕ) where
  module _ {r : Option ℕ} (t : told_number k r ≡ (number {ends = short} k).read s) where
    pub number-some : {v : ℕ} → r ≡ Some v → (number {ends = ends} k).read s ≡ done v k
    number-some e = number-told ends k s (told-as (told_number k) t e)

    pub number-none : r ≡ None → (number {ends = ends} k).read s ≡ refused ends 0
    number-none e = number-told ends k s (told-as (told_number k) t e)

  module _ (half : ℕ) (h : 256 ^ k ≡ half + half) {r : Option ℤ} (t : told_number k r ≡ (signed {ends = short} k half h).read s) where
    pub signed-some : {z : ℤ} → r ≡ Some z → (signed {ends = ends} k half h).read s ≡ done z k
    signed-some e = signed-told ends k half h s (told-as (told_number k) t e)

    pub signed-none : r ≡ None → (signed {ends = ends} k half h).read s ≡ refused ends 0
    signed-none e = signed-told ends k half h s (told-as (told_number k) t e)

  module _ {r : Result ℕ EndsAt} (t : told_run k s r ≡ (prefixed {ends = short} k).read s) where
    pub prefixed-ok : {n : ℕ} → r ≡ Ok n → (prefixed {ends = ends} k).read s ≡ done (take n (drop k s)) (k + n)
    prefixed-ok e = prefixed-told ends k s (told-as (told_run k s) t e)

    pub prefixed-err : {p : EndsAt} → r ≡ Err p → (prefixed {ends = ends} k).read s ≡ refused ends p.0
    prefixed-err e = prefixed-told ends k s (told-as (told_run k s) t e)
