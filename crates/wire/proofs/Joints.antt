-- Formats made of others, read: one after the other, tested, listed. One law for each way on.
use Prim.Native.Nat.{ℕ}
use mathlib.Core.Path.{◌≡◌, refl, ap, sym, ◌∙◌}
use mathlib.Core.List.{List}
use mathlib.Core.Bool.{Bool, true}
use lib.ListN.{drop}
use Rattle.wire.specs.Read.{Read, done, refused, bind, map_read, shift, bind_done, cond-done}
use Rattle.wire.specs.Format.{Format, tested, refine, ◌⨾◌, pair, iso, items}
use Rattle.wire.specs.Formats.{◌▹◌, number, listed}

module _ {E : Type 0} {ends : E} {A B : Type 0} (f : Format E ends A) (g : Format E ends B) (s : List ℕ) where
  pub then-refused : {e : E} {p : ℕ} → f.read s ≡ refused e p → (f ▹ g).read s ≡ refused e p
  unfolding ◌⨾◌
  then-refused h = rw h

  pub then-done : {a : A} {n : ℕ} {r : Read E B} → f.read s ≡ done a n → g.read (drop n s) ≡ r → (f ▹ g).read s ≡ shift n (pair a) r
  unfolding ◌⨾◌
  then-done h k = rw (h, k)

pub refine-done : {E : Type 0} {ends : E} {A : Type 0} (test : A → Bool) (e : E) (f : Format E ends A) (s : List ℕ) {a : A} {n : ℕ} → (refine test e f).read s ≡ done a n → f.read s ≡ done a n
unfolding refine
refine-done test e f s {a} {n} h =
    let x = bind_done (f.read s) (tested test e) a n h in
    x.2 ∙ (cond-done (test x.0) (done x.0 x.1) e 0 a n x.3).1

pub refine-passes : {E : Type 0} {ends : E} {A : Type 0} (test : A → Bool) (e : E) (f : Format E ends A) (s : List ℕ) {a : A} {n : ℕ} → (refine test e f).read s ≡ done a n → test a ≡ true
unfolding refine
refine-passes test e f s {a} {n} h =
    let x = bind_done (f.read s) (tested test e) a n h in
    let y = cond-done (test x.0) (done x.0 x.1) e 0 a n x.3 in
    let same : x.0 ≡ a = cc y.1 in
    ap test (sym same) ∙ y.0

-- a test that everything passes
pub refine-all : {E : Type 0} {ends : E} {A : Type 0} (test : A → Bool) (e : E) (f : Format E ends A) (s : List ℕ) → ((a : A) → test a ≡ true) → (refine test e f).read s ≡ f.read s
unfolding refine
refine-all {E} {ends} {A} test e f s t = go (f.read s)
  where
    go : (r : Read E A) → bind r (tested test e) ≡ r
    go (done a n) = rw (t a)
    go (refused k p) = refl

module _ {E : Type 0} {ends : E} {A : Type 0} (k : ℕ) (item : List A → Format E ends A) (s : List ℕ) where
  pub listed-refused : {e : E} {p : ℕ} → (number {ends = ends} k).read s ≡ refused e p → (listed k item).read s ≡ refused e p
  unfolding listed iso ◌⨾◌
  listed-refused h = rw h

  pub listed-done : {count n : ℕ} → (number {ends = ends} k).read s ≡ done count n → (listed k item).read s ≡ shift n (λ l. l) ((items item count).read (drop n s))
  unfolding listed iso ◌⨾◌
  listed-done {count} {n} h = rw h (go ((items item count).read (drop n s)))
    where
      go : (r : Read E (List A)) → map_read (λ (x : ℕ × List A). x.1) (shift n (pair count) r) ≡ shift n (λ l. l) r
      go (done l m) = refl
      go (refused e p) = refl
