-- Laws of answers.
use Prim.Native.Nat.{ℕ, ◌<◌, ◌≤◌}
use mathlib.Core.Path.{◌≡◌, refl, subst⁻¹}
use mathlib.Core.Option.{Option, some, none}
use mathlib.Core.List.{List, [], ◌∷◌, ◌++◌}
use mathlib.Core.Bool.{Bool, true, false, cond, or-true}
use native.Mathlib.Omega.{arith}
use lib.Dec.{leb, eqb}
use lib.ListN.{length, drop}
use borrow.Author.Tests.{leb-true, le-leb, lt-leb}
use Rattle.wire.specs.Answer.{Answer, good, refusal, plain, some_or, map_answer, then_answer, Answered, Matches, is_one_of, RefusedWith, no_room, in_room}

-- ---- laws
pub no-good : {A C : Type 0} {n r o : ℕ} {a : A} → refusal n r o ≡ good a → C
no-good h = let z : ◌≡◌ {A = ℕ} 0 1 = cc in absurd (omega arith)

-- where an answer by a test is good, the test held
pub test_good : {A : Type 0} (t : Bool) (n r o : ℕ) (a : Answer A) (b : A) → cond t a (refusal n r o) ≡ good b → (t ≡ true) × (a ≡ good b)
test_good true n r o a b h = (refl, h)
test_good false n r o a b h = no-good h

pub answered : {A : Type 0} (t : Bool) (n : ℕ) (a d : A) → cond t (good a) (plain n) ≡ good d → (t ≡ true) × (a ≡ d)
answered t n a d e = let x = test_good t n 0 0 (good a) d e in (x.0, cc x.1)

pub then-good : {A B : Type 0} (a : Answer A) (f : A → Answer B) (b : B) → then_answer a f ≡ good b → (x : A) × (a ≡ good x) × (f x ≡ good b)
then-good (good x) f b h = (x, refl, h)
then-good (refusal n r o) f b h = no-good h

pub map-good : {A B : Type 0} (f : A → B) (a : Answer A) (b : B) → map_answer f a ≡ good b → (x : A) × (a ≡ good x) × (f x ≡ b)
map-good f (good x) b h = (x, refl, (cc))
map-good f (refusal n r o) b h = no-good h

-- what the code gives is worked out from what the definitions give
pub matches-map : {A B : Type 0} (R : A → B → Type 0) (f : B → A) (b : Answer B) {a : Answer A} → a ≡ map_answer f b → ((x : B) → b ≡ good x → R (f x) x) → Matches R a b
matches-map R f (good x) e k = subst⁻¹ (λ a. Matches R a (good x)) e (x, refl, k x refl)
matches-map R f (refusal n r o) e k = subst⁻¹ (λ a. Matches R a (refusal n r o)) e refl

pub room-good : (room : ℕ) (x y : List ℕ) → in_room room x ≡ good y → (length x ≤ room) × (x ≡ y)
room-good room x y e = let h = answered (leb (length x) room) no_room x y e in (leb-true (length x) room h.0, h.1)

-- the bytes x for the buffer d: they do not fit, or they were put
module _ (d x : List ℕ) where
  pub room-short : length d < length x → Answered (plain no_room) d d (in_room (length d) x)
  room-short h = rw (lt-leb (length x) (length d) h) (refl, refl)

  pub room-put : {n : ℕ} {a : List ℕ} → length x ≡ n → n ≤ length d → a ≡ x ++ drop n d → Answered (good n) d a (in_room (length d) x)
  room-put e h q = rw (le-leb (length x) (length d) (rw e h), e) (refl, q)

-- ---- the numbers of an answer
-- more numbers
pub one-of-more : (n : ℕ) (more numbers : List ℕ) → is_one_of n numbers ≡ true → is_one_of n (more ++ numbers) ≡ true
one-of-more n [] numbers h = h
one-of-more n (m ∷ more) numbers h = rw (one-of-more n more numbers h) (or-true (eqb n m))

pub with-more : {A : Type 0} (more numbers : List ℕ) (a : Answer A) → RefusedWith numbers a → RefusedWith (more ++ numbers) a
with-more more numbers (good a) h = tt
with-more more numbers (refusal n r o) h = one-of-more n more numbers h

-- of each way to make an answer
module _ (numbers : List ℕ) where
  pub with-cond : {A : Type 0} (b : Bool) (x y : Answer A) → RefusedWith numbers x → RefusedWith numbers y → RefusedWith numbers (cond b x y)
  with-cond true x y h k = h
  with-cond false x y h k = k

  pub with-map : {A B : Type 0} (f : A → B) (a : Answer A) → RefusedWith numbers a → RefusedWith numbers (map_answer f a)
  with-map f (good a) h = tt
  with-map f (refusal n r o) h = h

  pub with-then : {A B : Type 0} (a : Answer A) (f : A → Answer B) → RefusedWith numbers a → ((x : A) → RefusedWith numbers (f x)) → RefusedWith numbers (then_answer a f)
  with-then (good a) f h k = k a
  with-then (refusal n r o) f h k = h

  pub with-some : {R A : Type 0} (n : ℕ) (x : Option R) (f : R → Answer A) → is_one_of n numbers ≡ true → ((r : R) → RefusedWith numbers (f r)) → RefusedWith numbers (some_or n x f)
  with-some n none f h k = h
  with-some n (some r) f h k = k r

  pub with-room : (room : ℕ) (x : List ℕ) → is_one_of no_room numbers ≡ true → RefusedWith numbers (in_room room x)
  with-room room x h = with-cond (leb (length x) room) (good x) (plain no_room) tt h
