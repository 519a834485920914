-- Formats made of the language's own: what the pages of the other crates are written in. Numbers and s-numbers are as document 01's 'The pieces'
-- has them.
--     number k, u8 .. u64, s32, s64     a number of k bytes; the usual widths
--     f ▹ g, f ⨾ λ a. g                 f, then g; then g, which may look at what f read
--     refine test e f                   f, refused with e where the test fails
--     constant k v e                    the number v in k bytes, refused with e where another stands there
--     fixed k v e f, mark m e f         that, or the bytes m, refused likewise; then f
--     headed m v e f, head m            the mark m and the u16 version v, then f; the version 1, then a u32 count
--     prefixed k                        a length of k bytes, and so many bytes
--     listed k item, times n f          a count of k bytes, and so many items, each told those before it; n of the same
--     only b a f                        f where b holds; else nothing, read as a
--     tagged tag test a f               a tag, and f where it passes the test; else nothing, read as a
--     coded to from f                   f, whose values stand for others
--     into shape f                      f, as a record
use Rattle.std.specs.Prelude.{ℕ, suc, ◌+◌, ◌-◌, ◌^◌, ◌<◌, ◌≤◌, ◌≡◌, refl, Bool, true, false, cond, ltb, eqb, ℤ, pos, negsuc}
use Rattle.std.proofs.Math.Path.{ap, subst⁻¹}
use Rattle.std.proofs.Common.{sym, arith, eqb-true, lt-ltb, le-ltb, ltb-true, ltb-false}
use mathlib.Core.List.{List, []}
use Rattle.std.specs.Int.Signed.{mag}
use Rattle.std.proofs.Math.ListN.{length}
use Rattle.wire.specs.Bytes.{Bytes, to_be, from_be, to_be-length, to_be-bytes, from_be-to_be, to_be-from_be, from_be-below}
use Rattle.wire.specs.Marks.{starts, starts-whole}
use Rattle.wire.specs.Format.{Format, run, nothing, refine, ◌⨾◌, iso, items, items-length, pair}

-- ---- numbers
pub number-there : {E : Type 0} (ends : E) (k v : ℕ) → v < 256 ^ k → (run {ends = ends} k).Ok (to_be k v) × (from_be 0 (to_be k v) ≡ v)
unfolding run
number-there ends k v h = ((to_be-length k v, to_be-bytes k v), from_be-to_be k v h)

pub number-back : {E : Type 0} (ends : E) (k : ℕ) (l : List ℕ) → (run {ends = ends} k).Ok l → (from_be 0 l < 256 ^ k) × (to_be k (from_be 0 l) ≡ l)
unfolding run
number-back ends k l h = (from_be-below k l h.0 h.1, to_be-from_be k l h.0 h.1)

-- a number of k bytes
unfoldable pub number : {E : Type 0} {ends : E} → ℕ → Format E ends ℕ
number {ends = ends} k = iso (λ v. v < 256 ^ k) (from_be 0) (to_be k) (run k) (number-there ends k) (number-back ends k)

abbrev pub u8 : {E : Type 0} {ends : E} → Format E ends ℕ
u8 = number 1

abbrev pub u16 : {E : Type 0} {ends : E} → Format E ends ℕ
u16 = number 2

abbrev pub u32 : {E : Type 0} {ends : E} → Format E ends ℕ
u32 = number 4

abbrev pub u64 : {E : Type 0} {ends : E} → Format E ends ℕ
u64 = number 8

-- Two's complement: of the numbers below 2·half those from half on stand for the negative ones.
abbrev pub signed_of : ℕ → ℕ → ℤ
signed_of half n = cond (ltb n half) (pos n) (negsuc (half + half - suc n))

abbrev pub unsigned_of : ℕ → ℤ → ℕ
unsigned_of half (pos n) = n
unsigned_of half (negsuc n) = half + half - suc n

signed-unsigned : (half : ℕ) (z : ℤ) → mag z < half → signed_of half (unsigned_of half z) ≡ z
signed-unsigned half (pos n) h = rw (lt-ltb n half h)
signed-unsigned half (negsuc n) h =
    let big : half ≤ half + half - suc n = omega arith in
    let back : half + half - suc (half + half - suc n) ≡ n = omega arith in
    rw (le-ltb (half + half - suc n) half big) (ap negsuc back)

unsigned-below : (half : ℕ) (z : ℤ) → mag z < half → unsigned_of half z < half + half
unsigned-below half (pos n) h = omega arith
unsigned-below half (negsuc n) h = omega arith

pub unsigned_signed : (half n : ℕ) → n < half + half → (mag (signed_of half n) < half) × (unsigned_of half (signed_of half n) ≡ n)
unsigned_signed half n h = go (ltb n half) refl
  where
    go : (b : Bool) → ltb n half ≡ b → (mag (signed_of half n) < half) × (unsigned_of half (signed_of half n) ≡ n)
    go true e = let k = ltb-true n half e in rw e (k, refl)
    go false e = let k = ltb-false n half e in rw e (omega arith, omega arith)

module _ {E : Type 0} (ends : E) (k half : ℕ) (e : 256 ^ k ≡ half + half) where
  pub signed-there : (z : ℤ) → mag z < half → (number {ends = ends} k).Ok (unsigned_of half z) × (signed_of half (unsigned_of half z) ≡ z)
  unfolding number iso
  signed-there z h = (rw e (unsigned-below half z h), signed-unsigned half z h)

  pub signed_back : (n : ℕ) → (number {ends = ends} k).Ok n → (mag (signed_of half n) < half) × (unsigned_of half (signed_of half n) ≡ n)
  unfolding number iso
  signed_back n h = unsigned_signed half n (rw e at h)

-- a signed number of k bytes, which hold 2·half numbers: -half to half - 1
unfoldable pub signed : {E : Type 0} {ends : E} (k half : ℕ) → 256 ^ k ≡ half + half → Format E ends ℤ
signed {ends = ends} k half e = iso (λ z. mag z < half) (signed_of half) (unsigned_of half) (number k) (signed-there ends k half e) (signed_back ends k half e)

abbrev pub half32 : ℕ
half32 = 2147483648

abbrev pub half64 : ℕ
half64 = 9223372036854775808

abbrev pub s32 : {E : Type 0} {ends : E} → Format E ends ℤ
s32 = signed 4 half32 refl

abbrev pub s64 : {E : Type 0} {ends : E} → Format E ends ℤ
s64 = signed 8 half64 refl

-- ---- one after the other
infixr 20 ◌▹◌
abbrev pub ◌▹◌ : {E : Type 0} {ends : E} {A B : Type 0} → Format E ends A → Format E ends B → Format E ends (A × B)
f ▹ g = f ⨾ λ _. g

-- ---- a value that is fixed, and then what follows it
module _ {E : Type 0} {ends : E} {A B : Type 0} (g : Format E ends A) (v : A) (f : Format E ends B) where
  pub behind-there : (b : B) → g.Ok v × f.Ok b → (g ▹ f).Ok (pair v b) × (b ≡ b)
  unfolding ◌⨾◌
  behind-there b h = (h, refl)

  pub behind-back : ((a : A) → g.Ok a → v ≡ a) → (x : A × B) → (g ▹ f).Ok x → (g.Ok v × f.Ok x.1) × (pair v x.1 ≡ x)
  unfolding ◌⨾◌
  behind-back only x h = let e = only x.0 h.0 in ((subst⁻¹ g.Ok e h.0, h.1), ap (λ (a : A). pair a x.1) e)

-- g, which has the one value v, then f
unfoldable pub behind : {E : Type 0} {ends : E} {A B : Type 0} (g : Format E ends A) (v : A) → ((a : A) → g.Ok a → v ≡ a) → Format E ends B → Format E ends B
behind {A = A} {B = B} g v only f = iso (λ b. g.Ok v × f.Ok b) (λ (x : A × B). x.1) (pair v) (g ▹ f) (behind-there g v f) (behind-back g v f only)

-- the number v in k bytes, else the fault e
abbrev pub constant : {E : Type 0} {ends : E} → ℕ → ℕ → E → Format E ends ℕ
constant k v e = refine (λ n. eqb n v) e (number k)

pub fixed-only : {E : Type 0} (ends : E) (k v : ℕ) (e : E) (n : ℕ) → (constant {ends = ends} k v e).Ok n → v ≡ n
unfolding refine
fixed-only ends k v e n h = sym (eqb-true n v h.1)

-- a constant, and then f
abbrev pub fixed : {E : Type 0} {ends : E} {A : Type 0} → ℕ → ℕ → E → Format E ends A → Format E ends A
fixed {ends = ends} k v e f = behind (constant k v e) v (fixed-only ends k v e) f

pub mark-only : {E : Type 0} (ends : E) (m : List ℕ) (e : E) (l : List ℕ) → (refine (starts m) e (run {ends = ends} (length m))).Ok l → m ≡ l
unfolding refine run
mark-only ends m e l h = starts-whole m l h.1 h.0.0

-- the bytes of the mark m, else the fault e; then f
abbrev pub mark : {E : Type 0} {ends : E} {A : Type 0} → List ℕ → E → Format E ends A → Format E ends A
mark {ends = ends} m e f = behind (refine (starts m) e (run (length m))) m (mark-only ends m e) f

-- ---- counted runs and lists
module _ {E : Type 0} (ends : E) (k : ℕ) where
  pub prefixed-there : (l : List ℕ) → (length l < 256 ^ k) × Bytes l → (number {ends = ends} k ⨾ run).Ok (pair (length l) l) × (l ≡ l)
  unfolding ◌⨾◌ run number iso
  prefixed-there l h = ((h.0, (refl, h.1)), refl)

  pub prefixed-back : (x : ℕ × List ℕ) → (number {ends = ends} k ⨾ run).Ok x → ((length x.1 < 256 ^ k) × Bytes x.1) × (pair (length x.1) x.1 ≡ x)
  unfolding ◌⨾◌ run number iso
  prefixed-back x h = let e = h.1.0 in ((rw e h.0, h.1.1), ap (λ (n : ℕ). pair n x.1) e)

-- a length of k bytes, and then so many bytes
unfoldable pub prefixed : {E : Type 0} {ends : E} → ℕ → Format E ends (List ℕ)
prefixed {ends = ends} k =
    iso (λ l. (length l < 256 ^ k) × Bytes l) (λ (x : ℕ × List ℕ). x.1) (λ l. pair (length l) l) (number k ⨾ run) (prefixed-there ends k) (prefixed-back ends k)

module _ {E : Type 0} {ends : E} {A : Type 0} (k : ℕ) (item : List A → Format E ends A) where
  abbrev pub OkListed : List A → Type 0
  OkListed l = (length l < 256 ^ k) × (items item (length l)).Ok l

  pub listed-there : (l : List A) → OkListed l → (number k ⨾ items item).Ok (pair (length l) l) × (l ≡ l)
  unfolding ◌⨾◌ number iso
  listed-there l h = (h, refl)

  pub listed_back : (x : ℕ × List A) → (number k ⨾ items item).Ok x → OkListed x.1 × (pair (length x.1) x.1 ≡ x)
  unfolding ◌⨾◌ number iso items
  listed_back x h =
      let e : length x.1 ≡ x.0 = items-length item x.0 [] x.1 h.1 in
      (rw e (h.0, h.1), ap (λ (n : ℕ). pair n x.1) e)

-- a count of k bytes, and then so many items, each told those before it, the last one first
unfoldable pub listed : {E : Type 0} {ends : E} {A : Type 0} → ℕ → (List A → Format E ends A) → Format E ends (List A)
listed {A = A} k item = iso (OkListed k item) (λ (x : ℕ × List A). x.1) (λ l. pair (length l) l) (number k ⨾ items item) (listed-there k item) (listed_back k item)

-- n of the same
abbrev pub times : {E : Type 0} {ends : E} {A : Type 0} → ℕ → Format E ends A → Format E ends (List A)
times n f = items (λ seen. f) n

-- ---- the heads of tallies and sheets: document 01, 'Tallies, lots, spans, sheets'
-- the bytes of the mark m and the version v as a u16, else the fault e; then f
abbrev pub headed : {E : Type 0} {ends : E} {A : Type 0} → List ℕ → ℕ → E → Format E ends A → Format E ends A
headed m v e f = mark m e (fixed 2 v e f)

-- the mark m, version 1 and a u32 number
abbrev pub head : {E : Type 0} {ends : E} → List ℕ → Format E ends ℕ
head {ends = ends} m = headed m 1 ends u32

-- its bytes, where the mark has three
abbrev pub head_length : ℕ
head_length = 9

-- ---- what may be left out
-- f where the test holds; else nothing, and the value that stands for it
abbrev pub only : {E : Type 0} {ends : E} {A : Type 0} → Bool → A → Format E ends A → Format E ends A
only b a f = cond b f (nothing a)

-- a number, the tag, and behind it f where the tag passes the test; else nothing, and the value that stands for it
abbrev pub tagged : {E : Type 0} {ends : E} {A : Type 0} → Format E ends ℕ → (ℕ → Bool) → A → Format E ends A → Format E ends (ℕ × A)
tagged tag test a f = tag ⨾ λ t. only (test t) a f

-- ---- values that stand for others
-- f, where `to` gives what a value that was read stands for, and `from` the value to be written; what does not come back by them has no bytes
abbrev pub coded : {E : Type 0} {ends : E} {A B : Type 0} (to : A → B) (from : B → A) (f : Format E ends A) → ((a : A) → f.Ok a → from (to a) ≡ a) → Format E ends B
coded to from f back =
    iso (λ b. f.Ok (from b) × (to (from b) ≡ b)) to from f (λ b h. h) (λ a h. let e = back a h in ((subst⁻¹ f.Ok e h, ap to e), e))

-- ---- a record and the nested pairs that hold the same
pub record Shape (A B : Type 0) : Type 0 where
  pub make : A → B
  pub parts : B → A
  pub there : (b : B) → make (parts b) ≡ b
  pub back : (a : A) → parts (make a) ≡ a

-- the same bytes, as the record
abbrev pub into : {E : Type 0} {ends : E} {A B : Type 0} → Shape A B → Format E ends A → Format E ends B
into k f = iso (λ b. f.Ok (k.parts b)) k.make k.parts f (λ b h. (h, k.there b)) (λ a h. (subst⁻¹ f.Ok (k.back a) h, k.back a))
