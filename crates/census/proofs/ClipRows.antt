-- The loops over a clip: the rows of its indices, in their order.
use Rattle.std.proofs.Common.{◌≡◌, ℕ, ◌+◌, ◌-◌, ◌*◌, ◌/◌, ◌%◌, ◌<◌, ◌≤◌, Bool, false, leb, ◌⊎◌, List, inl, inr, arith, le-ltb, lt-ltb, le-leb}
use mathlib.Core.Bool.{and-false}
use borrow.Author.Tests.{lt-leb}
use Rattle.census.specs.Counters.{is_at}
use Rattle.census.specs.Clips.{in_interval, clip_with}
use Rattle.census.specs.CountsById.{Raised}
use Rattle.census.specs.declared.clip.Clip.{Clip}
use Rattle.census.proofs.Raises.{Table, raised-none, raised-skip, raised-as, raised-on}

outside : (a v b : ℕ) → (v < a) ⊎ (b ≤ v) → in_interval a v b ≡ false
unfolding in_interval
outside a v b (inl h) = rw (lt-leb a v h)
outside a v b (inr h) = rw (le-ltb v b h) (and-false (leb a v))

-- the three digits of an index of a row
place : (z y i : ℕ) → y < 16 → z * 256 + y * 16 ≤ i → i < z * 256 + y * 16 + 16 → (i % 16 ≡ i - (z * 256 + y * 16)) × (i / 16 % 16 ≡ y) × (i / 256 ≡ z)
place z y i h g k = (omega arith, omega arith, omega arith)

module _ (b : Clip) (ids : ℕ → ℕ) where
  abbrev test : ℕ → ℕ → Bool
  test = clip_with b ids

  no-x : (k i : ℕ) → (i % 16 < b.x0) ⊎ (b.x1 ≤ i % 16) → test k i ≡ false
  no-x k i h = rw (outside b.x0 (i % 16) b.x1 h)

  no-y : (k i : ℕ) → (i / 16 % 16 < b.y0) ⊎ (b.y1 ≤ i / 16 % 16) → test k i ≡ false
  no-y k i h = rw (outside b.y0 (i / 16 % 16) b.y1 h, and-false (in_interval b.x0 (i % 16) b.x1))

  no-z : (k i : ℕ) → (i / 256 < b.z0) ⊎ (b.z1 ≤ i / 256) → test k i ≡ false
  no-z k i h = rw (outside b.z0 (i / 256) b.z1 h, and-false (in_interval b.y0 (i / 16 % 16) b.y1), and-false (in_interval b.x0 (i % 16) b.x1))

  in-clip : (k i : ℕ) → b.x0 ≤ i % 16 → i % 16 < b.x1 → b.y0 ≤ i / 16 % 16 → i / 16 % 16 < b.y1 → b.z0 ≤ i / 256 → i / 256 < b.z1 → test k i ≡ is_at ids k i
  unfolding in_interval
  in-clip k i p q r s t u =
      rw (le-leb b.x0 (i % 16) p, lt-ltb (i % 16) b.x1 q, le-leb b.y0 (i / 16 % 16) r, lt-ltb (i / 16 % 16) b.y1 s, le-leb b.z0 (i / 256) t, lt-ltb (i / 256) b.z1 u)

  -- ---- the layers of a clip
  pub clip-first : {old : List ℕ} → Table old → Raised test 0 (b.z0 * 256) old old
  clip-first t = raised-skip test 0 0 (b.z0 * 256) (raised-none test 0 0 t (omega arith)) (omega arith) (λ k i h g. no-z k i (inl (omega arith)))

  pub clip-on : (z : ℕ) {old mid new : List ℕ} → Raised test 0 (z * 256) old mid → Raised test (z * 256) 256 mid new → Raised test 0 ((z + 1) * 256) old new
  clip-on z c d = raised-on test 0 (z * 256) (z * 256) 256 ((z + 1) * 256) c d (omega arith) (omega arith)

  pub clip-last : (z : ℕ) {old new : List ℕ} → b.z1 ≤ z → z ≤ 16 → Raised test 0 (z * 256) old new → Raised test 0 4096 old new
  clip-last z h l c = raised-skip test 0 (z * 256) 4096 c (omega arith) (λ k i g f. no-z k i (inr (omega arith)))

  -- ---- the rows of a layer
  module _ (z : ℕ) where
    pub layer-first : {old : List ℕ} → Table old → Raised test (z * 256) (b.y0 * 16) old old
    layer-first t =
        let x = b.first in
        raised-skip test (z * 256) 0 (b.y0 * 16) (raised-none test (z * 256) 0 t (omega arith)) (omega arith) (λ k i g f. no-y k i (inl (omega arith)))

    pub layer-last : (y : ℕ) {old new : List ℕ} → b.y1 ≤ y → y ≤ 16 → Raised test (z * 256) (y * 16) old new → Raised test (z * 256) 256 old new
    layer-last y h l c = raised-skip test (z * 256) (y * 16) 256 c (omega arith) (λ k i g f. no-y k i (inr (omega arith)))

    pub layer-on : (y from until : ℕ) {old mid new : List ℕ} → b.z0 ≤ z → z < b.z1 → b.y0 ≤ y → y < b.y1
        → from ≡ z * 256 + y * 16 + b.x0 → until ≡ z * 256 + y * 16 + b.x1
        → Raised test (z * 256) (y * 16) old mid → Raised (is_at ids) from (until - from) mid new → Raised test (z * 256) ((y + 1) * 16) old new
    layer-on y from until hz gz hy gy ef eu c d =
        let x = b.first in
        let w = b.last in
        raised-skip test (z * 256) (y * 16 + b.x0 + (until - from)) ((y + 1) * 16)
        (raised-on test (z * 256) (y * 16 + b.x0) from (until - from) (y * 16 + b.x0 + (until - from))
        (raised-skip test (z * 256) (y * 16) (y * 16 + b.x0) c (omega arith) (λ k i f g. let q = place z y i (omega arith) (omega arith) (omega arith) in no-x k i (inl (omega arith))))
        (raised-as test (is_at ids) from (until - from) d
        (λ k i f g. let q = place z y i (omega arith) (omega arith) (omega arith) in in-clip k i (omega arith) (omega arith) (omega arith) (omega arith) (omega arith) (omega arith)))
        (omega arith) (omega arith))
        (omega arith)
        (λ k i f g. let q = place z y i (omega arith) (omega arith) (omega arith) in no-x k i (inr (omega arith)))
