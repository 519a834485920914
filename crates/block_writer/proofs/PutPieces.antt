-- The pieces of a block by version: which bytes each is, and what the code puts.
use Prim.Native.Nat.{ℕ, ◌+◌, ◌<◌, ◌≤◌}
use mathlib.Core.Path.{◌≡◌, refl, ap, ◌∙◌}
use mathlib.Core.List.{List, [], ◌++◌}
use native.Mathlib.Omega.{arith}
use lib.Dec.{ltb}
use lib.ListN.{length}
use borrow.Author.Tests.{le-leb, lt-leb, ltb-true, ltb-false, ne_eqb}
use Rattle.wire.proofs.Tests.{same_test}
use Rattle.wire.specs.Bytes.{to_be}
use Rattle.wire.specs.Store.{stored, PutAt}
use Rattle.wire.specs.Formats.{number}
use Rattle.wire.specs.Told.{short}
use Rattle.mapblock.specs.Layout.{before, width, has_timers}
use Rattle.mapblock.specs.declared.head.Head.{Head}
use Rattle.block_writer.specs.Pieces.{opening_bytes, list_if, early_bytes}
use Rattle.wire.proofs.Puts.{put-number, put_two}

-- ---- the opening: what was stored, one behind the other
module _ (h : Head) (d a b : List ℕ) (room : length (opening_bytes h) ≤ length d)
    (one : a ≡ stored 0 ((number {ends = short} 1).encode h.version) d) (two : b ≡ stored 1 ((number {ends = short} 1).encode h.flags) a) where
  version-put : 1 ≤ length d → PutAt 0 (to_be 1 h.version) d a 1
  version-put r = put-number 0 1 h.version r one

  pub opening-old : h.version < 27 → PutAt 0 (opening_bytes h) d b 2
  opening-old old =
      let none = lt-leb 27 h.version old in
      let r : 2 ≤ length d = rw none at room in
      rw none (put_two r (version-put (omega arith)) (λ s. put-number 1 1 h.flags s two))

  pub opening-new : 27 ≤ h.version → (e : List ℕ) → e ≡ stored 2 ((number {ends = short} 2).encode h.lighting) b → PutAt 0 (opening_bytes h) d e 4
  opening-new new e three =
      let some = le-leb 27 h.version new in
      let r : 4 ≤ length d = rw some at room in
      rw some (put_two r (version-put (omega arith)) (λ s.
      put_two s (put-number 1 1 h.flags (omega (arith, s)) two) (λ t. put-number 2 2 h.lighting t three)))

-- ---- what follows the metadata
module _ (v t count : ℕ) (rows : List ℕ) where
  pub early-24 : v ≡ 24 → early_bytes v t count rows ≡ to_be 1 t ++ list_if (has_timers t) count rows
  early-24 h = rw h

  pub early-23 : v ≡ 23 → early_bytes v t count rows ≡ to_be 1 0
  early-23 h = rw h

  pub early-none : (v ≡ 24 → ⊥) → (v ≡ 23 → ⊥) → early_bytes v t count rows ≡ []
  early-none h k = rw (ne_eqb v 24 h, ne_eqb v 23 k)

-- ---- the two widths
pub widths-put : (v w at : ℕ) (d a b : List ℕ) → at + 2 ≤ length d → w ≡ width v → a ≡ stored at ((number {ends = short} 1).encode w) d → b ≡ stored (at + 1) ((number {ends = short} 1).encode 2) a
    → PutAt at (to_be 1 (width v) ++ to_be 1 2) d b (at + 2)
widths-put v w at d a b room e one two =
    let first = put-number at 1 (width v) (omega arith) (one ∙ ap (λ (x : ℕ). stored at ((number {ends = short} 1).encode x) d) e) in
    record { ends = refl; overwrites = (put_two room first (λ r. put-number (at + 1) 1 2 r two)).overwrites }

-- the code's test, whether the names stand behind
pub before-29 : (v : ℕ) → ltb v 29 ≡ before 29 v
before-29 v = same_test (ltb v 29) (λ t. rw (lt-leb 29 v (ltb-true v 29 t))) (λ t. rw (le-leb 29 v (ltb-false v 29 t)))
