-- Rows of a tally, taken from the front: each is judged alone, and they are the tally's rows.
use Prim.Native.Nat.{ℕ}
use mathlib.Core.Path.{◌≡◌, ap}
use mathlib.Core.List.{List, ◌∷◌}
use native.Mathlib.Omega.{arith}
use lib.ListN.{length, drop, length-append}
use borrow.Author.Tests.{ne_eqb}
use Rattle.wire.specs.Answer.{good}
use Rattle.wire.specs.Formats.{head_length}
use Rattle.wire.specs.Walk.{rows_behind}
use Rattle.wire.proofs.Walks.{walk_ends}
use Rattle.tally.specs.Tally.{TallyKind, TallyRow, TallyRows, fields}
use Rattle.tally.specs.Operations.{front_of}
use Rattle.tally.specs.Walks.{rows_bytes, Holds}
use Rattle.tally.specs.Theorems.{row_shown, WalkGivesRows}
use Rattle.tally.proofs.Held.{opened, row-size, holds-front, holds-rest}

module _ (k : TallyKind) where
  front-asked : (s : List ℕ) (r : TallyRow k) (l : TallyRows k) → Holds k s (r ∷ l) → front_of k s ≡ good (row_shown k r)
  front-asked s r l h =
      let more : length s ≡ 0 → ⊥ = λ z. omega (arith, ap (length {A = ℕ}) h.bytes, length-append ((fields k).encode r) (rows_bytes k l), row-size k r) in
      rw (ne_eqb (length s) 0 more, holds-front k s r l h)

  rest-holds : (s : List ℕ) (r : TallyRow k) (l : TallyRows k) → Holds k s (r ∷ l) → Holds k (rows_behind s (front_of k s)) l
  rest-holds s r l h = rw (front-asked s r l h) (holds-rest k s r l h)

  pub walk-gives-rows : WalkGivesRows k
  walk-gives-rows t l b h =
      rw h (walk_ends (Holds k) (λ p. rows_behind p (front_of k p)) (front_of k) (λ (r : TallyRow k). good (row_shown k r)) (λ s g. g.bytes) front-asked rest-holds (drop head_length t) l (opened k t l b h).holds)
