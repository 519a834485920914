-- Where every id up to a bound has a mark, every node has a mapped id.
use Prim.Native.Nat.{ℕ, ◌+◌, ◌*◌, ◌<◌, ◌≤◌}
use mathlib.Core.Path.{◌≡◌, refl}
use mathlib.Core.List.{List}
use mathlib.Core.Option.{none}
use native.Mathlib.Omega.{arith}
use lib.ListN.{length, get_or}
use Rattle.mapblock.specs.Params.{id_in, unmarked_in, first_unmapped_in, MarkedUpto}
use Rattle.mapblock.specs.Bounds.{IdsWithin}
use Rattle.mapblock.proofs.Firsts.{first-none, mark-there}
use Rattle.mapblock.proofs.Entries.{id-new, content-new}

module _ (v : ℕ) (s t : List ℕ) (bound : ℕ) (new : 24 ≤ v) (long : 8192 ≤ length s) (within : IdsWithin s bound) (marked : MarkedUpto t bound) where
  id-within : (i : ℕ) → i < 4096 → id_in v s i ≤ bound
  id-within i h = rw (← id-new v s i new (omega arith) 0, ← content-new v (get_or s (2 * i) 0 * 256 + get_or s (2 * i + 1) 0) 0 new) (within i h)

  pub no-first_unmapped : first_unmapped_in v s t ≡ none
  no-first_unmapped = first-none (unmarked_in v s t) 4096 0 (λ i _ h. mark-there t refl (marked (id_in v s i) (id-within i h)))
