-- What the answer of `bits_at` says in each of its cases.
use Prim.Native.Nat.{ℕ, ◌-◌}
use mathlib.Core.Path.{◌≡◌, ap, sym, ◌∙◌}
use mathlib.Core.List.{List}
use native.Mathlib.Nat.{sub-zero}
use lib.ListN.{length, take, drop}
use Rattle.wire.proofs.Lists.{rest-is}
use Rattle.wire.specs.Read.{done, refused}
use Rattle.wire.specs.Formats.{number}
use Rattle.wire.specs.Told.{short, told_number, NumberAt}
use Rattle.std.specs.Prelude.{Option, Some, None}

-- k bytes from a place on, as the library lends them
pub front-at : (s : List ℕ) (at k : ℕ) {r f : List ℕ} → r ≡ take (length s - at) (drop at s) → f ≡ take (k - 0) (drop 0 r) → f ≡ take k (drop at s)
front-at s at k e g = g ∙ rw (e, rest-is at s, sub-zero)

module _ {k : ℕ} {s : List ℕ} {r : Option ℕ} (n : NumberAt k s r) where
  pub value_read : {v : ℕ} → r ≡ Some v → (number {ends = short} k).read s ≡ done v k
  value_read e = sym n.told ∙ ap (told_number k) e

  pub ends_read : r ≡ None → (number {ends = short} k).read s ≡ refused short 0
  ends_read e = sym n.told ∙ ap (told_number k) e
