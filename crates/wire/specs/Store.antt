-- What a lent buffer holds after bytes were stored in it, or moved in it.
use Rattle.std.specs.Prelude.{ℕ, ◌+◌, ◌≡◌, cond, List, ◌++◌, leb, length, take, drop}

-- the bytes b from `at` on, and the rest as it was
abbrev pub overwrite : ℕ → List ℕ → List ℕ → List ℕ
overwrite at b d = take at d ++ (b ++ drop (at + length b) d)

-- the same where they fit; else as it was
unfoldable pub stored : ℕ → List ℕ → List ℕ → List ℕ
stored at b d = cond (leb (at + length b) (length d)) (overwrite at b d) d

-- the first n bytes, `by` places further back, where that fits; else as it was
unfoldable pub moved_back : ℕ → ℕ → List ℕ → List ℕ
moved_back n by d = cond (leb (by + n) (length d)) (overwrite by (take n d) d) d

-- bytes put into a buffer at a place, and where they end
pub record PutAt (at : ℕ) (bytes before after : List ℕ) (end : ℕ) : Type 0 where
  pub ends : end ≡ at + length bytes
  pub overwrites : after ≡ overwrite at bytes before
