-- Bytes that are rows, as the functions of this crate walk them.
use Rattle.std.specs.Prelude.{ℕ, ◌≡◌, Bool, true, false, cond, List, [], ◌∷◌, ◌++◌}
use Rattle.std.proofs.Math.Option.{Option, some, none}
use Rattle.std.specs.Prelude.{Some, None, Option as Optional}
use Rattle.std.specs.Borrow.{Bor}
use Rattle.wire.specs.Order.{order, is_before}
use Rattle.wire.specs.Store.{stored}
use Rattle.tally.specs.Rows.{Row, Canonical, is_name}
use Rattle.tally.specs.Tally.{TallyFormat, TallyKind, TallyRows, whole, fields, limited, one}

-- a name after the last one, if there is one
abbrev pub may_follow : Optional (Bor (List ℕ)) → List ℕ → Bool
may_follow (Some last) name = is_before (order last.now name)
may_follow None name = true

-- the format takes the bytes to their end
abbrev pub is_some : {A : Type 0} → Option A → Bool
is_some (some a) = true
is_some none = false

abbrev pub takes : {A : Type 0} → TallyFormat A → List ℕ → Bool
takes f s = is_some (whole s (f.read s))

module _ (k : TallyKind) where
  abbrev pub rows_bytes : TallyRows k → List ℕ
  rows_bytes [] = []
  rows_bytes (r ∷ l) = (fields k).encode r ++ rows_bytes l

  -- the bytes are these rows, as a tally has them, and nothing else
  pub record Holds (s : List ℕ) (l : TallyRows k) : Type 0 where
    pub bytes : s ≡ rows_bytes l
    pub canonical : Canonical k.counts l
    pub limit : limited k l ≡ true

-- a row at a place of a buffer, where it fits and its name may stand in a tally; else the buffer as it was
unfoldable pub row_stored : ℕ → Row ℕ → List ℕ → List ℕ
row_stored at r d = cond (is_name r.name) (stored at ((fields one).encode r) d) d
