-- Rows added to rows in two passes: the first adds to the counts of names that are there, the second puts the rows of those that are not.
use Rattle.std.specs.Prelude.{◌≡◌, ℕ, ◌+◌, ◌-◌, ◌<◌, ◌≤◌, Bool, true, false, cond, List, [], ◌∷◌, ◌++◌, length, take, drop, nat_le, Option, Some, None}
use Rattle.wire.specs.Bytes.{Bytes}
use Rattle.wire.specs.Order.{order}
use Rattle.std.specs.declared.cmp.Ordering.TheVariants.{Less}
use Rattle.tally.specs.Rows.{Row, Rows, Canonical, is_name, add_row, plus, count_in}
use Rattle.tally.specs.Tally.{ones, one, fields}
use Rattle.tally.specs.Walks.{rows_bytes}
use Rattle.tally.specs.LookedUp.{Below}
use Rattle.tally.specs.declared.lookup.Lookup.{Lookup}
use Rattle.tally.specs.declared.lookup.Lookup.TheVariants as lookups
use Rattle.running_tally.specs.RunningTally.{count_limit}
use Rattle.census.specs.UsedNames.{total_count}
use Rattle.running_tally.specs.Groups.{Remaining}
use Rattle.running_tally.specs.declared.absorb.Hole.{Hole}

-- whether a name has a row
abbrev pub has : Rows ones → List ℕ → Bool
has X n = nat_le 1 (count_in ones X n)

-- of the rows G, those whose names have a row in X, and those whose names have none
unfoldable pub known : Rows ones → Rows ones → Rows ones
known X [] = []
known X (g ∷ G) = cond (has X g.name) (g ∷ known X G) (known X G)

unfoldable pub fresh : Rows ones → Rows ones → Rows ones
fresh X [] = []
fresh X (g ∷ G) = cond (has X g.name) (fresh X G) (g ∷ fresh X G)

-- every name after that of g comes after the rows D
abbrev pub Passed : Row ℕ → Rows ones → Type 0
Passed g D = (m : List ℕ) → order g.name m ≡ Less → Below ones m D

-- a row that may stand in a tally, behind the rows D
pub record May (g : Row ℕ) (D : Rows ones) : Type 0 where
  pub name : is_name g.name ≡ true
  pub bytes : Bytes g.name
  pub stands : 1 ≤ g.count
  pub below : Below ones g.name D

-- ---- the first pass
-- the first n bytes of t are rows, and the cursor stands between D and L
pub record Cursor (t : List ℕ) (at n : ℕ) (D L : Rows ones) : Type 0 where
  pub inside : n ≤ length t
  pub bytes : take n t ≡ rows_bytes one (D ++ L)
  pub place : at ≡ length (rows_bytes one D)
  pub canonical : Canonical ones (D ++ L)

pub record RowRaised (t t' : List ℕ) (at n : ℕ) (g : Row ℕ) (W : Rows ones) : Type 0 where
  pub D : Rows ones
  pub L : Rows ones
  pub cursor : Cursor t' at n D L
  pub sum : D ++ L ≡ add_row ones g W
  pub passed : Passed g D
  pub there : has W g.name ≡ true
  pub behind : drop n t' ≡ drop n t

pub record RowMissing (t : List ℕ) (at n : ℕ) (g : Row ℕ) (W : Rows ones) : Type 0 where
  pub D : Rows ones
  pub L : Rows ones
  pub cursor : Cursor t at n D L
  pub same : D ++ L ≡ W
  pub passed : Passed g D
  pub there : has W g.name ≡ false

abbrev pub RaisedTo : (t t' : List ℕ) (at n : ℕ) (g : Row ℕ) → Lookup → Type 0
RaisedTo t t' at n g (lookups.Present p _) = (p ≤ n) × ((D L : Rows ones) → Cursor t at n D L → May g D → total_count (D ++ L) + g.count < count_limit → RowRaised t t' p n g (D ++ L))
RaisedTo t t' at n g (lookups.Absent p) = (p ≤ n) × (t' ≡ t) × ((D L : Rows ones) → Cursor t at n D L → May g D → total_count (D ++ L) + g.count < count_limit → RowMissing t p n g (D ++ L))

-- the places make G, and the first n bytes of t are R
pub record Starts (s c ps t : List ℕ) (n : ℕ) (G R : Rows ones) : Type 0 where
  pub left : Remaining s c ps 0 G
  pub cursor : Cursor t 0 n [] R
  pub total_fits : total_count G + total_count R < count_limit

-- W is R with the counts of the names that it has
pub record RowsRaised (t t' : List ℕ) (n b k : ℕ) (G R : Rows ones) : Type 0 where
  pub W : Rows ones
  pub cursor : Cursor t' 0 n [] W
  pub total_fits : total_count W < count_limit
  pub missing : b ≡ length (rows_bytes one (fresh W G))
  pub rows : k + length R ≡ length (plus ones G R)
  pub size : n + b ≡ length (rows_bytes one (plus ones G R))
  pub sum : (m : List ℕ) → count_in ones (fresh W G) m + count_in ones W m ≡ count_in ones (plus ones G R) m
  pub behind : drop n t' ≡ drop n t

abbrev pub RaisedAs : (s c ps t t' : List ℕ) (n : ℕ) → Option (ℕ × ℕ) → Type 0
RaisedAs s c ps t t' n None = (G R : Rows ones) → Starts s c ps t n G R → (length t < length (rows_bytes one (plus ones G R))) × (R ≡ [] → t' ≡ t)
RaisedAs s c ps t t' n (Some (b, k)) = (n + b ≤ length t) × (k ≤ length ps) × ((G R : Rows ones) → Starts s c ps t n G R → RowsRaised t t' n b k G R)

-- ---- the second pass
-- the rows D are written, the rows L are still to be read, and between them is a hole
pub record Apart (t : List ℕ) (g : Hole) (n : ℕ) (D L : Rows ones) : Type 0 where
  pub front : take g.write t ≡ rows_bytes one D
  pub rest : take (n - g.read) (drop g.read t) ≡ rows_bytes one L
  pub canonical : Canonical ones (D ++ L)
  pub total_fits : total_count L < count_limit

-- a hole in the first n bytes
pub record Inside (t : List ℕ) (g : Hole) (n : ℕ) : Type 0 where
  pub ahead : g.write ≤ g.read
  pub short : g.read ≤ n
  pub inside : n ≤ length t

pub record RowFilled (t t' : List ℕ) (g g' : Hole) (n : ℕ) (r : Row ℕ) (D L : Rows ones) : Type 0 where
  pub D' : Rows ones
  pub L' : Rows ones
  pub apart : Apart t' g' n D' L'
  pub sum : D' ++ L' ≡ cond (has L r.name) (D ++ L) (add_row ones r (D ++ L))
  pub passed : Passed r D'
  pub same : (m : List ℕ) → order r.name m ≡ Less → count_in ones L' m ≡ count_in ones L m
  pub room : g'.write + g.read ≡ g.write + g'.read + cond (has L r.name) 0 (length ((fields one).encode r))
  pub behind : drop n t' ≡ drop n t

pub record FilledTo (t t' : List ℕ) (g g' : Hole) (n : ℕ) (r : Row ℕ) : Type 0 where
  pub inside : Inside t' g' n
  pub filled : (D L : Rows ones) → Apart t g n D L → May r D → (has L r.name ≡ false → g.write + length ((fields one).encode r) ≤ g.read) → RowFilled t t' g g' n r D L

-- the places make G, and T is to come of the rows W by those of G that W has no name of, of b bytes
pub record Due (s c ps : List ℕ) (b : ℕ) (G W T : Rows ones) : Type 0 where
  pub left : Remaining s c ps 0 G
  pub total_fits : total_count G < count_limit
  pub room : b ≡ length (rows_bytes one (fresh W G))
  pub sum : (m : List ℕ) → count_in ones (fresh W G) m + count_in ones W m ≡ count_in ones T m
  pub canonical : Canonical ones T

-- the rows W are the first n bytes of t; or they stand at the end of these, behind b others
pub record Spreads (s c ps t : List ℕ) (n b : ℕ) (G W T : Rows ones) : Type 0 where
  pub due : Due s c ps b G W T
  pub cursor : Cursor t 0 n [] W
  pub total_fits : total_count W < count_limit

pub record Fills (s c ps t : List ℕ) (b n : ℕ) (G W T : Rows ones) : Type 0 where
  pub due : Due s c ps b G W T
  pub apart : Apart t (record { read = b; write = 0 }) n [] W

pub record Filled (t t' : List ℕ) (n : ℕ) (T : Rows ones) : Type 0 where
  pub bytes : take n t' ≡ rows_bytes one T
  pub behind : drop n t' ≡ drop n t
