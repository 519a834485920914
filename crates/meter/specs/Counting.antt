-- The tally of nodes: document 01, 'Tallies, lots, spans, sheets'. What a node counts stays open here, so that a kind of tally with more
-- than one number to a row shares every law.
use Rattle.std.specs.Prelude.{◌≡◌, ℕ, ◌<◌, Bool, true, List, [], ◌∷◌, length, refl}
use Rattle.std.proofs.Common.{arith, le-leb}
use Rattle.tally.specs.Rows.{add_row, is_named}
use Rattle.tally.specs.Tally.{TallyKind, TallyRow, TallyRows, max_count, one}
use Rattle.meter.specs.Standing.{Node, filter_nodes}

-- the nodes that bear a name
abbrev pub bears : List ℕ → Node → Bool
bears n x = is_named n x.name

abbrev pub bearing : List ℕ → List Node → List Node
bearing n l = filter_nodes (bears n) l

-- What is counted: a kind of tally, what a node counts in it, and that no sum over fewer than 2^63 nodes is above its limit.
pub record Measure : Type 1 where
  pub kind : TallyKind
  pub of : Node → kind.counts.C
  pub total : List Node → kind.counts.C
  pub total-none : total [] ≡ kind.counts.none
  pub total-more : (x : Node) (l : List Node) → total (x ∷ l) ≡ kind.counts.add (of x) (total l)
  pub stands : (x : Node) → kind.counts.stands (of x) ≡ true
  pub total_fits : (l : List Node) → length l < 9223372036854775808 → kind.limit (total l) ≡ true

module _ (m : Measure) where
  abbrev pub MeasureRows : Type 0
  MeasureRows = TallyRows m.kind

  -- a node's own row
  abbrev pub row_of : Node → TallyRow m.kind
  row_of x = record { name = x.name; count = m.of x }

  -- each node counts for its name
  unfoldable pub tally_of : List Node → MeasureRows
  tally_of [] = []
  tally_of (x ∷ l) = add_row m.kind.counts (row_of x) (tally_of l)

  -- what the nodes of a name count together
  abbrev pub amount_of : List ℕ → List Node → m.kind.counts.C
  amount_of n l = m.total (bearing n l)

-- ---- version 1: every node counts one, so that an amount is a number of positions
pub total_fits-one : (n : ℕ) → n < 9223372036854775808 → one.limit n ≡ true
total_fits-one n h = le-leb n max_count (omega arith)

abbrev pub by_one : Measure
by_one = record {
  kind = one;
  of = λ _. 1;
  total = length;
  total-none = refl;
  total-more = λ x l. omega arith;
  stands = λ x. refl;
  total_fits = λ l h. total_fits-one (length l) h;
}
