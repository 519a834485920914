-- The nodes of blocks that are taken: their number, and that their names may stand in a tally.
use Rattle.std.proofs.Common.{◌≡◌, ℕ, zero, suc, ◌*◌, Bool, true, false, cond, eqb, List, [], ◌∷◌, length, refl, ap, ◌∙◌, arith, length-append, le-leb}
use Rattle.wire.specs.Bytes.{Bytes, bytes-nil}
use Rattle.mapblock.specs.Data.{NameRow}
use Rattle.mapblock.specs.Block.{id_at}
use Rattle.block_reader.specs.Questions.{name_of}
use Rattle.mapblock.specs.Valid.{Each, NameGood, Valid}
use Rattle.tally.specs.Rows.{is_name, Canonical}
use Rattle.position.specs.declared.part.Part.{Part}
use Rattle.sheet.specs.Placed.{Placed}
use Rattle.meter.specs.Standing.{in_part, nodes_from, standing, nodes_in}
use Rattle.meter.specs.Counting.{Measure, MeasureRows, tally_of}
use Rattle.meter.proofs.Amounts.{AllNamed, named-append, named-filter_nodes, tally-canonical}
use Rattle.sheet.proofs.TakenBlocks.{AllValid}

-- ---- names
name-named : (l : List NameRow) → Each NameGood l → (id : ℕ) → (is_name (name_of l id) ≡ true) × Bytes (name_of l id)
name-named [] h id = (refl, bytes-nil)
name-named (r ∷ l) h id = go (eqb id r.id) (name-named l h.1 id)
  where
    go : (b : Bool) → (is_name (name_of l id) ≡ true) × Bytes (name_of l id) → (is_name (cond b r.name (name_of l id)) ≡ true) × Bytes (cond b r.name (name_of l id))
    go true k = (le-leb (length r.name) 65535 (omega (arith, h.0.name.0)), h.0.name.1)
    go false k = k

pub nodes-named : (x : Placed) → Valid x.block → (n i : ℕ) → AllNamed (nodes_from x n i)
unfolding nodes_from
nodes-named x v zero i = tt
nodes-named x v (suc n) i = (name-named x.block.names v.names.each (id_at x.block i), nodes-named x v n (suc i))

pub nodes-number : (x : Placed) (n i : ℕ) → length (nodes_from x n i) ≡ n
unfolding nodes_from
nodes-number x zero i = refl
nodes-number x (suc n) i = ap suc (nodes-number x n (suc i))

pub standing-named : (l : List Placed) → AllValid l → AllNamed (standing l)
unfolding standing
standing-named [] h = tt
standing-named (x ∷ l) h = named-append (nodes_from x 4096 0) (standing l) (nodes-named x h.0 4096 0) (standing-named l h.1)

pub standing-number : (l : List Placed) → length (standing l) ≡ 4096 * length l
unfolding standing
standing-number [] = refl
standing-number (x ∷ l) = length-append (nodes_from x 4096 0) (standing l) ∙ omega (arith, nodes-number x 4096 0, standing-number l)

-- ---- the rows of what blocks hold in a part
module _ (m : Measure) (p : Part) where
  abbrev pub held : List Placed → MeasureRows m
  held l = tally_of m (nodes_in p l)

  pub rows_named : (l : List Placed) → AllValid l → AllNamed (nodes_in p l)
  rows_named l h = named-filter_nodes (in_part p) (standing l) (standing-named l h)

  pub rows-canonical : (l : List Placed) → AllValid l → Canonical m.kind.counts (held l)
  rows-canonical l h = tally-canonical m (nodes_in p l) (rows_named l h)
