-- The shortest block of air at a key, whole world and all time: what the wrong versions are tried by.
use Rattle.std.proofs.Common.{◌≡◌, ℕ, ◌^◌, ◌<◌, ◌≤◌, true, false, List, [], ◌∷◌, length, ℤ, refl, arith, lit<, lit≤}
use lib.Signed.{mag}
use Rattle.wire.specs.Bytes.{Bytes}
use Rattle.wire.proofs.Tests.{yes_and}
use Rattle.wire.specs.Order.{order, choose}
use Rattle.wire.proofs.TotalOrder.{order-refl}
use Rattle.wire.specs.Format.{run, nothing, refine, ◌⨾◌, iso, items}
use Rattle.wire.specs.Formats.{number, signed, half64, listed, prefixed as runs, behind}
use Rattle.wire.specs.Answer.{good}
use Rattle.position.specs.Keys.{is_key, split_of}
use Rattle.position.specs.Nodes.{is_block}
use Rattle.position.specs.Lots.{world}
use Rattle.position.specs.Spans.{all_time}
use Rattle.position.specs.declared.key.Coordinates.{Coordinates}
use Rattle.position.proofs.Theorems.{keys-have-triples, node-in-the-world}
use Rattle.mapblock.specs.Layout.{all, unused, name_row, name_mapping, params, nodes, list_form, metadata, objects, early_timers, late_timers, opening, front, rest, steps}
use Rattle.mapblock.specs.Block.{block}
use Rattle.block_reader.specs.Questions.{name_at}
use Rattle.mapblock.specs.Valid.{Valid}
use Rattle.block_reader.proofs.ValidOk.{valid-is-ok}
use Rattle.block_reader.proofs.Taken.{air_at, air-valid}
use Rattle.position.specs.declared.part.Part.{Part}
use Rattle.sheet.specs.Placed.{Placed, placed, placed_at}
use Rattle.meter.specs.Standing.{Node, in_part, node_in, nodes_from, filter_nodes, nodes_in}
use Rattle.meter.specs.Counting.{amount_of, by_one}
use Rattle.sheet.specs.Sheet.{SheetRecord, frame}
use Rattle.sheet.proofs.TakenBlocks.{valid-block}
use Rattle.meter.proofs.NamesAlone.{standing-one}

abbrev pub bytes : List ℕ
bytes = (block all).encode (air_at 29 0)

pub valid : Valid (air_at 29 0)
valid = air-valid 29 0 (lit≤ tt) (lit≤ tt) (lit< tt)

pub are-bytes : Bytes bytes
are-bytes = (block all).bytes (air_at 29 0) ((valid-is-ok (air_at 29 0)).0 valid).0

-- they fit a record
short : length bytes < 256 ^ 4
unfolding block iso steps front rest opening name_mapping nodes params list_form metadata early_timers objects late_timers name_row unused ◌⨾◌ number run listed items runs behind refine nothing
short = lit< tt

abbrev pub record_of : ℤ → SheetRecord
record_of k = record { key = k; block = bytes }

pub framed : (k : ℤ) → mag k < half64 → frame.Ok (record_of k)
unfolding frame iso ◌⨾◌ signed number runs
framed k h = (h, (short, are-bytes))

abbrev pub everywhere : Part
everywhere = record { lot = world; span = all_time }

abbrev pub air : List ℕ
air = name_at (air_at 29 0) 0

-- a node that lies in a part counts there
some-there : (l : List Node) (x : Node) (p : Part) → in_part p x ≡ true → 1 ≤ amount_of by_one x.name (filter_nodes (in_part p) (x ∷ l))
unfolding filter_nodes
some-there l x p h = rw h (rw (itself x.name) (omega arith))
  where
    itself : (n : List ℕ) → choose (order n n) false true false ≡ true
    itself n = rw (order-refl n)

module _ (k : ℤ) (is_key : is_key k ≡ true) where
  pub at : Coordinates
  at = ((keys-have-triples k).0 is_key).0

  at_block : is_block at ≡ true
  unfolding at
  at_block = ((keys-have-triples k).0 is_key).1

  pub splits : split_of k ≡ good at
  unfolding at
  splits = ((keys-have-triples k).0 is_key).2

  abbrev pub here : Placed
  here = placed at (air_at 29 0)

  pub stands : placed_at k bytes ≡ good here
  unfolding placed_at
  stands = rw (splits, valid-block bytes (air_at 29 0) are-bytes valid refl)

  -- its first node is counted
  pub counted : 1 ≤ amount_of by_one air (nodes_in everywhere (here ∷ []))
  unfolding nodes_from
  counted = rw (standing-one here) (some-there (nodes_from here 4095 1) (node_in here 0) everywhere (yes_and (node-in-the-world at 0 at_block (lit< tt)) refl))
