-- The nodes of a block: document 01, 'Position keys' and 'The numbers a call comes back with'.
use Rattle.std.specs.Prelude.{ℕ, ◌/◌, ◌%◌, Bool, cond, leb, Result, Ok, Err, ℤ, pos, ◌+ℤ◌, ◌*ℤ◌}
use Rattle.wire.specs.Answer.{Answer, good, plain, out_of_range, no_such}
use Rattle.position.specs.Keys.{all_inside}
use Rattle.position.specs.declared.key.Coordinates.{Coordinates}
use Rattle.position.specs.declared.node.NodeCoordinatesError.{NodeCoordinatesError}
use Rattle.position.specs.declared.node.NodeCoordinatesError.TheVariants as node

-- on one axis: 16·block coordinate + 0..15
unfoldable pub axis_coordinate : ℤ → ℕ → ℤ
axis_coordinate c n = c *ℤ pos 16 +ℤ pos n

-- the node at an index, which is 256·z + 16·y + x
abbrev pub node_coordinates : Coordinates → ℕ → Coordinates
node_coordinates b i = record { x = axis_coordinate b.x (i % 16); y = axis_coordinate b.y (i / 16 % 16); z = axis_coordinate b.z (i / 256) }

-- a block whose coordinates are in range
abbrev pub is_block : Coordinates → Bool
is_block b = all_inside b.x b.y b.z

unfoldable pub node_coordinates_of : Coordinates → ℕ → Answer Coordinates
node_coordinates_of b i = cond (is_block b) (cond (leb i 4095) (good (node_coordinates b i)) (plain no_such)) (plain out_of_range)

-- what the code's answer says
abbrev pub told_node_coordinates : Result Coordinates NodeCoordinatesError → Answer Coordinates
told_node_coordinates (Ok c) = good c
told_node_coordinates (Err node.OutOfRange) = plain out_of_range
told_node_coordinates (Err node.NoSuchNode) = plain no_such
