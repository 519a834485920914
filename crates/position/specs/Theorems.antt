-- What the definitions of document 01's 'Position keys' and 'Tallies, lots, spans, sheets' promise together; proofs/Theorems.antt proves each.
use Rattle.std.specs.Prelude.{ℕ, ◌+◌, ◌*◌, ◌≤◌, ◌<◌, ◌≡◌, ◌↔◌, Bool, true, false, cond, ◌&&◌, ℤ, pos, negsuc}
use Rattle.std.specs.Int.Signed.{le_z, lt_z}
use Rattle.wire.specs.Answer.{good}
use Rattle.position.specs.Keys.{all_inside, key_of, join_of, is_key, split_of}
use Rattle.position.specs.Nodes.{is_block, axis_coordinate, node_coordinates}
use Rattle.position.specs.Lots.{in_lot, good_lot, world}
use Rattle.position.specs.Spans.{in_span, good_span, all_time}
use Rattle.position.specs.Python.{get_integer_as_block}
use Rattle.position.specs.declared.key.Coordinates.{Coordinates}
use Rattle.position.specs.declared.span.Span.{Span}

-- ---- keys
-- Joining gives a key exactly when splitting the key gives the coordinates.
abbrev pub Inverse : Type 0
Inverse = (x y z k : ℤ) → (join_of x y z ≡ good k) ↔ (split_of k ≡ good (record { x = x; y = y; z = z }))

-- Exactly the triples in range have a key, and it is valid.
abbrev pub TriplesHaveKeys : Type 0
TriplesHaveKeys = (x y z : ℤ) → (all_inside x y z ≡ true) ↔ ((k : ℤ) × (is_key k ≡ true) × (join_of x y z ≡ good k))

-- Exactly the valid keys have coordinates, and they are in range.
abbrev pub KeysHaveTriples : Type 0
KeysHaveTriples = (k : ℤ) → (is_key k ≡ true) ↔ ((c : Coordinates) × (is_block c ≡ true) × (split_of k ≡ good c))

-- "The Python of 000 agrees on these keys": it gives the same coordinates. Of other keys nothing is said, since they are refused here.
abbrev pub PythonAgrees : Type 0
PythonAgrees = (k : ℤ) → is_key k ≡ true → split_of k ≡ good (get_integer_as_block k)

-- by two numbers, and where they are equal by the rest
abbrev pub by_first : ℤ → ℤ → Bool → Bool
by_first a b rest = cond (lt_z a b) true (cond (lt_z b a) false rest)

-- by z, then by y, then by x
abbrev pub before : Coordinates → Coordinates → Bool
before a b = by_first a.z b.z (by_first a.y b.y (lt_z a.x b.x))

-- The order of keys is the order of coordinates by z, then y, then x.
abbrev pub KeyOrder : Type 0
KeyOrder = (a b : Coordinates) → is_block a ≡ true → is_block b ≡ true → lt_z (key_of a.x a.y a.z) (key_of b.x b.y b.z) ≡ before a b

-- ---- nodes
-- "Node index in a block = 256·z + 16·y + x": the node there stands x, y and z steps from the block's first.
abbrev pub NodeIndex : Type 0
NodeIndex = (b : Coordinates) (x y z : ℕ) → x < 16 → y < 16 → z < 16
    → node_coordinates b (256 * z + 16 * y + x) ≡ record { x = axis_coordinate b.x x; y = axis_coordinate b.y y; z = axis_coordinate b.z z }

-- A node of a block in range lies in the world.
abbrev pub NodeInWorld : Type 0
NodeInWorld = (b : Coordinates) (i : ℕ) → is_block b ≡ true → i < 4096 → let n = node_coordinates b i in in_lot world n.x n.y n.z ≡ true

-- Nodes with equal coordinates are the same node of the same block.
abbrev pub NodesApart : Type 0
NodesApart = (a b : Coordinates) (i j : ℕ) → i < 4096 → j < 4096 → node_coordinates a i ≡ node_coordinates b j → (a ≡ b) × (i ≡ j)

-- ---- lots and spans
abbrev pub in_world : ℤ → Bool
in_world c = le_z (negsuc 32767) c && le_z c (pos 32767)

-- The world is a good lot and has exactly the coordinates -32768..32767.
abbrev pub WholeWorld : Type 0
WholeWorld = (good_lot world ≡ true) × ((x y z : ℤ) → in_lot world x y z ≡ (in_world x && (in_world y && in_world z)))

-- All time is a good span and has every second below 0xffffffff.
abbrev pub AllTime : Type 0
AllTime = (good_span all_time ≡ true) × ((t : ℕ) → t < 0xffffffff → in_span all_time t ≡ true)

-- 0xffffffff lies in no span, since until fits 32 bits and is outside.
abbrev pub NeverInSpan : Type 0
NeverInSpan = (s : Span) → s.until ≤ 0xffffffff → in_span s 0xffffffff ≡ false
