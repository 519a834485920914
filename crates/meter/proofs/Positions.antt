-- No two nodes of what is tallied stand at one place.
use Rattle.std.proofs.Common.{◌≡◌, ℕ, zero, suc, ◌+◌, ◌<◌, ◌≤◌, Bool, true, false, cond, ◌⊎◌, List, [], ◌∷◌, ◌++◌, drop, ℤ, sym, ap, ◌∙◌, inl, inr, arith}
use mathlib.Core.Path.{subst⁻¹}
use mathlib.Core.Option.{Option, some, none}
use lib.Signed.{le_z}
use Rattle.wire.proofs.Ints.{ints}
use Rattle.wire.specs.Answer.{good}
use Rattle.wire.proofs.Answers.{map-good}
use Rattle.position.specs.Keys.{split_of}
use Rattle.position.specs.declared.key.Coordinates.{Coordinates}
use Rattle.position.proofs.Theorems.{inverse, nodes-apart}
use Rattle.mapblock.specs.Valid.{Has, Distinct}
use Rattle.sheet.specs.Placed.{Placed, placed_at}
use Rattle.meter.specs.Standing.{Node, in_part, node_in, nodes_from, standing, filter_nodes}
use Rattle.sheet.specs.Sheet.{rises, records_from}
use Rattle.meter.specs.Theorems.{one_block, whole-sheet, place_of, PositionsApart}
use Rattle.sheet.proofs.RecordSteps.{judge-taken, first_taken, none-taken}
use Rattle.sheet.proofs.SheetTaken.{sheet-opened}

-- ---- some of the nodes
has-filter_nodes : (test : Node → Bool) (c : Coordinates) (l : List Node) → Has place_of c (filter_nodes test l) → Has place_of c l
unfolding filter_nodes
has-filter_nodes test c [] h = h
has-filter_nodes test c (x ∷ l) h = go (test x) h (has-filter_nodes test c l)
  where
    on : (x.place ≡ c) ⊎ Has place_of c (filter_nodes test l) → (Has place_of c (filter_nodes test l) → Has place_of c l) → (x.place ≡ c) ⊎ Has place_of c l
    on (inl e) ih = inl e
    on (inr k) ih = inr (ih k)

    go : (b : Bool) → Has place_of c (cond b (x ∷ filter_nodes test l) (filter_nodes test l)) → (Has place_of c (filter_nodes test l) → Has place_of c l) → (x.place ≡ c) ⊎ Has place_of c l
    go true k ih = on k ih
    go false k ih = inr (ih k)

apart-filter_nodes : (test : Node → Bool) (l : List Node) → Distinct place_of l → Distinct place_of (filter_nodes test l)
unfolding filter_nodes
apart-filter_nodes test [] h = tt
apart-filter_nodes test (x ∷ l) h = go (test x) (apart-filter_nodes test l h.1)
  where
    go : (b : Bool) → Distinct place_of (filter_nodes test l) → Distinct place_of (cond b (x ∷ filter_nodes test l) (filter_nodes test l))
    go true k = (λ z. h.0 (has-filter_nodes test x.place l z), k)
    go false k = k

-- in neither of two lists, in neither behind the other
has-append : (c : Coordinates) (a b : List Node) → (Has place_of c a → ⊥) → (Has place_of c b → ⊥) → Has place_of c (a ++ b) → ⊥
has-append c [] b h k z = k z
has-append c (x ∷ a) b h k z = go z (has-append c a b (λ y. h (inr y)) k)
  where
    go : (x.place ≡ c) ⊎ Has place_of c (a ++ b) → (Has place_of c (a ++ b) → ⊥) → ⊥
    go (inl e) ih = h (inl e)
    go (inr y) ih = ih y

-- ---- the nodes of a block, before others
-- a place that is none of a block's from an index on
has_block : (y : Placed) (c : Coordinates) (n i : ℕ) → i + n ≤ 4096 → ((m : ℕ) → i ≤ m → m < 4096 → (node_in y m).place ≡ c → ⊥) → Has place_of c (nodes_from y n i) → ⊥
unfolding nodes_from
has_block y c zero i k d z = z
has_block y c (suc n) i k d z = go z (has_block y c n (suc i) (omega arith) (λ m g. d m (omega arith)))
  where
    go : ((node_in y i).place ≡ c) ⊎ Has place_of c (nodes_from y n (suc i)) → (Has place_of c (nodes_from y n (suc i)) → ⊥) → ⊥
    go (inl e) ih = d i (omega arith) (omega arith) e
    go (inr w) ih = ih w

apart-before : (x : Placed) (n i : ℕ) (l : List Node) → i + n ≤ 4096 → ((j : ℕ) → j < 4096 → Has place_of (node_in x j).place l → ⊥) → Distinct place_of l → Distinct place_of (nodes_from x n i ++ l)
unfolding nodes_from
apart-before x zero i l h d k = k
apart-before x (suc n) i l h d k = (
  has-append (node_in x i).place (nodes_from x n (suc i)) l
      (has_block x (node_in x i).place n (suc i) (omega arith) (λ m g f e. let q = (nodes-apart x.at x.at m i f (omega arith) e).1 in omega arith))
      (d i (omega arith)),
  apart-before x n (suc i) l (omega arith) d k,
)

-- ---- blocks at different places
abbrev block_place : Placed → Coordinates
block_place x = x.at

away-elsewhere : (x : Placed) (j : ℕ) (l : List Placed) → (Has block_place x.at l → ⊥) → j < 4096 → Has place_of (node_in x j).place (standing l) → ⊥
unfolding standing
away-elsewhere x j [] d h z = z
away-elsewhere x j (y ∷ l) d h z =
    has-append (node_in x j).place (nodes_from y 4096 0) (standing l)
    (has_block y (node_in x j).place 4096 0 (omega arith) (λ m g f e. d (inl (nodes-apart y.at x.at m j f h e).0)))
    (away-elsewhere x j l (λ w. d (inr w)) h)
    z

standing_apart : (l : List Placed) → Distinct block_place l → Distinct place_of (standing l)
unfolding standing
standing_apart [] d = tt
standing_apart (x ∷ l) d = apart-before x 4096 0 (standing l) (omega arith) (λ j h. away-elsewhere x j l d.0 h) (standing_apart l d.1)

-- ---- keys that rise
-- each block has a key, above the last one
abbrev Risen : Option ℤ → List Placed → Type 0
Risen last [] = Unit {0}
Risen last (x ∷ l) = (k : ℤ) × (split_of k ≡ good x.at) × (rises last k ≡ true) × Risen (some k) l

records-risen : (k i : ℕ) (last : Option ℤ) (s : List ℕ) (l : List Placed) → records_from k i last s ≡ good l → Risen last l
records-risen zero i last s l h = subst⁻¹ (Risen last) (none-taken i last s l h).1 tt
records-risen (suc k) i last s l h =
    let x = first_taken k i last s l h in
    let r = x.first in
    let j = judge-taken last r x.block x.judged in
    subst⁻¹ (Risen last) x.blocks (r.key, j.0, j.1, records-risen k (suc i) (some r.key) (drop x.ends s) x.more x.behind)

-- a place has one key
one_key : (c : Coordinates) (a b : ℤ) → split_of a ≡ good c → split_of b ≡ good c → a ≡ b
one_key c a b h k =
    let p = (inverse c.x c.y c.z a).1 h in
    let q = (inverse c.x c.y c.z b).1 k in
    let e : good a ≡ good b = sym p ∙ q in
    cc

risen-away : (a last : ℤ) (c : Coordinates) (l : List Placed) → split_of a ≡ good c → le_z a last ≡ true → Risen (some last) l → Has block_place c l → ⊥
risen-away a last c [] h le r z = z
risen-away a last c (y ∷ l) h le (k, at, up, more) z = go z (risen-away a k c l h (omega ints) more)
  where
    go : (y.at ≡ c) ⊎ Has block_place c l → (Has block_place c l → ⊥) → ⊥
    go (inl e) ih = let q = one_key c a k h (at ∙ ap good e) in omega ints
    go (inr w) ih = ih w

all-away : (last : Option ℤ) (l : List Placed) → Risen last l → Distinct block_place l
all-away last [] r = tt
all-away last (x ∷ l) (k, at, up, more) = (risen-away k k x.at l at (omega ints) more, all-away (some k) l more)

-- ---- of a block, and of a sheet
pub positions-apart : PositionsApart
positions-apart (one_block key s) p l h =
    let x = map-good (λ (x : Placed). x ∷ []) (placed_at key s) l h in
    apart-filter_nodes (in_part p) (standing l) (standing_apart l (subst⁻¹ (Distinct block_place) (sym x.2) (λ z. z, tt)))
positions-apart (whole-sheet s spare) p l h =
    let x = sheet-opened s l h in
    apart-filter_nodes (in_part p) (standing l) (standing_apart l (all-away none l (records-risen x.0 0 none (drop x.1 s) l x.3)))
