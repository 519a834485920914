-- Rows of the three kinds, after one another, and the lists that they make.
use Prim.Native.Nat.{ℕ, ◌+◌, ◌-◌, ◌<◌, ◌≤◌}
use mathlib.Core.Path.{◌≡◌, refl, ap, sym, subst⁻¹, ◌∙◌}
use mathlib.Core.List.{List, []}
use native.Mathlib.Nat.{zero-add}
use lib.ListN.{length, take, drop, replicate, length-replicate, get_or-replicate}
use borrow.Author.Tests.{le-leb, lt-leb, eq-eqb}
use Rattle.wire.specs.Read.{Read, done, refused, map_read, shift, not_done}
use Rattle.wire.specs.Format.{nothing, ◌⨾◌, iso, pair, items}
use Rattle.wire.specs.Formats.{◌▹◌, listed, fixed, into, Shape}
use Rattle.wire.proofs.Lists.{rest-is}
use Rattle.mapblock.specs.Inventory.{BlockFormat}
use Rattle.mapblock.specs.Data.{MetadataRow, TimerRow, metadata_shape, timer_shape, timers_shape}
use Rattle.mapblock.specs.Layout.{all, unused, position, new_position, metadata_row, timer_row, late_timers}
use Rattle.mapblock.specs.Table.{Tabled}
use Rattle.mapblock.specs.Told.{told_reach, ended, PositionMarked}
use Rattle.mapblock.specs.ListKinds.{RowOf, row_after, Marked, RowMarked}
use Rattle.mapblock.specs.declared.fault.Fault.{Fault}
use Rattle.mapblock.specs.declared.fault.Fault.TheVariants as fault
use Rattle.mapblock.specs.declared.rows.ListKind.{ListKind}
use Rattle.mapblock.specs.declared.rows.ListKind.TheVariants as kind
use Rattle.wire.proofs.Fixed.{fixed_on}
use Rattle.wire.proofs.Joints.{listed-done, refine-done, refine-passes}
use Rattle.mapblock.proofs.Readings.{num, ended-done, ended-map, Reading, reading-start, reading-on}
use Rattle.mapblock.proofs.MetadataRows.{node_name_of, timed_of, metadata-alone, metadata-position, timer-alone, timer-position}
use Rattle.std.specs.Prelude.{Ok, Err, Result}
use Rattle.mapblock.specs.declared.fault.Refusal.{Refusal}

-- ---- a row judged alone, in the case of its kind
pub row_told : {B : Type 0} (j : ListKind) (v : ℕ) (s : List ℕ) (to : RowOf j → B) {k : ListKind} {r : Read Fault B} → k ≡ j → r ≡ map_read to ((row_after j v []).read s)
    → ended r ≡ ended ((row_after k v []).read s)
row_told j v s to {r = r} e h =
    subst⁻¹ (λ (i : ListKind). ended r ≡ ended ((row_after i v []).read s)) e (ap ended h ∙ ended-map to ((row_after j v []).read s))

-- ---- a row after others
first_stops : {B C : Type 0} (shape : Shape (ℕ × C) B) (p : BlockFormat ℕ) (g : BlockFormat C) (s : List ℕ) {e : Fault} {q : ℕ} → p.read s ≡ refused e q
    → (into shape (p ▹ g)).read s ≡ refused e q
unfolding iso ◌⨾◌
first_stops shape p g s h = rw h

module _ (v : ℕ) (seen : List MetadataRow) (s : List ℕ) where
  metadata-stops : {e : Fault} {q : ℕ} → refused e q ≡ (new_position node_name_of seen).read s → (metadata_row v seen).read s ≡ refused e q
  unfolding metadata_row
  metadata-stops h = first_stops metadata_shape (new_position node_name_of seen) _ s (sym h)

  metadata-goes : {p n : ℕ} → done p n ≡ (new_position node_name_of seen).read s → (metadata_row v seen).read s ≡ (metadata_row v []).read s
  metadata-goes h =
      let test = unused node_name_of all seen in
      metadata-alone v seen s (refine-done test fault.PositionTwice position s (sym h)) (refine-passes test fault.PositionTwice position s (sym h))

module _ (seen : List TimerRow) (s : List ℕ) where
  timer-stops : {e : Fault} {q : ℕ} → refused e q ≡ (new_position timed_of seen).read s → (timer_row seen).read s ≡ refused e q
  unfolding timer_row
  timer-stops h = first_stops timer_shape (new_position timed_of seen) _ s (sym h)

  timer-goes : {p n : ℕ} → done p n ≡ (new_position timed_of seen).read s → (timer_row seen).read s ≡ (timer_row []).read s
  timer-goes h =
      let test = unused timed_of all seen in
      timer-alone seen s (refine-done test fault.PositionTwice position s (sym h)) (refine-passes test fault.PositionTwice position s (sym h))

module _ (v : ℕ) (s t u : List ℕ) where
  -- its position was refused
  pub row-stops : {f : Fault} (k : ListKind) → (k ≡ kind.Objects → ⊥) → PositionMarked s t u (Err f) → RowMarked k v s t u (Err (record { fault = f; offset = 0 }))
  row-stops kind.Metadata o p = record {
    told = λ seen m. ap ended (sym (metadata-stops v seen s (p.told (unused node_name_of all seen) m)));
    marked = λ seen a n m h. not_done (sym (metadata-stops v seen s (p.told (unused node_name_of all seen) m)) ∙ h);
  }
  row-stops kind.Objects o p = absurd (o refl)
  row-stops kind.Timers o p = record {
    told = λ seen m. ap ended (sym (timer-stops seen s (p.told (unused timed_of all seen) m)));
    marked = λ seen a n m h. not_done (sym (timer-stops seen s (p.told (unused timed_of all seen) m)) ∙ h);
  }

  -- its position is new
  pub row_goes : {q : ℕ} {r : Result ℕ Refusal} (k : ListKind) → PositionMarked s t u (Ok q) → told_reach r ≡ ended ((row_after k v []).read s) → RowMarked k v s t u r
  unfolding unused
  row_goes kind.Metadata p h = record {
    told = λ seen m. h ∙ ap ended (sym (metadata-goes v seen s (p.told (unused node_name_of all seen) m)));
    marked = λ seen a n m e. p.marked (unused node_name_of all seen) a.position 2 m (metadata-position v seen s e);
  }
  row_goes kind.Objects p h = record { told = λ seen m. h; marked = λ seen a n m e. tt }
  row_goes kind.Timers p h = record {
    told = λ seen m. h ∙ ap ended (sym (timer-goes seen s (p.told (unused timed_of all seen) m)));
    marked = λ seen a n m e. p.marked (unused timed_of all seen) a.position 2 m (timer-position seen s e);
  }

  -- it has none
  pub row-bare : {k : ListKind} {r : Result ℕ Refusal} → k ≡ kind.Objects → told_reach r ≡ ended ((row_after kind.Objects v []).read s) → RowMarked k v s t u r
  row-bare {r = r} e h = subst⁻¹ (λ (i : ListKind). RowMarked i v s t u r) e (record { told = λ seen m. h; marked = λ seen a n m e. tt })

-- ---- so many rows, whose positions a table marks
pub record Walk (k : ListKind) (v count : ℕ) (s t : List ℕ) (at past : ℕ) : Type 0 where
  pub reading : Reading (row_after k v) count s at past
  pub marked : Marked k reading.seen t

all-free : Tabled 4096 all (replicate 4096 0)
all-free = record { size = length-replicate {A = ℕ} 4096 0; tells = λ i h. sym (eq-eqb _ _ (get_or-replicate {A = ℕ} 4096 i 0 0 h)) }

none-marked : (k : ListKind) → Marked k [] (replicate 4096 0)
unfolding unused
none-marked kind.Metadata = all-free
none-marked kind.Objects = tt
none-marked kind.Timers = all-free

pub walk_start : (k : ListKind) (v count : ℕ) (s : List ℕ) → Walk k v count s (replicate 4096 0) 0 0
walk_start k v count s = record { reading = reading-start (row_after k v) count s; marked = none-marked k }

module _ {k : ListKind} {v count : ℕ} {s t : List ℕ} {at past : ℕ} (w : Walk k v count s t at past) {u : List ℕ} {r : Result ℕ Refusal}
    (m : RowMarked k v (take (length s - at) (drop at s)) t u r) where
  pub walk-told : told_reach r ≡ ended ((row_after k v w.reading.seen).read (drop at s))
  walk-told = rw (rest-is at s) at (m.told w.reading.seen w.marked)

  pub walk-on : {n : ℕ} → done tt n ≡ ended ((row_after k v w.reading.seen).read (drop at s)) → past < count → Walk k v count s u (at + n) (past + 1)
  walk-on {n} e h =
      let x = ended-done ((row_after k v w.reading.seen).read (drop at s)) e in
      record { reading = reading-on w.reading h x.1; marked = m.marked w.reading.seen x.0 n w.marked (rw (rest-is at s) x.1) }

-- ---- lists, by where they end: y is the answer for the bytes behind the first n
part-told : {A : Type 0} (f : BlockFormat A) (n : ℕ) (s : List ℕ) {x : Read Fault A} {y : Read Fault (Unit {0})} → x ≡ shift n (λ a. a) (f.read (drop n s))
    → y ≡ ended (f.read (drop n s)) → shift n (λ a. a) y ≡ ended x
part-told {A} f n s h e = ap (shift n (λ a. a)) e ∙ go (f.read (drop n s)) ∙ ap ended (sym h)
  where
    go : (y : Read Fault A) → shift n (λ a. a) (ended y) ≡ ended (shift n (λ a. a) y)
    go (done a m) = refl
    go (refused k p) = refl

module _ {A : Type 0} (k : ℕ) (item : List A → BlockFormat A) (s : List ℕ) where
  pub listed-told : {count : ℕ} {y : Read Fault (Unit {0})} → (num k).read s ≡ done count k
      → y ≡ ended ((items item count).read (drop k s)) → shift k (λ a. a) y ≡ ended ((listed k item).read s)
  listed-told {count} h e = part-told (items item count) k s (listed-done k item s h) e

module _ {A : Type 0} (k v : ℕ) (e : Fault) (f : BlockFormat A) (s : List ℕ) where
  pub fixed_told : {x : ℕ} {y : Read Fault (Unit {0})} → (num k).read s ≡ done x k → x ≡ v
      → y ≡ ended (f.read (drop k s)) → shift k (λ a. a) y ≡ ended ((fixed k v e f).read s)
  fixed_told h g d = part-told f k s (fixed_on fault.Ends k v e f s (h ∙ ap (λ (n : ℕ). done n k) g)) d

-- ---- timers at the end
module _ (v : ℕ) (s : List ℕ) where
  pub late-none : v < 25 → done tt 0 ≡ ended ((late_timers v).read s)
  unfolding late_timers nothing
  late-none h = rw (lt-leb 25 v h)

  pub late-some : 25 ≤ v → ended ((fixed 1 10 fault.TimerRowLength (listed 2 timer_row)).read s) ≡ ended ((late_timers v).read s)
  unfolding late_timers iso ◌⨾◌ nothing
  late-some h = rw (le-leb 25 v h) (go ((fixed 1 10 fault.TimerRowLength (listed 2 timer_row)).read s))
    where
      go : (y : Read Fault (List TimerRow)) → ended y ≡ ended (map_read timers_shape.make (shift 0 (pair 0) y))
      go (done l m) = rw zero-add
      go (refused f p) = rw zero-add
