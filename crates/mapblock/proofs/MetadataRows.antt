-- Rows of metadata, and rows that begin with a position: one law for each way on.
use Prim.Native.Nat.{ℕ, ◌+◌, ◌<◌, ◌≤◌}
use mathlib.Core.Path.{◌≡◌, refl, ap, sym, ◌∙◌}
use mathlib.Core.List.{List, [], ◌∷◌}
use mathlib.Core.Bool.{Bool, true, false, cond, not}
use native.Mathlib.Nat.{add-zero, zero-add}
use native.Mathlib.Omega.{arith}
use lib.Dec.{leb}
use lib.IntN.{ℤ}
use lib.ListN.{length, take, drop, length-drop}
use lib.Seq.{drop-drop, length-take-le}
use borrow.Author.Tests.{le-leb, lt-leb}
use Rattle.wire.specs.Bytes.{Bytes, bytes_drop, from_be}
use Rattle.wire.specs.Read.{Read, done, refused, bind, map_read, shift, bind_done, map-done, shift-done, cond-done}
use Rattle.wire.specs.Format.{run, nothing, refine, ◌⨾◌, next, pair, iso, items, encode_items, items-length}
use Rattle.wire.specs.Formats.{◌▹◌, number, u8, u16, s32, prefixed, listed, times, only, into, Shape}
use Rattle.mapblock.specs.Inventory.{BlockFormat, inventory}
use Rattle.mapblock.specs.Data.{Variable, MetadataRow, TimerRow, metadata_shape, timer_shape}
use Rattle.mapblock.specs.Layout.{since, all, unused, position, new_position, variable_by, variable, metadata_row, timer_row}
use Rattle.mapblock.specs.MetadataChecks.{position_for, variable_for, metadata_row_for}
use Rattle.wire.specs.Ranges.{range_at, no_range}
use Rattle.mapblock.specs.Rows.{metadata_fields}
use Rattle.mapblock.specs.Told.{ended}
use Rattle.mapblock.specs.declared.metadata.MetadataFields.{MetadataFields}
use Rattle.mapblock.specs.declared.fault.Fault.{Fault}
use Rattle.mapblock.specs.declared.fault.Fault.TheVariants as fault
use Rattle.wire.proofs.Joints.{refine-done, refine-all, then-refused, then-done, listed-refused, listed-done}
use Rattle.mapblock.proofs.Readings.{num, text, within, ended-done, ended-refused, ended-map, behind, ended-third}

-- ---- one variable
abbrev pub key_and_value : BlockFormat (List ℕ × List ℕ)
key_and_value = text 2 ▹ text 4

abbrev private : Bool → BlockFormat ℕ
private values = cond values (refine (λ b. leb b 1) fault.PrivateByte u8) u8

abbrev hidden : Bool → ℕ → BlockFormat ℕ
hidden values v = only (since 28 v) 0 (private values)

module _ (s : List ℕ) where
  pub key-ends : {e : Fault} {p : ℕ} → (text 2).read s ≡ refused e p → refused e p ≡ ended (key_and_value.read s)
  unfolding ◌⨾◌
  key-ends h = rw h

  pub value-ends : {l : List ℕ} {n : ℕ} {e : Fault} {p : ℕ} → (text 2).read s ≡ done l n → (text 4).read (drop n s) ≡ refused e p
      → refused e (n + p) ≡ ended (key_and_value.read s)
  unfolding ◌⨾◌
  value-ends h k = rw (h, k)

  pub value-done : (k n : ℕ) {l m : List ℕ} → (text 2).read s ≡ done l (2 + k) → (text 4).read (drop (2 + k) s) ≡ done m (4 + n)
      → done tt (6 + k + n) ≡ ended (key_and_value.read s)
  unfolding ◌⨾◌
  value-done k n h g = let e : 6 + k + n ≡ 2 + k + (4 + n) = omega arith in rw (h, g) (ap (done tt) e)

-- a private byte that is read; where it is judged, it is 0 or 1
private-ends-by : (values : Bool) (s : List ℕ) → (num 1).read s ≡ refused fault.Ends 0 → (private values).read s ≡ refused fault.Ends 0
unfolding refine
private-ends-by true s g = rw g
private-ends-by false s g = g

private-done-by : (values : Bool) (s : List ℕ) {b : ℕ} → (num 1).read s ≡ done b 1 → (values ≡ true → b ≤ 1) → (private values).read s ≡ done b 1
unfolding refine
private-done-by true s {b} g o = rw (g, le-leb b 1 (o refl))
private-done-by false s g o = g

variable-is : (values : Bool) (v : ℕ) → variable_for values v ≡ variable_by (private values) v
unfolding variable_for variable
variable-is true v = refl
variable-is false v = refl

module _ (values : Bool) (v : ℕ) (s : List ℕ) where
  variable-by : {r : Read Fault (Unit {0})} → r ≡ ended (key_and_value.read s) → ended ((variable_for values v).read s) ≡ bind r (behind (hidden values v) s)
  unfolding iso
  variable-by {r} h = rw (variable-is values v, ended-map, h) (ended-third (text 2) (text 4) (hidden values v) s)

  pub variable-refused : {r : Read Fault (Unit {0})} {e : Fault} {p : ℕ} → r ≡ ended (key_and_value.read s) → r ≡ refused e p
      → r ≡ ended ((variable_for values v).read s)
  variable-refused h k = k ∙ sym (variable-by (sym k ∙ h))

  module _ {n : ℕ} (h : done tt n ≡ ended (key_and_value.read s)) where
    pub variable-bare : v < 28 → done tt n ≡ ended ((variable_for values v).read s)
    unfolding nothing
    variable-bare k = sym (variable-by h ∙ rw (lt-leb 28 v k, add-zero))

    module _ (k : 28 ≤ v) where
      pub private-ends : (num 1).read (drop n s) ≡ refused fault.Ends 0 → refused fault.Ends n ≡ ended ((variable_for values v).read s)
      private-ends g = sym (variable-by h ∙ rw (le-leb 28 v k, private-ends-by values (drop n s) g, add-zero))

      pub private-other : {b : ℕ} → values ≡ true → (num 1).read (drop n s) ≡ done b 1 → 1 < b
          → refused fault.PrivateByte n ≡ ended ((variable_for values v).read s)
      unfolding refine
      private-other {b} t g o = sym (variable-by h ∙ rw (le-leb 28 v k, t, g, lt-leb b 1 o, add-zero))

      pub private-done : {b : ℕ} → (num 1).read (drop n s) ≡ done b 1 → (values ≡ true → b ≤ 1) → done tt (n + 1) ≡ ended ((variable_for values v).read s)
      private-done {b} g o = sym (variable-by h ∙ rw (le-leb 28 v k, private-done-by values (drop n s) g o))

-- ---- rows that begin with a number that is tested
first_done : {A C : Type 0} (f : BlockFormat A) (g : BlockFormat C) (s : List ℕ) (x : A × C) {n : ℕ} → (f ▹ g).read s ≡ done x n → (m : ℕ) × (f.read s ≡ done x.0 m)
unfolding ◌⨾◌
first_done {A} {C} f g s x {n} h =
    let y = bind_done (f.read s) (next (λ _. g) s) x n h in
    let z = shift-done y.1 (pair y.0) (g.read (drop y.1 s)) x n y.3 in
    (y.1, y.2 ∙ ap (λ (a : A × C). done a.0 y.1) z.3)

abbrev pub first_tested : {B C : Type 0} → Shape (ℕ × C) B → Fault → BlockFormat ℕ → BlockFormat C → (ℕ → Bool) → BlockFormat B
first_tested shape e f g test = into shape (refine test e f ▹ g)

module _ {B C : Type 0} (shape : Shape (ℕ × C) B) (e : Fault) (f : BlockFormat ℕ) (g : BlockFormat C) (test : ℕ → Bool) (s : List ℕ) where
  pub first_passes : (other : ℕ → Bool) {p n : ℕ} → f.read s ≡ done p n → test p ≡ other p → (first_tested shape e f g test).read s ≡ (first_tested shape e f g other).read s
  unfolding iso ◌⨾◌ refine
  first_passes other h t = rw (h, t)

  pub first_read : {b : B} {n : ℕ} → (first_tested shape e f g test).read s ≡ done b n → (m : ℕ) × ((refine test e f).read s ≡ done (shape.parts b).0 m)
  unfolding iso
  first_read {b} {n} h =
      let x = map-done shape.make ((refine test e f ▹ g).read s) b n h in
      let y = first_done (refine test e f) g s x.0 x.1 in
      (y.0, y.1 ∙ ap (λ (a : ℕ × C). done a.0 y.0) (sym (shape.back x.0) ∙ ap shape.parts x.2))

-- ---- positions of rows
pub position-two : (s : List ℕ) {p n : ℕ} → position.read s ≡ done p n → n ≡ 2
unfolding number iso run
position-two s {p} {n} h =
    let x = map-done (from_be 0) ((run {ends = fault.Ends} 2).read s) p n (refine-done (λ p. leb p 4095) fault.PositionAbove u16 s h) in
    let y = cond-done (leb 2 (length s)) (done (take 2 s) 2) fault.Ends 0 x.0 n x.1 in
    cc y.1

-- a position that was read in a row
placed-two : {B : Type 0} (key : B → ℕ) (seen : List B) (s : List ℕ) {p n : ℕ} → (new_position key seen).read s ≡ done p n → (new_position key seen).read s ≡ done p 2
placed-two key seen s {p} {n} h = h ∙ ap (done p) (position-two s (refine-done (unused key all seen) fault.PositionTwice position s h))

-- a row's position, and what stands behind it
abbrev pub node_name_of : MetadataRow → ℕ
node_name_of r = r.position

abbrev pub timed_of : TimerRow → ℕ
timed_of r = r.position

abbrev variable_list : Bool → ℕ → BlockFormat (List Variable)
variable_list values v = listed 4 λ _. variable_for values v

-- the fields by themselves, and whether the version is 23 or more
abbrev tail_by : BlockFormat ℕ → BlockFormat (List ℕ) → BlockFormat (List Variable) → BlockFormat (List ℕ) → Bool → BlockFormat (ℕ × (List ℕ × (List Variable × List ℕ)))
tail_by u c l i b = only (not b) 0 u ▹ only (not b) [] c ▹ only b [] l ▹ only b [] i

abbrev metadata_tail : ℕ → Bool → BlockFormat (ℕ × (List ℕ × (List Variable × List ℕ)))
metadata_tail v b = tail_by u16 (prefixed 2) (listed 4 λ _. variable v) inventory b

abbrev timer_tail : BlockFormat (ℤ × ℤ)
timer_tail = s32 ▹ s32

module _ (v : ℕ) (seen : List MetadataRow) (s : List ℕ) where
  pub metadata-alone : {p n : ℕ} → position.read s ≡ done p n → unused node_name_of all seen p ≡ true → (metadata_row v seen).read s ≡ (metadata_row v []).read s
  unfolding metadata_row unused
  metadata-alone h t = first_passes metadata_shape fault.PositionTwice position (metadata_tail v (since 23 v)) (unused node_name_of all seen) s all h t

  pub metadata-position : {a : MetadataRow} {n : ℕ} → (metadata_row v seen).read s ≡ done a n → (new_position node_name_of seen).read s ≡ done a.position 2
  unfolding metadata_row
  metadata-position h = placed-two node_name_of seen s (first_read metadata_shape fault.PositionTwice position (metadata_tail v (since 23 v)) (unused node_name_of all seen) s h).1

module _ (seen : List TimerRow) (s : List ℕ) where
  pub timer-alone : {p n : ℕ} → position.read s ≡ done p n → unused timed_of all seen p ≡ true → (timer_row seen).read s ≡ (timer_row []).read s
  unfolding timer_row unused
  timer-alone h t = first_passes timer_shape fault.PositionTwice position timer_tail (unused timed_of all seen) s all h t

  pub timer-position : {a : TimerRow} {n : ℕ} → (timer_row seen).read s ≡ done a n → (new_position timed_of seen).read s ≡ done a.position 2
  unfolding timer_row
  timer-position h = placed-two timed_of seen s (first_read timer_shape fault.PositionTwice position timer_tail (unused timed_of all seen) s h).1

-- ---- the row at the front, alone
abbrev told : Bool → ℕ → List ℕ → Read Fault MetadataFields
told values v s = map_read (metadata_fields v) ((metadata_row_for values v).read s)

-- no position is used before a row that is alone
pub values-told : (v : ℕ) (s : List ℕ) → told true v s ≡ map_read (metadata_fields v) ((metadata_row v []).read s)
unfolding metadata_row metadata_row_for variable_for iso ◌⨾◌ unused
values-told v s = rw (refine-all (unused node_name_of all []) fault.PositionTwice position s (λ a. refl))

pub row-refused : (values : Bool) (v : ℕ) (s : List ℕ) {e : Fault} → (position_for values).read s ≡ refused e 0 → refused e 0 ≡ told values v s
unfolding metadata_row_for iso ◌⨾◌
row-refused values v s h = rw h

-- the fields by themselves, up to version 22
abbrev old_shape : (p u : BlockFormat ℕ) (c : BlockFormat (List ℕ)) (l : BlockFormat (List Variable)) (i : BlockFormat (List ℕ)) → BlockFormat MetadataRow
old_shape p u c l i = into metadata_shape (p ▹ tail_by u c l i false)

module _ (p u : BlockFormat ℕ) (c : BlockFormat (List ℕ)) (l : BlockFormat (List Variable)) (i : BlockFormat (List ℕ)) (s : List ℕ) {at : ℕ} (h : p.read s ≡ done at 2) where
  old-kind : {e : Fault} {q : ℕ} → u.read (drop 2 s) ≡ refused e q → (old_shape p u c l i).read s ≡ refused e (2 + q)
  unfolding iso ◌⨾◌ nothing
  old-kind g = rw (h, g)

  old-content : {kind : ℕ} {e : Fault} {q : ℕ} → u.read (drop 2 s) ≡ done kind 2 → c.read (drop 2 (drop 2 s)) ≡ refused e q → (old_shape p u c l i).read s ≡ refused e (2 + (2 + q))
  unfolding iso ◌⨾◌ nothing
  old-content g f = rw (h, g, f)

  old-done : {kind n : ℕ} {a : List ℕ} → u.read (drop 2 s) ≡ done kind 2 → c.read (drop 2 (drop 2 s)) ≡ done a n
      → (old_shape p u c l i).read s ≡ done record { position = at; kind = kind; content = a; variables = []; inventory = [] } (2 + (2 + (n + (0 + 0))))
  unfolding iso ◌⨾◌ nothing
  old-done g f = rw (h, g, f)

module _ (values : Bool) (v : ℕ) (s : List ℕ) {at : ℕ} (h : (position_for values).read s ≡ done at 2) where
  -- version 22
  module _ (k : v < 23) where
    old_is : {r : Read Fault MetadataRow} → (old_shape (position_for values) u16 (prefixed 2) (variable_list values v) inventory).read s ≡ r → map_read (metadata_fields v) r ≡ told values v s
    unfolding metadata_row_for
    old_is e = ap (map_read (metadata_fields v)) (sym (
        ap (λ (b : Bool). (into metadata_shape (position_for values ▹ tail_by u16 (prefixed 2) (variable_list values v) inventory b)).read s) (lt-leb 23 v k) ∙ e))

    pub kind-ends : (num 2).read (drop 2 s) ≡ refused fault.Ends 0 → refused fault.Ends 2 ≡ told values v s
    kind-ends g = old_is (old-kind (position_for values) u16 (prefixed 2) (variable_list values v) inventory s h g)

    pub content-ends : {kind p : ℕ} {e : Fault} → (num 2).read (drop 2 s) ≡ done kind 2 → (text 2).read (drop 4 s) ≡ refused e p → refused e (4 + p) ≡ told values v s
    content-ends {p = p} {e = e} g f =
        let z : 4 + p ≡ 2 + (2 + p) = omega arith in
        ap (refused e) z ∙ old_is (old-content (position_for values) u16 (prefixed 2) (variable_list values v) inventory s h g (ap (text 2).read (drop-drop 2 2 s) ∙ f))

    old-fields : (at kind n : ℕ) (a : List ℕ) → length a ≡ n
        → metadata_fields v record { position = at; kind = kind; content = a; variables = []; inventory = [] } ≡ record { position = at; kind = kind; content = range_at 6 n; variables = 0; rows = no_range; inventory = no_range }
    old-fields at kind n a e = rw (lt-leb 23 v k, e)

    pub content-done : {kind n : ℕ} → (num 2).read (drop 2 s) ≡ done kind 2 → (text 2).read (drop 4 s) ≡ done (take n (drop 2 (drop 4 s))) (2 + n)
        → done record { position = at; kind = kind; content = range_at 6 n; variables = 0; rows = no_range; inventory = no_range } (6 + n) ≡ told values v s
    content-done {kind = kind} {n = n} g f =
        let z : 6 + n ≡ 2 + (2 + (2 + n + (0 + 0))) = omega arith in
        let l : n ≤ length (drop 2 (drop 4 s)) = rw length-drop (omega (arith, within (text 2) (drop 4 s) f)) in
        rw (← old-fields at kind n (take n (drop 2 (drop 4 s))) (length-take-le n (drop 2 (drop 4 s)) l), z)
        (old_is (old-done (position_for values) u16 (prefixed 2) (variable_list values v) inventory s h g (ap (text 2).read (drop-drop 2 2 s) ∙ f)))

-- ---- from version 23 on
abbrev new_row : ℕ → List Variable × List ℕ → MetadataRow
new_row at x = record { position = at; kind = 0; content = []; variables = x.0; inventory = x.1 }

new_by : (p u : BlockFormat ℕ) (c : BlockFormat (List ℕ)) (l : BlockFormat (List Variable)) (i : BlockFormat (List ℕ)) (s : List ℕ) {at : ℕ} → p.read s ≡ done at 2
    → (into metadata_shape (p ▹ tail_by u c l i true)).read s ≡ shift 2 (new_row at) ((l ▹ i).read (drop 2 s))
unfolding iso ◌⨾◌ nothing
new_by p u c l i s {at} h = rw h (go ((l ▹ i).read (drop 2 s)))
  where
    go : (r : Read Fault (List Variable × List ℕ)) → map_read metadata_shape.make (shift 2 (pair at) (shift 0 (pair 0) (shift 0 (pair []) r))) ≡ shift 2 (new_row at) r
    go (done x n) = simp zero-add
    go (refused e q) = simp zero-add

-- judged or not, a variable has the same bytes
private-encoded : (values there : Bool) (n : ℕ) → (only there 0 (private values)).encode n ≡ (only there 0 (private true)).encode n
unfolding refine
private-encoded values false n = refl
private-encoded true true n = refl
private-encoded false true n = refl

variable-encoded : (values : Bool) (v : ℕ) (a : Variable) → (variable_for values v).encode a ≡ (variable v).encode a
unfolding variable iso ◌⨾◌
variable-encoded values v a = rw (variable-is values v, private-encoded values (since 28 v) a.hidden)

variables-encoded : (values : Bool) (v : ℕ) (seen l : List Variable) → encode_items (λ _. variable_for values v) seen l ≡ encode_items (λ _. variable v) seen l
variables-encoded values v seen [] = refl
variables-encoded values v seen (a ∷ l) = rw (variable-encoded values v a, variables-encoded values v (a ∷ seen) l)

fields-are : (values : Bool) (v at : ℕ) (l : List Variable) (i : List ℕ) {count n m : ℕ} → 23 ≤ v → length l ≡ count → length (encode_items (λ _. variable_for values v) [] l) ≡ n → length i ≡ m
    → metadata_fields v (new_row at (pair l i)) ≡ record { position = at; kind = 0; content = no_range; variables = count; rows = range_at 6 n; inventory = range_at (6 + n) m }
fields-are values v at l i k a b c = rw (le-leb 23 v k, a, ← variables-encoded values v [] l, b, c)

module _ (values : Bool) (v : ℕ) (s : List ℕ) {at : ℕ} (h : (position_for values).read s ≡ done at 2) (k : 23 ≤ v) where
  new_is : {r : Read Fault (List Variable × List ℕ)} → (variable_list values v ▹ inventory).read (drop 2 s) ≡ r → map_read (metadata_fields v) (shift 2 (new_row at) r) ≡ told values v s
  unfolding metadata_row_for
  new_is e = ap (map_read (metadata_fields v)) (sym (
      ap (λ (b : Bool). (into metadata_shape (position_for values ▹ tail_by u16 (prefixed 2) (variable_list values v) inventory b)).read s) (le-leb 23 v k)
      ∙ new_by (position_for values) u16 (prefixed 2) (variable_list values v) inventory s h ∙ ap (shift 2 (new_row at)) e))

  pub count-ends : (num 4).read (drop 2 s) ≡ refused fault.Ends 0 → refused fault.Ends 2 ≡ told values v s
  count-ends g = new_is (then-refused (variable_list values v) inventory (drop 2 s) (listed-refused 4 (λ _. variable_for values v) (drop 2 s) g))

  module _ {count : ℕ} (g : (num 4).read (drop 2 s) ≡ done count 4) where
    list-is : {r : Read Fault (List Variable)} → (times count (variable_for values v)).read (drop 6 s) ≡ r → (variable_list values v).read (drop 2 s) ≡ shift 4 (λ l. l) r
    list-is e = listed-done 4 (λ _. variable_for values v) (drop 2 s) g ∙ ap (shift 4 (λ l. l)) (ap (times count (variable_for values v)).read (drop-drop 4 2 s) ∙ e)

    pub variables-refused : {e : Fault} {p : ℕ} → refused e p ≡ ended ((times count (variable_for values v)).read (drop 6 s)) → refused e (6 + p) ≡ told values v s
    variables-refused {e} {p} f =
        let x = ended-refused ((times count (variable_for values v)).read (drop 6 s)) f in
        let z : 6 + p ≡ 2 + (4 + p) = omega arith in
        ap (refused e) z ∙ new_is (then-refused (variable_list values v) inventory (drop 2 s) (list-is x))

    module _ {n : ℕ} (f : done tt n ≡ ended ((times count (variable_for values v)).read (drop 6 s))) where
      -- the variables that were read
      found : (l : List Variable) × ((times count (variable_for values v)).read (drop 6 s) ≡ done l n)
      found = ended-done ((times count (variable_for values v)).read (drop 6 s)) f

      both_is : {r : Read Fault (List ℕ)} → inventory.read (drop (6 + n) s) ≡ r → (variable_list values v ▹ inventory).read (drop 2 s) ≡ shift (4 + n) (pair found.0) r
      both_is e =
          let z : 2 + (4 + n) ≡ 6 + n = omega arith in
          then-done (variable_list values v) inventory (drop 2 s) (list-is found.1) (ap inventory.read (drop-drop (4 + n) 2 s ∙ ap (λ (m : ℕ). drop m s) z) ∙ e)

      pub inventory-refused : {e : Fault} {p : ℕ} → refused e p ≡ ended (inventory.read (drop (6 + n) s)) → refused e (6 + n + p) ≡ told values v s
      inventory-refused {e} {p} i =
          let x = ended-refused (inventory.read (drop (6 + n) s)) i in
          let z : 6 + n + p ≡ 2 + (4 + n + p) = omega arith in
          ap (refused e) z ∙ new_is (both_is x)

      pub new-done : {m : ℕ} → Bytes s → done tt m ≡ ended (inventory.read (drop (6 + n) s))
          → done record { position = at; kind = 0; content = no_range; variables = count; rows = range_at 6 n; inventory = range_at (6 + n) m } (6 + n + m) ≡ told values v s
      unfolding items inventory
      new-done {m} b i =
          let x = ended-done (inventory.read (drop (6 + n) s)) i in
          let t = (times count (variable_for values v)).backward (drop 6 s) found.0 n (bytes_drop 6 s b) found.1 in
          let u = inventory.backward (drop (6 + n) s) x.0 m (bytes_drop (6 + n) s b) x.1 in
          let z : 6 + n + m ≡ 2 + (4 + n + m) = omega arith in
          rw (← fields-are values v at found.0 x.0 k (items-length (λ _. variable_for values v) count [] found.0 t.ok) (sym t.ends) (sym u.ends), z)
          (new_is (both_is x.1))
