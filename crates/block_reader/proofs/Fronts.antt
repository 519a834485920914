-- The front of a block, step by step.
use Prim.Native.Nat.{ℕ, ◌+◌, ◌<◌, ◌≤◌}
use mathlib.Core.Path.{◌≡◌, refl, ap, ap₂, sym, ◌∙◌}
use mathlib.Core.List.{List}
use mathlib.Core.Bool.{Bool, false, true}
use native.Mathlib.Nat.{zero-add, add_assoc}
use native.Mathlib.Omega.{arith}
use lib.ListN.{length, drop, length-append, length-drop}
use lib.Seq.{drop-drop}
use borrow.Author.Tests.{le-leb, lt-leb}
use Rattle.wire.specs.Bytes.{Bytes, bytes_drop}
use Rattle.wire.specs.Read.{Read, done, refused, map_read, reach, map-done, map-refused}
use Rattle.wire.specs.Format.{refine, nothing, ◌⨾◌, iso, ends-in}
use Rattle.mapblock.specs.Inventory.{BlockFormat}
use Rattle.wire.specs.Walk.{rows_read}
use Rattle.mapblock.specs.Data.{Opening, NameMapping, Nodes, Front, no_mapping}
use Rattle.mapblock.specs.Layout.{is_version, unused, width, opening, name_mapping, nodes, front}
use Rattle.mapblock.specs.Params.{lists_of}
use Rattle.block_reader.specs.Scan.{opening_on, opening_is, FrontIs, FrontTold}
use Rattle.mapblock.specs.Table.{free_in, unmarked, front_rows, NamesMarked, NameMappingMarked}
use Rattle.mapblock.specs.Told.{ended, names_head, shown_mapping}
use Rattle.mapblock.specs.declared.fault.Fault.{Fault}
use Rattle.mapblock.specs.declared.fault.Fault.TheVariants as fault
use Rattle.block_reader.specs.declared.scan.OpeningFields.{OpeningFields}
use Rattle.mapblock.proofs.Leaves.{told_in}
use Rattle.mapblock.proofs.Readings.{num, ended-done, ended-refused, within-ended}
use Rattle.mapblock.proofs.Entries.{nodes-done}
use Rattle.block_reader.proofs.ListLengths.{num-length, name-mapping-length, name-mapping-rows, name-mapping-front}
use Rattle.std.specs.Prelude.{Err}
use Rattle.mapblock.specs.declared.names.NamesHead.{NamesHead}

-- ---- step 1
module _ (s : List ℕ) where
  pub opening-ends : {e : Fault} {p : ℕ} → (num 1).read s ≡ refused e p → opening.read s ≡ refused e p
  unfolding opening iso ◌⨾◌ refine
  opening-ends h = rw h

  module _ {v : ℕ} (h : (num 1).read s ≡ done v 1) where
    pub opening-other : is_version v ≡ false → opening.read s ≡ refused fault.Version 0
    unfolding opening iso ◌⨾◌ refine
    opening-other l = rw (h, l)

    module _ (a : is_version v ≡ true) where
      pub opening-no-flags : {e : Fault} {p : ℕ} → (num 1).read (drop 1 s) ≡ refused e p → opening.read s ≡ refused e (1 + p)
      unfolding opening iso ◌⨾◌ refine
      opening-no-flags k = rw (h, a, k)

      module _ {flags : ℕ} (k : (num 1).read (drop 1 s) ≡ done flags 1) where
        pub opening-unlit : v < 27 → opening.read s ≡ done (opening_on v flags 65535) 2
        unfolding opening iso ◌⨾◌ refine nothing
        opening-unlit l = rw (h, a, k, lt-leb 27 v l)

        pub opening-no-light : {e : Fault} {p : ℕ} → 27 ≤ v → (num 2).read (drop 2 s) ≡ refused e p → opening.read s ≡ refused e (1 + (1 + p))
        unfolding opening iso ◌⨾◌ refine
        opening-no-light l g = rw (h, a, k, le-leb 27 v l, drop-drop 1 1 s, g)

        pub opening-lit : {x : ℕ} → 27 ≤ v → (num 2).read (drop 2 s) ≡ done x 2 → opening.read s ≡ done (opening_on v flags x) 4
        unfolding opening iso ◌⨾◌ refine
        opening-lit l g = rw (h, a, k, le-leb 27 v l, drop-drop 1 1 s, g)

pub opening-length : (o : Opening) → 27 ≤ o.version → length (opening.encode o) ≡ 4
unfolding opening iso ◌⨾◌ refine
opening-length o l = rw (le-leb 27 o.version l, length-append, length-append, num-length 1 o.version, num-length 1 o.flags, num-length 2 o.lighting)

-- what was told of bytes behind the opening lies in the list
pub opened_in : {A B : Type 0} (to : A → B) (f : BlockFormat A) (s : List ℕ) {o : Opening} {at : ℕ} {r : Read Fault B} → opening.read s ≡ done o at
    → r ≡ map_read to (f.read (drop at s)) → at + reach r ≤ length s
opened_in to f s {at = at} h k = omega (arith, ends-in opening h, told_in to f (drop at s) k, length-drop at s)

pub nodes-two : (v : ℕ) (s : List ℕ) {n : ℕ} → done tt n ≡ ended ((nodes v).read s) → 2 ≤ n
nodes-two v s h = omega (arith, (nodes-done v s (ended-done ((nodes v).read s) h).1).0)

-- ---- the front, read
abbrev pub front_of : Opening → NameMapping → Nodes → Front
front_of o m n = record { opening = o; mapping = m; nodes = n }

module _ (free : ℕ → Bool) (s : List ℕ) where
  pub front-refused : {e : Fault} {p : ℕ} → opening.read s ≡ refused e p → (front free).read s ≡ refused e p
  unfolding front iso ◌⨾◌
  front-refused h = rw h

  module _ {o : Opening} {at : ℕ} (h : opening.read s ≡ done o at) where
    module _ (l : o.version < 29) where
      plain-refused : {e : Fault} {p : ℕ} → (nodes o.version).read (drop at s) ≡ refused e p → (front free).read s ≡ refused e (at + p)
      unfolding front iso ◌⨾◌ nothing
      plain-refused k = rw (h, lt-leb 29 o.version l, k, zero-add)

      plain_done : {nd : Nodes} {n : ℕ} → (nodes o.version).read (drop at s) ≡ done nd n → (front free).read s ≡ done (front_of o no_mapping nd) (at + n)
      unfolding front iso ◌⨾◌ nothing
      plain_done k = rw (h, lt-leb 29 o.version l, k, zero-add)

    module _ (l : 29 ≤ o.version) where
      named-refused : {e : Fault} {p : ℕ} → (name_mapping free).read (drop at s) ≡ refused e p → (front free).read s ≡ refused e (at + p)
      unfolding front iso ◌⨾◌
      named-refused k = rw (h, le-leb 29 o.version l, k)

      module _ {sv : NameMapping} {n : ℕ} (k : (name_mapping free).read (drop at s) ≡ done sv n) where
        named-stopped : {e : Fault} {p : ℕ} → (nodes o.version).read (drop (at + n) s) ≡ refused e p → (front free).read s ≡ refused e (at + n + p)
        unfolding front iso ◌⨾◌
        named-stopped g = rw (h, le-leb 29 o.version l, k, drop-drop n at s, g, add_assoc)

        named-done : {nd : Nodes} {m : ℕ} → (nodes o.version).read (drop (at + n) s) ≡ done nd m → (front free).read s ≡ done (front_of o sv nd) (at + n + m)
        unfolding front iso ◌⨾◌
        named-done g = rw (h, le-leb 29 o.version l, k, drop-drop n at s, g, add_assoc)

-- ---- the front before version 29, told; t is the table
module _ (t s : List ℕ) {o : OpeningFields} {at : ℕ} (h : opening.read s ≡ done (opening_is o) at) (l : o.version < 29) where
  pub plain-stops : {e : Fault} {p : ℕ} → refused e p ≡ ended ((nodes o.version).read (drop at s)) → FrontTold t t s (Err (record { fault = e; offset = (at + p) }))
  plain-stops k = (plain-refused (free_in t) s h l (ended-refused _ k), refl)

  pub plain-told : {n : ℕ} → length t ≡ 65536 → Bytes s → done tt n ≡ ended ((nodes o.version).read (drop at s))
      → FrontIs t t s (record { version = o.version; flags = o.flags; lighting = o.lighting; timestamp = 0; count = 0; lists = at + 2; end = at + n })
  unfolding unused rows_read
  plain-told {n} z b k =
      let x = ended-done ((nodes o.version).read (drop at s)) k in
      let y = nodes-done o.version (drop at s) x.1 in
      record {
        x = front_of (opening_is o) no_mapping x.0;
        reads = plain_done (free_in t) s h l x.1;
        opened = refl;
        time = refl;
        count = refl;
        at = rw (lt-leb 29 o.version l) (omega (arith, (opening.backward s (opening_is o) at b h).ends));
        nodes = y.2 ∙ ap (lists_of (width o.version)) (drop-drop 2 at s);
        ends = omega (arith, y.0);
        marked = record { is = refl; tabled = record { size = z; tells = λ i f. refl }; undone = refl };
        rows = refl;
      }

-- ---- version 29; t is the table before, u after the names
-- timestamp and names were read
pub record NamesRead (t u s : List ℕ) (o : OpeningFields) (at time count n : ℕ) : Type 0 where
  pub opens : opening.read s ≡ done (opening_is o) at
  pub new : 29 ≤ o.version
  pub sv : NameMapping
  pub reads : (name_mapping (free_in t)).read (drop at s) ≡ done sv n
  pub times : sv.timestamp ≡ time
  pub counts : length sv.names ≡ count
  pub marked : NamesMarked t u sv.names
  pub rows : front_rows count (drop (at + 7) s) ≡ sv.names

module _ (t u s : List ℕ) {o : OpeningFields} {at : ℕ} (h : opening.read s ≡ done (opening_is o) at) (l : 29 ≤ o.version)
    (m : NameMappingMarked t u ((name_mapping (free_in t)).read (drop at s))) where
  pub names-stop : {e : Fault} {p : ℕ} → refused e p ≡ map_read shown_mapping ((name_mapping (free_in t)).read (drop at s)) → FrontTold t u s (Err (record { fault = e; offset = (at + p) }))
  names-stop {e} {p} k =
      let x = map-refused shown_mapping ((name_mapping (free_in t)).read (drop at s)) e p (sym k) in
      (named-refused (free_in t) s h l x, rw x at m)

  pub names-read : {time count n : ℕ} → done (names_head time count) n ≡ map_read shown_mapping ((name_mapping (free_in t)).read (drop at s)) → NamesRead t u s o at time count n
  names-read {time} {count} {n} k =
      let x = map-done shown_mapping ((name_mapping (free_in t)).read (drop at s)) (names_head time count) n (sym k) in
      let c : length x.0.names ≡ count = ap (λ (y : NamesHead). y.count) x.2 in
      record {
        opens = h;
        new = l;
        sv = x.0;
        reads = x.1;
        times = ap (λ (y : NamesHead). y.timestamp) x.2;
        counts = c;
        marked = rw x.1 at m;
        rows = ap₂ front_rows (sym c) (sym (drop-drop 7 at s)) ∙ name-mapping-front (free_in t) (drop at s) x.1;
      }

module _ {t u s : List ℕ} {o : OpeningFields} {at time count n : ℕ} (w : NamesRead t u s o at time count n) where
  -- the names end in the list, and so do seven bytes, behind which their rows stand
  pub names_in : at + n ≤ length s
  names_in = omega (arith, ends-in opening w.opens, ends-in (name_mapping (free_in t)) w.reads, length-drop at s)

  pub rows_in_lem : at + 7 ≤ length s
  rows_in_lem = omega (arith, names_in, (name-mapping-rows (free_in t) (drop at s) w.reads).2)

  abbrev pub nodes_there : Read Fault (Unit {0})
  nodes_there = ended ((nodes o.version).read (drop (at + n) s))

  pub nodes-in : {r : Read Fault (Unit {0})} → r ≡ nodes_there → at + n + reach r ≤ length s
  nodes-in g = omega (arith, names_in, within-ended (nodes o.version) (drop (at + n) s) g, length-drop (at + n) s)

  -- z is the table with the marks taken off again
  pub named-stops : {z : List ℕ} {e : Fault} {p : ℕ} → refused e p ≡ nodes_there → z ≡ unmarked u (front_rows count (drop (at + 7) s))
      → FrontTold t z s (Err (record { fault = e; offset = (at + n + p) }))
  named-stops g e =
      (named-stopped (free_in t) s w.opens w.new w.reads (ended-refused _ g), e ∙ ap (unmarked u) w.rows ∙ w.marked.undone)

  pub named-told : {j : ℕ} → Bytes s → done tt j ≡ nodes_there
      → FrontIs t u s (record { version = o.version; flags = o.flags; lighting = o.lighting; timestamp = time; count = count; lists = at + n + 2; end = at + n + j })
  named-told {j} b g =
      let x = ended-done ((nodes o.version).read (drop (at + n) s)) g in
      let y = nodes-done o.version (drop (at + n) s) x.1 in
      let o₁ = opening_is o in
      let opens : at ≡ length (opening.encode o₁) = (opening.backward s o₁ at b w.opens).ends in
      let eleven : 11 ≡ at + 7 = omega (arith, w.new, opening-length o₁ (omega (arith, w.new))) in
      record {
        x = front_of o₁ w.sv x.0;
        reads = named-done (free_in t) s w.opens w.new w.reads x.1;
        opened = refl;
        time = w.times;
        count = w.counts;
        at = rw (le-leb 29 o.version w.new) (omega (arith, name-mapping-length (free_in t) (drop at s) w.reads (bytes_drop at s b)));
        nodes = y.2 ∙ ap (lists_of (width o.version)) (drop-drop 2 (at + n) s);
        ends = omega (arith, y.0);
        marked = w.marked;
        rows = ap (λ (i : ℕ). front_rows count (drop i s)) eleven ∙ w.rows;
      }
