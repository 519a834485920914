-- What adding a row answers, by cases.
use Prim.Native.Nat.{ℕ, ◌+◌, ◌-◌, ◌<◌, ◌≤◌}
use mathlib.Core.Path.{◌≡◌, refl, sym, ap, ap₂, ◌∙◌}
use mathlib.Core.Bool.{true, false, ◌&&◌, and_assoc}
use mathlib.Core.Logic.{inl, inr}
use mathlib.Core.List.{List, [], ◌∷◌, ◌++◌, append_assoc}
use mathlib.Core.Option.{some, none, some-injective}
use native.Mathlib.Omega.{arith}
use lib.Dec.{leb}
use lib.ListN.{length, take, drop, length-append, take-append-drop}
use lib.Seq.{take_at, drop_at, length-take-le}
use borrow.Author.Tests.{le-leb, lt-leb}
use borrow.Rule.Slice.PartMut.{put_mid}
use Rattle.wire.specs.Answer.{good, plain, parts_misfit, tally_malformed, Answered}
use Rattle.wire.specs.Bytes.{Bytes, to_be, bytes_take}
use Rattle.wire.specs.Formats.{u32, u64, head_length}
use Rattle.wire.specs.Order.{order}
use Rattle.wire.proofs.TotalOrder.{order-refl}
use Rattle.std.specs.declared.cmp.Ordering.TheVariants.{Equal}
use Rattle.wire.specs.Store.{overwrite, stored}
use Rattle.wire.specs.Told.{short}
use Rattle.wire.proofs.Tests.{and_yes, yes_and, and_no, three-yes, yes-three}
use Rattle.wire.proofs.Puts.{put-number}
use Rattle.tally.specs.Rows.{Row, Rows, is_name, joined, add_row}
use Rattle.tally.specs.Tally.{TallyKind, TallyRow, TallyRows, head_bytes, fields, tally, rows_of, limited, countable, max_count, ones, one, max_rows}
use Rattle.tally.specs.Operations.{check_of, tallied, add_of}
use Rattle.tally.specs.Told.{told_add}
use Rattle.tally.specs.Walks.{rows_bytes, Holds}
use Rattle.tally.specs.LookedUp.{AddReady, LookedUp, RowPresent, RowAbsent, lookup_of, row_inserted, AddedAs}
use Rattle.tally.specs.declared.lookup.Lookup.{Lookup}
use Rattle.tally.specs.declared.lookup.Lookup.TheVariants as lookups
use Rattle.tally.proofs.Held.{Opened, opened as tally-opened, rows_append, tally-bytes, head-size, tally-size, one_size}
use Rattle.tally.proofs.Checks.{Checked, checked, check-long}
use Rattle.tally.proofs.LookingUp.{cut-is, cut-size, looked-up-told}
use Rattle.tally.proofs.Opening.{count-overwrite, rows-overwrite, part-opened}
use Rattle.tally.proofs.Steps.{add_at, add-between}
use Rattle.tally.proofs.Fitting.{many-answered, room-answered, good-answered}
use Rattle.std.specs.Prelude.{Ok, Err, Result}
use Rattle.tally.specs.declared.add.AddError.{AddError}
use Rattle.tally.specs.declared.add.AddError.TheVariants as add_errors

-- ---- the answer by cases
module _ (k : TallyKind) (d : List ℕ) (n : ℕ) (r : TallyRow k) where
  pub add-long : 65535 < length r.name → add_of k d n r ≡ plain parts_misfit
  unfolding add_of
  add-long h = rw (lt-leb (length r.name) 65535 h)

  module _ (h : length r.name ≤ 65535) where
    named : is_name r.name ≡ true
    named = le-leb (length r.name) 65535 h

    pub add-beyond : length d < n → add_of k d n r ≡ plain tally_malformed
    unfolding add_of
    add-beyond i = rw (named, lt-leb n (length d) i)

    module _ (i : n ≤ length d) where
      pub add-malformed : rows_of k (take n d) ≡ none → add_of k d n r ≡ plain tally_malformed
      unfolding add_of
      add-malformed e = rw (named, le-leb n (length d) i, e)

      module _ (L : TallyRows k) (e : rows_of k (take n d) ≡ some L) where
        pub add_nothing : k.counts.stands r.count ≡ false → add_of k d n r ≡ good (take n d)
        unfolding add_of
        add_nothing s = rw (named, le-leb n (length d) i, e, s)

        pub add-some : k.counts.stands r.count ≡ true → add_of k d n r ≡ tallied k (length d) (add_row k.counts r L)
        unfolding add_of
        add-some s = rw (named, le-leb n (length d) i, e, s)

-- ---- a checked tally, and a row that may be added
module _ (d : List ℕ) (n rows : ℕ) (r : Row ℕ) (h : length r.name ≤ 65535) (i : n ≤ length d) (c : good rows ≡ check_of one (take n d)) where
  abbrev there : Checked one (take n d) rows
  there = checked one (take n d) c

  -- nothing is added
  pub nothing-added : r.count ≡ 0 → Answered (good n) d d (add_of one d n r)
  nothing-added z =
      rw (add_nothing one d n r h i there.l there.is (lt-leb 1 r.count (omega arith)), length-take-le n d i) (refl, sym (take-append-drop n d))

  pub may_add : Bytes d → 0 < r.count → AddReady d n rows r
  may_add b s = record {
    long = rw (length-take-le n d i) at (check-long (take n d) (bytes_take n d b) c);
    inside = i;
    counts = λ L e. there.counts ∙ ap length (some-injective _ _ (sym there.is ∙ e));
    name = omega (arith, h);
    stands = s;
  }

  pub row-added : (e : List ℕ) (a : Result ℕ AddError) → 0 < r.count → AddedAs d e n r a → Answered (told_add a) d e (add_of one d n r)
  row-added e a s f = rw (add-some one d n r h i there.l there.is (le-leb 1 r.count s)) (f there.l there.is)

-- ---- rows with one more among them
module _ (k : TallyKind) where
  limited-append : (D R : TallyRows k) → limited k (D ++ R) ≡ (limited k D && limited k R)
  limited-append [] R = refl
  limited-append (x ∷ D) R = rw (limited-append D R) (sym (and_assoc (k.limit x.count) (limited k D) (limited k R)))

  module _ (D R : TallyRows k) (x : TallyRow k) where
    limited-more : limited k (D ++ R) ≡ true → k.limit x.count ≡ true → limited k (D ++ x ∷ R) ≡ true
    limited-more h c =
        let p = and_yes (limited k D) (limited k R) (sym (limited-append D R) ∙ h) in
        limited-append D (x ∷ R) ∙ yes-three p.0 c p.1

    limited-less : limited k (D ++ x ∷ R) ≡ true → limited k (D ++ R) ≡ true
    limited-less h =
        let p = three-yes (limited k D) (k.limit x.count) (limited k R) (sym (limited-append D (x ∷ R)) ∙ h) in
        limited-append D R ∙ yes_and p.0 p.2

    limited-not : k.limit x.count ≡ false → limited k (D ++ x ∷ R) ≡ false
    limited-not h = limited-append D (x ∷ R) ∙ and_no (limited k D) (k.limit x.count && limited k R) (inr (and_no (k.limit x.count) (limited k R) (inl h)))

  -- its bytes, up to a row and from there on
  tally-parts : (L D R : TallyRows k) → L ≡ D ++ R → (tally k).encode L ≡ (head_bytes k (length L) ++ rows_bytes k D) ++ rows_bytes k R
  tally-parts L D R s =
      tally-bytes k L ∙ ap (λ (y : List ℕ). head_bytes k (length L) ++ y) (ap (rows_bytes k) s ∙ rows_append k D R)
      ∙ sym (append_assoc (head_bytes k (length L)) (rows_bytes k D) (rows_bytes k R))

  parts-size : (L D R : TallyRows k) → L ≡ D ++ R → length ((tally k).encode L) ≡ head_length + (length (rows_bytes k D) + length (rows_bytes k R))
  parts-size L D R s = tally-size k L ∙ ap (λ (j : ℕ). head_length + j) (ap length (ap (rows_bytes k) s ∙ rows_append k D R) ∙ length-append (rows_bytes k D) (rows_bytes k R))

-- ---- a row added to the tally in the first n bytes of d
module _ {d : List ℕ} {n rows : ℕ} {r : Row ℕ} (w : AddReady d n rows r) where
  -- what is answered, and what the buffer then holds, where the rows are L
  abbrev Added : Result ℕ AddError → List ℕ → Rows ones → Type 0
  Added a after L = Answered (told_add a) d after (tallied one (length d) (add_row ones r L))

  -- the bytes behind the head
  abbrev part : List ℕ
  part = take (n - head_length) (drop head_length d)

  part-size : length part ≡ n - head_length
  part-size = cut-size head_length n d w.inside

  part-is : part ≡ drop head_length (take n d)
  part-is = cut-is head_length n d w.long w.inside

  module _ (b : Bytes d) where
    -- what is found there
    found : {x : Lookup} → x ≡ lookup_of part r.name → LookedUp part r.name x
    found h = looked-up-told d head_length (n - head_length) r.name b h refl

    -- a place in them
    pub row-place : {at before : ℕ} → lookups.Present at before ≡ lookup_of part r.name → at + (length r.name + 10) + head_length ≤ n
    row-place h = omega (arith, (found h).0, part-size, w.long)

    pub new-place : {at : ℕ} → lookups.Absent at ≡ lookup_of part r.name → at + head_length ≤ n
    new-place h = omega (arith, (found h).0, part-size, w.long)

  module _ (b : Bytes d) {L : Rows ones} (e : rows_of one (take n d) ≡ some L) where
    opens : Opened one (take n d) L
    opens = tally-opened one (take n d) L (bytes_take n d b) e

    holds : Holds one part L
    holds = rw part-is opens.holds

    fits : (limited one L ≡ true) × (leb (length L) max_rows ≡ true)
    fits = and_yes (limited one L) (leb (length L) max_rows) opens.counts

    -- what stands around a place
    module _ (D R : Rows ones) (s : L ≡ D ++ R) where
      abbrev front : List ℕ
      front = head_bytes one (length L) ++ rows_bytes one D

      front-size : length front ≡ length (rows_bytes one D) + head_length
      front-size = omega (arith, length-append (head_bytes one (length L)) (rows_bytes one D), head-size one (length L))

      around : d ≡ front ++ (rows_bytes one R ++ drop n d)
      around =
          sym (take-append-drop n d) ∙ ap (λ (x : List ℕ). x ++ drop n d) (opens.bytes ∙ tally-parts one L D R s)
          ∙ append_assoc front (rows_bytes one R) (drop n d)

      sizes : n ≡ head_length + (length (rows_bytes one D) + length (rows_bytes one R))
      sizes = sym (length-take-le n d w.inside) ∙ ap length opens.bytes ∙ parts-size one L D R s

    -- ---- to the count of its row
    module _ {at before : ℕ} (there : lookups.Present at before ≡ lookup_of part r.name) where
      q : LookedUp part r.name (lookups.Present at before)
      q = found b there

      abbrev f : RowPresent r.name at before L
      f = q.1 L holds

      abbrev more : Row ℕ
      more = record { name = f.r.name; count = before + r.count }

      abbrev T : Rows ones
      T = f.D ++ more ∷ f.R

      sum : add_row ones r L ≡ T
      sum =
          let same : order r.name f.r.name ≡ Equal = rw f.name (order-refl r.name) in
          let c : r.count + f.r.count ≡ before + r.count = omega (arith, f.counts) in
          let joins : joined ones r f.r ≡ more = λ i. record { name = sym f.name i; count = c i } in
          ap (add_row ones r) f.split ∙ add_at ones r f.r f.D f.R f.below same ∙ ap (λ (y : Row ℕ). f.D ++ y ∷ f.R) joins

      -- as many rows, of as many bytes
      same_rows : length T ≡ length L
      same_rows = omega (arith, ap length f.split, length-append f.D (f.r ∷ f.R), length-append f.D (more ∷ f.R))

      same_size : length ((tally one).encode T) ≡ n
      same_size =
          omega (
            arith,
            parts-size one T f.D (more ∷ f.R) refl,
            sizes f.D (f.r ∷ f.R) f.split,
            one_size more,
            one_size f.r,
            length-append ((fields one).encode more) (rows_bytes one f.R),
            length-append ((fields one).encode f.r) (rows_bytes one f.R),
          )

      sum_fits : before + r.count ≤ max_count → countable one T ≡ true
      sum_fits h =
          yes_and (limited-more one f.D f.R more (limited-less one f.D f.R f.r (ap (limited one) (sym f.split) ∙ fits.0)) (le-leb (before + r.count) max_count h))
          (rw same_rows fits.1)

      sum-overwrite : overwrite (((at + head_length) + 2) + length r.name) (to_be 8 (before + r.count)) d ≡ (tally one).encode T ++ drop n d
      sum-overwrite =
          let A = front f.D (f.r ∷ f.R) f.split in
          let old = (fields one).encode f.r in
          let new = (fields one).encode more in
          let rest = rows_bytes one f.R in
          let place : ((at + head_length) + 2) + length r.name ≡ length A + (2 + length f.r.name) =
          omega (arith, front-size f.D (f.r ∷ f.R) f.split, f.place, ap length f.name) in
          let was : d ≡ A ++ (old ++ (rest ++ drop n d)) = around f.D (f.r ∷ f.R) f.split ∙ ap (λ (y : List ℕ). A ++ y) (append_assoc old rest (drop n d)) in
          let bytes : (tally one).encode T ≡ A ++ (new ++ rest) = tally-parts one T f.D (more ∷ f.R) refl ∙ rw same_rows in
          ap₂ (λ (j : ℕ) (y : List ℕ). overwrite j (to_be 8 (before + r.count)) y) place was ∙ count-overwrite A (rest ++ drop n d) f.r (before + r.count)
          ∙ sym (ap (λ (y : List ℕ). y ++ drop n d) bytes ∙ append_assoc A (new ++ rest) (drop n d) ∙ ap (λ (y : List ℕ). A ++ y) (append_assoc new rest (drop n d)))

      pub row-full : max_count < before + r.count → Added (Err add_errors.TooMany) d L
      row-full h =
          rw sum (many-answered one d T
          (and_no (limited one T) (leb (length T) max_rows) (inl (limited-not one f.D f.R more (lt-leb (before + r.count) max_count (omega arith))))))

      pub row-counted : (a : List ℕ) → before + r.count ≤ max_count
          → a ≡ stored (((at + head_length) + 2) + length r.name) ((u64 {ends = short}).encode (before + r.count)) d → Added (Ok n) a L
      row-counted a h g =
          rw sum (good-answered one d T (sum_fits (omega arith)) same_size w.inside
          ((put-number (((at + head_length) + 2) + length r.name) 8 (before + r.count) (omega (arith, row-place b there, w.inside)) g).overwrites ∙ sum-overwrite))

    -- ---- as a row of its own
    module _ {at : ℕ} (there : lookups.Absent at ≡ lookup_of part r.name) where
      free : LookedUp part r.name (lookups.Absent at)
      free = found b there

      abbrev g : RowAbsent r.name at L
      g = free.1 L holds

      abbrev U : Rows ones
      U = g.D ++ r ∷ g.R

      new-sum : add_row ones r L ≡ U
      new-sum = ap (add_row ones r) g.split ∙ add-between ones r g.D g.R g.below g.above

      new-rows : length U ≡ rows + 1
      new-rows = omega (arith, ap length g.split, length-append g.D g.R, length-append g.D (r ∷ g.R), w.counts L e)

      new-size : length ((tally one).encode U) ≡ n + (length r.name + 10)
      new-size = omega (arith, parts-size one U g.D (r ∷ g.R) refl, sizes g.D g.R g.split, one_size r, length-append ((fields one).encode r) (rows_bytes one g.R))

      new-fits : rows < max_rows → r.count ≤ max_count → countable one U ≡ true
      new-fits h c =
          yes_and (limited-more one g.D g.R r (ap (limited one) (sym g.split) ∙ fits.0) (le-leb r.count max_count c))
          (le-leb (length U) max_rows (omega (arith, new-rows)))

      -- the bytes before the place and behind it
      front_ends : length (front g.D g.R g.split) ≡ at + head_length
      front_ends = omega (arith, front-size g.D g.R g.split, g.place)

      front-is : take (at + head_length) d ≡ front g.D g.R g.split
      front-is =
          ap (take (at + head_length)) (around g.D g.R g.split)
          ∙ take_at (front g.D g.R g.split) (rows_bytes one g.R ++ drop n d) (at + head_length) front_ends

      behind-is : take (n - (at + head_length)) (drop (at + head_length) d) ≡ rows_bytes one g.R
      behind-is =
          let k = n - (at + head_length) in
          let rest : length (rows_bytes one g.R) ≡ n - (at + head_length) = omega (arith, sizes g.D g.R g.split, g.place) in
          ap (λ (y : List ℕ). take k (drop (at + head_length) y)) (around g.D g.R g.split)
          ∙ ap (take k) (drop_at (front g.D g.R g.split) (rows_bytes one g.R ++ drop n d) (at + head_length) front_ends)
          ∙ take_at (rows_bytes one g.R) (drop n d) k rest

      -- what stands behind the head when the row is there
      abbrev behind : List ℕ
      behind = rows_bytes one g.D ++ ((fields one).encode r ++ (rows_bytes one g.R ++ drop (n + (length r.name + 10)) d))

      new-bytes : (tally one).encode U ++ drop (n + (length r.name + 10)) d ≡ head_bytes one (rows + 1) ++ behind
      new-bytes =
          let z = drop (n + (length r.name + 10)) d in
          let D = rows_bytes one g.D in
          let row = (fields one).encode r in
          let R = rows_bytes one g.R in
          let head = head_bytes one (rows + 1) in
          ap (λ (y : List ℕ). y ++ z) (tally-parts one U g.D (r ∷ g.R) refl ∙ ap (λ (m : ℕ). (head_bytes one m ++ D) ++ (row ++ R)) new-rows)
          ∙ append_assoc (head ++ D) (row ++ R) z ∙ append_assoc head D ((row ++ R) ++ z) ∙ ap (λ (y : List ℕ). head ++ (D ++ y)) (append_assoc row R z)

      pub new-many : max_rows ≤ rows → Added (Err add_errors.TooMany) d L
      new-many h = rw new-sum (many-answered one d U (and_no (limited one U) (leb (length U) max_rows) (inr (lt-leb (length U) max_rows (omega (arith, new-rows))))))

      pub new-full : rows < max_rows → r.count ≤ max_count → length d - n < length r.name + 10 → Added (Err add_errors.NoRoom) d L
      new-full h c l = rw new-sum (room-answered one d U (new-fits h c) (omega (arith, new-size, w.inside)))

      module _ (room : n + (length r.name + 10) ≤ length d) (ys : List ℕ) (o : ys ≡ row_inserted (n - (at + head_length)) r (take (length d - (at + head_length)) (drop (at + head_length) d))) where
        abbrev now-there : List ℕ
        now-there = put_mid (at + head_length) (length d - (at + head_length)) d ys

        now-is : now-there ≡ head_bytes one (length L) ++ behind
        now-is =
            let z = drop (n + (length r.name + 10)) d in
            part-opened d (at + head_length) n r ys (new-place b there) room o ∙ ap₂ (λ (x y : List ℕ). x ++ ((fields one).encode r ++ (y ++ z))) front-is behind-is
            ∙ append_assoc (head_bytes one (length L)) (rows_bytes one g.D) ((fields one).encode r ++ (rows_bytes one g.R ++ z))

        pub new-added : (a : List ℕ) → rows < max_rows → r.count ≤ max_count → a ≡ stored 5 ((u32 {ends = short}).encode (rows + 1)) now-there
            → Added (Ok (n + (length r.name + 10))) a L
        new-added a h c p =
            let number = (u32 {ends = short}).encode (rows + 1) in
            let head : 5 + 4 ≤ length (head_bytes one (length L) ++ behind) = omega (arith, length-append (head_bytes one (length L)) behind, head-size one (length L)) in
            rw new-sum (good-answered one d U (new-fits h c) new-size room
            ((put-number 5 4 (rows + 1) head (p ∙ ap (stored 5 number) now-is)).overwrites ∙ rows-overwrite (length L) (rows + 1) behind ∙ sym new-bytes))
