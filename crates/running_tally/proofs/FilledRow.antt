-- One name of the second pass: the hole moves to its place, and its row is put there if it has none.
use Rattle.std.proofs.Common.{◌≡◌, ℕ, ◌+◌, ◌-◌, ◌<◌, ◌≤◌, true, false, List, [], ◌∷◌, ◌++◌, length, take, drop, sym, ap, ◌∙◌, ap₂, append_assoc, append-nil, arith, length-drop, length-take-le, take-take, drop-drop, take_at, drop_at, leb-true}
use Rattle.wire.specs.Order.{order}
use Rattle.std.specs.declared.cmp.Ordering.TheVariants.{Less}
use Rattle.wire.specs.Store.{overwrite}
use Rattle.wire.proofs.Overwrites.{overwrite-length, overwrite-take, overwrite-drop}
use Rattle.tally.specs.Rows.{Row, Rows, add_row, count_in}
use Rattle.tally.specs.Tally.{ones, one, fields}
use Rattle.tally.specs.Walks.{rows_bytes, Holds, row_stored}
use Rattle.tally.specs.LookedUp.{Below, LookedUp, RowAbsent}
use Rattle.tally.specs.declared.lookup.Lookup.TheVariants as lookups
use Rattle.tally.proofs.Steps.{add-between}
use Rattle.tally.proofs.Held.{rows_append, one_size}
use Rattle.tally.proofs.Opening.{row_fits}
use Rattle.tally.proofs.LookingUp.{cut-is, cut-size, below-append}
use Rattle.census.specs.UsedNames.{total_count}
use Rattle.running_tally.specs.Passes.{has, May, Apart, Inside, RowFilled, FilledTo}
use Rattle.running_tally.specs.declared.absorb.Hole.{Hole}
use Rattle.running_tally.proofs.Counts.{count-append, count-below, below-weak, canonical-behind, total_count-append, total_fits-limited}
use Rattle.running_tally.proofs.RaisedRow.{passes, row_has, place-not, may-canonical}

-- what stands behind bytes that were put
overwrite-behind : (at : ℕ) (b d : List ℕ) (m : ℕ) → at + length b ≤ length d → at + length b ≤ m → drop m (overwrite at b d) ≡ drop m d
overwrite-behind at b d m h k =
    let past : at + length b + (m - (at + length b)) ≡ m = omega arith in
    rw (← past, ← drop-drop (m - (at + length b)) (at + length b) (overwrite at b d), ← drop-drop (m - (at + length b)) (at + length b) d) (ap (drop (m - (at + length b))) (overwrite-drop at b d h))

module _ (t : List ℕ) (g : Hole) (n : ℕ) (i : Inside t g n) where
  -- the rows still to be read
  abbrev part : List ℕ
  part = take (n - g.read) (drop g.read t)

  part-size : length part ≡ n - g.read
  part-size = cut-size g.read n t i.inside

  -- ---- p bytes move to the front
  module _ (p : ℕ) (q : g.read + p ≤ n) where
    abbrev moved : List ℕ
    moved = take p (drop g.read t)

    moved-size : length moved ≡ p
    moved-size = length-take-le p (drop g.read t) (rw length-drop (omega (arith, i.inside)))

    abbrev on : Hole
    on = record { read = g.read + p; write = g.write + p }

    room : g.write + length moved ≤ length t
    room = omega (arith, i.ahead, i.inside, moved-size)

    pub moved_length : (t' : List ℕ) → t' ≡ overwrite g.write moved t → length t' ≡ length t
    moved_length t' e = ap length e ∙ overwrite-length g.write moved t room

    kept : (m : ℕ) → g.write + p ≤ m → drop m (overwrite g.write moved t) ≡ drop m t
    kept m h = overwrite-behind g.write moved t m room (omega (arith, moved-size))

    pub moved_inside : (t' : List ℕ) → length t' ≡ length t → Inside t' on n
    moved_inside t' e = record { ahead = omega (arith, i.ahead); short = q; inside = omega (arith, i.inside) }

    module _ (D L E K : Rows ones) (a : Apart t g n D L) (s : L ≡ E ++ K) (z : p ≡ length (rows_bytes one E)) where
      bytes : part ≡ rows_bytes one E ++ rows_bytes one K
      bytes = a.rest ∙ ap (rows_bytes one) s ∙ rows_append one E K

      moved-is : moved ≡ rows_bytes one E
      moved-is = sym (take-take p (n - g.read) (drop g.read t) (omega arith)) ∙ ap (take p) bytes ∙ take_at (rows_bytes one E) (rows_bytes one K) p (sym z)

      rest-is : take (n - (g.read + p)) (drop (g.read + p) t) ≡ rows_bytes one K
      rest-is =
          cut-is (g.read + p) n t q i.inside ∙ sym (drop-drop p g.read (take n t)) ∙ ap (drop p) (sym (cut-is g.read n t i.short i.inside) ∙ bytes)
          ∙ drop_at (rows_bytes one E) (rows_bytes one K) p (sym z)

      same : (D ++ E) ++ K ≡ D ++ L
      same = append_assoc D E K ∙ ap (λ (l : Rows ones). D ++ l) (sym s)

      moved_apart : Apart (overwrite g.write moved t) on n (D ++ E) K
      moved_apart = record {
        front = ap (λ (j : ℕ). take (g.write + j) (overwrite g.write moved t)) (sym moved-size) ∙ overwrite-take g.write moved t room
            ∙ ap₂ (λ (x y : List ℕ). x ++ y) a.front moved-is ∙ sym (rows_append one D E);
        rest = ap (take (n - (g.read + p))) (kept (g.read + p) (omega (arith, i.ahead))) ∙ rest-is;
        canonical = rw same a.canonical;
        total_fits = omega (arith, a.total_fits, ap total_count s, total_count-append E K);
      }

      later : (r : Row ℕ) → Below ones r.name E → (m : List ℕ) → order r.name m ≡ Less → count_in ones K m ≡ count_in ones L m
      later r b m e = rw s (omega (arith, count-append E K m, count-below E m (below-weak r.name m E e b)))

  -- ---- a name
  module _ (r : Row ℕ) where
    module _ (D L : Rows ones) (a : Apart t g n D L) where
      holds : Holds one part L
      holds = record { bytes = a.rest; canonical = canonical-behind D L a.canonical; limit = total_fits-limited L a.total_fits }

    -- it has a row
    module _ (p before : ℕ) (f : LookedUp part r.name (lookups.Present p before)) where
      pub row_in : g.read + p ≤ n
      row_in = omega (arith, f.0, part-size, i.short)

      pub row-passed : (t' : List ℕ) → t' ≡ overwrite g.write (take p (drop g.read t)) t → FilledTo t t' g (on p row_in) n r
      row-passed t' e = record {
        inside = moved_inside p row_in t' (moved_length p row_in t' e);
        filled = λ D L a m h.
            let x = f.1 L (holds D L a) in
            let K = x.r ∷ x.R in
            let there : has L r.name ≡ true = row_has r D m L (holds D L a).canonical p before x in
            rw e record {
              D' = D ++ x.D;
              L' = K;
              apart = moved_apart p row_in D L x.D K a x.split x.place;
              sum = rw there (same p row_in D L x.D K a x.split x.place);
              passed = passes r D m x.D x.below;
              same = later p row_in D L x.D K a x.split x.place r x.below;
              room = rw there (omega arith);
              behind = kept p row_in n (omega (arith, row_in, i.ahead));
            };
      }

    -- it has none
    module _ (p : ℕ) (f : LookedUp part r.name (lookups.Absent p)) where
      pub place_in : g.read + p ≤ n
      place_in = omega (arith, f.0, part-size, i.short)

      abbrev new : ℕ
      new = length r.name + 10

      -- where the hole is as long as what is missing, there is room for its row
      pub place-full : (t' : List ℕ) → t' ≡ overwrite g.write (take p (drop g.read t)) t → g.read - g.write < new → FilledTo t t' g (on p place_in) n r
      place-full t' e l = record {
        inside = moved_inside p place_in t' (moved_length p place_in t' e);
        filled = λ D L a m h.
            let x = f.1 L (holds D L a) in
            absurd (omega (arith, h (place-not r D m L (holds D L a).canonical p x), one_size r, l));
      }

      module _ (t' : List ℕ) (e : t' ≡ overwrite g.write (take p (drop g.read t)) t) (l : new ≤ g.read - g.write) where
        abbrev to : ℕ
        to = g.write + p

        abbrev put : Hole
        put = record { read = g.read + p; write = g.write + p + new }

        fits : to + new ≤ length t'
        fits = omega (arith, moved_length p place_in t' e, place_in, i.inside, i.ahead, l)

        row_put : length r.name ≤ 65535 → (t'' : List ℕ) → t'' ≡ row_stored to r t' → t'' ≡ overwrite to ((fields one).encode r) t'
        row_put h t'' k = k ∙ row_fits to r t' h fits

        -- what stands behind the row
        past : (m : ℕ) → to + new ≤ m → drop m (overwrite to ((fields one).encode r) t') ≡ drop m t
        past m h =
            overwrite-behind to ((fields one).encode r) t' m (omega (arith, fits, one_size r)) (omega (arith, h, one_size r))
            ∙ ap (drop m) e ∙ kept p place_in m (omega (arith, h))

        module _ (D L : Rows ones) (a : Apart t g n D L) (m : May r D) where
          abbrev x : RowAbsent r.name p L
          x = f.1 L (holds D L a)

          abbrev E : Rows ones
          E = D ++ x.D

          before : Apart t' (on p place_in) n E x.R
          before = rw e (moved_apart p place_in D L x.D x.R a x.split x.place)

          sum : (E ++ r ∷ []) ++ x.R ≡ add_row ones r (D ++ L)
          sum =
              append_assoc E (r ∷ []) x.R ∙ sym (ap (add_row ones r) (sym (same p place_in D L x.D x.R a x.split x.place))
              ∙ add-between ones r E x.R (below-append r.name D x.D m.below x.below) x.above)

          apart : Apart (overwrite to ((fields one).encode r) t') put n (E ++ r ∷ []) x.R
          apart = record {
            front = ap (λ (j : ℕ). take (to + j) (overwrite to ((fields one).encode r) t')) (sym (one_size r)) ∙ overwrite-take to ((fields one).encode r) t' (omega (arith, fits, one_size r))
                ∙ ap₂ (λ (u v : List ℕ). u ++ v) before.front (sym (append-nil ((fields one).encode r))) ∙ sym (rows_append one E (r ∷ []));
            rest = ap (take (n - (g.read + p))) (past (g.read + p) (omega (arith, l, i.ahead)) ∙ sym (ap (drop (g.read + p)) e ∙ kept p place_in (g.read + p) (omega (arith, i.ahead)))) ∙ before.rest;
            canonical = rw sum (may-canonical r D m (D ++ L) a.canonical);
            total_fits = before.total_fits;
          }

          new_row : RowFilled t (overwrite to ((fields one).encode r) t') g put n r D L
          new_row =
              let none : has L r.name ≡ false = place-not r D m L (holds D L a).canonical p x in
              record {
                D' = E ++ r ∷ [];
                L' = x.R;
                apart = apart;
                sum = rw none sum;
                passed = λ k o. below-append k E (r ∷ []) (passes r D m x.D x.below k o) (o, tt);
                same = later p place_in D L x.D x.R a x.split x.place r x.below;
                room = rw none (omega (arith, one_size r));
                behind = past n (omega (arith, l, i.ahead, place_in));
              }

        pub place-filled : (t'' : List ℕ) → length t'' ≡ length t → t'' ≡ row_stored to r t' → FilledTo t t'' g put n r
        place-filled t'' len k = record {
          inside = record { ahead = omega (arith, l, i.ahead); short = place_in; inside = omega (arith, i.inside, len) };
          filled = λ D L a m h. rw (row_put (leb-true (length r.name) 65535 m.name) t'' k) (new_row D L a m);
        }
