-- One name of the first pass: its count added to its row, or its place.
use Rattle.std.proofs.Common.{◌≡◌, ℕ, ◌+◌, ◌-◌, ◌%◌, ◌^◌, ◌<◌, ◌≤◌, true, false, List, ◌∷◌, ◌++◌, length, take, drop, sym, refl, ap, ◌∙◌, ap₂, append_assoc, arith, length-append, length-drop, take-append-drop, take_at, drop_at, le-leb, leb-true}
use Rattle.wire.specs.Bytes.{to_be}
use Rattle.wire.specs.Formats.{u64}
use Rattle.wire.specs.Order.{order}
use Rattle.wire.proofs.TotalOrder.{order-refl}
use Rattle.std.specs.declared.cmp.Ordering.TheVariants.{Equal}
use Rattle.wire.specs.Store.{overwrite, stored}
use Rattle.wire.specs.Told.{short}
use Rattle.wire.proofs.Puts.{put-number}
use Rattle.tally.specs.Rows.{Row, Rows, joined, add_row, count_in, Canonical}
use Rattle.tally.specs.Tally.{ones, one, fields}
use Rattle.tally.specs.Walks.{rows_bytes, Holds}
use Rattle.tally.specs.LookedUp.{Below, LookedUp, RowPresent, RowAbsent}
use Rattle.tally.specs.declared.lookup.Lookup.TheVariants as lookups
use Rattle.tally.proofs.Canon.{count-above, count-cons, canonical-add}
use Rattle.tally.proofs.Steps.{add_at}
use Rattle.tally.proofs.Held.{rows_append}
use Rattle.tally.proofs.Opening.{count-overwrite}
use Rattle.tally.proofs.LookingUp.{cut-is, cut-size, below-append}
use Rattle.running_tally.specs.RunningTally.{count_limit}
use Rattle.census.specs.UsedNames.{total_count}
use Rattle.running_tally.specs.Passes.{has, May, Passed, Cursor, RowRaised, RowMissing, RaisedTo}
use Rattle.running_tally.proofs.Counts.{count-append, count-below, below-weak, has_some, has-none, canonical-behind, total_count-append, total_fits-limited}

-- ---- a name found among rows behind D
module _ (g : Row ℕ) (D : Rows ones) (m : May g D) where
  pub passes : (E : Rows ones) → Below ones g.name E → Passed g (D ++ E)
  passes E b n e = below-weak g.name n (D ++ E) e (below-append g.name D E m.below b)

  module _ (L : Rows ones) (c : Canonical ones L) where
    -- it has a row there, or none
    pub row_has : (p before : ℕ) (f : RowPresent g.name p before L) → has L g.name ≡ true
    row_has p before f =
        let k : Canonical ones (f.r ∷ f.R) = canonical-behind f.D (f.r ∷ f.R) (rw f.split at c) in
        let same : order f.r.name g.name ≡ Equal = rw f.name (order-refl g.name) in
        has_some L g.name (rw f.split (omega (arith, count-append f.D (f.r ∷ f.R) g.name, leb-true 1 f.r.count k.2, count-cons ones f.r f.R g.name {w = Equal} same)))

    pub place-not : (p : ℕ) (f : RowAbsent g.name p L) → has L g.name ≡ false
    place-not p f = has-none L g.name (rw f.split (omega (arith, count-append f.D f.R g.name, count-below f.D g.name f.below, count-above ones f.R g.name f.above)))

  -- rows behind D have the same as all
  pub has-behind : (L : Rows ones) → has (D ++ L) g.name ≡ has L g.name
  has-behind L =
      let e : count_in ones (D ++ L) g.name ≡ count_in ones L g.name = omega (arith, count-append D L g.name, count-below D g.name m.below) in
      rw e

  pub may-canonical : (W : Rows ones) → Canonical ones W → Canonical ones (add_row ones g W)
  may-canonical W c = canonical-add ones g W m.name m.bytes (le-leb 1 g.count m.stands) c

module _ (t : List ℕ) (at n : ℕ) (g : Row ℕ) (h : at ≤ n) (k : n ≤ length t) where
  -- the rows from the cursor on
  abbrev part : List ℕ
  part = take (n - at) (drop at t)

  pub raised-place : (p before : ℕ) → LookedUp part g.name (lookups.Present p before) → at + p + (length g.name + 10) ≤ n
  raised-place p before q = omega (arith, q.0, cut-size at n t k)

  pub missing-place : (p : ℕ) → LookedUp part g.name (lookups.Absent p) → at + p ≤ n
  missing-place p q = omega (arith, q.0, cut-size at n t k)

  module _ (D L : Rows ones) (f : Cursor t at n D L) (m : May g D) (l : total_count (D ++ L) + g.count < count_limit) where
    holds : Holds one part L
    holds = record {
      bytes = cut-is at n t h k ∙ ap (drop at) (f.bytes ∙ rows_append one D L) ∙ drop_at (rows_bytes one D) (rows_bytes one L) at (sym f.place);
      canonical = canonical-behind D L f.canonical;
      limit = total_fits-limited L (omega (arith, total_count-append D L));
    }

    -- the place in the rows
    ends : (E : Rows ones) (p : ℕ) → p ≡ length (rows_bytes one E) → at + p ≡ length (rows_bytes one (D ++ E))
    ends E p e = omega (arith, f.place, ap length (rows_append one D E), length-append (rows_bytes one D) (rows_bytes one E))

    module _ (p before : ℕ) (q : LookedUp part g.name (lookups.Present p before)) where
      abbrev found : RowPresent g.name p before L
      found = q.1 L holds

      abbrev E : Rows ones
      E = D ++ found.D

      -- the row that takes its place
      abbrev more : Row ℕ
      more = joined ones g found.r

      split : D ++ L ≡ E ++ found.r ∷ found.R
      split = ap (λ (x : Rows ones). D ++ x) found.split ∙ sym (append_assoc D found.D (found.r ∷ found.R))

      sum : E ++ more ∷ found.R ≡ add_row ones g (D ++ L)
      sum =
          let same : order g.name found.r.name ≡ Equal = rw found.name (order-refl g.name) in
          sym (ap (add_row ones g) split ∙ add_at ones g found.r E found.R (below-append g.name D found.D m.below found.below) same)

      weight : before + g.count < count_limit
      weight = omega (arith, l, ap total_count split, total_count-append E (found.r ∷ found.R), found.counts)

      -- its bytes, put in place
      put : (t' : List ℕ) (v : ℕ) → v ≡ (before + g.count) % 2 ^ 64 → t' ≡ stored (at + p + 2 + length g.name) ((u64 {ends = short}).encode v) t
          → t' ≡ rows_bytes one (E ++ more ∷ found.R) ++ drop n t
      put t' v e a =
          let A = rows_bytes one E in
          let Z = rows_bytes one found.R ++ drop n t in
          let exact : v ≡ g.count + found.r.count = omega (arith, e, weight, found.counts) in
          let place : at + p + 2 + length g.name ≡ length A + (2 + length found.r.name) = omega (arith, ends found.D p found.place, ap length found.name) in
          let was : t ≡ A ++ ((fields one).encode found.r ++ Z) =
          sym (take-append-drop n t) ∙ ap (λ (x : List ℕ). x ++ drop n t) (f.bytes ∙ ap (rows_bytes one) split ∙ rows_append one E (found.r ∷ found.R))
          ∙ append_assoc A (rows_bytes one (found.r ∷ found.R)) (drop n t) ∙ ap (λ (x : List ℕ). A ++ x) (append_assoc ((fields one).encode found.r) (rows_bytes one found.R) (drop n t)) in
          let row : record { name = found.r.name; count = v } ≡ more = λ i. record { name = found.name i; count = exact i } in
          (put-number (at + p + 2 + length g.name) 8 v (omega (arith, raised-place p before q)) a).overwrites
          ∙ ap₂ (λ (j : ℕ) (y : List ℕ). overwrite j (to_be 8 v) y) place was ∙ count-overwrite A Z found.r v
          ∙ ap (λ (x : Row ℕ). A ++ ((fields one).encode x ++ Z)) row
          ∙ sym (ap (λ (x : List ℕ). x ++ drop n t) (rows_append one E (more ∷ found.R)) ∙ append_assoc A (rows_bytes one (more ∷ found.R)) (drop n t)
          ∙ ap (λ (x : List ℕ). A ++ x) (append_assoc ((fields one).encode more) (rows_bytes one found.R) (drop n t)))

      raised : (t' : List ℕ) (v : ℕ) → length t' ≡ length t → v ≡ (before + g.count) % 2 ^ 64 → t' ≡ stored (at + p + 2 + length g.name) ((u64 {ends = short}).encode v) t
          → RowRaised t t' (at + p) n g (D ++ L)
      raised t' v len e a =
          let is = put t' v e a in
          let T = rows_bytes one (E ++ more ∷ found.R) in
          let size : length T ≡ n = omega (arith, ap length is, length-append T (drop n t), length-drop n t) in
          record {
            D = E;
            L = more ∷ found.R;
            cursor = record {
              inside = omega arith;
              bytes = ap (take n) is ∙ take_at T (drop n t) n size;
              place = ends found.D p found.place;
              canonical = rw sum (may-canonical g D m (D ++ L) f.canonical);
            };
            sum = sum;
            passed = passes g D m found.D found.below;
            there = has-behind g D m L ∙ row_has g D m L holds.canonical p before found;
            behind = ap (drop n) is ∙ drop_at T (drop n t) n size;
          }

    module _ (p : ℕ) (q : LookedUp part g.name (lookups.Absent p)) where
      missing : RowMissing t (at + p) n g (D ++ L)
      missing =
          let found = q.1 L holds in
          let same : (D ++ found.D) ++ found.R ≡ D ++ L = append_assoc D found.D found.R ∙ ap (λ (x : Rows ones). D ++ x) (sym found.split) in
          record {
            D = D ++ found.D;
            L = found.R;
            cursor = record {
              inside = k;
              bytes = f.bytes ∙ ap (rows_bytes one) (sym same);
              place = ends found.D p found.place;
              canonical = rw same f.canonical;
            };
            same = same;
            passed = passes g D m found.D found.below;
            there = has-behind g D m L ∙ place-not g D m L holds.canonical p found;
          }

  pub row-raised : (t' : List ℕ) (p before v : ℕ) → LookedUp part g.name (lookups.Present p before) → length t' ≡ length t → v ≡ (before + g.count) % 2 ^ 64
      → t' ≡ stored (at + p + 2 + length g.name) ((u64 {ends = short}).encode v) t → RaisedTo t t' at n g (lookups.Present (at + p) v)
  row-raised t' p before v q len e a = (omega (arith, raised-place p before q), λ D L f m l. raised D L f m l p before q t' v len e a)

  pub row-missing : (p : ℕ) → LookedUp part g.name (lookups.Absent p) → RaisedTo t t at n g (lookups.Absent (at + p))
  row-missing p q = (missing-place p q, refl, λ D L f m l. missing D L f m l p q)
