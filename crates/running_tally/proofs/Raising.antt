-- The first pass: what holds before each group, and its steps.
use Rattle.std.proofs.Common.{◌≡◌, ℕ, ◌+◌, ◌-◌, ◌<◌, ◌≤◌, true, false, leb, List, [], ◌∷◌, ◌++◌, length, get_or, drop, sym, refl, ap, ◌∙◌, subst, zero-add, arith, length-append, length-take-le, leb-true}
use Rattle.wire.specs.Choice.{no_true}
use Rattle.wire.specs.Order.{order}
use Rattle.wire.proofs.TotalOrder.{order_same}
use Rattle.std.specs.declared.cmp.Ordering.{Ordering}
use Rattle.std.specs.declared.cmp.Ordering.TheVariants.{Less, Equal, Greater}
use Rattle.tally.specs.Rows.{Row, Rows, add_row, plus, count_in, Above, Canonical}
use Rattle.tally.specs.Tally.{ones, one, fields}
use Rattle.tally.specs.Walks.{rows_bytes}
use Rattle.tally.specs.LookedUp.{Below}
use Rattle.tally.proofs.Canon.{count_add, count-plus}
use Rattle.tally.proofs.Held.{one_size}
use Rattle.census.specs.NamePlaces.{row_at}
use Rattle.running_tally.specs.RunningTally.{count_limit}
use Rattle.census.specs.UsedNames.{total_count}
use Rattle.running_tally.specs.Groups.{Remaining, named, First, Grouped}
use Rattle.running_tally.specs.Passes.{has, known, fresh, Passed, May, Cursor, RowRaised, RowMissing, RaisedTo, Starts, RaisedAs}
use Rattle.running_tally.specs.declared.absorb.Group.{Group}
use Rattle.tally.specs.declared.lookup.Lookup.TheVariants as lookups
use Rattle.running_tally.proofs.Counts.{has_some, some-has, total_count-add}
use Rattle.running_tally.proofs.Measures.{fresh-there, fresh-new, fresh-none, known-there, known-new, known-none, fresh-known, agree-all, fresh-agree, bytes-plus, rows-plus}
use Rattle.running_tally.proofs.Groups.{left_end}
use Rattle.std.specs.Prelude.{Some, None}

-- ---- the rows D come before the next of the rows H
abbrev pub Under : Rows ones → Rows ones → Type 0
Under D [] = Unit {0}
Under D (g ∷ H) = Below ones g.name D

pub under_none : (H : Rows ones) → Under [] H
under_none [] = tt
under_none (g ∷ H) = tt

pub under-passed : (g : Row ℕ) (D H : Rows ones) → Passed g D → Above ones g.name H → Under D H
under-passed g D [] p a = tt
under-passed g D (x ∷ H) p a = p x.name a.0

may-next : (g : Row ℕ) (D H : Rows ones) → Canonical ones (g ∷ H) → Under D (g ∷ H) → May g D
may-next g D H c u = record { name = c.0; bytes = c.1; stands = leb-true 1 g.count c.2; below = u }

-- of the rows left, the first and those behind it
module _ {s c ps : List ℕ} {i : ℕ} {g : Group} {G : Rows ones} (f : First s c ps i g G) (h : Canonical ones G) where
  pub first_rest : Canonical ones (named s ps i g.count ∷ f.H)
  first_rest = rw f.split at h

  pub first-may : (D : Rows ones) → Under D G → May (named s ps i g.count) D
  first-may D u = may-next (named s ps i g.count) D f.H first_rest (rw f.split at u)

-- ---- a name that has a row: adding to it gives no name a row
has-add : (g : Row ℕ) (W : Rows ones) → has W g.name ≡ true → (n : List ℕ) → has (add_row ones g W) n ≡ has W n
has-add g W h n = go (order g.name n) refl
  where
    other : count_in ones (add_row ones g W) n ≡ count_in ones W n → has (add_row ones g W) n ≡ has W n
    other e = ap (leb 1) e

    go : (o : Ordering) → order g.name n ≡ o → has (add_row ones g W) n ≡ has W n
    go Less e = other (count_add ones g W n ∙ rw e (zero-add (count_in ones W n)))
    go Greater e = other (count_add ones g W n ∙ rw e (zero-add (count_in ones W n)))
    go Equal e =
        let q : g.name ≡ n = order_same g.name n e in
        let w : has W n ≡ true = rw (← q) h in
        has_some (add_row ones g W) n (rw (count_add ones g W n) (omega (arith, some-has W n w))) ∙ sym w

-- ---- before each group
pub record RaisingRows (s c ps t₀ : List ℕ) (n i at b k : ℕ) (t : List ℕ) (G R : Rows ones) : Type 0 where
  pub D : Rows ones
  pub L : Rows ones
  pub H : Rows ones
  pub left : Remaining s c ps i H
  pub cursor : Cursor t at n D L
  pub under : Under D H
  pub same : (m : List ℕ) → has (D ++ L) m ≡ has R m
  pub sum : (m : List ℕ) → count_in ones (D ++ L) m + count_in ones (known R H) m + count_in ones (fresh R G) m ≡ count_in ones (plus ones G R) m
  pub missing : b + length (rows_bytes one (fresh R H)) ≡ length (rows_bytes one (fresh R G))
  pub rows : k + length (fresh R H) ≡ length (fresh R G)
  pub total_fits : total_count (D ++ L) + total_count H < count_limit
  pub behind : drop n t ≡ drop n t₀
  pub untouched : R ≡ [] → t ≡ t₀

pub record Raising (s c ps t₀ : List ℕ) (n i at b k : ℕ) (t : List ℕ) : Type 0 where
  pub place : at ≤ n
  pub fits : n + b ≤ length t₀
  pub rows_fit : k ≤ i
  pub inside : i ≤ length ps
  pub long : length t ≡ length t₀
  pub rows : (G R : Rows ones) → Starts s c ps t₀ n G R → RaisingRows s c ps t₀ n i at b k t G R

pub raising-start : (s c ps t : List ℕ) (n : ℕ) → n ≤ length t → Raising s c ps t n 0 0 0 0 t
raising-start s c ps t n h = record {
  place = omega arith;
  fits = omega arith;
  rows_fit = omega arith;
  inside = omega arith;
  long = refl;
  rows = λ G R x. record {
    D = [];
    L = R;
    H = G;
    left = x.left;
    cursor = x.cursor;
    under = under_none G;
    same = λ m. refl;
    sum = λ m. omega (arith, fresh-known R G m, count-plus ones G R m);
    missing = zero-add _;
    rows = zero-add _;
    total_fits = omega (arith, x.total_fits);
    behind = refl;
    untouched = λ e. refl;
  };
}

module _ (s c ps t₀ : List ℕ) (n i at b k : ℕ) (t : List ℕ) (x : Raising s c ps t₀ n i at b k t) where
  -- the rows that a start makes are as long as R
  start-size : (G R : Rows ones) → Starts s c ps t₀ n G R → length (rows_bytes one R) ≡ n
  start-size G R y = ap length (sym y.cursor.bytes) ∙ length-take-le n t₀ y.cursor.inside

  module _ (g : Group) (q : Grouped s c ps i g) where
    -- the next row
    abbrev next : Row ℕ
    next = named s ps i g.count

    module _ (G R : Rows ones) (y : Starts s c ps t₀ n G R) where
      abbrev now : RaisingRows s c ps t₀ n i at b k t G R
      now = x.rows G R y

      first : First s c ps i g now.H
      first = q.first now.H now.left (omega (arith, now.total_fits))

      rest : Canonical ones (next ∷ first.H)
      rest = first_rest first now.left.canonical

      may : May next now.D
      may = first-may first now.left.canonical now.D now.under

      weight : total_count (now.D ++ now.L) + (g.count + total_count first.H) < count_limit
      weight = omega (arith, now.total_fits, ap total_count first.split)

      abbrev whole : Rows ones
      whole = now.D ++ now.L

      -- it has a row
      on_row : (t' : List ℕ) (p : ℕ) → RowRaised t t' p n next whole → RaisingRows s c ps t₀ n g.next p b k t' G R
      on_row t' p r =
          let there : has R next.name ≡ true = sym (now.same next.name) ∙ r.there in
          let known_is : known R now.H ≡ next ∷ known R first.H = ap (known R) first.split ∙ known-there R next first.H there in
          let fresh-is : fresh R now.H ≡ fresh R first.H = ap (fresh R) first.split ∙ fresh-there R next first.H there in
          record {
            D = r.D;
            L = r.L;
            H = first.H;
            left = first.left;
            cursor = r.cursor;
            under = under-passed next r.D first.H r.passed rest.3;
            same = λ m. ap (λ (w : Rows ones). has w m) r.sum ∙ has-add next whole r.there m ∙ now.same m;
            sum = λ m. rw r.sum (omega (arith, now.sum m, ap (λ (w : Rows ones). count_in ones w m) known_is, count_add ones next whole m));
            missing = rw (← fresh-is) now.missing;
            rows = rw (← fresh-is) now.rows;
            total_fits = rw r.sum (omega (arith, total_count-add next whole, weight));
            behind = r.behind ∙ now.behind;
            untouched = λ e. no_true (sym (ap (λ (w : Rows ones). has w next.name) e) ∙ there);
          }

      -- it has none
      new_is : has whole next.name ≡ false → fresh R now.H ≡ next ∷ fresh R first.H
      new_is h = ap (fresh R) first.split ∙ fresh-new R next first.H (sym (now.same next.name) ∙ h)

      new-size : has whole next.name ≡ false → length (rows_bytes one (fresh R now.H)) ≡ length next.name + 10 + length (rows_bytes one (fresh R first.H))
      new-size h = ap (λ (l : Rows ones). length (rows_bytes one l)) (new_is h) ∙ length-append ((fields one).encode next) (rows_bytes one (fresh R first.H)) ∙ rw (one_size next)

      on-place : (p : ℕ) → RowMissing t p n next whole → RaisingRows s c ps t₀ n g.next p (b + (length next.name + 10)) (k + 1) t G R
      on-place p r =
          let new : has R next.name ≡ false = sym (now.same next.name) ∙ r.there in
          let known_is : known R now.H ≡ known R first.H = ap (known R) first.split ∙ known-new R next first.H new in
          record {
            D = r.D;
            L = r.L;
            H = first.H;
            left = first.left;
            cursor = r.cursor;
            under = under-passed next r.D first.H r.passed rest.3;
            same = λ m. ap (λ (w : Rows ones). has w m) r.same ∙ now.same m;
            sum = λ m. rw (r.same, ← known_is) (now.sum m);
            missing = omega (arith, now.missing, new-size r.there);
            rows = omega (arith, now.rows, ap length (new_is r.there));
            total_fits = rw r.same (omega (arith, weight));
            behind = now.behind;
            untouched = now.untouched;
          }

      -- and no room
      no_room_lem : length t₀ - n - b < length next.name + 10 → has whole next.name ≡ false → length t₀ < length (rows_bytes one (plus ones G R))
      no_room_lem h e =
          omega (arith, bytes-plus G R y.left.canonical y.cursor.canonical, start-size G R y, now.missing, new-size e, x.fits)

    module _ (name : List ℕ) (e : name ≡ (row_at s (get_or ps i 0)).name) where
      -- as code has the name
      abbrev asked : Row ℕ
      asked = record { name = name; count = g.count }

      is : asked ≡ next
      is = λ j. record { name = e j; count = g.count }

      module _ (t' : List ℕ) (p : ℕ) where
        pub raising-row : (m : ℕ) → length t' ≡ length t → RaisedTo t t' at n asked (lookups.Present p m) → Raising s c ps t₀ n g.next p b k t'
        raising-row m len r =
            let r' = subst (λ (a : Row ℕ). RaisedTo t t' at n a (lookups.Present p m)) is r in
            record {
              place = r'.0;
              fits = x.fits;
              rows_fit = omega (arith, x.rows_fit, q.on);
              inside = q.inside;
              long = len ∙ x.long;
              rows = λ G R y. on_row G R y t' p (r'.1 (now G R y).D (now G R y).L (now G R y).cursor (may G R y) (omega (arith, weight G R y)));
            }

        module _ (r : RaisedTo t t' at n asked (lookups.Absent p)) where
          there : RaisedTo t t' at n next (lookups.Absent p)
          there = subst (λ (a : Row ℕ). RaisedTo t t' at n a (lookups.Absent p)) is r

          row : (G R : Rows ones) (y : Starts s c ps t₀ n G R) → RowMissing t p n next (whole G R y)
          row G R y = there.2 (now G R y).D (now G R y).L (now G R y).cursor (may G R y) (omega (arith, weight G R y))

          pub raising-place : length name + 10 ≤ length t₀ - n - b → Raising s c ps t₀ n g.next p (b + (length name + 10)) (k + 1) t'
          raising-place h = rw (there.1, e) record {
            place = there.0;
            fits = omega (arith, x.fits, h, ap length e);
            rows_fit = omega (arith, x.rows_fit, q.on);
            inside = q.inside;
            long = x.long;
            rows = λ G R y. on-place G R y p (row G R y);
          }

          pub raising-full : length t₀ - n - b < length name + 10 → RaisedAs s c ps t₀ t' n None
          raising-full h G R y = (no_room_lem G R y (rw (← e) h) (row G R y).there, λ z. there.1 ∙ (now G R y).untouched z)

  pub raising-end : length ps ≤ i → RaisedAs s c ps t₀ t n (Some (b, k))
  raising-end h = (
    x.fits,
    omega (arith, x.rows_fit, x.inside),
    λ G R y.
        let z = x.rows G R y in
        let none : z.H ≡ [] = left_end h z.left in
        let fresh-is : fresh R z.H ≡ [] = ap (fresh R) none ∙ fresh-none R in
        let known_is : known R z.H ≡ [] = ap (known R) none ∙ known-none R in
        let agree : fresh (z.D ++ z.L) G ≡ fresh R G = fresh-agree (z.D ++ z.L) R G (agree-all (z.D ++ z.L) R G z.same) in
        let missing : b ≡ length (rows_bytes one (fresh R G)) = omega (arith, z.missing, ap (λ (l : Rows ones). length (rows_bytes one l)) fresh-is) in
        record {
          W = z.D ++ z.L;
          cursor = record { inside = z.cursor.inside; bytes = z.cursor.bytes; place = refl; canonical = z.cursor.canonical };
          total_fits = omega (arith, z.total_fits);
          missing = rw agree missing;
          rows = omega (arith, z.rows, ap length fresh-is, rows-plus G R y.left.canonical y.cursor.canonical);
          size = omega (arith, missing, start-size G R y, bytes-plus G R y.left.canonical y.cursor.canonical);
          sum = λ m. rw agree (omega (arith, z.sum m, ap (λ (l : Rows ones). count_in ones l m) known_is));
          behind = z.behind;
        },
  )
