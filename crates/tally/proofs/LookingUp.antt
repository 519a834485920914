-- A name looked up among rows, from the first on: what the search finds in bytes that hold rows, and what the code knows on its way.
use Prim.Native.Nat.{ℕ, zero, suc, ◌+◌, ◌-◌, ◌≤◌}
use mathlib.Core.Path.{◌≡◌, refl, sym, ap, ap₂, subst, ◌∙◌}
use mathlib.Core.List.{List, [], ◌∷◌, ◌++◌, append_assoc}
use mathlib.Core.Option.{some, some-injective}
use native.Mathlib.Nat.{zero-add}
use native.Mathlib.Omega.{arith}
use lib.ListN.{length, take, drop, length-append, length-drop}
use lib.Seq.{take-add, take_at, drop_at, length-take-le}
use Rattle.wire.proofs.Lists.{rest-is}
use Rattle.wire.specs.Bytes.{Bytes, to_be, to_be-length, bytes_take, bytes_drop}
use Rattle.wire.specs.Order.{order, choose}
use Rattle.wire.proofs.TotalOrder.{flip, order_same, order_flip}
use Rattle.std.specs.declared.cmp.Ordering.{Ordering}
use Rattle.std.specs.declared.cmp.Ordering.TheVariants.{Less, Equal, Greater}
use Rattle.tally.specs.Rows.{Row, Rows, Above}
use Rattle.wire.specs.Read.{Read, done, refused, Misread, at_place, to_option, to_option-done, to_option-none}
use Rattle.wire.specs.Walk.{row_then, rows_read}
use Rattle.tally.specs.Tally.{Malformed, fields, row, ones, one}
use Rattle.tally.specs.Told.{told_row}
use Rattle.tally.specs.Walks.{rows_bytes, Holds}
use Rattle.tally.specs.LookedUp.{lookup_in, lookup_of, Below, LookedUp}
use Rattle.tally.specs.declared.lookup.Lookup.{Lookup}
use Rattle.tally.specs.declared.lookup.Lookup.TheVariants as lookups
use Rattle.tally.proofs.Canon.{above-weak}
use Rattle.tally.proofs.Held.{row-bytes, name-bytes, item-bytes, rows_append, FirstRow, row_inside, first-row, no_row, one_size}
use Rattle.tally.proofs.FrontRows.{name-part}
use Rattle.std.specs.Prelude.{Some, None}

-- ---- bytes up to a place, from another on
pub cut-is : (at n : ℕ) (t : List ℕ) → at ≤ n → n ≤ length t → take (n - at) (drop at t) ≡ drop at (take n t)
cut-is at n t h k =
    let z : at + (n - at) ≡ n = omega arith in
    sym (ap (λ (j : ℕ). drop at (take j t)) (sym z) ∙ ap (drop at) (take-add at (n - at) t)
    ∙ drop_at (take at t) (take (n - at) (drop at t)) at (length-take-le at t (omega arith)))

pub cut-size : (at n : ℕ) (t : List ℕ) → n ≤ length t → length (take (n - at) (drop at t)) ≡ n - at
cut-size at n t k = length-take-le (n - at) (drop at t) (rw length-drop (omega arith))

-- ---- a row with n bytes of name stands at the front of the rest of some bytes, which begins at a place
name-order : (name rest : List ℕ) (n : ℕ) {o : Ordering} → o ≡ order (take ((n + 2) - 2) (drop 2 rest)) name → order (take n (drop 2 rest)) name ≡ o
name-order name rest n k = ap (λ (m : List ℕ). order m name) (sym (name-part n rest)) ∙ sym k

module _ (rest : List ℕ) (n c : ℕ) (e : told_row rest (Some (n, c)) ≡ to_option ((row one []).read rest)) where
  name-long : length (take n (drop 2 rest)) ≡ n
  name-long = length-take-le n (drop 2 rest) (rw length-drop (omega (arith, row_inside rest n c e)))

  module _ (s : List ℕ) (at : ℕ) (h : at + length rest ≡ length s) where
    pub row_ends : at + (n + 10) ≤ length s
    row_ends = omega (arith, h, row_inside rest n c e)

    rest-ends : at + (n + 10) + length (drop (n + 10) rest) ≡ length s
    rest-ends = rw length-drop (omega (arith, h, row_inside rest n c e))

-- ---- rows that come before a name
pub below-append : (n : List ℕ) (D E : Rows ones) → Below ones n D → Below ones n E → Below ones n (D ++ E)
below-append n [] E b e = e
below-append n (r ∷ D) E b e = (b.0, below-append n D E b.1 e)

-- the rows passed are D, and the rest of the bytes are R
pub record Passed (name rest : List ℕ) (at : ℕ) (L : Rows ones) : Type 0 where
  pub D : Rows ones
  pub R : Rows ones
  pub split : L ≡ D ++ R
  pub below : Below ones name D
  pub place : at ≡ length (rows_bytes one D)
  pub left : Holds one rest R

pub record LookingUp (s name rest : List ℕ) (at : ℕ) : Type 0 where
  pub size : at + length rest ≡ length s
  pub passed : (L : Rows ones) → Holds one s L → Passed name rest at L

pub looking-up-start : (s name : List ℕ) → LookingUp s name s 0
looking-up-start s name = record {
  size = zero-add (length s);
  passed = λ L h. record { D = []; R = L; split = refl; below = tt; place = refl; left = h };
}

module _ {s name rest : List ℕ} {at : ℕ} (w : LookingUp s name rest at) where
  place_at : ((L : Rows ones) (h : Holds one s L) → Above ones name (w.passed L h).R) → LookedUp s name (lookups.Absent at)
  place_at f = (
    omega (arith, w.size),
    λ L h.
        let p = w.passed L h in
        record { D = p.D; R = p.R; split = p.split; below = p.below; above = f L h; place = p.place },
  )

  -- the rows end
  pub looking-up-end : told_row rest None ≡ to_option ((row one []).read rest) → LookedUp s name (lookups.Absent at)
  looking-up-end e = place_at (λ L h. rw (no_row rest (w.passed L h).R e (w.passed L h).left) tt)

  -- a row of n bytes of name stands there
  module _ (n c : ℕ) (e : told_row rest (Some (n, c)) ≡ to_option ((row one []).read rest)) where
    first : (L : Rows ones) (h : Holds one s L) → FirstRow rest n c (w.passed L h).R
    first L h = first-row rest n c (w.passed L h).R e (w.passed L h).left

    module _ {o : Ordering} (k : o ≡ order (take ((n + 2) - 2) (drop 2 rest)) name) where
      named : order (take n (drop 2 rest)) name ≡ o
      named = name-order name rest n k

      stands : (L : Rows ones) (h : Holds one s L) → order (first L h).r.name name ≡ o
      stands L h = ap (λ (m : List ℕ). order m name) (sym (first L h).name) ∙ named

    pub looking-up-on : Less ≡ order (take ((n + 2) - 2) (drop 2 rest)) name → LookingUp s name (take (length rest - (n + 10)) (drop (n + 10) rest)) (at + (n + 10))
    looking-up-on k = rw (rest-is (n + 10) rest) record {
      size = rest-ends rest n c e s at w.size;
      passed = λ L h.
          let p = w.passed L h in
          let f = first L h in
          record {
            D = p.D ++ f.r ∷ [];
            R = f.R;
            split = p.split ∙ ap (λ (l : Rows ones). p.D ++ l) f.split ∙ sym (append_assoc p.D (f.r ∷ []) f.R);
            below = below-append name p.D (f.r ∷ []) p.below (stands k L h, tt);
            place = rw (rows_append one p.D (f.r ∷ [])) (omega (arith, p.place, f.long, one_size f.r, length-append (rows_bytes one p.D) (rows_bytes one (f.r ∷ [])), length-append ((fields one).encode f.r) []));
            left = f.rest;
          };
    }

    pub looking-up-row : Equal ≡ order (take ((n + 2) - 2) (drop 2 rest)) name → LookedUp s name (lookups.Present at c)
    looking-up-row k =
        let long : length name ≡ n = ap length (sym (order_same (take n (drop 2 rest)) name (named k))) ∙ name-long rest n c e in (
          omega (arith, long, row_ends rest n c e s at w.size),
          λ L h.
              let p = w.passed L h in
              let f = first L h in
              record {
                D = p.D;
                r = f.r;
                R = f.R;
                split = p.split ∙ ap (λ (l : Rows ones). p.D ++ l) f.split;
                below = p.below;
                name = order_same f.r.name name (stands k L h);
                counts = f.counts;
                place = p.place;
              },
        )

    pub looking-up-over : Greater ≡ order (take ((n + 2) - 2) (drop 2 rest)) name → LookedUp s name (lookups.Absent at)
    looking-up-over k = place_at (λ L h.
        let f = first L h in
        let v : order name f.r.name ≡ Less = order_flip f.r.name name ∙ ap flip (stands k L h) in
        rw f.split (v, above-weak ones name f.r.name f.R v f.canonical.3))

-- ---- the bytes of a row
row-encodes : (r : Row ℕ) → (row one []).encode r ≡ (to_be 2 (length r.name) ++ r.name) ++ one.count.encode r.count
row-encodes r = item-bytes one [] r ∙ row-bytes one r ∙ ap (λ (l : List ℕ). l ++ one.count.encode r.count) (name-bytes one r.name)

-- ---- a row that was read, by the length of its name and its count
row-shape : (s : List ℕ) (r : Row ℕ) (m : ℕ) → Bytes s → (row one []).read s ≡ done r m → told_row s (Some ((length r.name), r.count)) ≡ to_option ((row one []).read s)
row-shape s r m b h =
    let t = (row one []).backward s r m b h in
    let bytes : s ≡ to_be 2 (length r.name) ++ (r.name ++ (one.count.encode r.count ++ drop m s)) =
    t.front ∙ ap (λ (l : List ℕ). l ++ drop m s) (row-encodes r) ∙ append_assoc (to_be 2 (length r.name) ++ r.name) (one.count.encode r.count) (drop m s)
    ∙ append_assoc (to_be 2 (length r.name)) r.name (one.count.encode r.count ++ drop m s) in
    let name : take (length r.name) (drop 2 s) ≡ r.name =
    ap (λ (l : List ℕ). take (length r.name) (drop 2 l)) bytes
    ∙ ap (take (length r.name)) (drop_at (to_be 2 (length r.name)) (r.name ++ (one.count.encode r.count ++ drop m s)) 2 (to_be-length 2 (length r.name)))
    ∙ take_at r.name (one.count.encode r.count ++ drop m s) (length r.name) refl in
    let size : length r.name + 10 ≡ m = sym (t.ends ∙ ap length (item-bytes one [] r) ∙ one_size r) in
    ap₂ (λ (n : List ℕ) (k : ℕ). some (record { name = n; count = r.count }, k)) name size ∙ ap to_option (sym h)

-- ---- what the definition finds, in every run of rows that the bytes might hold
module _ (s name : List ℕ) where
  abbrev Finds : ℕ → Type 0
  Finds k = (rest : List ℕ) (at : ℕ) → LookingUp s name rest at → length rest ≤ k → Bytes rest → LookedUp s name (lookup_in name at (rows_read (row one []).read k rest))

  finds : (k : ℕ) → Finds k
  unfolding rows_read lookup_in
  finds zero rest at w h b = by_row ((row one []).read rest) refl
    where
      by_row : (x : Read Malformed (Row ℕ)) → (row one []).read rest ≡ x → LookedUp s name (lookups.Absent at)
      by_row (refused f p) e = looking-up-end w (ap to_option (sym e))
      by_row (done r m) e = absurd (omega (arith, row_inside rest (length r.name) r.count (row-shape rest r m b e)))
  finds (suc k) rest at w h b = by_row (finds k) ((row one []).read rest) refl
    where
      by_order : Finds k → (r : Row ℕ) (m : ℕ) → (row one []).read rest ≡ done r m → (o : Ordering) → order r.name name ≡ o
          → LookedUp s name (choose o (lookup_in name (at + (length r.name + 10)) (rows_read (row one []).read k (drop m rest))) (lookups.Present at r.count) (lookups.Absent at))
      by_order next r m e o q =
          let told = row-shape rest r m b e in
          let n = length r.name in
          let same : ◌≡◌ {A = Row ℕ × ℕ} (record { name = take n (drop 2 rest); count = r.count }, n + 10) (r, m) = some-injective _ _ (told ∙ ap to_option e) in
          let named : o ≡ order (take ((n + 2) - 2) (drop 2 rest)) name =
          sym q ∙ ap (λ (x : Row ℕ × ℕ). order x.0.name name) (sym same) ∙ ap (λ (l : List ℕ). order l name) (sym (name-part n rest)) in
          let size : n + 10 ≡ m = ap (λ (x : Row ℕ × ℕ). x.1) same in
          by-case o named size
        where
          by-case : (o : Ordering) → o ≡ order (take ((length r.name + 2) - 2) (drop 2 rest)) name → length r.name + 10 ≡ m
              → LookedUp s name (choose o (lookup_in name (at + (length r.name + 10)) (rows_read (row one []).read k (drop m rest))) (lookups.Present at r.count) (lookups.Absent at))
          by-case Less v z =
              let told = row-shape rest r m b e in
              let on = rw (rest-is (length r.name + 10) rest, z) at (looking-up-on w (length r.name) r.count told v) in
              let less : length (drop m rest) ≤ k = rw length-drop (omega (arith, row_inside rest (length r.name) r.count told)) in
              rw z (next (drop m rest) (at + m) on less (bytes_drop m rest b))
          by-case Equal v z = looking-up-row w (length r.name) r.count (row-shape rest r m b e) v
          by-case Greater v z = looking-up-over w (length r.name) r.count (row-shape rest r m b e) v

      by_row : Finds k → (x : Read Malformed (Row ℕ)) → (row one []).read rest ≡ x
          → LookedUp s name (lookup_in name at (row_then x (λ n. rows_read (row one []).read k (drop n rest))))
      by_row next (refused f p) e = looking-up-end w (ap to_option (sym e))
      by_row next (done r m) e = by_order next r m e (order r.name name) refl

  pub looked-up : Bytes s → LookedUp s name (lookup_of s name)
  looked-up b = finds (length s) s 0 (looking-up-start s name) (omega arith) b

-- by what the code told of n bytes from a place on
pub looked-up-told : (t : List ℕ) (at n : ℕ) (name : List ℕ) {q r : Lookup} → Bytes t → q ≡ lookup_of (take n (drop at t)) name → q ≡ r → LookedUp (take n (drop at t)) name r
looked-up-told t at n name b e h = subst (LookedUp (take n (drop at t)) name) (sym e ∙ h) (looked-up (take n (drop at t)) name (bytes_take n (drop at t) (bytes_drop at t b)))

-- ---- the loop
pub record LooksUp (s name rest : List ℕ) (at : ℕ) : Type 0 where
  pub bound : ℕ
  pub size : at + length rest ≡ length s
  pub enough : length rest ≤ bound
  pub same : lookup_in name at (rows_read (row one []).read bound rest) ≡ lookup_of s name

module _ {s name rest : List ℕ} {at : ℕ} (w : LooksUp s name rest at) where
  pub looks-up-end : told_row rest None ≡ to_option ((row one []).read rest) → lookups.Absent at ≡ lookup_of s name
  unfolding lookup_in rows_read
  looks-up-end e = ap (lookup_in name at) (sym (none-there (to_option-none ((row one []).read rest) e) w.bound)) ∙ w.same
    where
      none-there : Misread ((row one []).read rest) → (k : ℕ) → rows_read (row one []).read k rest ≡ []
      none-there m zero = refl
      none-there (at_place p q) (suc k) = ap (λ (x : Read Malformed (Row ℕ)). row_then x (λ n. rows_read (row one []).read k (drop n rest))) q

  module _ (n c : ℕ) (e : told_row rest (Some (n, c)) ≡ to_option ((row one []).read rest)) where
    abbrev here : Row ℕ
    here = record { name = take n (drop 2 rest); count = c }

    -- a row stands there, and the search goes by its name
    record First : Type 0 where
      more : ℕ
      enough : length (drop (n + 10) rest) ≤ more
      is : lookup_in name at (here ∷ rows_read (row one []).read more (drop (n + 10) rest)) ≡ lookup_of s name

    first-is : First
    unfolding rows_read
    first-is = by_most w.bound w.enough w.same
      where
        by_most : (k : ℕ) → length rest ≤ k → lookup_in name at (rows_read (row one []).read k rest) ≡ lookup_of s name → First
        by_most zero h g = absurd (omega (arith, row_inside rest n c e))
        by_most (suc k) h g = record {
          more = k;
          enough = rw length-drop (omega (arith, row_inside rest n c e));
          is = ap (λ (x : Read Malformed (Row ℕ)). lookup_in name at (row_then x (λ m. rows_read (row one []).read k (drop m rest)))) (sym (to_option-done ((row one []).read rest) e)) ∙ g;
        }

    pub looks-up-on : Less ≡ order (take ((n + 2) - 2) (drop 2 rest)) name → LooksUp s name (take (length rest - (n + 10)) (drop (n + 10) rest)) (at + (n + 10))
    unfolding lookup_in
    looks-up-on k = rw (rest-is (n + 10) rest) record {
      bound = first-is.more;
      size = rest-ends rest n c e s at w.size;
      enough = first-is.enough;
      same = rw (name-order name rest n k, name-long rest n c e) at first-is.is;
    }

    pub looks-up-row : Equal ≡ order (take ((n + 2) - 2) (drop 2 rest)) name → lookups.Present at c ≡ lookup_of s name
    unfolding lookup_in
    looks-up-row k = rw (name-order name rest n k) at first-is.is

    pub looks-up-over : Greater ≡ order (take ((n + 2) - 2) (drop 2 rest)) name → lookups.Absent at ≡ lookup_of s name
    unfolding lookup_in
    looks-up-over k = rw (name-order name rest n k) at first-is.is
