-- Bytes that hold rows: what their front says, what is behind it, and when bytes are a tally.
use Prim.Native.Nat.{ℕ, zero, suc, ◌+◌, ◌^◌, ◌<◌, ◌≤◌}
use mathlib.Core.Path.{◌≡◌, refl, ap, ap₂, sym, subst, ◌∙◌}
use mathlib.Core.Bool.{Bool, true, false, cond}
use mathlib.Core.List.{List, [], ◌∷◌, ◌++◌, append_assoc}
use mathlib.Core.Option.{some, none, some-injective, none-ne-some}
use native.Mathlib.Omega.{arith}
use lib.Dec.{leb, eqb, lit<}
use lib.ListN.{length, take, drop, length-append}
use lib.Seq.{drop-append_seam, take_at, drop_at}
use borrow.Author.Tests.{le-leb, leb-true, eqb-true, eq-eqb}
use Rattle.wire.specs.Choice.{no_true}
use Rattle.wire.proofs.Tests.{and_yes, yes_and, three-yes, yes-three}
use Rattle.wire.specs.Bytes.{Bytes, to_be, to_be-length, bytes-nil, bytes-cons}
use Rattle.wire.specs.Order.{order, choose}
use Rattle.wire.specs.Read.{Read, done, refused, to_option, to_option-done}
use Rattle.wire.specs.Format.{run, refine, ◌⨾◌, iso, items, OkItems, encode_items, ends-in}
use Rattle.wire.specs.Formats.{number, prefixed, listed, behind, head_length}
use Rattle.wire.proofs.EveryFormat.{every-format}
use Rattle.tally.specs.Rows.{Row, Rows, is_name, Above, Canonical}
use Rattle.tally.specs.Tally.{Malformed, malformed, TallyKind, TallyRow, TallyRows, tally_mark, head_bytes, rises, whole, fields, may_stand, row, tally, rows_of, limited, countable, ones, one, max_rows}
use Rattle.tally.specs.Told.{told_row}
use Rattle.tally.specs.Walks.{rows_bytes, Holds}
use Rattle.tally.proofs.Canon.{above-weak}
use Rattle.std.specs.declared.cmp.Ordering.{Ordering}
use Rattle.std.specs.declared.cmp.Ordering.TheVariants.{Less, Equal, Greater}
use Rattle.std.specs.Prelude.{Some, None}

-- ---- what reading found
pub whole-some : {A : Type 0} (s : List ℕ) (r : Read Malformed A) (a : A) → whole s r ≡ some a → r ≡ done a (length s)
whole-some {A} s (done b m) a h = go (eqb m (length s)) refl h
  where
    go : (t : Bool) → eqb m (length s) ≡ t → cond t (some b) none ≡ some a → ◌≡◌ {A = Read Malformed A} (done b m) (done a (length s))
    go true e g = ap₂ done (some-injective b a g) (eqb-true m (length s) e)
    go false e g = absurd (none-ne-some a g)
whole-some s (refused e p) a h = absurd (none-ne-some a h)

pub before-yes : (o : Ordering) → choose o true false false ≡ true → o ≡ Less
before-yes Less e = refl
before-yes Equal e = no_true e
before-yes Greater e = no_true e

mark-bytes : Bytes tally_mark
mark-bytes = bytes-cons 84 (76 ∷ 89 ∷ []) (lit< tt) (bytes-cons 76 (89 ∷ []) (lit< tt) (bytes-cons 89 [] (lit< tt) bytes-nil))

module _ (k : TallyKind) where
  -- ---- the bytes of a row
  pub row-bytes : (r : TallyRow k) → (fields k).encode r ≡ (prefixed {ends = malformed} 2).encode r.name ++ k.count.encode r.count
  unfolding fields iso ◌⨾◌
  row-bytes r = refl

  pub name-bytes : (n : List ℕ) → (prefixed {ends = malformed} 2).encode n ≡ to_be 2 (length n) ++ n
  unfolding prefixed iso ◌⨾◌ number run
  name-bytes n = refl

  pub row-size : (r : TallyRow k) → length ((fields k).encode r) ≡ length r.name + (2 + k.width)
  row-size r =
      rw (row-bytes r, name-bytes r.name, length-append, k.count-length r.count, length-append, to_be-length) (omega arith)

  -- ---- the bytes of rows
  pub rows_append : (a b : TallyRows k) → rows_bytes k (a ++ b) ≡ rows_bytes k a ++ rows_bytes k b
  rows_append [] b = refl
  rows_append (r ∷ a) b = rw (rows_append a b, append_assoc)

  pub item-bytes : (seen : TallyRows k) (r : TallyRow k) → (row k seen).encode r ≡ (fields k).encode r
  unfolding row refine
  item-bytes seen r = refl

  items-bytes : (seen l : TallyRows k) → encode_items (row k) seen l ≡ rows_bytes k l
  items-bytes seen [] = refl
  items-bytes seen (r ∷ l) = ap₂ (λ (x y : List ℕ). x ++ y) (item-bytes seen r) (items-bytes (r ∷ seen) l)

  pub tally-bytes : (l : TallyRows k) → (tally k).encode l ≡ head_bytes k (length l) ++ rows_bytes k l
  unfolding tally behind iso ◌⨾◌ refine number run listed items
  tally-bytes l = rw (items-bytes [] l, append_assoc)

  pub head-size : (n : ℕ) → length (head_bytes k n) ≡ head_length
  head-size n = refl

  pub tally-size : (l : TallyRows k) → length ((tally k).encode l) ≡ head_length + length (rows_bytes k l)
  tally-size l = rw (tally-bytes l, length-append, head-size (length l))

  -- ---- rows as a tally has them are those that its format writes
  -- rows after the last of those seen
  abbrev pub Follows : TallyRows k → TallyRows k → Type 0
  Follows [] l = Unit {0}
  Follows (r ∷ seen) l = Above k.counts r.name l

  follows_on : (seen : TallyRows k) (r : TallyRow k) (l : TallyRows k) → rises seen r.name ≡ true → Above k.counts r.name l → Follows seen (r ∷ l)
  follows_on [] r l e h = tt
  follows_on (s ∷ seen) r l e h =
      let b = before-yes (order s.name r.name) e in
      (b, above-weak k.counts s.name r.name l b h)

  rises-on : (seen : TallyRows k) (r : TallyRow k) (l : TallyRows k) → Follows seen (r ∷ l) → rises seen r.name ≡ true
  rises-on [] r l h = refl
  rises-on (s ∷ seen) r l h = ap (λ (o : Ordering). choose o true false false) h.0

  fields-ok : (r : TallyRow k) → ((fields k).Ok r → Bytes r.name × (k.limit r.count ≡ true))
  unfolding fields iso ◌⨾◌ prefixed
  fields-ok r h = (h.0.1, (k.limit-ok r.count).1 h.1)

  ok-fields : (r : TallyRow k) → is_name r.name ≡ true → Bytes r.name → k.limit r.count ≡ true → (fields k).Ok r
  unfolding fields iso ◌⨾◌ prefixed
  ok-fields r n b l = let p = leb-true (length r.name) 65535 n in ((omega arith, b), (k.limit-ok r.count).0 l)

  row_ok : (seen : TallyRows k) (r : TallyRow k) → (row k seen).Ok r → (fields k).Ok r × (may_stand k seen r ≡ true)
  unfolding row refine
  row_ok seen r h = h

  ok-row : (seen : TallyRows k) (r : TallyRow k) → (fields k).Ok r → may_stand k seen r ≡ true → (row k seen).Ok r
  unfolding row refine
  ok-row seen r f m = (f, m)

  pub record Judged (seen l : TallyRows k) : Type 0 where
    pub canonical : Canonical k.counts l
    pub limit : limited k l ≡ true
    pub follows : Follows seen l

  nothing-follows : (seen : TallyRows k) → Follows seen []
  nothing-follows [] = tt
  nothing-follows (r ∷ seen) = tt

  judged : (n : ℕ) (seen l : TallyRows k) → OkItems (row k) n seen l → Judged seen l
  judged zero seen [] h = record { canonical = tt; limit = refl; follows = nothing-follows seen }
  judged zero seen (r ∷ l) h = absurd h
  judged (suc n) seen [] h = absurd h
  judged (suc n) seen (r ∷ l) h =
      let j = judged n (r ∷ seen) l h.1 in
      let o = row_ok seen r h.0 in
      let m = three-yes (rises seen r.name) (is_name r.name) (k.counts.stands r.count) o.1 in
      let f = fields-ok r o.0 in
      record {
        canonical = (m.1, f.0, m.2, j.follows, j.canonical);
        limit = yes_and f.1 j.limit;
        follows = follows_on seen r l m.0 j.follows;
      }

  judged-back : (seen l : TallyRows k) → Judged seen l → OkItems (row k) (length l) seen l
  judged-back seen [] j = tt
  judged-back seen (r ∷ l) j =
      let c = j.canonical in
      let f = and_yes (k.limit r.count) (limited k l) j.limit in (
        ok-row seen r (ok-fields r c.0 c.1 f.0) (yes-three (rises-on seen r l j.follows) c.0 c.2),
        judged-back (r ∷ seen) l record { canonical = c.4; limit = f.1; follows = c.3 },
      )

  tally-ok : (l : TallyRows k) → (tally k).Ok l → Canonical k.counts l × (countable k l ≡ true)
  unfolding tally behind iso ◌⨾◌ refine number run listed items
  tally-ok l h =
      let j = judged (length l) [] l h.1.1.1 in
      let few : length l < 256 ^ 4 = h.1.1.0 in
      (j.canonical, yes_and j.limit (le-leb (length l) max_rows (omega arith)))

  ok-tally : (l : TallyRows k) → Canonical k.counts l → countable k l ≡ true → (tally k).Ok l
  unfolding tally behind iso ◌⨾◌ refine number run listed items
  ok-tally l c h =
      let f = and_yes (limited k l) (leb (length l) max_rows) h in
      let few : length l < 256 ^ 4 = (let p = leb-true (length l) max_rows f.1 in omega arith) in
      let rest = judged-back [] l record { canonical = c; limit = f.0; follows = tt } in
      (((refl, mark-bytes), refl), ((k.version-fits, eq-eqb k.version k.version refl), (few, rest)))

  -- ---- rows in front
  pub holds-front : (s : List ℕ) (r : TallyRow k) (l : TallyRows k) → Holds k s (r ∷ l) → to_option ((row k []).read s) ≡ some (r, length ((fields k).encode r))
  holds-front s r l h =
      let c = h.canonical in
      let f = and_yes (k.limit r.count) (limited k l) h.limit in
      let ok = ok-row [] r (ok-fields r c.0 c.1 f.0) (yes_and c.0 c.2) in
      let e : (row k []).read s ≡ done r (length ((row k []).encode r)) =
      ap (row k []).read (h.bytes ∙ ap (λ (x : List ℕ). x ++ rows_bytes k l) (sym (item-bytes [] r))) ∙ (row k []).forward r ok (rows_bytes k l) in
      ap to_option (e ∙ ap (λ (x : List ℕ). done r (length x)) (item-bytes [] r))

  pub holds-rest : (s : List ℕ) (r : TallyRow k) (l : TallyRows k) → Holds k s (r ∷ l) → Holds k (drop (length ((fields k).encode r)) s) l
  holds-rest s r l h = record {
    bytes = ap (drop (length ((fields k).encode r))) h.bytes ∙ drop-append_seam ((fields k).encode r) (rows_bytes k l);
    canonical = h.canonical.4;
    limit = (and_yes (k.limit r.count) (limited k l) h.limit).1;
  }

  -- ---- bytes that are a tally
  pub record Opened (t : List ℕ) (l : TallyRows k) : Type 0 where
    pub bytes : t ≡ (tally k).encode l
    pub canonical : Canonical k.counts l
    pub counts : countable k l ≡ true
    pub long : head_length ≤ length t
    pub holds : Holds k (drop head_length t) l

  rows-of-read : (t : List ℕ) (l : TallyRows k) → rows_of k t ≡ some l → (tally k).read t ≡ done l (length t)
  unfolding rows_of
  rows-of-read t l h = whole-some t ((tally k).read t) l h

  read-rows-of : (t : List ℕ) (l : TallyRows k) → (tally k).read t ≡ done l (length t) → rows_of k t ≡ some l
  unfolding rows_of
  read-rows-of t l h = rw (h, eq-eqb (length t) (length t) refl)

  pub opened : (t : List ℕ) (l : TallyRows k) → Bytes t → rows_of k t ≡ some l → Opened t l
  opened t l b h =
      let w = ((every-format (tally k)).accepted t l b).0 (rows-of-read t l h) in
      let c = tally-ok l w.0 in
      record {
        bytes = w.1;
        canonical = c.0;
        counts = c.1;
        long = rw (w.1, tally-size l) (omega arith);
        holds = record {
          bytes = ap (drop head_length) (w.1 ∙ tally-bytes l) ∙ drop_at (head_bytes k (length l)) (rows_bytes k l) head_length (head-size (length l));
          canonical = c.0;
          limit = (and_yes (limited k l) (leb (length l) max_rows) c.1).0;
        };
      }

  pub tally-bytewise : (l : TallyRows k) → Canonical k.counts l → countable k l ≡ true → Bytes ((tally k).encode l)
  tally-bytewise l c f = (tally k).bytes l (ok-tally l c f)

  pub rows-of-tally : (l : TallyRows k) → Canonical k.counts l → countable k l ≡ true → rows_of k ((tally k).encode l) ≡ some l
  rows-of-tally l c f = read-rows-of ((tally k).encode l) l ((every-format (tally k)).reads-back l (ok-tally l c f))

-- ---- version 1, as the code reads it
-- the bytes of a row of version 1
pub one-bytes : (r : Row ℕ) → (fields one).encode r ≡ to_be 2 (length r.name) ++ (r.name ++ to_be 8 r.count)
unfolding fields iso ◌⨾◌ prefixed number run
one-bytes r = append_assoc (to_be 2 (length r.name)) r.name (to_be 8 r.count)

pub one_size : (r : Row ℕ) → length ((fields one).encode r) ≡ length r.name + 10
one_size r = row-size one r

pub record FirstRow (s : List ℕ) (n c : ℕ) (L : Rows ones) : Type 0 where
  pub r : Row ℕ
  pub R : Rows ones
  pub split : L ≡ r ∷ R
  pub name : take n (drop 2 s) ≡ r.name
  pub long : length r.name ≡ n
  pub counts : r.count ≡ c
  pub lead : take (n + 2) s ≡ (prefixed {ends = malformed} 2).encode r.name
  pub rest : Holds one (drop (n + 10) s) R
  pub canonical : Canonical ones (r ∷ R)
  pub limit : limited one (r ∷ R) ≡ true

-- a row that was read lies in the bytes
pub row_inside : (s : List ℕ) (n c : ℕ) → told_row s (Some (n, c)) ≡ to_option ((row one []).read s) → n + 10 ≤ length s
row_inside s n c h = ends-in (row one []) (to_option-done ((row one []).read s) h)

pub first-row : (s : List ℕ) (n c : ℕ) (L : Rows ones) → told_row s (Some (n, c)) ≡ to_option ((row one []).read s) → Holds one s L → FirstRow s n c L
first-row s n c [] h k = let z : length s ≡ 0 = ap length k.bytes in absurd (omega (arith, row_inside s n c h))
first-row s n c (r ∷ R) h k =
    let name = (prefixed {ends = malformed} 2).encode r.name in
    let count = one.count.encode r.count in
    let e = some-injective _ _ (h ∙ holds-front one s r R k) in
    let size : n + 10 ≡ length ((fields one).encode r) = ap (λ (x : Row ℕ × ℕ). x.1) e in
    let long : length r.name ≡ n = omega (arith, one_size r) in
    record {
      r = r;
      R = R;
      split = refl;
      name = ap (λ (x : Row ℕ × ℕ). x.0.name) e;
      long = long;
      counts = ap (λ (x : Row ℕ × ℕ). x.0.count) (sym e);
      lead = ap (take (n + 2)) (k.bytes ∙ ap (λ (x : List ℕ). x ++ rows_bytes one R) (row-bytes one r) ∙ append_assoc name count (rows_bytes one R))
          ∙ take_at name (count ++ rows_bytes one R) (n + 2) (rw (name-bytes one r.name, length-append, to_be-length) (omega arith));
      rest = subst (λ (m : ℕ). Holds one (drop m s) R) (sym size) (holds-rest one s r R k);
      canonical = k.canonical;
      limit = k.limit;
    }

-- where no row was read, there is none
pub no_row : (s : List ℕ) (L : Rows ones) → told_row s None ≡ to_option ((row one []).read s) → Holds one s L → L ≡ []
no_row s [] h k = refl
no_row s (r ∷ R) h k = absurd (none-ne-some _ (h ∙ holds-front one s r R k))
