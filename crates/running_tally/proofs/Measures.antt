-- Of rows, those whose names are there and those whose names are new; and how long a sum of rows is.
use Rattle.std.proofs.Common.{◌≡◌, ℕ, ◌+◌, Bool, true, false, cond, leb, List, [], ◌∷◌, length, sym, refl, ap, ◌∙◌, zero-add, arith, length-append, leb-true}
use Rattle.wire.specs.Order.{order, choose}
use Rattle.wire.proofs.TotalOrder.{flip, order_same, order_flip}
use Rattle.std.specs.declared.cmp.Ordering.{Ordering}
use Rattle.std.specs.declared.cmp.Ordering.TheVariants.{Less, Equal, Greater}
use Rattle.tally.specs.Rows.{Row, Rows, joined, add_row, plus, count_in, Above, Canonical}
use Rattle.tally.specs.Tally.{ones, one, fields}
use Rattle.tally.specs.Walks.{rows_bytes}
use Rattle.tally.proofs.Canon.{count-plus, count-above, count-cons, above-weak, canonical-plus}
use Rattle.tally.proofs.Held.{one_size}
use Rattle.running_tally.specs.Passes.{has, known, fresh}
use Rattle.running_tally.proofs.Counts.{has_some, has-none}

-- ---- one row
module _ (X : Rows ones) (g : Row ℕ) (G : Rows ones) where
  pub fresh-there : has X g.name ≡ true → fresh X (g ∷ G) ≡ fresh X G
  unfolding fresh
  fresh-there h = rw h

  pub fresh-new : has X g.name ≡ false → fresh X (g ∷ G) ≡ g ∷ fresh X G
  unfolding fresh
  fresh-new h = rw h

  pub known-there : has X g.name ≡ true → known X (g ∷ G) ≡ g ∷ known X G
  unfolding known
  known-there h = rw h

  pub known-new : has X g.name ≡ false → known X (g ∷ G) ≡ known X G
  unfolding known
  known-new h = rw h

pub fresh-none : (X : Rows ones) → fresh X [] ≡ []
unfolding fresh
fresh-none X = refl

pub known-none : (X : Rows ones) → known X [] ≡ []
unfolding known
known-none X = refl

-- ---- all of them
module _ (X : Rows ones) where
  pub fresh-known : (G : Rows ones) (n : List ℕ) → count_in ones (fresh X G) n + count_in ones (known X G) n ≡ count_in ones G n
  fresh-known [] n = rw (fresh-none X, known-none X)
  fresh-known (g ∷ G) n = go (has X g.name) refl (fresh-known G n)
    where
      go : (b : Bool) → has X g.name ≡ b → count_in ones (fresh X G) n + count_in ones (known X G) n ≡ count_in ones G n
          → count_in ones (fresh X (g ∷ G)) n + count_in ones (known X (g ∷ G)) n ≡ count_in ones (g ∷ G) n
      go true e ih = rw (fresh-there X g G e, known-there X g G e) (omega arith)
      go false e ih = rw (fresh-new X g G e, known-new X g G e) (omega arith)

-- two lists have the same names of G
abbrev pub Agree : Rows ones → Rows ones → Rows ones → Type 0
Agree X Y [] = Unit {0}
Agree X Y (g ∷ G) = (has X g.name ≡ has Y g.name) × Agree X Y G

module _ (X Y : Rows ones) where
  pub agree-all : (G : Rows ones) → ((n : List ℕ) → has X n ≡ has Y n) → Agree X Y G
  agree-all [] f = tt
  agree-all (g ∷ G) f = (f g.name, agree-all G f)

  pub agree-above : (n : List ℕ) (G : Rows ones) → Above ones n G → ((m : List ℕ) → order n m ≡ Less → count_in ones X m ≡ count_in ones Y m) → Agree X Y G
  agree-above n [] h f = tt
  agree-above n (g ∷ G) h f = (ap (leb 1) (f g.name h.0), agree-above n G h.1 f)

  pub fresh-agree : (G : Rows ones) → Agree X Y G → fresh X G ≡ fresh Y G
  fresh-agree [] h = fresh-none X ∙ sym (fresh-none Y)
  fresh-agree (g ∷ G) h = go (has Y g.name) refl (fresh-agree G h.1)
    where
      go : (b : Bool) → has Y g.name ≡ b → fresh X G ≡ fresh Y G → fresh X (g ∷ G) ≡ fresh Y (g ∷ G)
      go true e ih = fresh-there X g G (h.0 ∙ e) ∙ ih ∙ sym (fresh-there Y g G e)
      go false e ih = fresh-new X g G (h.0 ∙ e) ∙ ap (λ (l : Rows ones). g ∷ l) ih ∙ sym (fresh-new Y g G e)

-- ---- how long a sum is, by what each row comes to
module _ (f : Row ℕ → ℕ) (by_name : (r s : Row ℕ) → r.name ≡ s.name → f r ≡ f s) where
  abbrev pub total : Rows ones → ℕ
  total [] = 0
  total (r ∷ l) = f r + total l

  total-add : (g : Row ℕ) (X : Rows ones) → Canonical ones X → total (add_row ones g X) ≡ cond (has X g.name) 0 (f g) + total X
  total-add g [] c = refl
  total-add g (s ∷ l) c = go (order g.name s.name) refl (total-add g l c.4)
    where
      go : (w : Ordering) → order g.name s.name ≡ w → total (add_row ones g l) ≡ cond (has l g.name) 0 (f g) + total l
          → total (choose w (g ∷ s ∷ l) (joined ones g s ∷ l) (s ∷ add_row ones g l)) ≡ cond (has (s ∷ l) g.name) 0 (f g) + (f s + total l)
      go Less e ih = rw (has-none (s ∷ l) g.name (count-above ones (s ∷ l) g.name (e, above-weak ones g.name s.name l e c.3)))
      go Equal e ih =
          let q : g.name ≡ s.name = order_same g.name s.name e in
          let there : has (s ∷ l) g.name ≡ true = has_some (s ∷ l) g.name
          (omega (arith, leb-true 1 s.count c.2, count-cons ones s l g.name {w = Equal} (order_flip g.name s.name ∙ ap flip e))) in
          rw there (omega (arith, by_name (joined ones g s) s q))
      go Greater e ih =
          let past : has (s ∷ l) g.name ≡ has l g.name =
          ap (leb 1) (count-cons ones s l g.name {w = Less} (order_flip g.name s.name ∙ ap flip e) ∙ zero-add _) in
          rw past (omega arith)

  pub total-plus : (G R : Rows ones) → Canonical ones G → Canonical ones R → total (plus ones G R) ≡ total (fresh R G) + total R
  total-plus [] R g r = rw (fresh-none R) (sym (zero-add _))
  total-plus (x ∷ G) R g r = total-add x (plus ones G R) (canonical-plus ones G R g.4 r) ∙ go (has R x.name) refl (total-plus G R g.4 r)
    where
      same : has (plus ones G R) x.name ≡ has R x.name
      same =
          let e : count_in ones (plus ones G R) x.name ≡ count_in ones R x.name = omega (arith, count-plus ones G R x.name, count-above ones G x.name g.3) in
          ap (leb 1) e

      go : (b : Bool) → has R x.name ≡ b → total (plus ones G R) ≡ total (fresh R G) + total R
          → cond (has (plus ones G R) x.name) 0 (f x) + total (plus ones G R) ≡ total (fresh R (x ∷ G)) + total R
      go true e ih = rw (same, e, fresh-there R x G e) (omega arith)
      go false e ih = rw (same, e, fresh-new R x G e) (omega arith)

-- its bytes
abbrev row-long : Row ℕ → ℕ
row-long r = length ((fields one).encode r)

long-by-name : (r s : Row ℕ) → r.name ≡ s.name → row-long r ≡ row-long s
long-by-name r s e = one_size r ∙ ap (λ (n : List ℕ). length n + 10) e ∙ sym (one_size s)

bytes-total : (X : Rows ones) → length (rows_bytes one X) ≡ total row-long long-by-name X
bytes-total [] = refl
bytes-total (r ∷ l) = omega (arith, length-append ((fields one).encode r) (rows_bytes one l), bytes-total l)

-- and its rows
rows-total : (X : Rows ones) → length X ≡ total (λ r. 1) (λ r s e. refl) X
rows-total [] = refl
rows-total (r ∷ l) = omega (arith, rows-total l)

module _ (G R : Rows ones) (g : Canonical ones G) (r : Canonical ones R) where
  pub bytes-plus : length (rows_bytes one (plus ones G R)) ≡ length (rows_bytes one (fresh R G)) + length (rows_bytes one R)
  bytes-plus = omega (arith, bytes-total (plus ones G R), bytes-total (fresh R G), bytes-total R, total-plus row-long long-by-name G R g r)

  pub rows-plus : length (plus ones G R) ≡ length (fresh R G) + length R
  rows-plus = omega (arith, rows-total (plus ones G R), rows-total (fresh R G), rows-total R, total-plus (λ r. 1) (λ r s e. refl) G R g r)
