-- The next row of the sum of two lists of rows: at the end of both, from the first, from the second, from both, or too large.
use Prim.Native.Nat.{ℕ, ◌+◌, ◌-◌, ◌<◌, ◌≤◌}
use mathlib.Core.Path.{◌≡◌, refl, ap, ap₂, sym, ◌∙◌, subst}
use mathlib.Core.Bool.{false}
use mathlib.Core.List.{List, [], ◌∷◌, ◌++◌}
use mathlib.Core.Logic.{inl}
use native.Mathlib.Omega.{arith}
use lib.Dec.{leb}
use lib.ListN.{length, take, drop, length-drop}
use borrow.Author.Tests.{le-leb, lt-leb, ne_eqb}
use Rattle.wire.proofs.Tests.{and_no}
use Rattle.wire.specs.Formats.{prefixed}
use Rattle.wire.specs.Order.{order}
use Rattle.std.specs.declared.cmp.Ordering.{Ordering}
use Rattle.std.specs.declared.cmp.Ordering.TheVariants.{Less, Equal, Greater}
use Rattle.tally.specs.Rows.{Row, Rows, joined, plus}
use Rattle.wire.specs.Read.{to_option}
use Rattle.tally.specs.Tally.{malformed, fields, row, limited, max_count, ones, one}
use Rattle.tally.specs.Told.{told_row}
use Rattle.tally.specs.Walks.{rows_bytes, Holds}
use Rattle.tally.specs.Sums.{side, SumRowInside, SumRowTold, SumRowIs}
use Rattle.tally.specs.declared.merge.SumRow.{SumRow}
use Rattle.tally.specs.declared.merge.TooMany.{TooMany}
use Rattle.tally.proofs.Held.{FirstRow, row_inside, first-row, no_row, one_size}
use Rattle.tally.proofs.FrontRows.{name-part}
use Rattle.tally.proofs.Steps.{step-before, step_after, step_same}
use Rattle.tally.proofs.Canon.{plus-unit}
use Rattle.std.specs.Prelude.{Some, None, Option, Result, Ok, Err}
use Rattle.std.specs.Result.{IsErr}
use Rattle.wire.specs.Choice.{no_true}

-- ---- which list the name stands in
pub side-first : (x y : List ℕ) {first : ℕ} → (first ≡ 0 → ⊥) → side first x y ≡ x
side-first x y {first} h = rw (ne_eqb first 0 h)

-- ---- the front of a list of rows
abbrev pub Front : List ℕ → Option (ℕ × ℕ) → Type 0
Front s r = told_row s r ≡ to_option ((row one []).read s)

-- where no row was read there is none
unread : (s : List ℕ) {r : Option (ℕ × ℕ)} {L : Rows ones} → r ≡ None → Front s r → Holds one s L → L ≡ []
unread s {L = L} e f h = no_row s L (subst (Front s) e f) h

pub both-ended : (x y : List ℕ) {p q : Option (ℕ × ℕ)} → p ≡ None → q ≡ None → Front x p → Front y q → SumRowIs x y (Ok None)
both-ended x y d e f g X Y hx hy = rw (unread x d f hx, unread y e g hy)

-- the next row is this one
abbrev pub NextIs : (x y : List ℕ) (first second size count : ℕ) → Type 0
NextIs x y first second size count = SumRowIs x y (Ok (Some record { first = first; second = second; size = size; count = count }))

-- ---- a row in front, as the sum takes it
module _ {s : List ℕ} {n c : ℕ} {L : Rows ones} (f : FirstRow s n c L) where
  -- the code compares parts
  front-name : take (n + 2 - 2) (drop 2 s) ≡ f.r.name
  front-name = name-part n s ∙ f.name

  front_lead : take (n + 10 - 8) s ≡ (prefixed {ends = malformed} 2).encode f.r.name
  front_lead = let e : n + 10 - 8 ≡ n + 2 = omega arith in rw e f.lead

  -- a row of the same name, with which the sum begins
  front-row : (x y : List ℕ) {first second count : ℕ} (r : Row ℕ) {X Y P Q : Rows ones} → side first x y ≡ s → r.name ≡ f.r.name → r.count ≡ count
      → plus ones X Y ≡ r ∷ plus ones P Q → Holds one (drop first x) P → Holds one (drop second y) Q → SumRowTold x y first second (n + 10) count X Y
  front-row x y r {P = P} {Q = Q} here same counts sum left right = record {
    r = r;
    P = P;
    Q = Q;
    sum = sum;
    left = left;
    right = right;
    counts = counts;
    sized = one_size r ∙ ap (λ (l : List ℕ). length l + 10) same ∙ ap (λ (k : ℕ). k + 10) f.long;
    lead = rw (here, same) front_lead;
  }

-- from the first list
module _ (x y : List ℕ) (n : ℕ) {c : ℕ} (h : Front x (Some (n, c))) where
  in-first : side (n + 10) x y ≡ x
  in-first = side-first x y (λ (e : n + 10 ≡ 0). omega arith)

  first-inside : {second : ℕ} → second ≤ length y → SumRowInside x y (n + 10) second (n + 10)
  first-inside k = let inside = row_inside x n c h in record { first-in = inside; second-in = k; side-in = rw in-first inside; long = omega arith; short = omega arith }

  from_first : ((X Y : Rows ones) (f : FirstRow x n c X) → Holds one y Y → plus ones X Y ≡ f.r ∷ plus ones f.R Y) → NextIs x y (n + 10) 0 (n + 10) c
  from_first step = (
    first-inside (omega arith),
    λ X Y hx hy. let f = first-row x n c X h hx in front-row f x y f.r in-first refl f.counts (step X Y f hy) f.rest hy,
  )

  pub first_alone : {r : Option (ℕ × ℕ)} → r ≡ None → Front y r → NextIs x y (n + 10) 0 (n + 10) c
  first_alone e g = from_first (λ X Y f hy.
      rw (f.split, unread y e g hy, plus-unit ones (f.r ∷ f.R) f.canonical, plus-unit ones f.R f.canonical.4))

-- from the second
module _ (x y : List ℕ) (m : ℕ) {d : ℕ} (h : Front y (Some (m, d))) where
  from_second : ((X Y : Rows ones) (g : FirstRow y m d Y) → Holds one x X → plus ones X Y ≡ g.r ∷ plus ones X g.R) → NextIs x y 0 (m + 10) (m + 10) d
  from_second step =
      let inside = row_inside y m d h in (
        record { first-in = omega arith; second-in = inside; side-in = inside; long = omega arith; short = omega arith },
        λ X Y hx hy. let g = first-row y m d Y h hy in front-row g x y g.r refl refl g.counts (step X Y g hx) hx g.rest,
      )

  pub second-alone : {r : Option (ℕ × ℕ)} → r ≡ None → Front x r → NextIs x y 0 (m + 10) (m + 10) d
  second-alone e f = from_second (λ X Y g hx. rw (unread x e f hx) g.split)

-- ---- a row of each: o is how their names stand to each other
module _ (x y : List ℕ) (n m : ℕ) {c d : ℕ} (h : Front x (Some (n, c))) (k : Front y (Some (m, d))) {o : Ordering} (e : o ≡ order (take (n + 2 - 2) (drop 2 x)) (take (m + 2 - 2) (drop 2 y))) where
  ordered : {X Y : Rows ones} (f : FirstRow x n c X) (g : FirstRow y m d Y) {p : Ordering} → o ≡ p → order f.r.name g.r.name ≡ p
  ordered f g q = ap₂ order (sym (front-name f)) (sym (front-name g)) ∙ sym e ∙ q

  pub both-before : o ≡ Less → NextIs x y (n + 10) 0 (n + 10) c
  both-before q = from_first x y n h (λ X Y f hy. let g = first-row y m d Y k hy in
      rw (f.split, g.split) (step-before ones f.r g.r f.R g.R f.canonical g.canonical (ordered f g q)))

  pub both-after : o ≡ Greater → NextIs x y 0 (m + 10) (m + 10) d
  both-after q = from_second x y m k (λ X Y g hx. let f = first-row x n c X h hx in
      rw (f.split, g.split) (step_after ones f.r g.r f.R g.R f.canonical g.canonical (ordered f g q)))

  both-sum : {X Y : Rows ones} (f : FirstRow x n c X) (g : FirstRow y m d Y) → o ≡ Equal → plus ones X Y ≡ joined ones f.r g.r ∷ plus ones f.R g.R
  both-sum f g q = rw (f.split, g.split) (step_same ones f.r g.r f.R g.R f.canonical g.canonical (ordered f g q))

  pub both-same : o ≡ Equal → NextIs x y (n + 10) (m + 10) (n + 10) (c + d)
  both-same q = (
    first-inside x y n h (row_inside y m d k),
    λ X Y hx hy. let f = first-row x n c X h hx in let g = first-row y m d Y k hy in
        front-row f x y (joined ones f.r g.r) (in-first x y n h) refl (ap₂ ◌+◌ f.counts g.counts) (both-sum f g q) f.rest g.rest,
  )

  pub both-many : o ≡ Equal → max_count < c + d → (r : Result (Option SumRow) TooMany) → IsErr r → SumRowIs x y r
  both-many q l (Ok r) i = no_true i
  both-many q l (Err t) i = λ X Y hx hy.
      let f = first-row x n c X h hx in let g = first-row y m d Y k hy in
      let large : leb (f.r.count + g.r.count) max_count ≡ false = lt-leb (f.r.count + g.r.count) max_count (omega (arith, f.counts, g.counts)) in
      rw (both-sum f g q) (and_no _ (limited one (plus ones f.R g.R)) (inl large))

-- ---- what is left of both lists behind a row of the sum
module _ {x y : List ℕ} {first second size : ℕ} (n : SumRowInside x y first second size) where
  pub left-on : (at whole : ℕ) → at + (length x + length y) ≤ whole → at + size + (length (drop first x) + length (drop second y)) ≤ whole
  left-on at whole h = rw (length-drop first x, length-drop second y) (omega (arith, n.first-in, n.second-in, n.short))

-- the rows that are left; the sum keeps to the limit where theirs does
pub record Rest (x y : List ℕ) (A B : Rows ones) : Type 0 where
  pub P : Rows ones
  pub Q : Rows ones
  pub left : Holds one x P
  pub right : Holds one y Q
  pub fits : limited one (plus ones A B) ≡ limited one (plus ones P Q)

abbrev pub rest-start : (x y : List ℕ) (A B : Rows ones) → Holds one x A → Holds one y B → Rest x y A B
rest-start x y A B p q = record { P = A; Q = B; left = p; right = q; fits = refl }

-- a count that the code holds is within the limit
pub within-limit : (r : Row ℕ) (l : Rows ones) → r.count ≤ max_count → limited one (r ∷ l) ≡ limited one l
within-limit r l h = rw (le-leb r.count max_count h)

module _ {x y : List ℕ} {A B : Rows ones} (w : Rest x y A B) {first second size count : ℕ} (n : SumRowTold x y first second size count w.P w.Q) where
  abbrev pub rest-on : count ≤ max_count → Rest (drop first x) (drop second y) A B
  rest-on h = record {
    P = n.P;
    Q = n.Q;
    left = n.left;
    right = n.right;
    fits = w.fits ∙ ap (limited one) n.sum ∙ within-limit n.r (plus ones n.P n.Q) (rw n.counts h);
  }

  pub rest-bytes : rows_bytes one (plus ones w.P w.Q) ≡ (fields one).encode n.r ++ rows_bytes one (plus ones n.P n.Q)
  rest-bytes = ap (rows_bytes one) n.sum
