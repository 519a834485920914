-- Measuring a sum: how many rows it has and how long they are, counted from the front of both lists.
use Prim.Native.Nat.{ℕ, ◌+◌, ◌-◌, ◌≤◌}
use mathlib.Core.Path.{◌≡◌, ap, subst, ◌∙◌}
use mathlib.Core.List.{List, []}
use native.Mathlib.Nat.{zero-add}
use native.Mathlib.Omega.{arith}
use lib.ListN.{length, take, drop, length-append}
use Rattle.wire.proofs.Lists.{rest-is}
use Rattle.tally.specs.Rows.{Rows, plus}
use Rattle.tally.specs.Tally.{fields, limited, max_count, ones, one}
use Rattle.tally.specs.Walks.{rows_bytes, Holds}
use Rattle.tally.specs.Sums.{SumRowIs, MeasuredAs}
use Rattle.tally.specs.declared.merge.SumRow.{SumRow}
use Rattle.tally.specs.declared.merge.TooMany.{TooMany}
use Rattle.std.specs.Prelude.{Option, Some, None, Result, Ok, Err}
use Rattle.std.specs.Result.{IsErr}
use Rattle.wire.specs.Choice.{no_true}
use Rattle.tally.specs.declared.merge.SumSize.{SumSize}
use Rattle.tally.proofs.SumRows.{left-on, Rest, rest-start, rest-on, rest-bytes}

-- what is counted, and the rows that are left
pub record Run (x y : List ℕ) (rows size : ℕ) (A B : Rows ones) : Type 0 where
  pub rest : Rest x y A B
  pub counts : rows + length (plus ones rest.P rest.Q) ≡ length (plus ones A B)
  pub sized : size + length (rows_bytes one (plus ones rest.P rest.Q)) ≡ length (rows_bytes one (plus ones A B))

pub record Measuring (a b x y : List ℕ) (rows size : ℕ) : Type 0 where
  pub few : rows ≤ size
  pub short : size + (length x + length y) ≤ length a + length b
  pub counted : (A B : Rows ones) → Holds one a A → Holds one b B → Run x y rows size A B

pub measuring-start : (a b : List ℕ) → Measuring a b a b 0 0
measuring-start a b = record {
  few = omega arith;
  short = omega arith;
  counted = λ A B p q. record { rest = rest-start a b A B p q; counts = zero-add _; sized = zero-add _ };
}

module _ {a b x y : List ℕ} {rows size : ℕ} (m : Measuring a b x y rows size) where
  pub measuring-end : {o : Option SumRow} → o ≡ None → SumRowIs x y (Ok o) → MeasuredAs a b (Ok record { rows = rows; size = size })
  measuring-end z t A B p q =
      let w = m.counted A B p q in
      let l = w.rest in
      let n = subst (λ (o : Option SumRow). SumRowIs x y (Ok o)) z t in
      let e : plus ones l.P l.Q ≡ [] = n l.P l.Q l.left l.right in
      record {
        fits = l.fits ∙ ap (limited one) e;
        counts = omega (arith, w.counts, ap length e);
        sized = omega (arith, w.sized, ap (λ (t : Rows ones). length (rows_bytes one t)) e);
      }

  pub measuring-many : {t : TooMany} → SumRowIs x y (Err t) → (r : Result SumSize TooMany) → IsErr r → MeasuredAs a b r
  measuring-many n (Ok s) e = no_true e
  measuring-many n (Err t) e = λ A B p q. let l = (m.counted A B p q).rest in l.fits ∙ n l.P l.Q l.left l.right

  module _ {r : SumRow} {o : Option SumRow} (z : o ≡ Some r) (t : SumRowIs x y (Ok o)) (h : r.count ≤ max_count) where
    next : SumRowIs x y (Ok (Some r))
    next = subst (λ (o : Option SumRow). SumRowIs x y (Ok o)) z t

    counted-on : (A B : Rows ones) → Run x y rows size A B → Run (drop r.first x) (drop r.second y) (rows + 1) (size + r.size) A B
    counted-on A B w =
        let l = w.rest in
        let t = next.1 l.P l.Q l.left l.right in
        record {
          rest = rest-on l t h;
          counts = omega (arith, w.counts, ap length t.sum);
          sized = omega (arith, w.sized, t.sized, ap length (rest-bytes l t), length-append ((fields one).encode t.r) (rows_bytes one (plus ones t.P t.Q)));
        }

    pub measuring-on : Measuring a b (take (length x - r.first) (drop r.first x)) (take (length y - r.second) (drop r.second y)) (rows + 1) (size + r.size)
    measuring-on = rw (rest-is r.first x, rest-is r.second y) record {
      few = omega (arith, m.few, next.0.long);
      short = left-on next.0 size (length a + length b) m.short;
      counted = λ A B p q. counted-on A B (m.counted A B p q);
    }
