-- Writing a sum: its rows are put into a buffer, one behind the other.
use Prim.Native.Nat.{ℕ, ◌+◌, ◌-◌, ◌≤◌}
use mathlib.Core.Path.{◌≡◌, refl, ap, sym, subst, ◌∙◌}
use mathlib.Core.List.{List, [], ◌++◌, append_assoc}
use native.Mathlib.Omega.{arith}
use lib.ListN.{length, take, drop, length-append}
use Rattle.wire.proofs.Lists.{rest-is}
use Rattle.wire.specs.Bytes.{to_be}
use Rattle.wire.specs.Store.{overwrite, stored, PutAt}
use Rattle.wire.specs.Format.{iso, run}
use Rattle.wire.specs.Formats.{number, prefixed}
use Rattle.wire.proofs.Puts.{put-nothing, put-run, front-room, put_two}
use Rattle.tally.specs.Rows.{Row, Rows, plus}
use Rattle.tally.specs.Tally.{malformed, fields, max_count, ones, one}
use Rattle.tally.specs.Walks.{rows_bytes}
use Rattle.tally.specs.Sums.{side, SumRowIs, put_with_count, SumFits}
use Rattle.tally.specs.declared.merge.SumRow.{SumRow}
use Rattle.std.specs.Prelude.{Option, Some, Ok}
use Rattle.tally.proofs.Held.{row-bytes}
use Rattle.tally.proofs.SumRows.{left-on, Rest, rest-start, rest-on, rest-bytes}

-- ---- one row
-- two stores, the second behind the first
two-put : (at : ℕ) (u w d : List ℕ) → at + length (u ++ w) ≤ length d → stored (at + length u) w (stored at u d) ≡ overwrite at (u ++ w) d
two-put at u w d room = (put_two room (put-run at u (front-room at u w room) refl) (λ h. put-run (at + length u) w h refl)).overwrites

row_put : (at size : ℕ) (s d : List ℕ) (r : Row ℕ) → length ((fields one).encode r) ≡ size → take (size - 8) s ≡ (prefixed {ends = malformed} 2).encode r.name
    → at + size ≤ length d → PutAt at ((fields one).encode r) d (put_with_count at s size r.count d) (at + size)
unfolding number iso run
row_put at size s d r z l h =
    let lead = take (size - 8) s in
    let count = to_be 8 r.count in
    let e : (fields one).encode r ≡ lead ++ count = row-bytes one r ∙ ap (λ (t : List ℕ). t ++ count) (sym l) in
    let long : length lead ≡ size - 8 = omega (arith, z, ap length e, length-append lead count) in
    record {
      ends = omega (arith, z);
      overwrites = ap (λ (n : ℕ). stored (at + n) count (stored at lead d)) (sym long) ∙ two-put at lead count d (omega (arith, z, ap length e)) ∙ ap (λ (b : List ℕ). overwrite at b d) (sym e);
    }

-- ---- the rows before the place are put, and the rest is left
pub record Written (x y d out : List ℕ) (at : ℕ) (A B : Rows ones) : Type 0 where
  pub rest : Rest x y A B
  pub W : List ℕ
  pub sum : W ++ rows_bytes one (plus ones rest.P rest.Q) ≡ rows_bytes one (plus ones A B)
  pub put : PutAt 0 W d out at

pub record Writing (a b x y d out : List ℕ) (at : ℕ) : Type 0 where
  pub short : at + (length x + length y) ≤ length a + length b
  pub same : length out ≡ length d
  pub written : (A B : Rows ones) → SumFits a b d A B → Written x y d out at A B

pub writing_start : (a b d : List ℕ) → Writing a b a b d d 0
writing_start a b d = record {
  short = omega arith;
  same = refl;
  written = λ A B f. record { rest = rest-start a b A B f.left f.right; W = []; sum = refl; put = put-nothing 0 d };
}

module _ {a b x y d out : List ℕ} {at : ℕ} (m : Writing a b x y d out at) where
  module _ {r : SumRow} {o : Option SumRow} (z : o ≡ Some r) (t : SumRowIs x y (Ok o)) (h : r.count ≤ max_count) where
    next : SumRowIs x y (Ok (Some r))
    next = subst (λ (o : Option SumRow). SumRowIs x y (Ok o)) z t

    written_on : (A B : Rows ones) → SumFits a b d A B → Written x y d out at A B
        → Written (drop r.first x) (drop r.second y) d (put_with_count at (side r.first x y) r.size r.count out) (at + r.size) A B
    written_on A B f w =
        let l = w.rest in
        let t = next.1 l.P l.Q l.left l.right in
        let row = (fields one).encode t.r in
        let sum : (w.W ++ row) ++ rows_bytes one (plus ones t.P t.Q) ≡ rows_bytes one (plus ones A B)
        = append_assoc w.W row (rows_bytes one (plus ones t.P t.Q)) ∙ ap (λ (s : List ℕ). w.W ++ s) (sym (rest-bytes l t)) ∙ w.sum in
        let room : 0 + length (w.W ++ row) ≤ length d = omega (arith, f.room, ap length sum, length-append (w.W ++ row) (rows_bytes one (plus ones t.P t.Q))) in
        record {
          rest = rest-on l t h;
          W = w.W ++ row;
          sum = sum;
          put = put_two room w.put (λ k. subst (λ (n : ℕ). PutAt at row out (put_with_count at (side r.first x y) r.size n out) (at + r.size)) t.counts
              (row_put at r.size (side r.first x y) out t.r t.sized t.lead (omega (arith, k, t.sized))));
        }

    pub writing-on : {last : List ℕ} → last ≡ put_with_count at (side r.first x y) r.size r.count out → length last ≡ length out
        → Writing a b (take (length x - r.first) (drop r.first x)) (take (length y - r.second) (drop r.second y)) d last (at + r.size)
    writing-on e k = rw (rest-is r.first x, rest-is r.second y) record {
      short = left-on next.0 at (length a + length b) m.short;
      same = k ∙ m.same;
      written = λ A B f. rw e (written_on A B f (m.written A B f));
    }
