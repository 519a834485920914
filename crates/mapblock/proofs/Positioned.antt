-- Positions, alone and after rows whose positions a table marks.
use Prim.Native.Nat.{ℕ, ◌<◌, ◌≤◌}
use mathlib.Core.Path.{◌≡◌, refl, sym, ◌∙◌}
use mathlib.Core.List.{List}
use mathlib.Core.Bool.{Bool, true, false, cond}
use native.Mathlib.Omega.{arith}
use lib.Dec.{leb, eqb}
use lib.ListN.{get_or, set, length-set}
use lib.Seq.{get_or-set_same, get_or-set_other}
use borrow.Author.Tests.{le-leb, lt-leb, leb-true, eq-eqb, ne_eqb, eqb-true, eqb-false}
use Rattle.wire.specs.Read.{done, refused, not_done, bind_done, cond-done}
use Rattle.wire.specs.Format.{refine, tested}
use Rattle.wire.specs.Formats.{u16}
use Rattle.mapblock.specs.Layout.{position, without}
use Rattle.mapblock.specs.Table.{free_in, Tabled}
use Rattle.mapblock.specs.Told.{told_position, PositionMarked}
use Rattle.mapblock.specs.declared.fault.Fault.{Fault}
use Rattle.mapblock.specs.declared.fault.Fault.TheVariants as fault
use Rattle.std.specs.Option.{ok_or}
use Rattle.std.specs.Prelude.{Option, Some, None, Result, Ok, Err}
use Rattle.wire.specs.Told.{short, told_number}
use Rattle.mapblock.proofs.Leaves.{by_number}

module _ (s : List ℕ) where
  pub position-ends : {e : Fault} {p : ℕ} → (u16 {ends = fault.Ends}).read s ≡ refused e p → refused e p ≡ position.read s
  unfolding refine
  position-ends h = rw h

  module _ {p : ℕ} (h : (u16 {ends = fault.Ends}).read s ≡ done p 2) where
    pub position-above : 4095 < p → refused fault.PositionAbove 0 ≡ position.read s
    unfolding refine
    position-above k = rw (h, lt-leb _ _ k)

    pub position-done : p ≤ 4095 → done p 2 ≡ position.read s
    unfolding refine
    position-done k = rw (h, le-leb _ _ k)

  pub position-below : {p n : ℕ} → position.read s ≡ done p n → p ≤ 4095
  unfolding refine
  position-below {p} {n} h =
      let x = bind_done ((u16 {ends = fault.Ends}).read s) (tested (λ p. leb p 4095) fault.PositionAbove) p n h in
      let y = cond-done (leb x.0 4095) (done x.0 x.1) fault.PositionAbove 0 p n x.3 in
      let same : x.0 ≡ p = cc y.1 in
      omega (arith, leb-true x.0 4095 y.0)

-- a position that is not judged
pub position-plain : (s : List ℕ) (o : Option ℕ) {r : Result ℕ Fault} → told_number 2 o ≡ (u16 {ends = short}).read s → r ≡ ok_or o fault.Ends → told_position r ≡ (u16 {ends = fault.Ends}).read s
position-plain s (Some p) e h = rw h (sym (by_number {x = Some p} 2 s (told_number 2) e refl))
position-plain s None e h = rw h (sym (by_number {x = None} 2 s (told_number 2) e refl))

-- ---- a number marked in a table
pub marked-one : (n : ℕ) (free : ℕ → Bool) (t : List ℕ) (m : ℕ) → m < n → Tabled n free t → Tabled n (without m free) (set t m 1)
marked-one n free t m h k = record { size = length-set t m 1 ∙ k.size; tells = λ i l. go i l (eqb i m) refl }
  where
    go : (i : ℕ) → i < n → (b : Bool) → eqb i m ≡ b → cond b false (free i) ≡ free_in (set t m 1) i
    go i l true e =
        let z : i ≡ m = eqb-true i m e in
        let v : get_or (set t m 1) m 0 ≡ 1 = get_or-set_same t m 1 0 (omega (arith, k.size)) in
        rw (z, v)
    go i l false e = rw (get_or-set_other t m i 1 0 (eqb-false i m e)) (k.tells i l)

-- ---- the three ways of a position after others
module _ (s t : List ℕ) where
  pub new-refused : {f : Fault} → position.read s ≡ refused f 0 → PositionMarked s t t (Err f)
  unfolding refine
  new-refused h = record { told = λ free k. rw h; marked = λ free p n k e. not_done (rw h at e) }

  module _ {p : ℕ} (h : position.read s ≡ done p 2) where
    pub new-twice : (get_or t p 0 ≡ 0 → ⊥) → PositionMarked s t t (Err fault.PositionTwice)
    unfolding refine
    new-twice l =
        let b = position-below s h in
        record {
          told = λ free k. rw (h, k.tells p (omega arith), ne_eqb _ _ l);
          marked = λ free q n k e. not_done (rw (h, k.tells p (omega arith), ne_eqb _ _ l) at e);
        }

    pub new-done : get_or t p 0 ≡ 0 → PositionMarked s t (set t p 1) (Ok p)
    unfolding refine
    new-done l =
        let b = position-below s h in
        record {
          told = λ free k. rw (h, k.tells p (omega arith), eq-eqb _ _ l);
          marked = λ free q n k e.
              let z : done p 2 ≡ done q n = rw (h, k.tells p (omega arith), eq-eqb _ _ l) at e in
              let same : p ≡ q = cc in
              rw (← same) (marked-one 4096 free t p (omega arith) k);
        }
