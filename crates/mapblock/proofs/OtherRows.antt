-- Rows of static objects and of timers, field by field, as they are told.
use Prim.Native.Nat.{ℕ, ◌+◌}
use mathlib.Core.Path.{◌≡◌}
use mathlib.Core.List.{List, []}
use native.Mathlib.Omega.{arith}
use lib.IntN.{ℤ}
use lib.ListN.{take, drop}
use lib.Seq.{drop-drop}
use Rattle.wire.specs.Read.{done, refused, map_read}
use Rattle.wire.specs.Format.{refine, ◌⨾◌, iso}
use Rattle.wire.specs.Formats.{u8, s32, prefixed}
use Rattle.mapblock.specs.Layout.{unused, position, object_row, timer_row}
use Rattle.wire.specs.Ranges.{range_at}
use Rattle.mapblock.specs.Rows.{object_fields, timer_fields}
use Rattle.mapblock.specs.declared.fault.Fault.{Fault}
use Rattle.mapblock.specs.declared.fault.Fault.TheVariants as fault
use Rattle.mapblock.proofs.Leaves.{run_length}

module _ (s : List ℕ) where
  pub object-no-kind : {e : Fault} {p : ℕ} → (u8 {ends = fault.Ends}).read s ≡ refused e p → refused e p ≡ map_read object_fields (object_row.read s)
  unfolding object_row iso ◌⨾◌
  object-no-kind h = rw h

  module _ {kind : ℕ} (h : (u8 {ends = fault.Ends}).read s ≡ done kind 1) where
    pub object-no-x : {e : Fault} {p : ℕ} → (s32 {ends = fault.Ends}).read (drop 1 s) ≡ refused e p → refused e (1 + p) ≡ map_read object_fields (object_row.read s)
    unfolding object_row iso ◌⨾◌
    object-no-x k = rw (h, k)

    module _ {x : ℤ} (hx : (s32 {ends = fault.Ends}).read (drop 1 s) ≡ done x 4) where
      pub object-no-y : {e : Fault} {p : ℕ} → (s32 {ends = fault.Ends}).read (drop 5 s) ≡ refused e p → refused e (1 + (4 + p)) ≡ map_read object_fields (object_row.read s)
      unfolding object_row iso ◌⨾◌
      object-no-y k = rw (h, hx, drop-drop 4 1 s, k)

      module _ {y : ℤ} (hy : (s32 {ends = fault.Ends}).read (drop 5 s) ≡ done y 4) where
        pub object-no-z : {e : Fault} {p : ℕ} → (s32 {ends = fault.Ends}).read (drop 9 s) ≡ refused e p
            → refused e (1 + (4 + (4 + p))) ≡ map_read object_fields (object_row.read s)
        unfolding object_row iso ◌⨾◌
        object-no-z k = rw (h, hx, drop-drop 4 1 s, hy, drop-drop 4 5 s, k)

        module _ {z : ℤ} (hz : (s32 {ends = fault.Ends}).read (drop 9 s) ≡ done z 4) where
          pub object-no-content : {e : Fault} {p : ℕ} → (prefixed {ends = fault.Ends} 2).read (drop 13 s) ≡ refused e p
              → refused e (13 + p) ≡ map_read object_fields (object_row.read s)
          unfolding object_row iso ◌⨾◌
          object-no-content {p = p} k =
              let end : 13 + p ≡ 1 + (4 + (4 + (4 + p))) = omega arith in
              rw (h, hx, drop-drop 4 1 s, hy, drop-drop 4 5 s, hz, drop-drop 4 9 s, k, end)

          pub object-done : {n : ℕ} → (prefixed {ends = fault.Ends} 2).read (drop 13 s) ≡ done (take n (drop 2 (drop 13 s))) (2 + n)
              → done (record { kind = kind; x = x; y = y; z = z; content = range_at 15 n }) (15 + n) ≡ map_read object_fields (object_row.read s)
          unfolding object_row iso ◌⨾◌
          object-done {n} k =
              let end : 15 + n ≡ 1 + (4 + (4 + (4 + (2 + n)))) = omega arith in
              rw (h, hx, drop-drop 4 1 s, hy, drop-drop 4 5 s, hz, drop-drop 4 9 s, k, run_length 2 n (drop 13 s) k, end)

  -- ---- timers
  pub timer-no-position : {e : Fault} {p : ℕ} → position.read s ≡ refused e p → refused e p ≡ map_read timer_fields ((timer_row []).read s)
  unfolding timer_row iso ◌⨾◌ refine
  timer-no-position h = rw h

  module _ {p : ℕ} (h : position.read s ≡ done p 2) where
    pub timer-no-timeout : {e : Fault} {q : ℕ} → (s32 {ends = fault.Ends}).read (drop 2 s) ≡ refused e q → refused e (2 + q) ≡ map_read timer_fields ((timer_row []).read s)
    unfolding timer_row iso ◌⨾◌ refine unused
    timer-no-timeout k = rw (h, k)

    module _ {x : ℤ} (hx : (s32 {ends = fault.Ends}).read (drop 2 s) ≡ done x 4) where
      pub timer-no-elapsed : {e : Fault} {q : ℕ} → (s32 {ends = fault.Ends}).read (drop 6 s) ≡ refused e q → refused e (2 + (4 + q)) ≡ map_read timer_fields ((timer_row []).read s)
      unfolding timer_row iso ◌⨾◌ refine unused
      timer-no-elapsed k = rw (h, hx, drop-drop 4 2 s, k)

      pub timer-done : {y : ℤ} → (s32 {ends = fault.Ends}).read (drop 6 s) ≡ done y 4
          → done (record { position = p; timeout = x; elapsed = y }) 10 ≡ map_read timer_fields ((timer_row []).read s)
      unfolding timer_row iso ◌⨾◌ refine unused
      timer-done k = rw (h, hx, drop-drop 4 2 s, k)
