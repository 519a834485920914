-- What is said of timers: behind the metadata up to version 24, at the end from 25.
use Prim.Native.Nat.{ℕ, ◌<◌, ◌≤◌}
use mathlib.Core.Path.{◌≡◌, refl, ap, sym, ◌∙◌}
use mathlib.Core.List.{List, []}
use mathlib.Core.Bool.{Bool, true, false, cond}
use native.Mathlib.Omega.{arith}
use lib.Dec.{leb, lit<}
use lib.ListN.{length}
use borrow.Author.Tests.{eqb-false, le-leb, lt-leb, leb-false, leb-true}
use Rattle.wire.specs.Bytes.{Bytes}
use Rattle.wire.specs.Read.{Read, done, refused, bind, shift}
use Rattle.wire.specs.Format.{run, nothing, refine, ◌⨾◌, iso, tested}
use Rattle.wire.specs.Formats.{◌▹◌, u8, number, listed, behind, fixed, tagged}
use Rattle.wire.proofs.EveryFormat.{every-format}
use Rattle.wire.proofs.Looser.{Settled, settled, settled-ok, looser-refine}
use Rattle.mapblock.specs.Inventory.{BlockFormat}
use Rattle.mapblock.specs.Data.{TimerRow, no_timers, timers_shape}
use Rattle.mapblock.specs.Layout.{since, timer_row, timer_byte_field, has_timers, early_timers, late_timers}
use Rattle.mapblock.specs.Told.{ended}
use Rattle.mapblock.specs.declared.fault.Fault.{Fault}
use Rattle.mapblock.specs.declared.fault.Fault.TheVariants as fault
use Rattle.mapblock.specs.declared.head.Head.{Head}
use Rattle.mapblock.proofs.GoodRows.{either, fixed-ok}
use Rattle.block_writer.specs.Frames.{timer_frame}
use Rattle.block_writer.specs.BlockParts.{head_fits, timers_fit}
use Rattle.block_writer.specs.Sections.{Rows}
use Rattle.block_writer.specs.Judging.{verdict_on, timers_on, timers_early, timers_late}
use Rattle.block_writer.proofs.Fitting.{no-timer, no-timers}
use Rattle.block_writer.proofs.Framed.{ValueFault, not-ends, early_frame, early-looser}
use Rattle.block_writer.proofs.RowsJudging.{no_rows, rows-where}
use Rattle.block_writer.proofs.PiecesJudging.{shift_none, verdict_on-ok, verdict_on-into, verdict_on-fixed, judged-on, tagged-refused, tagged-alone, tagged-list}

-- ---- version 24
abbrev rows : BlockFormat (List TimerRow)
rows = listed 2 timer_row

byte-settled : (t : ℕ) → t < 256 → Settled timer_byte_field t
unfolding number iso
byte-settled t h = settled {Dropped = ValueFault} (looser-refine (λ t. leb t 1) fault.TimerByte u8 refl) t h not-ends

byte-good : (t : ℕ) → t ≤ 1 → done tt 1 ≡ verdict_on timer_byte_field t
unfolding refine number iso run
byte-good t h = sym (verdict_on-ok timer_byte_field t (omega arith, le-leb t 1 h))

byte_above : (t : ℕ) → t < 256 → 1 < t → refused fault.TimerByte 0 ≡ verdict_on timer_byte_field t
unfolding refine number iso run
byte_above t h k = sym (ap (λ (r : Read Fault ℕ). ended (bind r (tested (λ t. leb t 1) fault.TimerByte))) ((every-format (u8 {ends = fault.Ends})).reads-back t h) ∙ rw (lt-leb t 1 k))

module _ (t : ℕ) (l : List TimerRow) where
  both : verdict_on (tagged timer_byte_field has_timers [] rows) (t, l) ≡ verdict_on (early_timers 24) (record { byte = t; rows = l })
  unfolding early_timers
  both = sym (verdict_on-into timers_shape (tagged timer_byte_field has_timers [] rows) (record { byte = t; rows = l }))

  pub early-above : t < 256 → 1 < t → refused fault.TimerByte 0 ≡ verdict_on (early_timers 24) (record { byte = t; rows = l })
  early-above h k = tagged-refused timer_byte_field has_timers rows t l (byte-settled t h) (byte_above t h k) ∙ both

  pub early-zero : t ≡ 0 → done tt 1 ≡ verdict_on (early_timers 24) (record { byte = t; rows = l })
  early-zero e = tagged-alone timer_byte_field has_timers rows t l (byte-settled t (omega arith)) (byte-good t (omega arith)) (rw e) ∙ both

  pub early-one : {r : Read Fault (Unit {0})} → t ≡ 1 → r ≡ verdict_on (listed 2 timer_row) l → shift 1 (λ u. u) r ≡ verdict_on (early_timers 24) (record { byte = t; rows = l })
  early-one e h = tagged-list timer_byte_field has_timers rows t l (byte-settled t (omega arith)) (byte-good t (omega arith)) (rw e) h ∙ both

-- ---- other versions
no_timers-on : (h : Head) {l : List TimerRow} → h.timer ≡ 0 → l ≡ [] → timers_on h l ≡ no_timers
no_timers-on h e f = rw (e, f)

early-23 : done tt 1 ≡ verdict_on (early_timers 23) no_timers
unfolding early_timers nothing behind iso ◌⨾◌ refine number run
early-23 = sym (verdict_on-ok (early_timers 23) no_timers ((lit< tt, refl), refl))

early-none : (v : ℕ) → (v ≡ 24 → ⊥) → (v ≡ 23 → ⊥) → done tt 0 ≡ verdict_on (early_timers v) no_timers
unfolding early_timers nothing
early-none v m n = go (leb 25 v) refl (leb 24 v) refl (leb 23 v) refl
  where
    go : (x : Bool) → leb 25 v ≡ x → (y : Bool) → leb 24 v ≡ y → (z : Bool) → leb 23 v ≡ z → done tt 0 ≡ verdict_on (early_timers v) no_timers
    go true e y f z g = rw e
    go false e true f z g = absurd (m (omega (arith, leb-false 25 v e, leb-true 24 v f)))
    go false e false f true g = absurd (n (omega (arith, leb-false 24 v f, leb-true 23 v g)))
    go false e false f false g = rw (e, f, g)

-- ---- what can be written, but for the values
nothing_ok : {A : Type 0} (a : A) → (nothing {ends = fault.Ends} a).Ok a
unfolding nothing
nothing_ok a = refl

no_timers-ok : (v : ℕ) → v < 24 → (early_frame v).Ok no_timers
no_timers-ok v h = rw (lt-leb 25 v (omega arith), lt-leb 24 v h) (go (since 23 v))
  where
    go : (x : Bool) → (cond x (fixed 1 0 fault.ByteOf23 (nothing {ends = fault.Ends} no_timers)) (nothing no_timers)).Ok no_timers
    go true = (fixed-ok 1 0 fault.ByteOf23 (nothing no_timers) no_timers (lit< tt)).1 (nothing_ok no_timers)
    go false = nothing_ok no_timers

frame-24 : (h : Head) {s : List ℕ} {count : ℕ} {l : List TimerRow} → Bytes s → Rows timer_frame s count l → h.timer < 256 → ((h.timer ≡ 1 → ⊥) → length s ≡ 0)
    → (early_frame 24).Ok (timers_on h l)
unfolding iso ◌⨾◌ number
frame-24 h b w k n = (k, rows-where timer_frame b w (has_timers h.timer) (λ e. n (eqb-false h.timer 1 e)))

module _ (h : Head) {s : List ℕ} {count : ℕ} {l : List TimerRow} (b : Bytes s) (w : Rows timer_frame s count l) (c : head_fits h ≡ true) where
  pub early-of-24 : {r : Read Fault (Unit {0})} → h.version ≡ 24 → r ≡ verdict_on (early_timers 24) (timers_on h l) → r ≡ verdict_on (early_timers h.version) (timers_early h l)
  early-of-24 e k = rw e k

  no_timers-early : timers_fit h s ≡ true → (h.version ≡ 24 → ⊥) → timers_early h l ≡ no_timers
  no_timers-early t n = go (leb 25 h.version) refl
    where
      go : (x : Bool) → leb 25 h.version ≡ x → timers_early h l ≡ no_timers
      go true e = rw e
      go false e = rw e (no_timers-on h (no-timer h c n) (no_rows timer_frame b w (no-timers h s t (leb-false 25 h.version e) (λ z. absurd (n z)))))

  -- they can be written, but for their values
  pub early-ok : h.timer < 256 → timers_fit h s ≡ true → (early_frame h.version).Ok (timers_early h l)
  early-ok k t = either 24 h.version (λ f. either 25 h.version late (λ g. of-24 (omega arith))) (λ f. rw (no_timers-early t (λ e. omega arith)) (no_timers-ok h.version f))
    where
      late : 25 ≤ h.version → (early_frame h.version).Ok (timers_early h l)
      late g = rw (le-leb 25 h.version g) (nothing_ok no_timers)

      of-24 : h.version ≡ 24 → (early_frame h.version).Ok (timers_early h l)
      of-24 e = rw e (frame-24 h b w k (λ n. no-timers h s t (omega arith) (λ _. n)))

  pub early-settled : h.timer < 256 → timers_fit h s ≡ true → Settled (early_timers h.version) (timers_early h l)
  early-settled k t = settled (early-looser h.version) (timers_early h l) (early-ok k t) not-ends

  pub early-of-23 : timers_fit h s ≡ true → h.version ≡ 23 → done tt 1 ≡ verdict_on (early_timers h.version) (timers_early h l)
  early-of-23 t e = rw (no_timers-early t (λ z. omega arith), e) early-23

  pub early-other : timers_fit h s ≡ true → (h.version ≡ 24 → ⊥) → (h.version ≡ 23 → ⊥) → done tt 0 ≡ verdict_on (early_timers h.version) (timers_early h l)
  early-other t m n = rw (no_timers-early t m) (early-none h.version m n)

  pub late-before : h.version < 25 → done tt 0 ≡ verdict_on (late_timers h.version) (timers_late h l)
  unfolding late_timers nothing
  late-before k = rw (lt-leb 25 h.version k)

  pub late-from : {r : Read Fault (Unit {0})} → 25 ≤ h.version → r ≡ verdict_on (listed 2 timer_row) l → shift 1 (λ u. u) r ≡ verdict_on (late_timers h.version) (timers_late h l)
  unfolding late_timers nothing
  late-from {r} k e =
      let z : h.timer ≡ 0 = no-timer h c (λ f. omega arith) in
      let list = fixed 1 10 fault.TimerRowLength (listed 2 timer_row) in
      rw (le-leb 25 h.version k)
      (sym (shift_none (shift 1 (λ u. u) r))
      ∙ judged-on (nothing 0) (λ _. list) h.timer l (settled-ok (nothing 0) h.timer z) (sym (verdict_on-ok (nothing 0) h.timer z))
      (ap (shift 1 (λ u. u)) e ∙ sym (verdict_on-fixed 1 10 fault.TimerRowLength (listed 2 timer_row) l (lit< tt)))
      ∙ sym (verdict_on-into timers_shape (nothing 0 ▹ list) (timers_on h l)))
