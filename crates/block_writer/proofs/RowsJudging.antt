-- Sections that are whole rows: their bytes, and what is said of the lists that hold them.
use Prim.Native.Nat.{ℕ, ◌*◌, ◌<◌, ◌≤◌}
use mathlib.Core.Path.{◌≡◌, refl, ap, sym, subst, ◌∙◌}
use mathlib.Core.List.{List, [], ◌∷◌, ◌++◌}
use mathlib.Core.Bool.{Bool, true, false}
use native.Mathlib.Omega.{arith}
use lib.Dec.{lit<}
use lib.ListN.{length, length-append}
use Rattle.wire.specs.Bytes.{Bytes, to_be, to_be-length}
use Rattle.wire.specs.Read.{Read, done, refused, shift, reach, not_done, shift-done}
use Rattle.wire.specs.Format.{run, nothing, refine, ◌⨾◌, iso, OkItems, encode_items, items}
use Rattle.wire.specs.Formats.{◌▹◌, u32, number, signed, prefixed, listed, behind, fixed, only, unsigned_of, half32}
use Rattle.wire.proofs.Looser.{Looser, Settled, settled, settled-ok, looser-items}
use Rattle.mapblock.specs.Inventory.{BlockFormat}
use Rattle.mapblock.specs.Data.{NameRow, ObjectRow, TimerRow, NameMapping, name_mapping_shape}
use Rattle.mapblock.specs.Layout.{unmapped, name_row, object_row, name_mapping}
use Rattle.mapblock.specs.Table.{free_in, Tabled, RowsMarked}
use Rattle.mapblock.specs.Told.{ended}
use Rattle.mapblock.specs.declared.fault.Fault.{Fault}
use Rattle.mapblock.specs.declared.fault.Fault.TheVariants as fault
use Rattle.mapblock.proofs.Readings.{within-ended}
use Rattle.block_writer.specs.Frames.{name_frame, timer_frame}
use Rattle.block_writer.specs.Sections.{Rows}
use Rattle.block_writer.specs.Judging.{verdict_on, Small, MappingJudged}
use Rattle.block_writer.proofs.RowsIn.{rows_made_lem, rows_empty}
use Rattle.block_writer.proofs.Framed.{ValueFault, not-ends, name-looser, saved_frame}
use Rattle.block_writer.proofs.PiecesJudging.{shift-on, verdict_on-into, verdict_on-fixed, verdict_on-listed, verdict_on-ok, judged-on}

-- ---- rows by their frames
module _ {A : Type 0} (frame : BlockFormat A) {s : List ℕ} {count : ℕ} {l : List A} (b : Bytes s) (w : Rows frame s count l) where
  pub rows_few : length l < 65536
  rows_few = omega (arith, (rows_made_lem frame 65535 s l b w.are).2)

  pub rows_ok : (listed 2 (λ _. frame)).Ok l
  unfolding listed iso items
  rows_ok = (rows_few, (rows_made_lem frame 65535 s l b w.are).0 [])

  -- no rows in no bytes
  pub no_rows : length s ≡ 0 → l ≡ []
  no_rows h = let e = sym w.are ∙ rows_empty frame 65535 s h in cc

  -- they stand here, or there are none
  pub rows-where : (here : Bool) → (here ≡ false → length s ≡ 0) → (only {ends = fault.Ends} here [] (listed 2 λ _. frame)).Ok l
  unfolding nothing
  rows-where true h = rows_ok
  rows-where false h = no_rows (h refl)

  long-by : (m : ℕ) → ((a : A) → frame.Ok a → length (frame.encode a) ≤ m) → (seen r : List A) → OkItems (λ _. frame) (length r) seen r → length (encode_items (λ _. frame) seen r) ≤ m * length r
  long-by m h seen [] o = omega arith
  long-by m h seen (a ∷ r) o = rw length-append (omega (arith, h a o.0, long-by m h (a ∷ seen) r o.1))

  -- rows of at most m bytes
  pub rows_long : (m : ℕ) → ((a : A) → frame.Ok a → length (frame.encode a) ≤ m) → length s ≤ m * length l
  rows_long m h = let x = rows_made_lem frame 65535 s l b w.are in rw x.1 (long-by m h [] l (x.0 []))

  module _ (item : List A → BlockFormat A) (looser : (seen : List A) → Looser ValueFault (item seen) frame) where
    -- the section is the bytes of its rows
    pub rows-bytes : s ≡ encode_items item [] l
    unfolding items
    rows-bytes = (rows_made_lem frame 65535 s l b w.are).1 ∙ sym ((looser-items item (λ _. frame) looser (length l)).same l)

    pub rows_settled : Settled (items item (length l)) l
    unfolding items
    rows_settled = settled (looser-items item (λ _. frame) looser (length l)) l ((rows_made_lem frame 65535 s l b w.are).0 []) not-ends

    -- what the reader's loop finds in it, if anything, are its rows
    pub rows-found : {c : List A} {n : ℕ} → (items item count).read s ≡ done c n → c ≡ l
    unfolding items
    rows-found {c} {n} h = (rows_settled.itself c n (rw (rows-bytes, ← w.many) at h)).0

    -- what the reader's loop said of the section
    pub rows-verdict_on : {r : Read Fault (Unit {0})} → r ≡ ended ((items item count).read s) → r ≡ verdict_on (items item (length l)) l
    unfolding items
    rows-verdict_on h = rw (rows-bytes, ← w.many) at h

    -- the same with the count before it
    pub listed-verdict_on : {r : Read Fault (Unit {0})} → r ≡ ended ((items item count).read s) → shift 2 (λ u. u) r ≡ verdict_on (listed 2 item) l
    listed-verdict_on h = ap (shift 2 (λ u. u)) (rows-verdict_on h) ∙ sym (verdict_on-listed 2 item l rows_few)

-- ---- sections that are not long
name-long : (r : NameRow) → name_frame.Ok r → length (name_frame.encode r) ≤ 65550
unfolding name_frame iso ◌⨾◌ prefixed number run
name-long r h = rw (length-append, to_be-length, length-append, to_be-length) (omega (arith, h.1.0))

object-long : (r : ObjectRow) → object_row.Ok r → length (object_row.encode r) ≤ 65550
unfolding object_row iso ◌⨾◌ prefixed signed number run
object-long r h =
    rw (length-append, to_be-length, length-append, to_be-length, length-append, to_be-length, length-append, to_be-length, length-append, to_be-length)
    (omega (arith, h.1.1.1.1.0))

timer-long : (r : TimerRow) → timer_frame.Ok r → length (timer_frame.encode r) ≤ 65550
unfolding timer_frame iso ◌⨾◌ signed number run
timer-long r h =
    let t = to_be 4 (unsigned_of half32 r.timeout) in
    let e = to_be 4 (unsigned_of half32 r.elapsed) in
    let whole : timer_frame.encode r ≡ to_be 2 r.position ++ (t ++ e) = refl in
    omega (arith, ap length whole, length-append (to_be 2 r.position) (t ++ e), length-append t e, to_be-length 2 r.position, to_be-length 4 (unsigned_of half32 r.timeout), to_be-length 4 (unsigned_of half32 r.elapsed))

module _ {s : List ℕ} {count : ℕ} (b : Bytes s) where
  pub names-small : {l : List NameRow} → Rows name_frame s count l → Small s
  names-small w = omega (arith, rows_few name_frame b w, rows_long name_frame b w 65550 name-long)

  pub objects-small : {l : List ObjectRow} → Rows object_row s count l → Small s
  objects-small w = omega (arith, rows_few object_row b w, rows_long object_row b w 65550 object-long)

  pub timers-small : {l : List TimerRow} → Rows timer_frame s count l → Small s
  timers-small w = omega (arith, rows_few timer_frame b w, rows_long timer_frame b w 65550 timer-long)

-- ---- timestamp and names
pub name-mapping-ok : {s : List ℕ} {count : ℕ} (x : NameMapping) → Bytes s → x.timestamp < 4294967296 → Rows name_frame s count x.names → saved_frame.Ok x
unfolding iso ◌⨾◌ behind refine number
name-mapping-ok x b h w = (h, ((lit< tt, refl), rows_ok name_frame b w))

name-mapping-is : (free : ℕ → Bool) (x : NameMapping) → x.timestamp < 4294967296 → length x.names < 65536
    → verdict_on (name_mapping free) x ≡ shift 7 (λ u. u) (verdict_on (items (name_row free) (length x.names)) x.names)
unfolding name_mapping iso number run
name-mapping-is free x h k =
    let list = listed 2 (name_row free) in
    verdict_on-into name_mapping_shape (u32 ▹ fixed 1 0 fault.MappingVersion list) x
    ∙ sym (judged-on u32 (λ _. fixed 1 0 fault.MappingVersion list) x.timestamp x.names (settled-ok u32 x.timestamp h) (sym (verdict_on-ok u32 x.timestamp h)) refl)
    ∙ ap (shift 4 (λ u. u)) (verdict_on-fixed 1 0 fault.MappingVersion list x.names (lit< tt) ∙ ap (shift 1 (λ u. u)) (verdict_on-listed 2 (name_row free) x.names k))
    ∙ ap (shift 4 (λ u. u)) (shift-on 1 2 (verdict_on (items (name_row free) (length x.names)) x.names)) ∙ shift-on 4 3 (verdict_on (items (name_row free) (length x.names)) x.names)

marked_by_lem : (t u : List ℕ) (l : List NameRow) (r : Read Fault (List NameRow)) → RowsMarked t u r → ((c : List NameRow) (n : ℕ) → r ≡ done c n → c ≡ l)
    → (n : ℕ) → done tt n ≡ ended r → Tabled 65536 (unmapped (free_in t) l) u
marked_by_lem t u l (done c m) h same n e = subst (λ (c : List NameRow). Tabled 65536 (unmapped (free_in t) c) u) (same c m refl) h.tabled
marked_by_lem t u l (refused f p) h same n e = not_done (sym e)

pub judged-name-mapping : {t u s : List ℕ} {count : ℕ} {r q : Read Fault (Unit {0})} → Bytes s
    → r ≡ ended ((items (name_row (free_in t)) count).read s) → RowsMarked t u ((items (name_row (free_in t)) count).read s) → q ≡ shift 7 (λ u. u) r
    → (x : NameMapping) → x.timestamp < 4294967296 → Rows name_frame s count x.names → MappingJudged t u x q
unfolding items
judged-name-mapping {t} {u} {s} {count} {r} b h m e x k w = record {
  judged = e ∙ ap (shift 7 (λ u. u)) (rows-verdict_on name_frame b w (name_row (free_in t)) (name-looser (free_in t)) h) ∙ sym (name-mapping-is (free_in t) x k (rows_few name_frame b w));
  marks = λ n f.
      let y = shift-done 7 (λ u. u) r tt n (sym e ∙ f) in
      marked_by_lem t u x.names ((items (name_row (free_in t)) count).read s) m (λ c n. rows-found name_frame b w (name_row (free_in t)) (name-looser (free_in t))) y.1 (sym y.2 ∙ h);
}

-- how far the reader's loop comes
pub rows-reach : {A : Type 0} (item : List A → BlockFormat A) (count : ℕ) (s : List ℕ) {r : Read Fault (Unit {0})} → r ≡ ended ((items item count).read s) → reach r ≤ length s
rows-reach item count s h = within-ended (items item count) s h
