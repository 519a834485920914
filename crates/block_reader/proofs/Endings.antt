-- The lists behind the node data, and what the end of the scan needs of its numbers.
use Prim.Native.Nat.{ℕ, ◌+◌, ◌*◌, ◌<◌, ◌≤◌}
use mathlib.Core.Path.{◌≡◌, ap, sym, ◌∙◌}
use mathlib.Core.List.{List}
use mathlib.Core.Bool.{Bool, true, false, cond}
use native.Mathlib.Omega.{arith}
use lib.Dec.{leb}
use borrow.Author.Tests.{le-leb}
use lib.ListN.{length, drop, length-drop}
use lib.Seq.{drop-drop}
use Rattle.wire.specs.Bytes.{Bytes, bytes_drop}
use Rattle.wire.specs.Read.{Read, done, refused, map_read, map-done, map-refused}
use Rattle.wire.specs.Format.{iso}
use Rattle.wire.specs.Formats.{◌▹◌}
use Rattle.mapblock.specs.Data.{MetadataList, ObjectRow, Timers}
use Rattle.mapblock.specs.Layout.{width, metadata, early_timers, objects, late_timers}
use Rattle.mapblock.specs.Params.{first_unmapped_in, first_unmapped_of}
use Rattle.block_reader.specs.Scan.{middle_shape, middle, MiddleIs}
use Rattle.mapblock.specs.Told.{ended, list_form_in, timer_byte}
use Rattle.mapblock.specs.declared.fault.Fault.{Fault}
use Rattle.wire.proofs.Joints.{then-refused, then-done}
use Rattle.mapblock.proofs.Readings.{ended-done, ended-refused}
use Rattle.block_reader.proofs.ListLengths.{late-rows-length}

-- ---- metadata, what follows it, static objects
module _ (v : ℕ) (s : List ℕ) where
  middle-reads : {r : Read Fault (MetadataList × (Timers × List ObjectRow))} → (metadata v ▹ early_timers v ▹ objects).read s ≡ r → (middle v).read s ≡ map_read middle_shape.make r
  unfolding iso
  middle-reads h = ap (map_read middle_shape.make) h

  pub middle-no-metadata : {f : Fault} {p : ℕ} → refused f p ≡ map_read list_form_in ((metadata v).read s) → (middle v).read s ≡ refused f p
  middle-no-metadata {f} {p} h = middle-reads (then-refused (metadata v) (early_timers v ▹ objects) s (map-refused list_form_in ((metadata v).read s) f p (sym h)))

  module _ {form a : ℕ} (h : done form a ≡ map_read list_form_in ((metadata v).read s)) where
    metadata-read : (x : MetadataList) × ((metadata v).read s ≡ done x a) × (x.form ≡ form)
    metadata-read = map-done list_form_in ((metadata v).read s) form a (sym h)

    pub middle-no-early : {f : Fault} {p : ℕ} → refused f p ≡ map_read timer_byte ((early_timers v).read (drop a s)) → (middle v).read s ≡ refused f (a + p)
    middle-no-early {f} {p} k =
        middle-reads (then-done (metadata v) (early_timers v ▹ objects) s metadata-read.1
        (then-refused (early_timers v) objects (drop a s) (map-refused timer_byte ((early_timers v).read (drop a s)) f p (sym k))))

    module _ {t e : ℕ} (k : done t e ≡ map_read timer_byte ((early_timers v).read (drop a s))) where
      pub middle-no-objects : {f : Fault} {p : ℕ} → refused f p ≡ ended (objects.read (drop (a + e) s)) → (middle v).read s ≡ refused f (a + e + p)
      middle-no-objects {f} {p} g =
          let x = map-done timer_byte ((early_timers v).read (drop a s)) t e (sym k) in
          let q : objects.read (drop e (drop a s)) ≡ refused f p = ap objects.read (drop-drop e a s) ∙ ended-refused (objects.read (drop (a + e) s)) g in
          let z : a + (e + p) ≡ a + e + p = omega arith in
          middle-reads (then-done (metadata v) (early_timers v ▹ objects) s metadata-read.1 (then-done (early_timers v) objects (drop a s) x.1 q)) ∙ ap (refused f) z

      pub middle-done : {o : ℕ} → done tt o ≡ ended (objects.read (drop (a + e) s)) → Bytes s → MiddleIs v s (record { metadata = a; early = e; objects = o; form = form; timer = t })
      middle-done {o} g b =
          let w = metadata-read in
          let x = map-done timer_byte ((early_timers v).read (drop a s)) t e (sym k) in
          let y = ended-done (objects.read (drop (a + e) s)) g in
          let q : objects.read (drop e (drop a s)) ≡ done y.0 o = ap objects.read (drop-drop e a s) ∙ y.1 in
          record {
            x = record { metadata = w.0; early = x.0; objects = y.0 };
            reads = middle-reads (then-done (metadata v) (early_timers v ▹ objects) s w.1 (then-done (early_timers v) objects (drop a s) x.1 q));
            first = ((metadata v).backward s w.0 a b w.1).ends;
            second = ((early_timers v).backward (drop a s) x.0 e (bytes_drop a s b) x.1).ends;
            third = (objects.backward (drop (a + e) s) y.0 o (bytes_drop (a + e) s b) y.1).ends;
            form = w.2;
            timer = x.2;
          }

-- ---- the end
pub late-long : (v n : ℕ) (s : List ℕ) → Bytes s → done tt n ≡ ended ((late_timers v).read s) → 25 ≤ v → 3 ≤ n
late-long v n s b h l =
    let x = ended-done ((late_timers v).read s) h in
    omega (arith, ((late_timers v).backward s x.0 n b x.1).ends, late-rows-length v x.0 l)

pub width-place : (v i : ℕ) → i < 4096 → (width v * i < 8192) × (width v * i ≤ 4096 * width v)
width-place v i h = go (leb 24 v)
  where
    go : (b : Bool) → (cond b 2 1 * i < 8192) × (cond b 2 1 * i ≤ 4096 * cond b 2 1)
    go true = (omega arith, omega arith)
    go false = (omega arith, omega arith)

-- the param lists lie in the bytes
pub first_unmapped-there : (v : ℕ) (s t : List ℕ) (lists at : ℕ) → lists + (4096 * width v + 8192) ≤ at → at ≤ length s → first_unmapped_of v (drop lists s) t ≡ first_unmapped_in v (drop lists s) t
first_unmapped-there v s t lists at h k = rw (le-leb (4096 * width v + 8192) (length (drop lists s)) (omega (arith, length-drop lists s)))
