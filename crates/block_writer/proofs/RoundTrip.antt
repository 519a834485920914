-- The round trip, and what it shuts out: the promises of specs/Theorems.antt, proved.
use Prim.Native.Nat.{ℕ, ◌%◌, ◌<◌, ◌≤◌}
use mathlib.Core.Path.{◌≡◌, refl, ap, sym, ◌∙◌}
use mathlib.Core.Option.{Option, some, none}
use mathlib.Core.List.{List, [], ◌∷◌, ◌++◌}
use mathlib.Core.Bool.{Bool, true, false}
use native.Mathlib.Omega.{arith}
use lib.Dec.{leb, lit<, lit≤}
use lib.ListN.{length, get_or, take, drop, length-append}
use lib.Seq.{take-append_seam, drop-append_seam}
use borrow.Author.Tests.{le-leb}
use Rattle.wire.specs.Choice.{no_true}
use Rattle.wire.proofs.Tests.{yes_and}
use Rattle.wire.specs.Bytes.{Bytes}
use Rattle.wire.specs.Read.{Read, done, refused}
use Rattle.wire.specs.Answer.{Answer, good, refusal, map_answer, lent, version_outside}
use Rattle.wire.proofs.Answers.{no-good, test_good, map-good, room-good}
use Rattle.wire.specs.Format.{refine, ◌⨾◌, iso, items, run, encode_items}
use Rattle.wire.specs.Formats.{number, listed}
use Rattle.wire.proofs.EveryFormat.{every-format}
use Rattle.wire.proofs.Looser.{Looser, looser-self, looser-items, looser-ok}
use Rattle.mapblock.specs.Inventory.{BlockFormat}
use Rattle.mapblock.specs.Data.{NameRow, MetadataRow, ObjectRow, TimerRow, Block}
use Rattle.mapblock.specs.Layout.{all, is_version, name_row, metadata_row, object_row, timer_row, opening, front, steps}
use Rattle.mapblock.specs.MetadataChecks.{metadata_row_for}
use Rattle.mapblock.specs.Block.{block, verdict}
use Rattle.mapblock.specs.Valid.{NameGood, MetadataGood, ObjectGood, TimerGood, Valid}
use Rattle.block_reader.specs.Theorems.{RowsIn}
use Rattle.mapblock.specs.declared.fault.Fault.{Fault}
use Rattle.mapblock.specs.declared.head.Head.{Head}
use Rattle.mapblock.proofs.GoodRows.{either, name-ok, metadata-row-ok, object-ok, timer-ok}
use Rattle.mapblock.proofs.Keyed as keyed
use Rattle.block_reader.proofs.ListLengths.{num-length}
use Rattle.mapblock.proofs.Readings.{num}
use Rattle.block_reader.proofs.SectionsThere.{sections-are-rows}
use Rattle.block_reader.proofs.Taken.{taken, writes-back, reads-back, air_at, air-valid}
use Rattle.block_reader.proofs.ValidOk.{valid-is-ok}
use Rattle.block_writer.specs.Frames.{name_frame, metadata_frame, timer_frame, section_rows}
use Rattle.block_writer.specs.BlockParts.{BlockParts, block_made, WellTyped}
use Rattle.block_writer.specs.Sections.{Rows}
use Rattle.block_writer.specs.Write.{judged_bytes, written_block, write_of}
use Rattle.block_writer.specs.Theorems.{handed_out, Writer, written, WritesBackBy, ReadAs, ReadsBackBy, RoundTrip, DoesNothing, RefusesAll, ShutOut}
use Rattle.block_writer.proofs.RowsIn.{rows-forward}
use Rattle.block_writer.proofs.Framed.{ValueFault, name-looser, metadata-looser, timer-looser}
use Rattle.block_writer.proofs.RowsJudging.{rows-bytes}
use Rattle.block_writer.proofs.Fitting.{Fitting}
use Rattle.block_writer.proofs.MadeBlock.{MadeOf, made_of, of-made, block-bytes, block_settled}

-- ---- what was read: its sections are whole rows
module _ {A : Type 0} (item : List A → BlockFormat A) (frame : BlockFormat A) (looser : (seen : List A) → Looser ValueFault (item seen) frame)
    (some_byte : (a : A) → 0 < length (frame.encode a)) (l : List A) (ok : (listed 2 item).Ok l) where
  rows-again : {s : List ℕ} → s ≡ encode_items item [] l → Rows frame s (length l) l
  unfolding listed iso items
  rows-again e =
      let loose = looser-items item (λ _. frame) looser (length l) in
      record {
        are = ap (section_rows frame) (e ∙ loose.same l) ∙ rows-forward frame (λ a _. some_byte a) 65535 l (omega (arith, ok.0)) (looser-ok loose l ok.1);
        many = refl;
      }

-- a row has a number in front
number-long : (k v : ℕ) (t : List ℕ) → 0 < k → 0 < length ((num k).encode v ++ t)
number-long k v t h = rw (length-append, num-length k v) (omega arith)

name-long : (r : NameRow) → 0 < length (name_frame.encode r)
unfolding name_frame iso ◌⨾◌
name-long r = number-long 2 r.id _ (lit< tt)

metadata-long : (v : ℕ) (r : MetadataRow) → 0 < length ((metadata_frame v).encode r)
unfolding metadata_frame metadata_row_for iso ◌⨾◌
metadata-long v r = number-long 2 r.position _ (lit< tt)

object-long : (r : ObjectRow) → 0 < length (object_row.encode r)
unfolding object_row iso ◌⨾◌
object-long r = number-long 1 r.kind _ (lit< tt)

timer-long : (r : TimerRow) → 0 < length (timer_frame.encode r)
unfolding timer_frame iso ◌⨾◌
timer-long r = number-long 2 r.position _ (lit< tt)

module _ (s : List ℕ) (b : Block) (n : ℕ) (w : Bytes s) (h : verdict all s ≡ done b n) where
  abbrev v : ℕ
  v = b.head.version

  valid : Valid b
  valid = ((taken s b n w).0 h).0

  sections-hold : RowsIn s b
  sections-hold = sections-are-rows s b n w h

  no-timers : b.timers ≡ [] → length (handed_out s b).timers ≡ 0
  no-timers e = rw (sections-hold.timers.bytes, e)

  fitting : Fitting (handed_out s b)
  fitting =
      let nodes = valid.nodes in
      record {
        size0 = either 24 v (λ k. (nodes.param0-from-24 k).size) (λ k. (nodes.param0-to-23 k).size);
        size1 = nodes.param1.size;
        size2 = nodes.param2.size;
        lighting = valid.head.lighting-before-27;
        timer = valid.head.timer-except-24;
        param0_fits = λ k i j. let e = nodes.param0-to-23 k in e.each i (omega (arith, e.size));
        form = valid.head.form;
        form-in-22 = valid.head.form-in-22;
        of_zero = λ k. rw (sections-hold.metadata.bytes, valid.metadata-of-zero (let l = valid.head.form in omega arith));
        before-24 = λ k. no-timers (valid.timers-before-24 k);
        of-24 = λ e k. no-timers (valid.timers-of-24 e (omega (arith, valid.head.timer)));
      }

  made_again : MadeOf (handed_out s b) b
  made_again = record {
    fitting = fitting;
    names = rows-again (name_row all) name_frame (name-looser all) name-long b.names
        ((keyed.rows_ok (λ (r : NameRow). r.id) NameGood (name_row all) name-ok b.names).1 (valid.names, valid.ids-distinct)) sections-hold.names.bytes;
    metadata = rows-again (metadata_row v) (metadata_frame v) (metadata-looser v) (metadata-long v) b.metadata
        ((keyed.rows_ok (λ (r : MetadataRow). r.position) (MetadataGood v) (metadata_row v) (metadata-row-ok v) b.metadata).1 (valid.metadata, valid.metadata-distinct)) sections-hold.metadata.bytes;
    objects = rows-again (λ _. object_row) object_row (λ _. looser-self object_row) object-long b.objects
        ((keyed.each-ok ObjectGood object_row object-ok 2 b.objects).1 (valid.objects.count, valid.objects.each)) sections-hold.objects.bytes;
    timers = rows-again timer_row timer_frame timer-looser timer-long b.timers
        ((keyed.rows_ok (λ (r : TimerRow). r.position) TimerGood timer_row timer-ok b.timers).1 (valid.timers, valid.timers-distinct)) sections-hold.timers.bytes;
    same = refl;
  }

  written-again : (room : ℕ) → length s ≤ room → write_of (handed_out s b) room ≡ good s
  unfolding write_of
  written-again room k =
      let version : is_version v ≡ true = yes_and (le-leb _ _ valid.head.version.0) (le-leb _ _ valid.head.version.1) in
      rw (version, of-made (handed_out s b) b made_again, writes-back s b n w h, h, le-leb (length s) room k)

writes-back-by : WritesBackBy written
writes-back-by s b n w h out k = rw (written-again s b n w h (length out) k) (refl, refl)

-- ---- what was written
-- the bytes of the block b, which the parts make, are written: the reader takes them
record WrittenAs (p : BlockParts) (room : ℕ) (b : Block) : Type 0 where
  version : is_version p.head.version ≡ true
  made : block_made p ≡ some b
  c : Block
  n : ℕ
  verdict_on : verdict all ((block all).encode b) ≡ done c n
  fits : length ((block all).encode b) ≤ room

abbrev is_good : {A : Type 0} → Answer A → Bool
is_good (good a) = true
is_good (refusal n r o) = false

module _ (room : ℕ) where
  by-block : (o : Option Block) {s : List ℕ} → written_block room o ≡ good s
      → (b : Block) × (o ≡ some b) × (judged_bytes room ((block all).encode b) (verdict all ((block all).encode b)) ≡ good s)
  by-block none h = no-good h
  by-block (some b) h = (b, refl, h)

  -- a refusal is no good answer; by the room, so that it holds wherever 11 stands in the order
  never-good : (t : List ℕ) (f : Fault) (p : ℕ) → is_good (judged_bytes room t (refused f p)) ≡ false
  never-good t f p = go (leb (length t) room) refl
    where
      go : (b : Bool) → leb (length t) room ≡ b → is_good (judged_bytes room t (refused f p)) ≡ false
      go true e = cc
      go false e = cc

  by-verdict : (t : List ℕ) (r : Read Fault Block) {s : List ℕ} → judged_bytes room t r ≡ good s → (c : Block) × (n : ℕ) × (r ≡ done c n) × (length t ≤ room) × (t ≡ s)
  by-verdict t (done c n) {s} h = let x = room-good room t s h in (c, n, refl, x.0, x.1)
  by-verdict t (refused f p) h = no_true (sym (never-good t f p) ∙ ap is_good h)

written_as : (p : BlockParts) (room : ℕ) {s : List ℕ} → write_of p room ≡ good s → (b : Block) × ((block all).encode b ≡ s) × WrittenAs p room b
unfolding write_of
written_as p room {s} h =
    let x = test_good (is_version p.head.version) version_outside 0 0 (written_block room (block_made p)) s h in
    let y = by-block room (block_made p) x.1 in
    let z = by-verdict room ((block all).encode y.0) (verdict all ((block all).encode y.0)) y.2 in
    (y.0, z.4, record { version = x.0; made = y.1; c = z.0; n = z.1; verdict_on = z.2; fits = z.3 })

-- what is written lies in the room
pub written-fits : (p : BlockParts) (room n : ℕ) → map_answer length (write_of p room) ≡ good n → n ≤ room
written-fits p room n h =
    let x = map-good length (write_of p room) n h in
    let y = written_as p room x.1 in
    omega (arith, y.2.fits, ap length y.1, x.2)

module _ (p : BlockParts) (room : ℕ) (b : Block) (held : WellTyped p) (x : WrittenAs p room b) where
  abbrev s : List ℕ
  s = (block all).encode b

  made_by : MadeOf p b
  made_by = made_of p b x.made

  bytes-by : Bytes s
  bytes-by = block-bytes p b held x.version made_by

  -- the block read is the block made
  taken-by : verdict all s ≡ done b (length s)
  taken-by =
      let t = (taken s x.c x.n bytes-by).0 x.verdict_on in
      let r = (every-format (block all)).reads-back x.c ((valid-is-ok x.c).0 t.0).0 in
      let same = (block_settled p b held x.version x.made).itself x.c _ (rw (← t.1) at r) in
      x.verdict_on ∙ ap (λ (c : Block). done c x.n) same.0 ∙ ap (done b) t.2

  parts-by : handed_out s b ≡ p
  parts-by =
      let r = sections-are-rows s b (length s) bytes-by taken-by in
      let head : b.head ≡ p.head = ap (λ (c : Block). c.head) (sym made_by.same) in
      let nodes = ap (λ (c : Block). c.nodes) (sym made_by.same) in
      let names = r.names.bytes ∙ sym (rows-bytes name_frame held.names made_by.names (name_row all) (name-looser all)) in
      let rows : Head → List ℕ = λ h. encode_items (metadata_row h.version) [] b.metadata in
      let metadata = r.metadata.bytes ∙ ap rows head ∙ sym (rows-bytes (metadata_frame p.head.version) held.metadata made_by.metadata (metadata_row p.head.version) (metadata-looser p.head.version)) in
      let objects = r.objects.bytes ∙ sym (rows-bytes object_row held.objects made_by.objects (λ _. object_row) (λ _. looser-self object_row)) in
      let timers = r.timers.bytes ∙ sym (rows-bytes timer_frame held.timers made_by.timers timer_row timer-looser) in
      rw (names, metadata, objects, timers, head, nodes)

-- bytes that are written over the front of a buffer
front-lent : {p : BlockParts} (out r : List ℕ) (a : Answer (List ℕ)) (n : ℕ) → a ≡ good r → length r ≡ n → length r ≤ length out → ReadAs r p
    → (n ≤ length out) × ReadAs (take n (lent a out)) p × (drop n (lent a out) ≡ drop n out)
front-lent out r a n e f k g = rw (e, ← f, take-append_seam, drop-append_seam) (k, g, refl)

reads-back-by : ReadsBackBy written
reads-back-by p out n held h =
    let x = map-good length (write_of p (length out)) n h in
    let y = written_as p (length out) x.1 in
    let b = y.0 in
    let w = y.2 in
    front-lent out ((block all).encode b) (write_of p (length out)) n (x.1 ∙ ap good (sym y.1)) (ap length y.1 ∙ x.2) w.fits
    record { b = b; taken = taken-by p (length out) b held w; parts = parts-by p (length out) b held w }

pub round_trip : RoundTrip
round_trip = (writes-back-by, reads-back-by)

-- ---- what may not slip through
-- a block's bytes start with its version
first_byte : (b : Block) (t : List ℕ) → get_or ((block all).encode b ++ t) 0 0 ≡ b.head.version % 256
unfolding block iso steps front opening ◌⨾◌ refine number run
first_byte b t = refl

-- any valid block is one that such writers do not write back
module _ (w : Writer) (back : WritesBackBy w) (b : Block) (g : Valid b) where
  abbrev bytes : List ℕ
  bytes = (block all).encode b

  back_in : (out : List ℕ) → length bytes ≤ length out → ((w (handed_out bytes b) out).0 ≡ good (length bytes)) × ((w (handed_out bytes b) out).1 ≡ bytes ++ drop (length bytes) out)
  back_in = back bytes b (length bytes) ((block all).bytes b ((valid-is-ok b).0 g).0) (reads-back b g)

  writes : DoesNothing w → ⊥
  writes h =
      let out : List ℕ = 0 ∷ bytes in
      let same : out ≡ bytes ++ drop (length bytes) out = sym (h (handed_out bytes b) out) ∙ (back_in out (omega arith)).1 in
      let first : 0 ≡ b.head.version % 256 = ap (λ (l : List ℕ). get_or l 0 0) same ∙ first_byte b (drop (length bytes) out) in
      omega (arith, g.head.version.0, g.head.version.1)

  takes : RefusesAll w → ⊥
  takes h = let x = h (handed_out bytes b) bytes in no-good (sym x.3 ∙ (back_in bytes (omega arith)).0)

pub shut_out : ShutOut
shut_out w back =
    let air = air-valid 29 0 (lit≤ tt) (lit≤ tt) (lit< tt) in
    (writes w back (air_at 29 0) air, takes w back (air_at 29 0) air)
