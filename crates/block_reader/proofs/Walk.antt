-- Rows taken from the front of a section by a row question: each is judged alone, and they are the block's rows.
use Prim.Native.Nat.{ℕ}
use mathlib.Core.Path.{◌≡◌, refl, ap, sym, ◌∙◌}
use mathlib.Core.Bool.{true}
use mathlib.Core.List.{List, [], ◌∷◌, ◌++◌, map}
use lib.ListN.{length, drop}
use lib.Seq.{drop-append_seam}
use borrow.Author.Tests.{le-leb, ne_eqb}
use Rattle.wire.proofs.Lists.{nil_is}
use Rattle.wire.proofs.Tests.{yes_and}
use Rattle.wire.specs.Bytes.{Bytes, bytes_take, bytes_drop}
use Rattle.wire.specs.Read.{Misread, at_place, done, map_read, not_done}
use Rattle.wire.specs.Format.{run, refine, ◌⨾◌, iso, encode_items}
use Rattle.wire.specs.Formats.{number}
use Rattle.wire.specs.Answer.{Answer, good}
use Rattle.wire.specs.Walk.{GivesRows, rows_behind}
use Rattle.wire.proofs.Walks.{walk_rows, walk_ends}
use Rattle.mapblock.specs.Inventory.{BlockFormat}
use Rattle.mapblock.specs.Data.{NameRow, MetadataRow, ObjectRow}
use Rattle.mapblock.specs.Layout.{all, unused, is_version, name_row, variable, metadata_row, object_row, timer_row}
use Rattle.wire.specs.Ranges.{range_told, bytes_in}
use Rattle.mapblock.specs.Rows.{name_fields, metadata_fields, object_fields, timer_fields}
use Rattle.block_reader.specs.RowQuestions.{front_row, name_row_of, metadata_row_of, object_row_of, timer_row_of}
use Rattle.mapblock.specs.Valid.{Each, NameGood, MetadataGood, ObjectGood, TimerGood}
use Rattle.block_reader.specs.Theorems.{Holds, row_shown, RunsWalked, WalkGivesRows}
use Rattle.wire.specs.declared.ranges.Range.{Range}
use Rattle.mapblock.specs.declared.names.NameFields.{NameFields}
use Rattle.mapblock.specs.declared.metadata.MetadataFields.{MetadataFields}
use Rattle.mapblock.specs.declared.objects.ObjectFields.{ObjectFields}
use Rattle.mapblock.proofs.GoodRows.{name-ok, metadata-row-ok, object-ok, timer-ok}
use Rattle.block_reader.proofs.Taken.{taken}
use Rattle.block_reader.proofs.NameWalks.{row-bytes, nothing-there}
use Rattle.block_reader.proofs.SectionsThere.{sections-are-rows}
use Rattle.block_reader.proofs.RunsThere.{runs-are-there}

-- ---- rows of any format
-- A list's rows are those of `item`, each told those before it, and the question judges the front row alone, as `item []` does.
record Asks {A B : Type 0} (item : List A → BlockFormat A) (Good : A → Type 0) (fields : A → B) (ask : List ℕ → Answer (B × ℕ)) : Type 0 where
  front : (s : List ℕ) → ask s ≡ front_row s (map_read fields ((item []).read s))
  -- a row's bytes do not say which rows were before it, and a good row can be written with none before it
  alike : (seen : List A) (a : A) → (item seen).encode a ≡ (item []).encode a
  ok : (a : A) → Good a → (item []).Ok a
  -- no row stands in no bytes
  nothing : Misread ((item []).read [])

-- the bytes of good rows, behind those seen
record Held {A : Type 0} (item : List A → BlockFormat A) (Good : A → Type 0) (s : List ℕ) (l : List A) : Type 0 where
  are-bytes : Bytes s
  seen : List A
  rows : s ≡ encode_items item seen l
  each : Each Good l

module _ {A B : Type 0} {item : List A → BlockFormat A} {Good : A → Type 0} {fields : A → B} {ask : List ℕ → Answer (B × ℕ)} (q : Asks item Good fields ask) where
  abbrev Rows : List ℕ → List A → Type 0
  Rows = Held item Good

  abbrev shown : A → B × ℕ
  shown = row_shown (item []) fields

  no_rows : (s : List ℕ) → Rows s [] → s ≡ []
  no_rows s h = h.rows

  -- the front row's bytes, and those behind it
  apart : (s : List ℕ) (a : A) (l : List A) (h : Rows s (a ∷ l)) → s ≡ (item []).encode a ++ encode_items item (a ∷ h.seen) l
  apart s a l h = h.rows ∙ ap (λ (x : List ℕ). x ++ encode_items item (a ∷ h.seen) l) (q.alike h.seen a)

  front_read : (s : List ℕ) (a : A) (l : List A) → Rows s (a ∷ l) → (item []).read s ≡ done a (length ((item []).encode a))
  front_read s a l h = ap (item []).read (apart s a l h) ∙ (item []).forward a (q.ok a h.each.0) (encode_items item (a ∷ h.seen) l)

  some_byte : (s : List ℕ) (a : A) (l : List A) → Rows s (a ∷ l) → length s ≡ 0 → ⊥
  some_byte s a l h z = go q.nothing
    where
      go : Misread ((item []).read []) → ⊥
      go (at_place p e) = not_done (sym e ∙ ap (item []).read (sym (nil_is s z)) ∙ front_read s a l h)

  front-asked : (s : List ℕ) (a : A) (l : List A) → Rows s (a ∷ l) → ask s ≡ good (shown a)
  front-asked s a l h = q.front s ∙ rw (ne_eqb (length s) 0 (some_byte s a l h), front_read s a l h)

  rows_behind_lem : (s : List ℕ) (a : A) (l : List A) → Rows s (a ∷ l) → Rows (rows_behind s (ask s)) l
  rows_behind_lem s a l h = rw (front-asked s a l h) record {
    are-bytes = bytes_drop (length ((item []).encode a)) s h.are-bytes;
    seen = a ∷ h.seen;
    rows = ap (drop (length ((item []).encode a))) (apart s a l h) ∙ drop-append_seam ((item []).encode a) (encode_items item (a ∷ h.seen) l);
    each = h.each.1;
  }

  rows_walked : {s : List ℕ} {l : List A} → Rows s l → GivesRows ask shown s l
  rows_walked {s} {l} h =
      walk_ends Rows (λ p. rows_behind p (ask p)) ask (λ (a : A). good (shown a)) no_rows front-asked rows_behind_lem s l h
      ∙ ap (λ (x : Answer (B × ℕ)). map (λ (a : A). good (shown a)) l ++ x ∷ []) (q.front [])

  -- of a run that stands where the row tells it
  runs-walked : {s : List ℕ} {l : List A} (run : B → Range) (bytes : A → List ℕ)
      → ((s : List ℕ) (a : A) (n : ℕ) → Bytes s → (item []).read s ≡ done a n → Holds s (run (fields a)) (bytes a)) → Rows s l → RunsWalked ask run bytes s l
  runs-walked {s} {l} run bytes there h =
      walk_rows Rows (λ p. rows_behind p (ask p)) (λ p. bytes_in p (range_told (λ (x : B × ℕ). run x.0) (ask p))) bytes no_rows
      (λ s a l h. rw (front-asked s a l h) (there s a (length ((item []).encode a)) h.are-bytes (front_read s a l h)).bytes) rows_behind_lem s l h

-- ---- each kind of row
name-asked : Asks (name_row all) NameGood name_fields name_row_of
unfolding unused
name-asked = record {
  front = λ s. refl;
  alike = λ seen r. row-bytes seen r ∙ sym (row-bytes [] r);
  ok = λ r g. (name-ok [] r).1 (g, refl);
  nothing = at_place 0 nothing-there;
}

metadata-asked : (v : ℕ) → is_version v ≡ true → Asks (metadata_row v) (MetadataGood v) (metadata_fields v) (metadata_row_of v)
unfolding metadata_row unused iso ◌⨾◌ refine number run
metadata-asked v h = record {
  front = λ s. rw h;
  alike = λ seen r. refl;
  ok = λ r g. (metadata-row-ok v [] r).1 (g, refl);
  nothing = at_place 0 refl;
}

object-asked : Asks (λ _. object_row) ObjectGood object_fields object_row_of
unfolding object_row iso ◌⨾◌ number run
object-asked = record {
  front = λ s. refl;
  alike = λ seen r. refl;
  ok = λ r. (object-ok r).1;
  nothing = at_place 0 refl;
}

timer-asked : Asks timer_row TimerGood timer_fields timer_row_of
unfolding timer_row unused iso ◌⨾◌ refine number run
timer-asked = record {
  front = λ s. refl;
  alike = λ seen r. refl;
  ok = λ r g. (timer-ok [] r).1 (g, refl);
  nothing = at_place 0 refl;
}

-- ---- a block that is taken
-- a section's rows, held in its range
section : {A : Type 0} {item : List A → BlockFormat A} {Good : A → Type 0} {s : List ℕ} {p : Range} (l : List A) → Bytes s → Holds s p (encode_items item [] l) → Each Good l
    → Held item Good (bytes_in s p) l
section {s = s} {p = p} l w h g = record { are-bytes = bytes_take p.length (drop p.start s) (bytes_drop p.start s w); seen = []; rows = h.bytes; each = g }

pub walk-gives-rows : WalkGivesRows
walk-gives-rows s b n w h =
    let g = ((taken s b n w).0 h).0 in
    let at = sections-are-rows s b n w h in
    let v = b.head.version in
    let names = section b.names w at.names g.names.each in
    let metadata = section b.metadata w at.metadata g.metadata.each in
    let objects = section b.objects w at.objects g.objects.each in
    let ask = metadata-asked v (yes_and (le-leb 22 v g.head.version.0) (le-leb v 29 g.head.version.1)) in
    let there = runs-are-there in
    record {
      names = record {
        rows = rows_walked name-asked names;
        name = runs-walked name-asked (λ (f : NameFields). f.name) (λ (r : NameRow). r.name) there.name names;
      };
      metadata = record {
        rows = rows_walked ask metadata;
        content = runs-walked ask (λ (f : MetadataFields). f.content) (λ (r : MetadataRow). r.content) (λ s r n w e. (there.metadata v s r n w e).content) metadata;
        variables = runs-walked ask (λ (f : MetadataFields). f.rows) (λ (r : MetadataRow). encode_items (λ _. variable v) [] r.variables) (λ s r n w e. (there.metadata v s r n w e).variables) metadata;
        inventory = runs-walked ask (λ (f : MetadataFields). f.inventory) (λ (r : MetadataRow). r.inventory) (λ s r n w e. (there.metadata v s r n w e).inventory) metadata;
      };
      objects = record {
        rows = rows_walked object-asked objects;
        content = runs-walked object-asked (λ (f : ObjectFields). f.content) (λ (r : ObjectRow). r.content) there.object objects;
      };
      timers = rows_walked timer-asked (section b.timers w at.timers g.timers.each);
    }
