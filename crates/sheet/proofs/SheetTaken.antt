-- When a sheet is taken: exactly when it is the bytes of records whose keys are valid and rise and whose blocks are well formed.
use Prim.Native.Nat.{ℕ, zero, suc, ◌^◌, ◌<◌}
use mathlib.Core.Path.{◌≡◌, refl, ap, ap₂, sym, subst⁻¹, ◌∙◌}
use mathlib.Core.Bool.{true}
use mathlib.Core.List.{List, [], ◌∷◌, ◌++◌, append_assoc}
use mathlib.Core.Option.{Option, some, none}
use lib.Dec.{lit<}
use lib.IntN.{ℤ, nat_abs}
use lib.ListN.{length, drop}
use lib.Seq.{drop-append_seam}
use Rattle.wire.specs.Bytes.{Bytes, bytes-nil, bytes-cons, bytes_drop}
use Rattle.wire.specs.Read.{Read, done, refused}
use Rattle.wire.specs.Format.{run, refine, ◌⨾◌, iso, items, items-length, OkItems, encode_items}
use Rattle.wire.specs.Formats.{number, prefixed, listed, behind}
use Rattle.wire.specs.Answer.{good, out_of_range}
use Rattle.wire.proofs.Answers.{no-good, answered}
use Rattle.position.specs.Keys.{moved, is_key, fields, split_of}
use Rattle.position.specs.declared.key.Coordinates.{Coordinates}
use Rattle.mapblock.specs.Valid.{Valid}
use Rattle.sheet.specs.Placed.{Placed}
use Rattle.sheet.specs.Sheet.{Misframed, misframed, SheetForm, SheetRecord, frame, sheet_mark, sheet_head, rises, last_key, sheet, judge_record, records_from, sheet_of}
use Rattle.sheet.specs.Theorems.{RecordsAre, SheetTaken}
use Rattle.sheet.proofs.TakenBlocks.{block-valid, valid-block, AllValid}
use Rattle.sheet.proofs.RecordSteps.{judge-taken, judge-good, sheet-misframed, sheet-on, records-end, written_on, records-count, first_taken, none-taken}

-- ---- a record of a sheet
abbrev item : List SheetRecord → SheetForm SheetRecord
item seen = refine (λ (r : SheetRecord). rises (last_key seen) r.key) misframed (refine (λ (r : SheetRecord). is_key r.key) misframed frame)

item_ok : (seen : List SheetRecord) (r : SheetRecord) → (item seen).Ok r → frame.Ok r × (is_key r.key ≡ true) × (rises (last_key seen) r.key ≡ true)
unfolding refine
item_ok seen r h = (h.0.0, h.0.1, h.1)

pub ok-item : (seen : List SheetRecord) (r : SheetRecord) → frame.Ok r → is_key r.key ≡ true → rises (last_key seen) r.key ≡ true → (item seen).Ok r
unfolding refine
ok-item seen r f k u = ((f, k), u)

item-bytes : (seen : List SheetRecord) (r : SheetRecord) → (item seen).encode r ≡ frame.encode r
unfolding refine
item-bytes seen r = refl

-- a key that has a place
placed-key : (k : ℤ) (c : Coordinates) → split_of k ≡ good c → is_key k ≡ true
unfolding split_of
placed-key k c h = (answered (is_key k) out_of_range (fields (nat_abs (moved k))) c h).0

-- a record that is framed has bytes for its block
pub frame-bytes : (r : SheetRecord) → frame.Ok r → Bytes r.block
unfolding frame iso ◌⨾◌ prefixed
frame-bytes r h = h.1.1

-- ---- records that are taken
record Written (k : ℕ) (seen : List SheetRecord) (s : List ℕ) (l : List Placed) : Type 0 where
  pub records : List SheetRecord
  pub ok : OkItems item k seen records
  pub bytes : s ≡ encode_items item seen records
  pub are : RecordsAre records l

records-taken : (k i : ℕ) (seen : List SheetRecord) (s : List ℕ) (l : List Placed) → Bytes s → records_from k i (last_key seen) s ≡ good l → Written k seen s l
records-taken zero i seen s l w h =
    let e = none-taken i (last_key seen) s l h in
    record { records = []; ok = tt; bytes = e.0; are = rw e.1 tt }
records-taken (suc k) i seen s l w h =
    let x = first_taken k i (last_key seen) s l h in
    let r = x.first in
    let n = x.ends in
    let t = frame.backward s r n w x.reads in
    let j = judge-taken (last_key seen) r x.block x.judged in
    let b = block-valid r.block x.block.block (frame-bytes r t.ok) j.2 in
    let m = records-taken k (suc i) (r ∷ seen) (drop n s) x.more (bytes_drop n s w) x.behind in
    record {
      records = r ∷ m.records;
      ok = (ok-item seen r t.ok (placed-key r.key x.block.at j.0) j.1, m.ok);
      bytes = t.front ∙ ap₂ (λ (a b : List ℕ). a ++ b) (sym (item-bytes seen r)) m.bytes;
      are = subst⁻¹ (RecordsAre (r ∷ m.records)) x.blocks (record { key = j.0; valid = b.0; bytes = b.1 }, m.are);
    }

-- ---- records that are written
records-back : (k i : ℕ) (seen rs : List SheetRecord) (l : List Placed) → OkItems item k seen rs → RecordsAre rs l → records_from k i (last_key seen) (encode_items item seen rs) ≡ good l
records-back zero i seen [] [] h g = records-end i (last_key seen) [] refl
records-back zero i seen [] (x ∷ l) h g = absurd g
records-back zero i seen (r ∷ rs) l h g = absurd h
records-back (suc k) i seen [] l h g = absurd h
records-back (suc k) i seen (r ∷ rs) [] h g = absurd g
records-back (suc k) i seen (r ∷ rs) (x ∷ l) h g =
    let o = item_ok seen r h.0 in
    let t = encode_items item (r ∷ seen) rs in
    let e : (item seen).encode r ++ t ≡ frame.encode r ++ t = ap (λ (b : List ℕ). b ++ t) (item-bytes seen r) in
    let j = judge-good (last_key seen) r g.0.key o.2 (valid-block r.block x.block (frame-bytes r o.0) g.0.valid g.0.bytes) in
    ap (records_from (suc k) i (last_key seen)) e
    ∙ written_on k i (last_key seen) r t o.0 j
    ∙ rw (records-back k (suc i) (r ∷ seen) rs l h.1 g.1)

-- ---- the whole sheet
mark-bytes : Bytes sheet_mark
mark-bytes = bytes-cons 87 (83 ∷ 72 ∷ []) (lit< tt) (bytes-cons 83 (72 ∷ []) (lit< tt) (bytes-cons 72 [] (lit< tt) bytes-nil))

-- any number that a u32 holds may stand in a head
pub ok-head : (n : ℕ) → n < 256 ^ 4 → sheet_head.Ok n
unfolding behind iso refine number run
ok-head n h = (((refl, mark-bytes), refl), ((lit< tt, refl), h))

pub head_ok : (n : ℕ) → sheet_head.Ok n → n < 256 ^ 4
unfolding behind iso refine number run
head_ok n h = h.1.1

-- its bytes are those of a head and of its records
sheet-bytes : (rs : List SheetRecord) → sheet.encode rs ≡ sheet_head.encode (length rs) ++ encode_items item [] rs
unfolding sheet behind iso ◌⨾◌ refine number run listed items
sheet-bytes rs = simp append_assoc

sheet-ok : (rs : List SheetRecord) → sheet.Ok rs → (length rs < 256 ^ 4) × OkItems item (length rs) [] rs
unfolding sheet behind iso listed items
sheet-ok rs h = h.1.1

pub ok-sheet : (rs : List SheetRecord) → length rs < 256 ^ 4 → OkItems item (length rs) [] rs → sheet.Ok rs
unfolding sheet behind iso refine number run listed items
ok-sheet rs h k = (((refl, mark-bytes), refl), ((lit< tt, refl), (h, k)))

-- bytes behind a head
pub sheet-behind : (n : ℕ) (t : List ℕ) → n < 256 ^ 4 → sheet_of (sheet_head.encode n ++ t) ≡ records_from n 0 none t
sheet-behind n t h = sheet-on (sheet_head.encode n ++ t) (sheet_head.forward n (ok-head n h) t) ∙ ap (records_from n 0 none) (drop-append_seam (sheet_head.encode n) t)

-- a sheet that is taken has a head, and records that are taken
pub sheet-opened : (s : List ℕ) (l : List Placed) → sheet_of s ≡ good l → (n : ℕ) × (k : ℕ) × (sheet_head.read s ≡ done n k) × (records_from n 0 none (drop k s) ≡ good l)
sheet-opened s l h = go (sheet_head.read s) refl
  where
    go : (x : Read Misframed ℕ) → sheet_head.read s ≡ x → (n : ℕ) × (k : ℕ) × (sheet_head.read s ≡ done n k) × (records_from n 0 none (drop k s) ≡ good l)
    go (done n k) e = (n, k, e, sym (sheet-on s e) ∙ h)
    go (refused f p) e = no-good (sym (sheet-misframed s e) ∙ h)

pub sheet-taken : SheetTaken
sheet-taken s l w = (there, back)
  where
    there : sheet_of s ≡ good l → (rs : List SheetRecord) × sheet.Ok rs × (s ≡ sheet.encode rs) × RecordsAre rs l
    there h =
        let x = sheet-opened s l h in
        let n = x.0 in
        let t = sheet_head.backward s n x.1 w x.2 in
        let m = records-taken n 0 [] (drop x.1 s) l (bytes_drop x.1 s w) x.3 in
        let rs = m.records in
        let size : length rs ≡ n = items-length item n [] rs m.ok in
        let bytes = t.front ∙ ap₂ (λ (i : ℕ) (b : List ℕ). sheet_head.encode i ++ b) (sym size) m.bytes ∙ sym (sheet-bytes rs) in
        (rs, ok-sheet rs (rw size (head_ok n t.ok)) (rw size m.ok), bytes, m.are)

    back : (rs : List SheetRecord) × sheet.Ok rs × (s ≡ sheet.encode rs) × RecordsAre rs l → sheet_of s ≡ good l
    back (rs, ok, e, are) =
        let o = sheet-ok rs ok in
        ap sheet_of (e ∙ sheet-bytes rs) ∙ sheet-behind (length rs) (encode_items item [] rs) o.0 ∙ records-back (length rs) 0 [] rs l o.1 are

-- ---- its blocks are well formed, and no more than a u32 counts
pub record-valid : (last : Option ℤ) (r : SheetRecord) (x : Placed) → frame.Ok r → judge_record last r ≡ good x → Valid x.block
record-valid last r x ok j = (block-valid r.block x.block (frame-bytes r ok) (judge-taken last r x j).2).0

pub records-valid : (k i : ℕ) (last : Option ℤ) (s : List ℕ) (l : List Placed) → Bytes s → records_from k i last s ≡ good l → AllValid l
records-valid zero i last s l w h = subst⁻¹ AllValid (none-taken i last s l h).1 tt
records-valid (suc k) i last s l w h =
    let x = first_taken k i last s l h in
    let ok = (frame.backward s x.first x.ends w x.reads).ok in
    let rest = records-valid k (suc i) (some x.first.key) (drop x.ends s) x.more (bytes_drop x.ends s w) x.behind in
    subst⁻¹ AllValid x.blocks (record-valid last x.first x.block ok x.judged, rest)

pub sheet-valid : (s : List ℕ) (l : List Placed) → Bytes s → sheet_of s ≡ good l → AllValid l × (length l < 4294967296)
sheet-valid s l w h =
    let x = sheet-opened s l h in
    let t = drop x.1 s in
    let rows_fit : x.0 < 256 ^ 4 = head_ok x.0 (sheet_head.backward s x.0 x.1 w x.2).ok in
    (records-valid x.0 0 none t l (bytes_drop x.1 s w) x.3, rw (records-count x.0 0 none t l x.3) rows_fit)
