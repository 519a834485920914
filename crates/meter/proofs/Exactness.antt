-- When a part is tallied, and what its tally counts: demand 2's counts.
use Rattle.std.proofs.Common.{◌≡◌, ℕ, ◌*◌, ◌<◌, ◌≤◌, true, cond, leb, List, [], ◌∷◌, ◌++◌, length, take, drop, sym, refl, ap, ◌∙◌, subst, le_refl, arith, lit<, le-leb, leb-true}
use mathlib.Core.Option.{Option, some, get_or}
use lib.Seq.{take-append_seam}
use Rattle.wire.specs.Bytes.{Bytes}
use Rattle.wire.proofs.Tests.{and_yes, yes_and}
use Rattle.wire.specs.Answer.{Answer, good, refusal, plain, map_answer, lent, bad_part, parts_misfit, no_room, too_many, then_answer}
use Rattle.wire.proofs.Answers.{test_good, then-good, map-good, room-good}
use Rattle.tally.specs.Rows.{Canonical}
use Rattle.tally.specs.Tally.{tally, rows_of, limited, max_rows}
use Rattle.tally.specs.Theorems.{IsTally, rows_in, Fits}
use Rattle.tally.proofs.Held.{rows-of-tally, tally-bytewise}
use Rattle.position.specs.declared.part.Part.{Part}
use Rattle.position.specs.Parts.{good_part}
use Rattle.sheet.specs.Placed.{Placed, placed_at}
use Rattle.meter.specs.Standing.{in_part, standing, nodes_in}
use Rattle.meter.specs.Counting.{Measure, MeasureRows}
use Rattle.meter.specs.Tallying.{fitted, tally_block_of}
use Rattle.sheet.specs.Sheet.{sheet_of}
use Rattle.meter.specs.SheetTally.{fitted_sheet, tally_sheet_of}
use Rattle.meter.specs.Theorems.{Source, one_block, whole-sheet, blocks_of, IsBytes, Gives, tally_from, tallied, Talliable, Exact}
use Rattle.meter.proofs.Amounts.{filter_nodes-fewer, count-tally, tally-limited, tally-fewer}
use Rattle.sheet.proofs.TakenBlocks.{block-valid, placed-taken, AllValid}
use Rattle.meter.proofs.Blocks.{standing-number, held, rows_named, rows-canonical}
use Rattle.sheet.proofs.SheetTaken.{sheet-valid}

-- ---- blocks that are taken
pub blocks-valid : (x : Source) → IsBytes x → (l : List Placed) → blocks_of x ≡ good l → AllValid l × (length l < 4294967296)
blocks-valid (one_block key s) b l h =
    let y = map-good (λ (x : Placed). x ∷ []) (placed_at key s) l h in
    let z = placed-taken key s y.0 y.1 in
    let v : AllValid (y.0 ∷ []) × (length (y.0 ∷ []) < 4294967296) = (((block-valid s y.0.block b z.1).0, tt), lit< tt) in
    subst (λ (l : List Placed). AllValid l × (length l < 4294967296)) y.2 v
blocks-valid (whole-sheet s spare) b l h = sheet-valid s l b h

module _ (m : Measure) where
  -- ---- what stands in a part of the blocks
  few-nodes : (l : List Placed) (p : Part) → length (nodes_in p l) ≤ 4096 * length l
  few-nodes l p = omega (arith, filter_nodes-fewer (in_part p) (standing l), standing-number l)

  pub rows-limited : (l : List Placed) (p : Part) → AllValid l → length l < 4294967296 → limited m.kind (held m p l) ≡ true
  rows-limited l p h k = tally-limited m (nodes_in p l) (rows_named m p l h) (omega (arith, few-nodes l p))

  -- rows that fit a room
  fit_of : (room : ℕ) (l : List Placed) (p : Part) → AllValid l → length l < 4294967296 → length (held m p l) ≤ max_rows → length ((tally m.kind).encode (held m p l)) ≤ room → Fits m.kind room (held m p l)
  fit_of room l p h k rows_fit fits = (yes_and (rows-limited l p h k) (le-leb (length (held m p l)) max_rows rows_fit), fits)

  -- rows of few blocks fit the room that their tally takes
  pub fits-in-own : (l : List Placed) (p : Part) → AllValid l → length l < 4294967296 → 4096 * length l ≤ max_rows → Fits m.kind (length ((tally m.kind).encode (held m p l))) (held m p l)
  fits-in-own l p h k rows_fit = fit_of (length ((tally m.kind).encode (held m p l))) l p h k (omega (arith, tally-fewer m (nodes_in p l), few-nodes l p)) (le_refl _)

  -- ---- a part is tallied where it can be, with the bytes of its rows
  pub record TalliedAs (room : ℕ) (x : Source) (p : Part) (t : List ℕ) : Type 0 where
    pub can : Talliable m room x p
    pub bytes : t ≡ (tally m.kind).encode (held m p can.blocks)

  sheet-good : (room n : ℕ) (r : MeasureRows m) (t : List ℕ) → fitted_sheet m room r n ≡ good t
      → (length ((tally m.kind).encode r) ≤ room) × (length r ≤ max_rows) × (t ≡ (tally m.kind).encode r)
  unfolding fitted_sheet
  sheet-good room n r t h =
      let x = test_good (leb (length ((tally m.kind).encode r)) room) no_room n 0 (cond (leb (length r) max_rows) (good ((tally m.kind).encode r)) (refusal too_many n 0)) t h in
      let y = test_good (leb (length r) max_rows) too_many n 0 (good ((tally m.kind).encode r)) t x.1 in
      (leb-true _ _ x.0, leb-true _ _ y.0, (cc y.1))

  pub told-tallied : (x : Source) (p : Part) (room : ℕ) (t : List ℕ) → IsBytes x → tally_from m x p room ≡ good t → TalliedAs room x p t
  unfolding tally_block_of tally_sheet_of
  told-tallied (one_block key s) p room t b h =
      let x = test_good (good_part p) bad_part 0 0 (then_answer (placed_at key s) λ y. fitted m room (held m p (y ∷ []))) t h in
      let y = then-good (placed_at key s) (λ y. fitted m room (held m p (y ∷ []))) t x.1 in
      let z = room-good room ((tally m.kind).encode (held m p (y.0 ∷ []))) t y.2 in
      let e : blocks_of (one_block key s) ≡ good (y.0 ∷ []) = ap (map_answer (λ (x : Placed). x ∷ [])) y.1 in
      let v = blocks-valid (one_block key s) b (y.0 ∷ []) e in
      record {
        can = record {
          good-part = x.0;
          spare = tt;
          blocks = y.0 ∷ [];
          taken = e;
          fits = fit_of room (y.0 ∷ []) p v.0 v.1 (omega (arith, tally-fewer m (nodes_in p (y.0 ∷ [])), few-nodes (y.0 ∷ []) p)) z.0;
        };
        bytes = sym z.1;
      }
  told-tallied (whole-sheet s spare) p room t b h =
      let x = test_good (good_part p) bad_part 0 0 (cond (leb room spare) (then_answer (sheet_of s) λ l. fitted_sheet m room (held m p l) (length l)) (plain parts_misfit)) t h in
      let w = test_good (leb room spare) parts_misfit 0 0 (then_answer (sheet_of s) λ l. fitted_sheet m room (held m p l) (length l)) t x.1 in
      let y = then-good (sheet_of s) (λ l. fitted_sheet m room (held m p l) (length l)) t w.1 in
      let z = sheet-good room (length y.0) (held m p y.0) t y.2 in
      let v = sheet-valid s y.0 b y.1 in
      record {
        can = record {
          good-part = x.0;
          spare = leb-true _ _ w.0;
          blocks = y.0;
          taken = y.1;
          fits = fit_of room y.0 p v.0 v.1 z.1 z.0;
        };
        bytes = z.2;
      }

  pub tallied-told : (x : Source) (p : Part) (room : ℕ) (c : Talliable m room x p) → tally_from m x p room ≡ good ((tally m.kind).encode (held m p c.blocks))
  unfolding tally_block_of tally_sheet_of fitted_sheet
  tallied-told (one_block key s) p room c =
      let y = map-good (λ (x : Placed). x ∷ []) (placed_at key s) c.blocks c.taken in
      rw (c.good-part, y.1, y.2, le-leb _ _ c.fits.1)
  tallied-told (whole-sheet s spare) p room c =
      let rows_fit = and_yes (limited m.kind (held m p c.blocks)) (leb (length (held m p c.blocks)) max_rows) c.fits.0 in
      rw (c.good-part, le-leb _ _ c.spare, c.taken, le-leb _ _ c.fits.1, rows_fit.1)

  -- ---- in an output
  pub gives-told : (x : Source) (p : Part) (room : ℕ) (out t : List ℕ) → Gives (tallied m) room x p out t → tally_from m x p room ≡ good t
  gives-told x p room out t g =
      let y = map-good (length {A = ℕ}) (tally_from m x p (length out)) g.told g.done in
      let e : t ≡ y.0 = g.bytes ∙ ap (λ (a : Answer (List ℕ)). take g.told (lent a out)) y.1 ∙ ap (λ (n : ℕ). take n (y.0 ++ drop (length y.0) out)) (sym y.2) ∙ take-append_seam y.0 (drop (length y.0) out) in
      ap (tally_from m x p) (sym g.size) ∙ y.1 ∙ ap good (sym e)

  pub told-gives : (x : Source) (p : Part) (room : ℕ) (out t : List ℕ) → length out ≡ room → tally_from m x p room ≡ good t → Gives (tallied m) room x p out t
  told-gives x p room out t size h =
      let e : tally_from m x p (length out) ≡ good t = ap (tally_from m x p) size ∙ h in
      record { size = size; told = length t; done = rw e; bytes = sym (rw (e, take-append_seam)) }

  pub gives-tallied : (x : Source) (p : Part) (room : ℕ) (out t : List ℕ) → IsBytes x → Gives (tallied m) room x p out t → TalliedAs room x p t
  gives-tallied x p room out t b g = told-tallied x p room t b (gives-told x p room out t g)

  -- ---- a tally of rows, read back
  module _ {x : Source} {p : Part} {room : ℕ} {t : List ℕ} (b : IsBytes x) (y : TalliedAs room x p t) where
    valid : AllValid y.can.blocks
    valid = (blocks-valid x b y.can.blocks y.can.taken).0

    tallied-canonical : Canonical m.kind.counts (held m p y.can.blocks)
    tallied-canonical = rows-canonical m p y.can.blocks valid

    pub tallied-rows : rows_of m.kind t ≡ some (held m p y.can.blocks)
    tallied-rows = ap (rows_of m.kind) y.bytes ∙ rows-of-tally m.kind (held m p y.can.blocks) tallied-canonical y.can.fits.0

    pub rows-read : rows_in m.kind t ≡ held m p y.can.blocks
    rows-read = ap (λ (o : Option (MeasureRows m)). get_or o []) tallied-rows

    pub is-tally : IsTally m.kind t
    is-tally = (
      subst (λ (s : List ℕ). Bytes s) (sym y.bytes) (tally-bytewise m.kind (held m p y.can.blocks) tallied-canonical y.can.fits.0),
      (held m p y.can.blocks, tallied-rows),
    )

  pub exact : Exact m (tallied m)
  exact = record {
    tallied-where = λ x p out b. (
      λ h. (gives-tallied x p (length out) out h.0 b h.1).can,
      λ c. ((tally m.kind).encode (held m p c.blocks), told-gives x p (length out) out _ refl (tallied-told x p (length out) c)),
    );
    counts = λ room x p out t b g.
        let y = gives-tallied x p room out t b g in
        let l = y.can.blocks in
        (l, held m p l, y.can.taken, tallied-rows b y, count-tally m (nodes_in p l));
  }
