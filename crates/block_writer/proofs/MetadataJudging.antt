-- What is said of the metadata list, in its two forms.
use Prim.Native.Nat.{ℕ, ◌+◌, ◌≤◌}
use mathlib.Core.Path.{◌≡◌, ap, sym, ◌∙◌}
use mathlib.Core.List.{List, []}
use mathlib.Core.Bool.{Bool, true, false, cond}
use native.Mathlib.Nat.{add-zero}
use native.Mathlib.Omega.{arith}
use borrow.Author.Tests.{ne_eqb, eqb-false}
use Rattle.wire.specs.Bytes.{Bytes}
use Rattle.wire.specs.Read.{Read, done, shift}
use Rattle.wire.specs.Format.{◌⨾◌, iso, items}
use Rattle.wire.specs.Formats.{listed, tagged}
use Rattle.wire.proofs.Looser.{Settled, settled, settled-ok}
use Rattle.mapblock.specs.Inventory.{BlockFormat}
use Rattle.mapblock.specs.Data.{MetadataRow, metadata_list_shape}
use Rattle.mapblock.specs.Layout.{list_version_bytes, is_counted, list_form, metadata_row, metadata}
use Rattle.mapblock.specs.Told.{ended}
use Rattle.mapblock.specs.declared.fault.Fault.{Fault}
use Rattle.mapblock.specs.declared.head.Head.{Head}
use Rattle.mapblock.proofs.TaggedLists.{list-version-bytes-most}
use Rattle.block_reader.specs.Scan.{metadata_head}
use Rattle.block_reader.proofs.ListLengths.{form-length}
use Rattle.block_reader.proofs.ValidOk.{form-ok}
use Rattle.block_writer.specs.Frames.{metadata_frame}
use Rattle.block_writer.specs.BlockParts.{head_fits, metadata_fits}
use Rattle.block_writer.specs.Sections.{Rows}
use Rattle.block_writer.specs.Judging.{verdict_on, metadata_on}
use Rattle.block_writer.proofs.Fitting.{one_form, no-metadata}
use Rattle.block_writer.proofs.Framed.{not-ends, metadata-looser, metadata_list_frame, metadata-list-looser}
use Rattle.block_writer.proofs.RowsJudging.{rows-where, listed-verdict_on}
use Rattle.block_writer.proofs.PiecesJudging.{shift-on, verdict_on-ok, verdict_on-into, tagged-alone, tagged-list}

-- what stands before the rows
pub metadata-head-most : (v form : ℕ) → metadata_head v form ≤ 4
metadata-head-most v form = go (is_counted form)
  where
    go : (b : Bool) → list_version_bytes v + cond b 2 0 ≤ 4
    go true = omega (arith, list-version-bytes-most v)
    go false = omega (arith, list-version-bytes-most v)

module _ (h : Head) (c : head_fits h ≡ true) where
  abbrev v : ℕ
  v = h.version

  abbrev rows : BlockFormat (List MetadataRow)
  rows = listed 2 (metadata_row v)

  form-settled : Settled (list_form v) h.form
  form-settled = settled-ok (list_form v) h.form ((form-ok v h.form).1 (one_form h c))

  form-good : done tt (list_version_bytes v) ≡ verdict_on (list_form v) h.form
  form-good = sym (verdict_on-ok (list_form v) h.form ((form-ok v h.form).1 (one_form h c)) ∙ ap (done tt) (form-length v h.form))

  module _ (l : List MetadataRow) where
    whole : verdict_on (tagged (list_form v) is_counted [] rows) (h.form, l) ≡ verdict_on (metadata v) (metadata_on h l)
    unfolding metadata
    whole = sym (verdict_on-into metadata_list_shape (tagged (list_form v) is_counted [] rows) (metadata_on h l))

    pub metadata-zero : {k : ℕ} → k ≡ metadata_head v h.form → (h.form ≡ 0 → ⊥) → done tt k ≡ verdict_on (metadata v) (metadata_on h l)
    metadata-zero e n =
        let f = ne_eqb h.form 0 n in
        ap (done tt) (e ∙ rw (f, add-zero)) ∙ tagged-alone (list_form v) is_counted rows h.form l form-settled form-good f ∙ whole

    pub metadata-counted : {k : ℕ} {s : List ℕ} {count : ℕ} {r : Read Fault (Unit {0})} → Bytes s → k ≡ metadata_head v h.form → h.form ≡ 0
        → r ≡ ended ((items (metadata_row v) count).read s) → Rows (metadata_frame v) s count l → shift k (λ u. u) r ≡ verdict_on (metadata v) (metadata_on h l)
    metadata-counted {r = r} b e z i w =
        ap (λ (n : ℕ). shift n (λ u. u) r) (e ∙ rw z) ∙ sym (shift-on (list_version_bytes v) 2 r)
        ∙ tagged-list (list_form v) is_counted rows h.form l form-settled form-good (rw z) (listed-verdict_on (metadata_frame v) b w (metadata_row v) (metadata-looser v) i) ∙ whole

  module _ {s : List ℕ} {count : ℕ} {l : List MetadataRow} (b : Bytes s) (w : Rows (metadata_frame v) s count l) (f : metadata_fits h s ≡ true) where
    -- it can be written, but for its rows' values
    pub metadata-ok : (metadata_list_frame v).Ok (metadata_on h l)
    unfolding iso ◌⨾◌
    metadata-ok = (
      (form-ok v h.form).1 (one_form h c),
      rows-where (metadata_frame v) b w (is_counted h.form) (λ e. no-metadata h s f (eqb-false h.form 0 e)),
    )

    pub metadata-settled : Settled (metadata v) (metadata_on h l)
    metadata-settled = settled (metadata-list-looser v) (metadata_on h l) metadata-ok not-ends
