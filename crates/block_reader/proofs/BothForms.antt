-- A block without metadata has two forms from version 23 on, and a reader tells them apart: the promises of specs/Theorems.antt, proved.
use Prim.Native.Nat.{ℕ, ◌+◌, ◌≤◌}
use mathlib.Core.Path.{◌≡◌, refl, ap, ◌∙◌}
use mathlib.Core.List.{◌++◌}
use mathlib.Core.Bool.{cond}
use native.Mathlib.Nat.{add-zero}
use native.Mathlib.Omega.{arith}
use lib.Dec.{lit<}
use lib.ListN.{length, length-append}
use Rattle.mapblock.specs.Data.{Block}
use Rattle.mapblock.specs.Layout.{all, list_version_bytes, list_counted, is_counted, list_zero, metadata}
use Rattle.mapblock.specs.Block.{block, metadata_of}
use Rattle.mapblock.specs.Valid.{Valid}
use Rattle.block_reader.specs.Theorems.{with_form, EitherForm, TwoLess, BothForms, FormTold}
use Rattle.block_reader.proofs.ListLengths.{metadata-rows-length}
use Rattle.block_reader.proofs.ValidOk.{valid-is-ok}
use Rattle.block_reader.proofs.Taken.{valid-bytes, read_back, air_at, air-valid}
use Rattle.block_reader.proofs.SectionsThere.{to_nodes, behind_metadata, pieces, block-pieces, metadata-ok}

module _ (b : Block) (e : EitherForm b) where
  abbrev v : ℕ
  v = b.head.version

  pub either-valid : (form : ℕ) → form ≤ 1 → Valid (with_form form b)
  either-valid form h =
      let g = e.valid in
      record {
        head = record {
          version = g.head.version;
          flags = g.head.flags;
          lighting = g.head.lighting;
          lighting-before-27 = g.head.lighting-before-27;
          timestamp = g.head.timestamp;
          timer = g.head.timer;
          timer-except-24 = g.head.timer-except-24;
          form = h;
          form-in-22 = λ k. absurd (let i = e.from-23 in omega arith);
        };
        nodes = g.nodes;
        names = g.names;
        metadata = g.metadata;
        objects = g.objects;
        timers = g.timers;
        metadata-of-zero = λ _. e.none;
        timers-before-24 = g.timers-before-24;
        timers-of-24 = g.timers-of-24;
        metadata-distinct = g.metadata-distinct;
        timers-distinct = g.timers-distinct;
        ids-distinct = g.ids-distinct;
        ids-mapped = g.ids-mapped;
      }

  metadata-length : (form : ℕ) → form ≤ 1 → length ((metadata v).encode (metadata_of (with_form form b))) ≡ list_version_bytes v + cond (is_counted form) 2 0
  metadata-length form h =
      let ok = metadata-ok (with_form form b) ((valid-is-ok (with_form form b)).0 (either-valid form h)).0 in
      metadata-rows-length v (metadata_of (with_form form b)) ok ∙ rw (e.none, add-zero)

  -- before and behind the metadata the bytes are the same
  block-length : (form : ℕ) → form ≤ 1
      → length ((block all).encode (with_form form b)) ≡ length (to_nodes (pieces b)) + (list_version_bytes v + cond (is_counted form) 2 0 + length (behind_metadata (pieces b)))
  block-length form h =
      ap (length {A = ℕ}) (block-pieces (with_form form b))
      ∙ length-append (to_nodes (pieces b)) ((metadata v).encode (metadata_of (with_form form b)) ++ behind_metadata (pieces b))
      ∙ rw (length-append ((metadata v).encode (metadata_of (with_form form b))) (behind_metadata (pieces b)), metadata-length form h)

pub two-less : TwoLess
two-less b e = omega (arith, block-length b e list_counted (omega arith), block-length b e list_zero (omega arith))

pub both-forms : BothForms
both-forms r t b e form h = read_back r t (with_form form b) (either-valid b e form h)

-- ---- blocks of air, which every version has in both forms
air-either : (v : ℕ) → 23 ≤ v → v ≤ 29 → EitherForm (air_at v 0)
air-either v h k = record { valid = air-valid v 0 (omega arith) k (lit< tt); from-23 = h; none = refl }

pub form-told : FormTold
form-told r t v h k (form, one) =
    let air = air_at v 0 in
    let either = air-either v h k in
    let told : (f : ℕ) → f ≤ 1 → f ≡ form =
    λ f l. one _ (with_form f air) _ (valid-bytes (with_form f air) (either-valid air either f l)) (both-forms r t air either f l) refl in
    omega (arith, told 0 (omega arith), told 1 (omega arith))
