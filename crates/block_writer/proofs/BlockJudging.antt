-- What is said of a block's bytes, from what is said of its lists.
use Prim.Native.Nat.{ℕ, ◌+◌, ◌<◌, ◌≤◌}
use mathlib.Core.Path.{◌≡◌, refl, ap, sym, ◌∙◌}
use mathlib.Core.Option.{some, none}
use mathlib.Core.List.{List}
use mathlib.Core.Bool.{Bool, true}
use native.Mathlib.Nat.{add_assoc}
use native.Mathlib.Omega.{arith}
use lib.Dec.{lit<}
use lib.ListN.{length, length-append}
use borrow.Author.Tests.{le-leb, lt-leb}
use Rattle.wire.specs.Bytes.{Bytes}
use Rattle.wire.specs.Read.{Read, done, refused, shift, not_done, shift-done, shift-refused}
use Rattle.wire.specs.Format.{nothing, refine, ◌⨾◌, iso}
use Rattle.wire.specs.Formats.{◌▹◌, number, listed, only, u16}
use Rattle.wire.proofs.EveryFormat.{every-format}
use Rattle.wire.proofs.Looser.{Settled, settled, settled-ok, looser-self}
use Rattle.mapblock.specs.Inventory.{BlockFormat}
use Rattle.mapblock.specs.Data.{NameRow, MetadataRow, ObjectRow, TimerRow, NameMapping, MetadataList, Timers, Nodes, Block, no_mapping, front_shape, rest_shape}
use Rattle.mapblock.specs.Layout.{since, all, is_version, opening, name_mapping, nodes, metadata, early_timers, objects, object_row, late_timers, front, rest, steps}
use Rattle.mapblock.specs.Block.{block, pieces_of, first_unmapped, param0_at, verdict}
use Rattle.block_reader.specs.Sections.{scanned_of}
use Rattle.mapblock.specs.Table.{free_in}
use Rattle.mapblock.specs.Told.{ended}
use Rattle.mapblock.specs.declared.fault.Fault.{Fault}
use Rattle.mapblock.specs.declared.fault.Fault.TheVariants as fault
use Rattle.mapblock.specs.declared.head.Head.{Head}
use Rattle.mapblock.proofs.Readings.{ended-map, ended-done, ended-refused}
use Rattle.block_reader.proofs.ListLengths.{num-length, objects-rows-length}
use Rattle.mapblock.proofs.Entries.{width-range, nodes-done}
use Rattle.mapblock.proofs.GoodRows.{either, since-ok, fixed-ok}
use Rattle.block_reader.proofs.Fronts.{opening-length}
use Rattle.block_reader.proofs.Verdicts.{verdict-refused, verdict-first_unmapped, verdict-done}
use Rattle.block_writer.specs.Frames.{name_frame}
use Rattle.block_writer.specs.BlockParts.{head_fits}
use Rattle.block_writer.specs.Sections.{Rows}
use Rattle.block_writer.specs.Judging.{verdict_on, opening_on, mapping_on, mapping_front, mapping_behind, metadata_on, timers_early, timers_late, front_on, rest_on, opening_length, lists_length, MappingJudged, FrontJudged, ending, EndingJudged, RestJudged}
use Rattle.block_writer.proofs.Fitting.{unlit}
use Rattle.block_writer.proofs.Framed.{not-ends, name-mapping-looser}
use Rattle.block_writer.proofs.RowsJudging.{rows_ok, rows-bytes, name-mapping-ok}
use Rattle.block_writer.proofs.PiecesJudging.{shift_none, shift-thrice, verdict_on-ok, verdict_on-into, judged-refused, judged-on}

-- ---- behind the static objects
module _ (h : Head) (l : List NameRow) (k : List TimerRow) where
  pub ending-late : {t : List ℕ} {r : Read Fault (Unit {0})} → 29 ≤ h.version → r ≡ verdict_on (late_timers h.version) (timers_late h k) → EndingJudged t t h l k r
  unfolding nothing
  ending-late {t} {r} g e = record {
    judged = λ free _.
        rw (le-leb 29 h.version g)
        (sym (shift_none r) ∙ judged-on (nothing no_mapping) (λ _. late_timers h.version) no_mapping (timers_late h k) (settled-ok (nothing no_mapping) no_mapping refl) refl e);
    marks = λ n f _. absurd (omega arith);
    kept = λ _. refl;
  }

  module _ {t : List ℕ} (g : h.version < 29) (w : Settled (name_mapping (free_in t)) (mapping_on h l)) where
    pub ending-refused : {u : List ℕ} {e : Fault} {p : ℕ} → MappingJudged t u (mapping_on h l) (refused e p) → EndingJudged t u h l k (refused e p)
    ending-refused x = record {
      judged = λ free same. rw (same g, lt-leb 29 h.version g) (judged-refused (name_mapping (free_in t)) (λ _. late_timers h.version) (mapping_on h l) (timers_late h k) w x.judged);
      marks = λ n _ f. not_done f;
      kept = λ f. absurd (omega arith);
    }

    pub ending-on : {u : List ℕ} {n : ℕ} {r q : Read Fault (Unit {0})} → MappingJudged t u (mapping_on h l) (done tt n) → r ≡ verdict_on (late_timers h.version) (timers_late h k)
        → q ≡ shift n (λ u. u) r → EndingJudged t u h l k q
    ending-on {n = n} x e f = record {
      judged = λ free same.
          f ∙ rw (same g, lt-leb 29 h.version g) (judged-on (name_mapping (free_in t)) (λ _. late_timers h.version) (mapping_on h l) (timers_late h k) w x.judged e);
      marks = λ _ _ _. x.marks n refl;
      kept = λ f. absurd (omega arith);
    }

-- ---- what follows the node data
pub name-mapping-settled : (free : ℕ → Bool) {s : List ℕ} {count : ℕ} (x : NameMapping) → Bytes s → x.timestamp < 4294967296 → Rows name_frame s count x.names → Settled (name_mapping free) x
name-mapping-settled free x b h w = settled (name-mapping-looser free) x (name-mapping-ok x b h w) not-ends

pub objects-ok : {s : List ℕ} {count : ℕ} {o : List ObjectRow} → Bytes s → Rows object_row s count o → objects.Ok o
unfolding objects
objects-ok {o = o} b w = (fixed-ok 1 0 fault.ObjectVersion (listed 2 λ _. object_row) o (lit< tt)).1 (rows_ok object_row b w)

pub objects-verdict_on : {s : List ℕ} {count : ℕ} {o : List ObjectRow} → Bytes s → Rows object_row s count o → Settled objects o × (done tt (3 + length s) ≡ verdict_on objects o)
objects-verdict_on {s} {count} {o} b w =
    let ok = objects-ok b w in
    let e : length (objects.encode o) ≡ 3 + length s = objects-rows-length o ∙ ap (λ (x : List ℕ). 3 + length x) (sym (rows-bytes object_row b w (λ _. object_row) (λ _. looser-self object_row))) in
    (settled-ok objects o ok, sym (verdict_on-ok objects o ok ∙ ap (done tt) e))

module _ (h : Head) (l : List NameRow) (m : List MetadataRow) (o : List ObjectRow) (k : List TimerRow) (sm : Settled (metadata h.version) (metadata_on h m)) where
  abbrev v : ℕ
  v = h.version

  abbrev list : MetadataList
  list = metadata_on h m

  abbrev early : Timers
  early = timers_early h k

  abbrev end : NameMapping × Timers
  end = (mapping_behind h l, timers_late h k)

  -- what is said of the pairs is said of the record
  rest-by : (free : ℕ → Bool) {r : Read Fault (Unit {0})} → r ≡ verdict_on (metadata v ▹ early_timers v ▹ objects ▹ ending free v) (list, (early, (o, end))) → r ≡ verdict_on (rest free v) (rest_on h l m o k)
  unfolding rest
  rest-by free e = e ∙ sym (verdict_on-into rest_shape (metadata v ▹ early_timers v ▹ objects ▹ ending free v) (rest_on h l m o k))

  pub rest-no-metadata : {t : List ℕ} {e : Fault} {p : ℕ} → refused e p ≡ verdict_on (metadata v) list → RestJudged t t h l m o k (refused e p)
  rest-no-metadata y = record {
    judged = λ free _. rest-by free (judged-refused (metadata v) (λ _. early_timers v ▹ objects ▹ ending free v) list (early, (o, end)) sm y);
    marks = λ n _ f. not_done f;
    kept = λ _. refl;
  }

  module _ {a : ℕ} (x : done tt a ≡ verdict_on (metadata v) list) (se : Settled (early_timers v) early) {r : Read Fault (Unit {0})} (y : r ≡ verdict_on (early_timers v) early) where
    pub rest-no-early : {t : List ℕ} {e : Fault} {p : ℕ} → refused e p ≡ shift a (λ u. u) r → RestJudged t t h l m o k (refused e p)
    rest-no-early {e = e} {p = p} f =
        let i = (shift-refused a (λ u. u) r e p (sym f)).1 in
        record {
          judged = λ free _.
              rest-by free (f
              ∙ judged-on (metadata v) (λ _. early_timers v ▹ objects ▹ ending free v) list (early, (o, end)) sm x
              (i ∙ judged-refused (early_timers v) (λ _. objects ▹ ending free v) early (o, end) se (sym i ∙ y)));
          marks = λ n _ g. not_done g;
          kept = λ _. refl;
        }

    module _ {b c : ℕ} (i : done tt b ≡ shift a (λ u. u) r) (so : Settled objects o × (done tt c ≡ verdict_on objects o)) where
      pub rest-on : {t u : List ℕ} {at : ℕ} {z q : Read Fault (Unit {0})} → at ≡ b + c → EndingJudged t u h l k z → q ≡ shift at (λ u. u) z → RestJudged t u h l m o k q
      rest-on {at = at} {z = z} e w f = let j = shift-done a (λ u. u) r tt b (sym i) in record {
        judged = λ free same.
            rest-by free (f ∙ ap (λ (n : ℕ). shift n (λ u. u) z) (e ∙ ap (λ (n : ℕ). n + c) (sym j.4)) ∙ shift-thrice a j.1 c z
            ∙ judged-on (metadata v) (λ _. early_timers v ▹ objects ▹ ending free v) list (early, (o, end)) sm x
            (judged-on (early_timers v) (λ _. objects ▹ ending free v) early (o, end) se (sym j.2 ∙ y)
            (judged-on objects (λ _. ending free v) o end so.0 so.1 (w.judged free same))));
        marks = λ n g i. let q = shift-done at (λ u. u) z tt n (sym f ∙ i) in w.marks q.1 g q.2;
        kept = w.kept;
      }

-- ---- up to the end of the node data
pub opening-ok : (h : Head) → h.version < 256 → h.flags < 256 → h.lighting < 65536 → is_version h.version ≡ true → head_fits h ≡ true → opening.Ok (opening_on h)
unfolding opening iso ◌⨾◌ refine number
opening-ok h a b c i f = ((a, i), (b, (since-ok u16 65535 h.lighting 27 h.version).1 ((λ _. c), unlit h f)))

opening-short : (h : Head) → h.version < 27 → length (opening.encode (opening_on h)) ≡ 2
unfolding opening iso ◌⨾◌ refine nothing
opening-short h k = rw (lt-leb 27 h.version k, length-append, length-append, num-length 1 h.version, num-length 1 h.flags)

opening-long : (h : Head) → length (opening.encode (opening_on h)) ≡ opening_length h.version
opening-long h = either 27 h.version (λ k. rw (le-leb 27 h.version k) (opening-length (opening_on h) k)) (λ k. rw (lt-leb 27 h.version k) (opening-short h k))

nodes-verdict_on : (v : ℕ) (n : Nodes) → (nodes v).Ok n → done tt (2 + lists_length v) ≡ verdict_on (nodes v) n
nodes-verdict_on v n ok = sym (verdict_on-ok (nodes v) n ok ∙ ap (done tt) (nodes-done v ((nodes v).encode n) ((every-format (nodes v)).reads-back n ok)).0)

module _ (h : Head) (l : List NameRow) (n : Nodes) (ok : opening.Ok (opening_on h)) (nk : (nodes h.version).Ok n) where
  abbrev behind_opening : (ℕ → Bool) → BlockFormat (NameMapping × Nodes)
  behind_opening free = only (since 29 h.version) no_mapping (name_mapping free) ▹ nodes h.version

  -- k bytes of step 1
  front_by : (free : ℕ → Bool) {k : ℕ} (r : Read Fault (Unit {0})) → k ≡ opening_length h.version → r ≡ verdict_on (behind_opening free) (mapping_front h l, n)
      → shift k (λ u. u) r ≡ verdict_on (front free) (front_on h l n)
  unfolding front
  front_by free r e z =
      ap (λ (i : ℕ). shift i (λ u. u) r) (e ∙ sym (opening-long h))
      ∙ judged-on opening (λ o. only (since 29 o.version) no_mapping (name_mapping free) ▹ nodes o.version) (opening_on h) (mapping_front h l, n) (settled-ok opening (opening_on h) ok) (sym (verdict_on-ok opening (opening_on h) ok)) z
      ∙ sym (verdict_on-into front_shape (opening ⨾ λ o. only (since 29 o.version) no_mapping (name_mapping free) ▹ nodes o.version) (front_on h l n))

  module _ {k d : ℕ} (e : k ≡ opening_length h.version) (f : d ≡ lists_length h.version) where
    lists-verdict_on : done tt (2 + d) ≡ verdict_on (nodes h.version) n
    lists-verdict_on = ap (λ (i : ℕ). done tt (2 + i)) f ∙ nodes-verdict_on h.version n nk

    pub front-plain : {t : List ℕ} → h.version < 29 → FrontJudged t t h l n (done tt (k + (2 + d)))
    unfolding nothing
    front-plain {t} g = record {
      judged = front_by (free_in t) (done tt (2 + d)) e (rw (lt-leb 29 h.version g)
          (sym (shift_none (done tt (2 + d))) ∙ judged-on (nothing no_mapping) (λ _. nodes h.version) no_mapping n (settled-ok (nothing no_mapping) no_mapping refl) refl lists-verdict_on));
      marks = λ _ f _. absurd (omega arith);
      kept = λ _. refl;
    }

    module _ {t u : List ℕ} (g : 29 ≤ h.version) (w : Settled (name_mapping (free_in t)) (mapping_on h l)) {z : Read Fault (Unit {0})} (x : MappingJudged t u (mapping_on h l) z) where
      pub front-refused : {i : Fault} {p : ℕ} → refused i p ≡ shift k (λ u. u) z → FrontJudged t u h l n (refused i p)
      front-refused {i} {p} y =
          let o = shift-refused k (λ u. u) z i p (sym y) in
          record {
            judged =
                y ∙ ap (shift k (λ u. u)) o.1
                ∙ front_by (free_in t) (refused i o.0) e (rw (le-leb 29 h.version g) (judged-refused (name_mapping (free_in t)) (λ _. nodes h.version) (mapping_on h l) n w (sym o.1 ∙ x.judged)));
            marks = λ _ _ r. not_done r;
            kept = λ r. absurd (omega arith);
          }

      pub front-named : {m : ℕ} → done tt m ≡ shift k (λ u. u) z → FrontJudged t u h l n (done tt (m + (2 + d)))
      front-named {m} y =
          let o = shift-done k (λ u. u) z tt m (sym y) in
          record {
            judged =
                ap (λ (i : ℕ). done tt (i + (2 + d))) (sym o.4) ∙ ap (done tt) (add_assoc k o.1 (2 + d))
                ∙ front_by (free_in t) (done tt (o.1 + (2 + d))) e (rw (le-leb 29 h.version g) (judged-on (name_mapping (free_in t)) (λ _. nodes h.version) (mapping_on h l) n w (sym o.2 ∙ x.judged) lists-verdict_on));
            marks = λ _ _ _. x.marks o.1 o.2;
            kept = λ r. absurd (omega arith);
          }

-- ---- the whole
module _ (b : Block) (w : Settled (block all) b) where
  abbrev bytes : List ℕ
  bytes = (block all).encode b

  pub block-verdict_on : verdict_on (steps all) (pieces_of b) ≡ verdict_on (block all) b
  unfolding block iso
  block-verdict_on = sym (ended-map _ ((steps all).read ((steps all).encode (pieces_of b))))

  pub verdict_on-refused : {e : Fault} {p : ℕ} → refused e p ≡ verdict_on (block all) b → refused e p ≡ ended (verdict all bytes)
  verdict_on-refused h = ap ended (verdict-refused all bytes (ended-refused ((block all).read bytes) h)) ∙ ended-map scanned_of (verdict all bytes)

  module _ {n : ℕ} (h : done tt n ≡ verdict_on (block all) b) where
    whole : ((block all).read bytes ≡ done b n) × (n ≡ length bytes)
    whole =
        let x = ended-done ((block all).read bytes) h in
        let y = w.itself x.0 n x.1 in
        (x.1 ∙ ap (λ (c : Block). done c n) y.0, y.1)

    pub verdict_on-first_unmapped : {i : ℕ} → first_unmapped all b ≡ some i → refused fault.IdUnmapped (param0_at b i) ≡ ended (verdict all bytes)
    verdict_on-first_unmapped k = ap ended (verdict-first_unmapped all bytes whole.0 whole.1 k) ∙ ended-map scanned_of (verdict all bytes)

    pub verdict_on-done : first_unmapped all b ≡ none → done tt n ≡ ended (verdict all bytes)
    verdict_on-done k = ap ended (verdict-done all bytes whole.0 whole.1 k) ∙ ended-map scanned_of (verdict all bytes)

-- ---- lengths that fit
pub opening-few : (v : ℕ) → opening_length v ≤ 4
opening-few v = either 27 v (λ k. rw (le-leb 27 v k) (omega arith)) (λ k. rw (lt-leb 27 v k) (omega arith))

pub lists-few : (v : ℕ) → lists_length v ≤ 16384
lists-few v = omega (arith, (width-range v).1)

pub same_end : {k n m : ℕ} → ◌≡◌ {A = Read Fault (Unit {0})} (done tt k) (done tt n) → m ≤ k → m ≤ n
same_end {k} {n} e f = let z : k ≡ n = cc in omega arith
