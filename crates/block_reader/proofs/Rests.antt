-- What follows the node data: the steps of the scan's last functions, over plain variables.
use Prim.Native.Nat.{ℕ, ◌+◌, ◌-◌, ◌<◌, ◌≤◌}
use mathlib.Core.Path.{◌≡◌, ap, sym, subst, ◌∙◌}
use mathlib.Core.List.{List}
use native.Mathlib.Omega.{arith}
use lib.ListN.{length, drop, length-drop}
use lib.Seq.{drop-drop}
use Rattle.wire.specs.Bytes.{Bytes}
use Rattle.wire.specs.Read.{done, refused, map_read, map-done, map-refused}
use Rattle.wire.specs.Format.{ends-in}
use Rattle.mapblock.specs.Data.{NameMapping}
use Rattle.mapblock.specs.Layout.{name_mapping, front}
use Rattle.mapblock.specs.Block.{verdict}
use Rattle.wire.specs.Ranges.{range_at, InReach}
use Rattle.block_reader.specs.Sections.{scanned_of}
use Rattle.block_reader.specs.Scan.{FrontIs, MiddleIs, middle, Sized, without_late_timers, ReadUpTo}
use Rattle.mapblock.specs.Table.{free_in, unmarked, front_rows, NamesMarked, NameMappingMarked}
use Rattle.mapblock.specs.Told.{shown_mapping, names_head}
use Rattle.mapblock.specs.declared.fault.Fault.{Fault}
use Rattle.block_reader.specs.declared.scan.FrontFields.{FrontFields}
use Rattle.block_reader.specs.declared.scan.MiddleFields.{MiddleFields}
use Rattle.block_reader.proofs.ListLengths.{name-mapping-rows, restored, objects-rows-length}
use Rattle.block_reader.proofs.ReadUpTo.{block-no-middle, block-no-names}
use Rattle.block_reader.proofs.WithoutLateTimers.{front_read, middle-inside, metadata-takes, early-fits, same-table, upto-old}
use Rattle.block_reader.proofs.Verdicts.{verdict-refused}
use Rattle.mapblock.specs.declared.names.NamesHead.{NamesHead}

module _ {t u s : List ℕ} {w : FrontFields} (F : FrontIs t u s w) where
  pub front-inside : w.end ≤ length s
  front-inside = ends-in (front (free_in t)) F.reads

  pub no_middle : {f : Fault} {p : ℕ} → (middle w.version).read (drop w.end s) ≡ refused f p
      → refused f (w.end + p) ≡ map_read scanned_of (verdict (free_in t) s)
  no_middle k = verdict-refused (free_in t) s (block-no-middle (free_in t) s (front_read F) k)

  module _ {m : MiddleFields} (M : MiddleIs w.version (drop w.end s) m) (b : Bytes s) where
    abbrev at : ℕ
    at = w.end + m.metadata + m.early + m.objects

    pub sized : InReach (length s) → Sized w m
    sized l = record {
      metadata = omega (arith, metadata-takes F M b);
      early = early-fits F M b;
      objects = omega (arith, M.third, objects-rows-length M.x.objects);
      fits = omega (arith, middle-inside F M b);
    }

    module _ (h : w.version < 29) where
      pub no_names : {f : Fault} {p : ℕ} → refused f p ≡ map_read shown_mapping ((name_mapping (free_in u)).read (drop at s))
          → refused f (at + p) ≡ map_read scanned_of (verdict (free_in t) s)
      no_names {f} {p} k =
          let r = subst (λ (l : List ℕ). (name_mapping (free_in l)).read (drop at s) ≡ refused f p) (same-table F M b h) (map-refused shown_mapping ((name_mapping (free_in u)).read (drop at s)) f p (sym k)) in
          let z : w.end + (m.metadata + (m.early + m.objects)) ≡ at = omega arith in
          ap (λ (i : ℕ). refused f (i + p)) (sym z)
          ∙ verdict-refused (free_in t) s (block-no-names (free_in t) s (front_read F) M.reads h (rw z r))

      module _ {time count n : ℕ} (k : done (names_head time count) n ≡ map_read shown_mapping ((name_mapping (free_in u)).read (drop at s))) where
        name-mapping-is : (sv : NameMapping) × ((name_mapping (free_in u)).read (drop at s) ≡ done sv n) × (shown_mapping sv ≡ names_head time count)
        name-mapping-is = map-done shown_mapping ((name_mapping (free_in u)).read (drop at s)) (names_head time count) n (sym k)

        pub names-long : (7 ≤ n) × (at + n ≤ length s)
        names-long =
            let x = name-mapping-is in (
              omega (arith, (name-mapping-rows (free_in u) (drop at s) x.1).2),
              omega (arith, ends-in (name_mapping (free_in u)) x.1, length-drop at s, middle-inside F M b),
            )

        module _ (z : List ℕ) (g : NameMappingMarked u z ((name_mapping (free_in u)).read (drop at s))) where
          marks : NamesMarked u z name-mapping-is.0.names
          marks = rw name-mapping-is.1 at g

          pub names-upto : ReadUpTo (free_in t) s (without_late_timers w m time (range_at (at + 7) (n - 7))) (at + n) z
          names-upto =
              let x = name-mapping-is in
              let q = same-table F M b h in
              let e : x.0.timestamp ≡ time = ap (λ (y : NamesHead). y.timestamp) x.2 in
              let r = upto-old F M b h x.0 n (subst (λ (l : List ℕ). (name_mapping (free_in l)).read (drop at s) ≡ done x.0 n) q x.1) z
              (subst (λ (l : List ℕ). NamesMarked l z x.0.names) q marks) in
              rw (← e) r

          pub names-restored : unmarked z (front_rows count (drop (at + 7) s)) ≡ u
          names-restored =
              let x = name-mapping-is in
              let c : length x.0.names ≡ count = ap (λ (y : NamesHead). y.count) x.2 in
              rw (← c, ← drop-drop 7 at s) (restored u z (drop at s) x.1 marks)
