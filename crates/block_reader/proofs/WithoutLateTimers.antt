-- What the scan has found before the late timers is what the block's definition tells.
use Prim.Native.Nat.{ℕ, ◌+◌, ◌-◌, ◌<◌, ◌≤◌}
use mathlib.Core.Path.{◌≡◌, refl, ap, sym, subst, ◌∙◌}
use mathlib.Core.List.{List, []}
use mathlib.Core.Bool.{Bool, true, false, cond}
use native.Mathlib.Omega.{arith}
use lib.Dec.{leb}
use lib.ListN.{length, drop, length-append, length-drop}
use borrow.Author.Tests.{le-leb, lt-leb, leb-true, leb-false}
use Rattle.wire.specs.Bytes.{Bytes, bytes_drop}
use Rattle.wire.specs.Read.{done, map-done}
use Rattle.wire.specs.Format.{nothing, ◌⨾◌, iso, encode_items, ends-in}
use Rattle.wire.specs.Formats.{only, ◌▹◌}
use Rattle.mapblock.specs.Data.{Opening, NameMapping, Timers, Front, no_mapping, no_timers}
use Rattle.mapblock.specs.Layout.{since, all, unmapped, name_row, metadata_row, object_row, timer_row, opening, name_mapping, nodes, metadata, has_timers, early_timers, objects, late_timers, front}
use Rattle.wire.specs.Ranges.{range_at}
use Rattle.block_reader.specs.Sections.{sections, scanned_of}
use Rattle.block_reader.specs.Scan.{FrontIs, MiddleIs, MiddleRows, middle_shape, middle, metadata_head, early_head, without_late_timers, with_late_timers_at, ReadUpTo}
use Rattle.mapblock.specs.Table.{free_in, Tabled, NamesMarked}
use Rattle.mapblock.specs.declared.head.Head.{Head}
use Rattle.wire.specs.declared.ranges.Range.{Range}
use Rattle.block_reader.specs.declared.scan.FrontFields.{FrontFields}
use Rattle.block_reader.specs.declared.scan.MiddleFields.{MiddleFields}
use Rattle.block_reader.specs.declared.scan.Scanned.{Scanned}
use Rattle.block_reader.proofs.ListLengths.{then-parts, name-mapping-same, name-mapping-length, name-mapping-rows-length, metadata-rows-length, objects-rows-length, AtEnd, early-none, early-length, early-rows, late-rows-length, late-byte}
use Rattle.block_reader.proofs.Fronts.{opening-length, front_of}
use Rattle.block_reader.proofs.ReadUpTo.{with_late_timers, reads-new, reads_old}

-- ---- equal field by field
part-is : (a b n m : ℕ) → a ≡ b → n ≡ m → range_at a n ≡ range_at b m
part-is a b n m p q = rw (p, q)

abbrev made : Head → ℕ → Range → Range → Range → Range → Scanned
made h l a b c d = record { head = h; lists = l; sections = record { names = a; metadata = b; objects = c; timers = d } }

made-is : (h k : Head) (l m : ℕ) (a e b f c g d i : Range) → h ≡ k → l ≡ m → a ≡ e → b ≡ f → c ≡ g → d ≡ i → made h l a b c d ≡ made k m e f g i
made-is h k l m a e b f c g d i p q r s t u = rw (p, q, r, s, t, u)

abbrev head_of : FrontFields → ℕ → ℕ → ℕ → Head
head_of w time timer form = record { version = w.version; flags = w.flags; lighting = w.lighting; timestamp = time; timer = timer; form = form }

head-is : (w : FrontFields) (a b c d e f : ℕ) → a ≡ b → c ≡ d → e ≡ f → head_of w a c e ≡ head_of w b d f
head-is w a b c d e f p q r = rw (p, q, r)

-- ---- short lists
early-empty : (v : ℕ) (k : Timers) → 25 ≤ v → length ((early_timers v).encode k) ≡ 0
unfolding early_timers nothing
early-empty v k h = rw (le-leb 25 v h)

module _ {t u s : List ℕ} {w : FrontFields} (F : FrontIs t u s w) where
  abbrev v : ℕ
  v = w.version

  abbrev o : Opening
  o = record { version = w.version; flags = w.flags; lighting = w.lighting }

  -- the front, with the fields that were told
  abbrev x : Front
  x = front_of o F.x.mapping F.x.nodes

  pub front_read : (front (free_in t)).read s ≡ done x w.end
  front_read = F.reads ∙ ap (λ (q : Opening). done (front_of q F.x.mapping F.x.nodes) w.end) F.opened

  module _ {m : MiddleFields} (M : MiddleIs w.version (drop w.end s) m) (b : Bytes s) where
    abbrev y : MiddleRows
    y = M.x

    abbrev middle_end : ℕ
    middle_end = w.end + m.metadata + m.early + m.objects

    pub middle-inside : middle_end ≤ length s
    middle-inside = omega (arith, ends-in (middle v) M.reads, length-drop w.end s, ends-in (front (free_in t)) F.reads)

    -- ---- lengths
    abbrev A : ℕ
    A = length (opening.encode o)

    abbrev S : ℕ
    S = length ((name_mapping all).encode x.mapping)

    abbrev N : ℕ
    N = length ((nodes v).encode x.nodes)

    lists_at_lem : w.lists ≡ A + cond (since 29 v) S 0 + 2
    lists_at_lem = rw F.opened at F.at

    only_same : (c : Bool) → length ((only c no_mapping (name_mapping (free_in t))).encode x.mapping) ≡ cond c S 0
    unfolding nothing
    only_same true = ap (length {A = ℕ}) (name-mapping-same (free_in t) x.mapping)
    only_same false = refl

    front-takes : w.end ≡ A + (cond (since 29 v) S 0 + N)
    unfolding front iso ◌⨾◌
    front-takes = ((front (free_in t)).backward s x w.end b front_read).ends ∙ rw (length-append, length-append, only_same (since 29 v))

    -- the metadata and the early timers that were read
    middle-parts : (i : ℕ) × (j : ℕ) × ((early_timers v).read (drop i (drop w.end s)) ≡ done y.early j) × ((metadata v).read (drop w.end s) ≡ done y.metadata i)
    unfolding iso
    middle-parts =
        let l = drop w.end s in
        let r = map-done middle_shape.make ((metadata v ▹ early_timers v ▹ objects).read l) y _ M.reads in
        let p = then-parts (metadata v) (λ _. early_timers v ▹ objects) l r.1 in
        let q = then-parts (early_timers v) (λ _. objects) (drop p.0 l) p.3 in
        (p.0, q.0, q.2 ∙ ap (λ (z : MiddleRows). done z.early q.0) r.2, p.2 ∙ ap (λ (z : MiddleRows). done z.metadata p.0) r.2)

    timer-none : 25 ≤ v → m.timer ≡ 0
    timer-none h =
        let p = middle-parts in
        let z : done no_timers 0 ≡ done y.early p.1 = sym (early-none v _ h) ∙ p.2 in
        let e : no_timers ≡ y.early = cc in
        sym M.timer ∙ ap (λ (k : Timers). k.byte) (sym e)

    -- version 24's rows stand at the end of what follows the metadata
    early-at-end : (length (encode_items timer_row [] y.early.rows) ≡ m.early - early_head m) × (early_head m ≤ m.early)
    early-at-end =
        let p = middle-parts in
        let l = drop p.0 (drop w.end s) in
        let c : Bytes l = bytes_drop p.0 (drop w.end s) (bytes_drop w.end s b) in
        let j : p.1 ≡ m.early = early-length v l p.2 c ∙ sym M.second in
        let a : AtEnd y.early m.early = rw j at (early-rows v l p.2 c) in
        subst (λ (q : ℕ). (length (encode_items timer_row [] y.early.rows) ≡ m.early - cond (has_timers q) 3 m.early) × (cond (has_timers q) 3 m.early ≤ m.early)) M.timer a

    pub early-fits : early_head m ≤ m.early
    early-fits = early-at-end.1

    pub metadata-takes : m.metadata ≡ metadata_head v m.form + length (encode_items (metadata_row v) [] y.metadata.rows)
    metadata-takes =
        let p = middle-parts in
        let ok = ((metadata v).backward (drop w.end s) y.metadata p.0 (bytes_drop w.end s b) p.3).ok in
        M.first ∙ metadata-rows-length v y.metadata ok ∙ ap (λ (f : ℕ). metadata_head v f + length (encode_items (metadata_row v) [] y.metadata.rows)) M.form

    metadata-part : (at n : ℕ) → at ≡ w.end → n ≡ length (encode_items (metadata_row v) [] y.metadata.rows)
        → range_at (at + length ((metadata v).encode y.metadata) - n) n ≡ range_at (w.end + metadata_head v m.form) (m.metadata - metadata_head v m.form)
    metadata-part at n p q = part-is _ _ _ _ (omega (arith, M.first, metadata-takes)) (omega (arith, metadata-takes))

    objects-part : (at n : ℕ) → at ≡ w.end + m.metadata + m.early → n ≡ length (encode_items (λ _. object_row) [] y.objects)
        → range_at (at + length (objects.encode y.objects) - n) n ≡ range_at (w.end + m.metadata + m.early + 3) (m.objects - 3)
    objects-part at n p q =
        let l = objects-rows-length y.objects in
        part-is _ _ _ _ (omega (arith, M.third)) (omega (arith, M.third))

    late-part : (at end n : ℕ) (k : Timers) → 25 ≤ v → (late_timers v).read (drop at s) ≡ done k n → end ≡ at
        → range_at (end + length ((late_timers v).encode k) - length (encode_items timer_row [] k.rows)) (length (encode_items timer_row [] k.rows)) ≡ range_at (at + 3) (n - 3)
    late-part at end n k h r e =
        let l = late-rows-length v k h in
        let z = ((late_timers v).backward (drop at s) k n (bytes_drop at s b) r).ends in
        part-is _ _ _ _ (omega arith) (omega arith)

    -- ---- version 29
    module _ (h : 29 ≤ v) where
      abbrev scanned_new : Scanned
      scanned_new = without_late_timers w m w.timestamp (range_at (4 + 7) (w.lists - 6 - 7))

      opens-four : A ≡ 4
      opens-four = opening-length o (omega arith)

      lists-new : w.lists ≡ A + S + 2
      lists-new = rw (le-leb 29 v h) at lists_at_lem

      end-new : w.end ≡ A + (S + N)
      end-new = rw (le-leb 29 v h) at front-takes

      pub names-room : 13 ≤ w.lists
      names-room = omega (arith, lists-new, opens-four, name-mapping-rows-length x.mapping)

      shows-new : (k : Timers) (n : ℕ) → (late_timers v).read (drop middle_end s) ≡ done k n
          → scanned_of (with_late_timers (free_in t) s front_read M.reads no_mapping k) ≡ with_late_timers_at scanned_new middle_end n
      unfolding sections
      shows-new k n r =
          let h25 : 25 ≤ v = omega arith in
          let rows = name-mapping-rows-length x.mapping in
          let none = early-empty v y.early h25 in
          rw (le-leb 29 v h, le-leb 25 v h25)
          (made-is _ _ _ _ _ _ _ _ _ _ _ _
          (head-is w _ _ _ _ _ _ F.time (late-byte v (drop middle_end s) h25 r ∙ sym (timer-none h25)) M.form)
          (sym lists-new)
          (part-is _ _ _ _ (omega (arith, lists-new, opens-four)) (omega (arith, lists-new, opens-four)))
          (metadata-part _ _ (omega (arith, end-new)) refl)
          (objects-part _ _ (omega (arith, end-new, M.first, M.second)) refl)
          (late-part middle_end _ n k h25 r (omega (arith, end-new, M.first, M.second, M.third))))

      marked-new : (k : Timers) → Tabled 65536 (unmapped (free_in t) (with_late_timers (free_in t) s front_read M.reads no_mapping k).names) u
      marked-new k = rw (le-leb 29 v h) F.marked.tabled

      pub upto_new : ReadUpTo (free_in t) s scanned_new middle_end u
      upto_new = record {
        with = with_late_timers (free_in t) s front_read M.reads no_mapping;
        reads = reads-new (free_in t) s front_read M.reads middle_end h (omega arith);
        shows = shows-new;
        version = λ k. refl;
        nodes = λ k. F.nodes;
        marked = marked-new;
        long = omega (arith, F.ends);
        inside = middle-inside;
      }

    -- ---- before version 29
    module _ (h : v < 29) where
      -- no names in front, so the table is as it was
      no-front-names : F.x.mapping ≡ no_mapping
      unfolding front iso ◌⨾◌ nothing
      no-front-names = rw (lt-leb 29 v h) at ((front (free_in t)).backward s x w.end b front_read).ok.1.0

      pub same-table : u ≡ t
      same-table = rw no-front-names at F.marked.undone

      lists-old : w.lists ≡ A + 0 + 2
      lists-old = rw (lt-leb 29 v h) at lists_at_lem

      end-old : w.end ≡ A + (0 + N)
      end-old = rw (lt-leb 29 v h) at front-takes

      module _ (sv : NameMapping) (n : ℕ) (r : (name_mapping (free_in t)).read (drop middle_end s) ≡ done sv n) where
        abbrev scanned_old : Scanned
        scanned_old = without_late_timers w m sv.timestamp (range_at (middle_end + 7) (n - 7))

        abbrev old_end : ℕ
        old_end = middle_end + n

        name-mapping-there : (name_mapping (free_in t)).read (drop (w.end + (m.metadata + (m.early + m.objects))) s) ≡ done sv n
        name-mapping-there = let z : w.end + (m.metadata + (m.early + m.objects)) ≡ middle_end = omega arith in rw z r

        takes : n ≡ 7 + length (encode_items (name_row all) [] sv.names)
        takes = name-mapping-length (free_in t) (drop middle_end s) r (bytes_drop middle_end s b) ∙ name-mapping-rows-length sv

        name-mapping-takes : n ≡ length ((name_mapping all).encode sv)
        name-mapping-takes = name-mapping-length (free_in t) (drop middle_end s) r (bytes_drop middle_end s b)

        -- the timers of version 24
        early-part : (at : ℕ) → v < 25 → at ≡ w.end + m.metadata
            → range_at (at + length ((early_timers v).encode y.early) - length (encode_items timer_row [] y.early.rows)) (length (encode_items timer_row [] y.early.rows))
            ≡ range_at (w.end + m.metadata + early_head m) (m.early - early_head m)
        early-part at l e =
            let c = early-at-end in
            part-is _ _ _ _ (omega (arith, M.second, c.0, c.1)) c.0

        shows-late : 25 ≤ v → (k : Timers) (i : ℕ) → (late_timers v).read (drop old_end s) ≡ done k i
            → scanned_of (with_late_timers (free_in t) s front_read M.reads sv k) ≡ with_late_timers_at scanned_old old_end i
        unfolding sections
        shows-late h25 k i q =
            let none = early-empty v y.early h25 in
            rw (lt-leb 29 v h, le-leb 25 v h25)
            (made-is _ _ _ _ _ _ _ _ _ _ _ _
            (head-is w _ _ _ _ _ _ refl (late-byte v (drop old_end s) h25 q ∙ sym (timer-none h25)) M.form)
            (sym lists-old)
            (part-is _ _ _ _ (omega (arith, end-old, M.first, M.second, M.third, takes, name-mapping-takes)) (omega (arith, takes)))
            (metadata-part _ _ (omega (arith, end-old)) refl)
            (objects-part _ _ (omega (arith, end-old, M.first, M.second)) refl)
            (late-part old_end _ i k h25 q (omega (arith, end-old, M.first, M.second, M.third, name-mapping-takes))))

        shows-early : v < 25 → (k : Timers) (i : ℕ) → (late_timers v).read (drop old_end s) ≡ done k i
            → scanned_of (with_late_timers (free_in t) s front_read M.reads sv k) ≡ with_late_timers_at scanned_old old_end i
        unfolding sections
        shows-early l k i q =
            rw (lt-leb 29 v h, lt-leb 25 v l)
            (made-is _ _ _ _ _ _ _ _ _ _ _ _
            (head-is w _ _ _ _ _ _ refl M.timer M.form)
            (sym lists-old)
            (part-is _ _ _ _ (omega (arith, end-old, M.first, M.second, M.third, takes, name-mapping-takes)) (omega (arith, takes)))
            (metadata-part _ _ (omega (arith, end-old)) refl)
            (objects-part _ _ (omega (arith, end-old, M.first, M.second)) refl)
            (early-part _ l (omega (arith, end-old, M.first))))

        shows-old : (c : Bool) → leb 25 v ≡ c → (k : Timers) (i : ℕ) → (late_timers v).read (drop old_end s) ≡ done k i
            → scanned_of (with_late_timers (free_in t) s front_read M.reads sv k) ≡ with_late_timers_at scanned_old old_end i
        shows-old true e = shows-late (leb-true 25 v e)
        shows-old false e = shows-early (leb-false 25 v e)

        marked-old : (z : List ℕ) → NamesMarked t z sv.names → (k : Timers)
            → Tabled 65536 (unmapped (free_in t) (with_late_timers (free_in t) s front_read M.reads sv k).names) z
        marked-old z g k = rw (lt-leb 29 v h) g.tabled

        pub upto-old : (z : List ℕ) → NamesMarked t z sv.names → ReadUpTo (free_in t) s scanned_old old_end z
        upto-old z g = record {
          with = with_late_timers (free_in t) s front_read M.reads sv;
          reads = reads_old (free_in t) s front_read M.reads old_end h name-mapping-there (omega arith);
          shows = shows-old (leb 25 v) refl;
          version = λ k. refl;
          nodes = λ k. F.nodes;
          marked = marked-old z g;
          long = omega (arith, F.ends);
          inside = omega (arith, middle-inside, ends-in (name_mapping (free_in t)) r, length-drop middle_end s);
        }
