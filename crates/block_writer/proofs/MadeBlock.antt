-- The block that parts make: what the reader says of its bytes is said of it, whatever follows them.
use Prim.Native.Nat.{ℕ}
use mathlib.Core.Path.{◌≡◌, refl, ap, sym, subst, ◌∙◌}
use mathlib.Core.Option.{Option, some, none, none-ne-some}
use mathlib.Core.List.{List}
use mathlib.Core.Bool.{Bool, true, false, cond}
use native.Mathlib.Omega.{arith}
use lib.Dec.{lit<}
use lib.ListN.{length}
use borrow.Author.Tests.{le-leb, lt-leb}
use Rattle.wire.specs.Bytes.{Bytes}
use Rattle.wire.specs.Read.{map_read, map-done}
use Rattle.wire.specs.Format.{nothing, ◌⨾◌, iso}
use Rattle.wire.specs.Formats.{◌▹◌, listed, only, into}
use Rattle.wire.proofs.Looser.{Looser, Settled, looser-self, looser-then, looser-iso, looser-cond, settled}
use Rattle.mapblock.specs.Inventory.{BlockFormat}
use Rattle.mapblock.specs.Data.{NameRow, MetadataRow, ObjectRow, TimerRow, Front, Rest, Steps, Block, no_mapping, front_shape, rest_shape, steps_shape}
use Rattle.mapblock.specs.Layout.{since, before, all, is_version, object_row, opening, nodes, objects, front, rest, steps}
use Rattle.mapblock.specs.Block.{block, block_from, pieces_of, built-pieces}
use Rattle.mapblock.specs.declared.fault.Fault.TheVariants as fault
use Rattle.mapblock.specs.Valid.{NodesGood}
use Rattle.mapblock.specs.declared.head.Head.{Head}
use Rattle.block_reader.proofs.ValidOk.{nodes-ok, slot_ok}
use Rattle.mapblock.proofs.GoodRows.{either, fixed-ok}
use Rattle.block_writer.specs.Frames.{name_frame, metadata_frame, timer_frame, section_rows}
use Rattle.block_writer.specs.BlockParts.{BlockParts, head_fits, fits, given, made, rows_made, block_made, WellTyped}
use Rattle.block_writer.specs.Judging.{mapping_on, mapping_front, mapping_behind, timers_late}
use Rattle.block_writer.specs.Sections.{Rows, SectionRows}
use Rattle.block_writer.specs.declared.counts.RowCounts.{RowCounts}
use Rattle.block_writer.proofs.Framed.{ValueFault, not-ends, saved_frame, metadata_list_frame, early_frame, late_frame, looser-both, name-mapping-looser, metadata-list-looser, early-looser, late-looser}
use Rattle.block_writer.proofs.RowsJudging.{rows_ok, name-mapping-ok}
use Rattle.block_writer.proofs.Fitting.{Fitting, fits-plain, fits-head_fits, fits-formed, fits-timed}
use Rattle.block_writer.proofs.TimersJudging.{early-ok}
use Rattle.block_writer.proofs.BlockJudging.{opening-ok, objects-ok}
use Rattle.block_writer.proofs.MetadataJudging.{metadata-ok}

-- ---- taken apart
-- b is the block that p makes
pub record MadeOf (p : BlockParts) (b : Block) : Type 0 where
  pub fitting : Fitting p
  pub names : Rows name_frame p.names (length b.names) b.names
  pub metadata : Rows (metadata_frame p.head.version) p.metadata (length b.metadata) b.metadata
  pub objects : Rows object_row p.objects (length b.objects) b.objects
  pub timers : Rows timer_frame p.timers (length b.timers) b.timers
  pub same : made p b.names b.metadata b.objects b.timers ≡ b

given-some : {A B : Type 0} (o : Option A) (f : A → Option B) {b : B} → given o f ≡ some b → (a : A) × (o ≡ some a) × (f a ≡ some b)
given-some none f {b} h = absurd (none-ne-some b h)
given-some (some a) f h = (a, refl, h)

cond-some : {A : Type 0} (c : Bool) (o : Option A) {a : A} → cond c o none ≡ some a → (c ≡ true) × (o ≡ some a)
cond-some true o h = (refl, h)
cond-some false o {a} h = absurd (none-ne-some a h)

pub made_of : (p : BlockParts) (b : Block) → block_made p ≡ some b → MadeOf p b
unfolding block_made
made_of p b h =
    let x = cond-some (fits p) (rows_made p) h in
    let n = given-some (section_rows name_frame p.names) _ x.1 in
    let m = given-some (section_rows (metadata_frame p.head.version) p.metadata) _ n.2 in
    let o = given-some (section_rows object_row p.objects) _ m.2 in
    let t = given-some (section_rows timer_frame p.timers) _ o.2 in
    let e : made p n.0 m.0 o.0 t.0 ≡ b = cc in
    subst (MadeOf p) e record {
      fitting = (fits-plain p).0 x.0;
      names = record { are = n.1; many = refl };
      metadata = record { are = m.1; many = refl };
      objects = record { are = o.1; many = refl };
      timers = record { are = t.1; many = refl };
      same = refl;
    }

pub of-made : (p : BlockParts) (b : Block) → MadeOf p b → block_made p ≡ some b
unfolding block_made
of-made p b m = rw ((fits-plain p).1 m.fitting, m.names.are, m.metadata.are, m.objects.are, m.timers.are, m.same)

-- ---- the eight steps, with frames for rows
abbrev pub front_frame : BlockFormat Front
front_frame = into front_shape (opening ⨾ λ o. only (since 29 o.version) no_mapping saved_frame ▹ nodes o.version)

abbrev pub rest_frame : ℕ → BlockFormat Rest
rest_frame v = into rest_shape (metadata_list_frame v ▹ early_frame v ▹ objects ▹ only (before 29 v) no_mapping saved_frame ▹ late_frame v)

abbrev pub steps_frame : BlockFormat Steps
steps_frame = into steps_shape (front_frame ⨾ λ f. rest_frame f.opening.version)

module _ (free : ℕ → Bool) where
  pub front-looser : Looser ValueFault (front free) front_frame
  unfolding front
  front-looser =
      looser-iso _ _ _ _ _ _
      (looser-then opening opening _ _ (looser-self opening)
      (λ o. looser-both (looser-cond (since 29 o.version) (name-mapping-looser free) (looser-self _)) (looser-self (nodes o.version))))
      _ _ _ _

  pub rest-looser : (v : ℕ) → Looser ValueFault (rest free v) (rest_frame v)
  unfolding rest
  rest-looser v =
      looser-iso _ _ _ _ _ _
      (looser-both (metadata-list-looser v)
      (looser-both (early-looser v)
      (looser-both (looser-self objects)
      (looser-both (looser-cond (before 29 v) (name-mapping-looser free) (looser-self _))
      (late-looser v)))))
      _ _ _ _

  pub steps-looser : Looser ValueFault (steps free) steps_frame
  unfolding steps
  steps-looser =
      looser-iso _ _ _ _ _ _
      (looser-then (front free) front_frame (λ f. rest free f.opening.version) (λ f. rest_frame f.opening.version) front-looser (λ f. rest-looser f.opening.version))
      _ _ _ _

-- ---- the pieces of the block can be written, but for their values
module _ (p : BlockParts) (b : Block) (held : WellTyped p) (version : is_version p.head.version ≡ true) (m : MadeOf p b) where
  abbrev v : ℕ
  v = p.head.version

  abbrev h : Head
  h = p.head

  fit : Fitting p
  fit = m.fitting

  carry : head_fits h ≡ true
  carry = fits-head_fits p ((fits-plain p).1 fit)

  nodes-good : NodesGood v record { param0 = p.param0; param1 = p.param1; param2 = p.param2 }
  nodes-good = record {
    param0-to-23 = λ k. record { size = fit.size0; each = λ i j. fit.param0_fits k i (omega (arith, fit.size0)) };
    param0-from-24 = λ k. record { size = fit.size0; each = λ i j. held.param0 i };
    param1 = record { size = fit.size1; each = λ i j. held.param1 i };
    param2 = record { size = fit.size2; each = λ i j. held.param2 i };
  }

  names-ok : (only (since 29 v) no_mapping saved_frame).Ok (mapping_front h b.names) × (only (before 29 v) no_mapping saved_frame).Ok (mapping_behind h b.names)
  names-ok = let x = mapping_on h b.names in (slot_ok saved_frame no_mapping x (since 29 v)).1 (name-mapping-ok x held.names held.timestamp m.names)

  late-ok : (late_frame v).Ok (timers_late h b.timers)
  unfolding iso ◌⨾◌ nothing
  late-ok =
      let list = (fixed-ok 1 10 fault.TimerRowLength (listed 2 λ _. timer_frame) b.timers (lit< tt)).1 (rows_ok timer_frame held.timers m.timers) in
      either 25 v (λ k. rw (le-leb 25 v k) (fit.timer (λ z. absurd (omega arith)), list)) (λ k. rw (lt-leb 25 v k) refl)

  -- ---- the block
  pub pieces-ok : steps_frame.Ok (pieces_of b)
  unfolding iso ◌⨾◌
  pieces-ok = subst (λ (c : Block). steps_frame.Ok (pieces_of c)) m.same (
    (opening-ok h held.version held.flags held.lighting version carry, (names-ok.0, (nodes-ok v _).1 nodes-good)),
    (
      metadata-ok h carry held.metadata m.metadata (fits-formed p ((fits-plain p).1 fit)),
      (early-ok h held.timers m.timers carry held.timer (fits-timed p ((fits-plain p).1 fit)), (objects-ok held.objects m.objects, (names-ok.1, late-ok))),
    ),
  )

  pub pieces-settled : Settled (steps all) (pieces_of b)
  pieces-settled = settled (steps-looser all) (pieces_of b) pieces-ok not-ends

  pub block-bytes : Bytes ((block all).encode b)
  unfolding block iso
  block-bytes = rw ((steps-looser all).same (pieces_of b)) (steps_frame.bytes (pieces_of b) pieces-ok)

  settled-by : Settled (block all) b
  unfolding block iso
  settled-by = record {
    stays = λ t. ap (map_read block_from) (pieces-settled.stays t);
    itself = λ c n h.
        let x = map-done block_from ((steps all).read ((steps all).encode (pieces_of b))) c n h in
        let y = pieces-settled.itself x.0 n x.1 in
        (sym x.2 ∙ ap block_from y.0 ∙ built-pieces (since 29 b.head.version) (since 25 b.head.version) b, y.1);
  }

pub block_settled : (p : BlockParts) (b : Block) → WellTyped p → is_version p.head.version ≡ true → block_made p ≡ some b → Settled (block all) b
block_settled p b held version h = settled-by p b held version (made_of p b h)

-- from parts that fit and the rows of their sections
module _ (p : BlockParts) (f : fits p ≡ true) where
  pub made_by : {counts : RowCounts} (l : List NameRow) (m : List MetadataRow) (o : List ObjectRow) (k : List TimerRow)
      → SectionRows p.head.version p.names p.metadata p.objects p.timers counts l m o k → MadeOf p (made p l m o k)
  made_by l m o k w = record {
    fitting = (fits-plain p).0 f;
    names = record { are = w.names.are; many = refl };
    metadata = record { are = w.metadata.are; many = refl };
    objects = record { are = w.objects.are; many = refl };
    timers = record { are = w.timers.are; many = refl };
    same = refl;
  }
