-- Each of 31 to 38 is given exactly where its field differs.
use Prim.Native.Nat.{ℕ}
use mathlib.Core.Path.{◌≡◌, refl, sym}
use mathlib.Core.Logic.{◌⊎◌, inl, inr}
use mathlib.Core.Option.{Option, some, none}
use mathlib.Core.List.{List, []}
use lib.ListN.{length, drop}
use mathlib.Core.Bool.{Bool, true, false, cond, not, ◌&&◌}
use native.Mathlib.Omega.{arith}
use lib.Dec.{leb, ltb, eqb}
use borrow.Author.Tests.{le-leb, leb-true, leb-false, eqb-false}
use Rattle.wire.specs.Read.{Read, done, refused, bind, map_read}
use Rattle.wire.specs.Format.{nothing, ◌⨾◌, iso, items}
use Rattle.wire.specs.Answer.{refusal}
use Rattle.wire.specs.Choice.{no_true}
use Rattle.wire.proofs.Tests.{and_yes}
use Rattle.wire.proofs.Answers.{no-good}
use Rattle.wire.specs.Formats.{◌▹◌, into, listed, behind, fixed, u16, u32, prefixed, only}
use Rattle.mapblock.specs.Inventory.{BlockFormat, inventory}
use Rattle.mapblock.specs.Data.{Variable, MetadataRow, MetadataList, ObjectRow, Timers, Front, Rest, Block, no_mapping, no_timers, metadata_shape, steps_shape}
use Rattle.mapblock.specs.Layout.{since, before, all, new_position, variable, metadata_row, width, nodes, name_mapping, list_version_bytes, is_list_version, is_counted, list_form, metadata, has_timers, timers_of24, early_timers, objects, late_timers, front, rest, steps}
use Rattle.mapblock.specs.Block.{judged_whole, block_from, block, first_unmapped, judged, verdict}
use Rattle.mapblock.specs.Numbers.{refusal_number}
use Rattle.block_reader.specs.FixedFields.{FixedField, Differs, ExactlyWhere, front_version, content_width, params_width, metadata_version, private_byte, timer_byte, object_version, mapping_version_in_front, mapping_version_behind, timer_row_length, GivenExactlyWhere}
use Rattle.block_reader.specs.Questions.{block_answer, block_of}
use Rattle.mapblock.specs.declared.fault.Fault.{Fault}
use Rattle.mapblock.specs.declared.fault.Fault.TheVariants as fault
use Rattle.block_reader.proofs.GivenFaults.{gives-constant, gives-list-form, gives-number, gives-fixed, gives-only, gives-opening, gives-mapping, gives-params, gives-nodes, gives-metadata, gives-early, gives-objects, gives-late, gives-front, gives_nothing, gives-listed, gives-metadata-rows, gives-names, gives-object-row, gives-timers, gives-prefixed, gives-new-position, gives-ending, gives-behind-metadata, gives-rest, gives-inventory, gives-iso, ◌then◌}
use Rattle.block_reader.proofs.Stops.{Stops, Other, Behind, then-stops, stops_first, stops-behind, differs-behind, behind-differs, Here, StopsExactly, here-refine, here-iso, here-first, here-fixed, here-absent, here-nothing, here-only, exact-iso, exact-absent, exact-then-here, exact-first, exact-behind, exact-only, exact-nothing, exact-items, field_behind, field_where, row_field}

-- the eight steps, but for their record
abbrev front_and_rest : BlockFormat (Front × Rest)
front_and_rest = front all ⨾ λ f. rest all (front_version f)

-- ---- 31: content width
content-width : StopsExactly 31 front_and_rest (λ (_ : Unit {0}). content_width)
unfolding front nodes
content-width =
    exact-first
    (exact-iso _ _ _ _ _ _
    (exact-behind (gives-opening refl refl) λ o.
    exact-then-here (gives-only (since 29 o.version) no_mapping (gives-mapping refl all refl refl)) λ _.
    here-fixed 1 (width o.version) fault.ContentWidth refl refl (gives-fixed refl 1 2 fault.ParamsWidth refl (gives-params refl o.version))))
    (λ f. gives-rest refl all (front_version f) refl refl refl refl refl refl refl refl refl refl)

-- ---- 32: params width
params-width : StopsExactly 32 front_and_rest (λ (_ : Unit {0}). params_width)
unfolding front nodes behind
params-width =
    exact-first
    (exact-iso _ _ _ _ _ _
    (exact-behind (gives-opening refl refl) λ o.
    exact-behind (gives-only (since 29 o.version) no_mapping (gives-mapping refl all refl refl)) λ _.
    exact-iso _ _ _ _ _ _
    (exact-then-here (gives-constant refl 1 (width o.version) fault.ContentWidth refl) λ _.
    here-fixed 1 2 fault.ParamsWidth refl refl (gives-params refl o.version))))
    (λ f. gives-rest refl all (front_version f) refl refl refl refl refl refl refl refl refl refl)

-- ---- 33: metadata list version
form-here : (v : ℕ) → Here 33 (list_form v) true (list_version_bytes v) (is_list_version v)
unfolding list_form
form-here v = here-iso _ _ _ _ _ _ (here-refine (list_version_bytes v) (is_list_version v) fault.MetadataVersion refl refl)

metadata-version : StopsExactly 33 front_and_rest (λ (_ : Unit {0}). metadata_version)
unfolding rest metadata
metadata-version =
    exact-then-here (gives-front refl all refl refl refl refl refl) λ f.
    let v = front_version f in
    here-iso _ _ _ _ _ _
    (here-first
    (here-iso _ _ _ _ _ _ (here-first (form-here v) λ form. gives-only (is_counted form) [] (gives-listed refl 2 (gives-metadata-rows refl refl refl v refl)))) λ _.
    gives-behind-metadata refl all v refl refl refl refl refl refl refl refl)

-- ---- 34: the private byte of a variable
private-in-variable : (v : ℕ) → StopsExactly 34 (variable v) (λ (_ : Unit {0}). record { before = prefixed 2 ▹ prefixed 4; present = λ x. since 28 v; bytes = λ x. 1; allowed = λ x b. leb b 1 })
unfolding variable
private-in-variable v =
    exact-iso _ _ _ _ _ _
    (exact-behind (gives-prefixed refl 2) λ _.
    exact-then-here (gives-prefixed refl 4) λ _.
    here-only (since 28 v) 0 (here-refine 1 (λ b. leb b 1) fault.PrivateByte refl refl))

-- behind so many variables of its row
abbrev private_in_row : ℕ → List MetadataRow → ℕ × Unit {0} → FixedField (ℕ × (ℕ × (List Variable × (List ℕ × List ℕ))))
private_in_row v seen x = record {
  before = new_position (λ (r : MetadataRow). r.position) seen ▹ u32 ▹ items (λ _. variable v) x.0 ▹ prefixed 2 ▹ prefixed 4;
  present = λ a. ltb x.0 a.1.0 && since 28 v;
  bytes = λ a. 1;
  allowed = λ a b. leb b 1;
}

private-in-row : (v : ℕ) (seen : List MetadataRow) → StopsExactly 34 (metadata_row v seen) (private_in_row v seen)
unfolding metadata_row listed
private-in-row v seen = go (since 23 v) refl
  where
    go : (b : Bool) → since 23 v ≡ b
        → StopsExactly 34 (into metadata_shape (new_position (λ (r : MetadataRow). r.position) seen ▹ only (not b) 0 u16 ▹ only (not b) [] (prefixed 2) ▹ only b [] (listed 4 λ _. variable v) ▹ only b [] inventory)) (private_in_row v seen)
    go true h =
        exact-iso _ _ _ _ _ _
        (exact-behind (gives-new-position refl (λ (r : MetadataRow). r.position) seen refl refl) λ _.
        exact-nothing 0
        (exact-nothing []
        (exact-first (exact-iso _ _ _ _ _ _ (exact-behind (gives-number refl 4) (exact-items λ _. private-in-variable v))) λ _.
        gives-inventory refl)))
    go false h =
        exact-absent
        (gives-iso _ _ _ _ _ _
        (gives-new-position refl (λ (r : MetadataRow). r.position) seen refl refl
        then λ _. gives-number refl 2
        then λ _. gives-prefixed refl 2
        then λ _. gives_nothing []
        then λ _. gives_nothing []))
        (λ i a k. let z = leb-true 28 v (and_yes (ltb i.0 a.1.0) (since 28 v) k).1 in omega (arith, leb-false 23 v h))

private-in-metadata : (v : ℕ) → StopsExactly 34 (metadata v) (λ (x : ℕ × (ℕ × Unit {0})).
    field_behind (list_form v) λ form.
    field_where (is_counted form) (field_behind u16 λ count. row_field (metadata_row v) (private_in_row v) count x))
unfolding metadata listed
private-in-metadata v =
    exact-iso _ _ _ _ _ _
    (exact-behind (gives-list-form refl v refl) λ form.
    exact-only (is_counted form) []
    (exact-iso _ _ _ _ _ _
    (exact-behind (gives-number refl 2) λ count. exact-items (private-in-row v) count)))

private-byte : StopsExactly 34 front_and_rest (λ (x : ℕ × (ℕ × Unit {0})). private_byte x.0 x.1.0)
unfolding rest
private-byte =
    exact-behind (gives-front refl all refl refl refl refl refl) λ f.
    let v = front_version f in
    exact-iso _ _ _ _ _ _
    (exact-first (private-in-metadata v) λ _.
    gives-behind-metadata refl all v refl refl refl refl refl refl refl refl)

-- ---- 35: the timer byte
early-here : (v : ℕ) → Here 35 (early_timers v) (since 23 v && before 25 v) 1 (λ t. cond (since 24 v) (leb t 1) (eqb t 0))
unfolding early_timers
early-here v = go (before 25 v) (since 24 v) (since 23 v) (λ h. le-leb 23 v (omega (arith, leb-true 24 v h)))
  where
    go : (b c d : Bool) → (c ≡ true → d ≡ true)
        → Here 35
        (only b no_timers
        (cond c timers_of24
        (cond d (fixed 1 0 fault.ByteOf23 (nothing no_timers))
        (nothing no_timers))))
        (d && b) 1 (λ t. cond c (leb t 1) (eqb t 0))
    go true true true h =
        here-iso _ _ _ _ _ _ (here-first (here-refine 1 (λ t. leb t 1) fault.TimerByte refl refl) λ t. gives-only (has_timers t) [] (gives-listed refl 2 (gives-timers refl refl refl)))
    go true true false h = no_true (h refl)
    go true false true h = here-fixed 1 0 fault.ByteOf23 refl refl (gives_nothing no_timers)
    go true false false h = here-absent 1 (λ t. eqb t 0) (gives_nothing no_timers)
    go false c true h = here-absent 1 (λ t. cond c (leb t 1) (eqb t 0)) (gives_nothing no_timers)
    go false c false h = here-absent 1 (λ t. cond c (leb t 1) (eqb t 0)) (gives_nothing no_timers)

timer-byte : StopsExactly 35 front_and_rest (λ (_ : Unit {0}). timer_byte)
unfolding rest
timer-byte =
    exact-behind (gives-front refl all refl refl refl refl refl) λ f.
    let v = front_version f in
    exact-iso _ _ _ _ _ _
    (exact-then-here (gives-metadata refl refl refl v refl refl) λ _.
    here-first (early-here v) λ _.
    gives-objects refl refl then λ _. gives-ending refl all v refl refl refl refl refl)

-- ---- 36: static object version
object-version : StopsExactly 36 front_and_rest (λ (_ : Unit {0}). object_version)
unfolding rest objects
object-version =
    exact-behind (gives-front refl all refl refl refl refl refl) λ f.
    let v = front_version f in
    exact-iso _ _ _ _ _ _
    (exact-behind (gives-metadata refl refl refl v refl refl) λ _.
    exact-then-here (gives-early refl refl refl v refl refl) λ _.
    here-first (here-fixed 1 0 fault.ObjectVersion refl refl (gives-listed refl 2 λ _. gives-object-row refl)) λ _.
    gives-ending refl all v refl refl refl refl refl)

-- ---- 37: mapping version
mapping-version : (b : Bool) → StopsExactly 37 (only b no_mapping (name_mapping all)) (λ (_ : Unit {0}). record { before = u32; present = λ x. b; bytes = λ x. 1; allowed = λ x n. eqb n 0 })
unfolding name_mapping
mapping-version true =
    exact-iso _ _ _ _ _ _
    (exact-then-here (gives-number refl 4) λ _.
    here-fixed 1 0 fault.MappingVersion refl refl (gives-listed refl 2 λ seen. gives-names refl all seen refl))
mapping-version false = exact-absent (gives_nothing no_mapping) (λ i a h. no_true h)

mapping-version-in-front : StopsExactly 37 (front all) (λ (_ : Unit {0}). mapping_version_in_front)
unfolding front
mapping-version-in-front =
    exact-iso _ _ _ _ _ _
    (exact-behind (gives-opening refl refl) λ o.
    exact-first (mapping-version (since 29 o.version)) λ _.
    gives-nodes refl o.version refl refl)

-- behind the node data
abbrev mapping_in_rest : ℕ → FixedField (MetadataList × (Timers × (List ObjectRow × ℕ)))
mapping_in_rest v = record { before = metadata v ▹ early_timers v ▹ objects ▹ u32; present = λ x. before 29 v; bytes = λ x. 1; allowed = λ x n. eqb n 0 }

mapping-version-in-rest : (v : ℕ) → StopsExactly 37 (rest all v) (λ (_ : Unit {0}). mapping_in_rest v)
unfolding rest
mapping-version-in-rest v =
    exact-iso _ _ _ _ _ _
    (exact-behind (gives-metadata refl refl refl v refl refl) λ _.
    exact-behind (gives-early refl refl refl v refl refl) λ _.
    exact-behind (gives-objects refl refl) λ _.
    exact-first (mapping-version (before 29 v)) λ _.
    gives-late refl refl refl v refl)

module _ (s : List ℕ) (p : ℕ) where
  mapping-found : Stops 37 (front_and_rest.read s) p → Differs mapping_version_in_front s p ⊎ Differs mapping_version_behind s p
  mapping-found h = go (then-stops 37 (front all) (λ f. rest all (front_version f)) s p h)
    where
      go : Stops 37 ((front all).read s) p ⊎ Behind 37 (front all) (λ f. rest all (front_version f)) s p → Differs mapping_version_in_front s p ⊎ Differs mapping_version_behind s p
      go (inl z) = inl (mapping-version-in-front.found s p z).1
      go (inr z) =
          let x = (mapping-version-in-rest (front_version z.a)).found (drop z.m s) z.q z.stops in
          inr (differs-behind 37 (front all) (λ f. rest all (front_version f)) (λ f. mapping_in_rest (front_version f)) s p z x.1)

  mapping-given : Differs mapping_version_in_front s p ⊎ Differs mapping_version_behind s p → Stops 37 (front_and_rest.read s) p
  mapping-given (inl d) = stops_first 37 (front all) (λ f. rest all (front_version f)) s p (mapping-version-in-front.given s p tt d)
  mapping-given (inr d) =
      stops-behind 37 (front all) (λ f. rest all (front_version f)) s p
      (behind-differs 37 (front all) (λ f. rest all (front_version f)) (λ f. mapping_in_rest (front_version f)) s p
      (λ f t q. (mapping-version-in-rest (front_version f)).given t q tt) d)

-- ---- 38: timer row length
late-here : (v : ℕ) → Here 38 (late_timers v) (since 25 v) 1 (λ n. eqb n 10)
unfolding late_timers
late-here v =
    here-only (since 25 v) no_timers
    (here-iso _ _ _ _ _ _ (here-nothing 0 (here-fixed 1 10 fault.TimerRowLength refl refl (gives-listed refl 2 (gives-timers refl refl refl)))))

timer-row-length : StopsExactly 38 front_and_rest (λ (_ : Unit {0}). timer_row_length)
unfolding rest
timer-row-length =
    exact-behind (gives-front refl all refl refl refl refl refl) λ f.
    let v = front_version f in
    exact-iso _ _ _ _ _ _
    (exact-behind (gives-metadata refl refl refl v refl refl) λ _.
    exact-behind (gives-early refl refl refl v refl refl) λ _.
    exact-behind (gives-objects refl refl) λ _.
    exact-then-here (gives-only (before 29 v) no_mapping (gives-mapping refl all refl refl)) λ _.
    late-here v)

-- ---- the reader's answer
-- the verdict, from what reading the steps finds
abbrev verdict_from : List ℕ → Read Fault (Front × Rest) → Read Fault Block
verdict_from s r = bind (map_read block_from (map_read steps_shape.make r)) (judged_whole all s)

module _ (n : ℕ) (after : Other n fault.BytesAfter) (unmapped : Other n fault.IdUnmapped) where
  -- 7 and 8 have other numbers
  judged-not : (s : List ℕ) (b : Block) (m p : ℕ) → Stops n (judged_whole all s b m) p → ⊥
  judged-not s b m p h = go (eqb m (length s)) (first_unmapped all b) h
    where
      go : (c : Bool) (o : Option ℕ) → Stops n (cond c (judged all b m o) (refused fault.BytesAfter m)) p → ⊥
      go true none k = k
      go true (some i) k = eqb-false (refusal_number fault.IdUnmapped) n unmapped k.0
      go false o k = eqb-false (refusal_number fault.BytesAfter) n after k.0

  verdict-stops : (s : List ℕ) (p : ℕ) → Stops n (verdict all s) p → Stops n (front_and_rest.read s) p
  unfolding verdict block steps iso
  verdict-stops s p h = go (front_and_rest.read s) h
    where
      go : (r : Read Fault (Front × Rest)) → Stops n (verdict_from s r) p → Stops n r p
      go (done x m) k = absurd (judged-not s (block_from (steps_shape.make x)) m p k)
      go (refused e q) k = k

  stops-verdict : (s : List ℕ) (p : ℕ) → Stops n (front_and_rest.read s) p → Stops n (verdict all s) p
  unfolding verdict block steps iso
  stops-verdict s p h = go (front_and_rest.read s) h
    where
      go : (r : Read Fault (Front × Rest)) → Stops n r p → Stops n (verdict_from s r) p
      go (done x m) k = absurd k
      go (refused e q) k = k

  answer-stops : (p : ℕ) (r : Read Fault Block) → block_answer r ≡ refusal n 0 p → Stops n r p
  answer-stops p (done b m) h = no-good (sym h)
  answer-stops p (refused e q) h = ((cc), (cc))

  stops-answer : (p : ℕ) (r : Read Fault Block) → Stops n r p → block_answer r ≡ refusal n 0 p
  stops-answer p (done b m) h = absurd h
  stops-answer p (refused e q) h = rw (h.0, h.1)

  exactly : {At : List ℕ → ℕ → Type 0} → ((s : List ℕ) (p : ℕ) → Stops n (front_and_rest.read s) p → At s p) → ((s : List ℕ) (p : ℕ) → At s p → Stops n (front_and_rest.read s) p)
      → ExactlyWhere n At
  unfolding block_of
  exactly found given s p =
      ((λ h. found s p (verdict-stops s p (answer-stops p (verdict all s) h))), λ h. stops-answer p (verdict all s) (stops-verdict s p (given s p h)))

  exactly-one : {A : Type 0} {field : FixedField A} → StopsExactly n front_and_rest (λ (_ : Unit {0}). field) → ExactlyWhere n (Differs field)
  exactly-one h = exactly (λ s p k. (h.found s p k).1) (λ s p k. h.given s p tt k)

pub given-exactly-where : GivenExactlyWhere
given-exactly-where = record {
  content-width = exactly-one 31 refl refl content-width;
  params-width = exactly-one 32 refl refl params-width;
  metadata-version = exactly-one 33 refl refl metadata-version;
  private-byte = exactly 34 refl refl
      (λ s p h. let x = private-byte.found s p h in (x.0.0, x.0.1.0, x.1))
      (λ s p x. private-byte.given s p (x.0, (x.1, tt)) x.2);
  timer-byte = exactly-one 35 refl refl timer-byte;
  object-version = exactly-one 36 refl refl object-version;
  mapping-version = exactly 37 refl refl mapping-found mapping-given;
  timer-row-length = exactly-one 38 refl refl timer-row-length;
}
