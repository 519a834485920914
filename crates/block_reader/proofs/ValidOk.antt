-- The blocks that the layout can write are the valid ones: `ValidIsOk` of specs/Theorems.antt.
use Prim.Native.Nat.{ℕ, zero, suc, ◌^◌, ◌<◌, ◌≤◌}
use mathlib.Core.Path.{◌≡◌, refl, ap, ap₂, subst, subst⁻¹}
use mathlib.Core.Logic.{◌↔◌}
use mathlib.Core.Option.{none}
use mathlib.Core.List.{List, [], ◌∷◌}
use mathlib.Core.Bool.{Bool, true, false, cond, not, or-true}
use native.Mathlib.Omega.{arith}
use lib.Dec.{leb, eqb, lit<}
use lib.ListN.{length, get_or}
use borrow.Author.Tests.{le-leb, lt-leb, leb-true, eq-eqb, ne_eqb, eqb-true, eqb-false}
use Rattle.wire.specs.Choice.{no_true}
use Rattle.wire.proofs.Tests.{and_yes, yes_and}
use Rattle.wire.specs.Format.{nothing, refine, ◌⨾◌, iso, items, OkItems, items-length}
use Rattle.wire.specs.Formats.{number, u16, fixed, listed, times, only}
use Rattle.mapblock.specs.Inventory.{BlockFormat}
use Rattle.mapblock.specs.Data.{NameRow, MetadataRow, MetadataList, ObjectRow, TimerRow, Nodes, Opening, NameMapping, Timers, Block, no_mapping, no_timers}
use Rattle.mapblock.specs.Layout.{since, all, unmapped, name_row, metadata_row, object_row, timer_row, name_mapping, width, params, nodes, list_version, is_counted, list_form, metadata, objects, early_timers, late_timers, opening, front, rest, steps}
use Rattle.mapblock.specs.Block.{opening_of, name_mapping_of, metadata_of, timers_of, block, id_at, first_unmapped}
use Rattle.mapblock.specs.Valid.{Has, Distinct, U8, U16, U32, NameGood, MetadataGood, ObjectGood, TimerGood, Rows, Entries, NodesGood, Valid}
use Rattle.block_reader.specs.Theorems.{ValidIsOk}
use Rattle.mapblock.specs.declared.fault.Fault.TheVariants as fault
use Rattle.mapblock.proofs.TaggedLists.{form-counted}
use Rattle.mapblock.proofs.Firsts.{first-none, none-fails}
use Rattle.mapblock.proofs.Entries.{width-old, width-new, width-range}
use Rattle.mapblock.proofs.Keyed.{has-used, used-has, each-ok, rows_ok}
use Rattle.mapblock.proofs.GoodRows.{either, since-ok, fixed-ok, name-ok, metadata-row-ok, object-ok, timer-ok}

-- ---- timers
abbrev place : TimerRow → ℕ
place r = r.position

abbrev Timed : List TimerRow → Type 0
Timed l = Rows TimerGood l × Distinct place l

timed-none : (l : List TimerRow) → l ≡ [] → Timed l
timed-none l e = rw e (record { count = omega arith; each = tt }, tt)

-- of a version and its timer byte
record TimersGood (v : ℕ) (k : Timers) : Type 0 where
  timed : Timed k.rows
  byte : k.byte ≤ 1
  except-24 : (v ≡ 24 → ⊥) → k.byte ≡ 0
  before-24 : v < 24 → k.rows ≡ []
  of-24 : v ≡ 24 → k.byte ≡ 0 → k.rows ≡ []

late-ok : (v : ℕ) (k : Timers) → 25 ≤ v → (late_timers v).Ok k ↔ ((k.byte ≡ 0) × Timed k.rows)
unfolding late_timers iso ◌⨾◌ nothing
late-ok v k h =
    let rows = fixed-ok 1 10 fault.TimerRowLength (listed 2 timer_row) k.rows (omega arith) in
    let keyed = rows_ok place TimerGood timer_row timer-ok k.rows in
    ((λ x. let y = rw (le-leb 25 v h) at x in (y.0, keyed.0 (rows.0 y.1))), (λ x. rw (le-leb 25 v h) (x.0, rows.1 (keyed.1 x.1))))

of-24-ok : (k : Timers) → (early_timers 24).Ok k ↔ TimersGood 24 k
unfolding early_timers iso ◌⨾◌ nothing refine number
of-24-ok k = ((λ h. there (eqb k.byte 1) refl (leb-true _ _ h.0.1) h.1), λ g. ((omega (arith, g.byte), le-leb _ _ g.byte), back g (eqb k.byte 1) refl))
  where
    there : (c : Bool) → eqb k.byte 1 ≡ c → k.byte ≤ 1 → (only c [] (listed 2 timer_row)).Ok k.rows → TimersGood 24 k
    there true e l h = record {
      timed = (rows_ok place TimerGood timer_row timer-ok k.rows).0 h;
      byte = l;
      except-24 = λ n. absurd (n refl);
      before-24 = λ n. absurd (omega arith);
      of-24 = λ _ z. absurd (omega (arith, eqb-true k.byte 1 e));
    }
    there false e l h = record { timed = timed-none k.rows h; byte = l; except-24 = λ n. absurd (n refl); before-24 = λ n. absurd (omega arith); of-24 = λ _ z. h }

    back : TimersGood 24 k → (c : Bool) → eqb k.byte 1 ≡ c → (only c [] (listed 2 timer_row)).Ok k.rows
    back g true e = (rows_ok place TimerGood timer_row timer-ok k.rows).1 g.timed
    back g false e = g.of-24 refl (let n = eqb-false k.byte 1 e in omega (arith, g.byte))

before-24-ok : (v : ℕ) (k : Timers) → v < 24 → (early_timers v).Ok k ↔ (k ≡ no_timers)
unfolding early_timers nothing
before-24-ok v k h =
    let late : leb 25 v ≡ false = lt-leb 25 v (omega arith) in
    ((λ x. (by (leb 23 v)).0 (rw (late, lt-leb 24 v h) at x)), (λ e. rw (late, lt-leb 24 v h) ((by (leb 23 v)).1 e)))
  where
    by : (c : Bool) → (cond c (fixed 1 0 fault.ByteOf23 (nothing {ends = fault.Ends} no_timers)) (nothing no_timers)).Ok k ↔ (k ≡ no_timers)
    by true = fixed-ok 1 0 fault.ByteOf23 (nothing no_timers) k (omega arith)
    by false = ((λ e. e), λ e. e)

no-early : (v : ℕ) → 25 ≤ v → (early_timers v).Ok no_timers
unfolding early_timers nothing
no-early v h = rw (le-leb 25 v h)

no-late : (v : ℕ) → v < 25 → (late_timers v).Ok no_timers
unfolding late_timers nothing
no-late v h = rw (lt-leb 25 v h)

-- where the version has them
timers-there : (v : ℕ) (k : Timers) → (early_timers v).Ok (cond (since 25 v) no_timers k) → (late_timers v).Ok (cond (since 25 v) k no_timers) → TimersGood v k
timers-there v k e l = either 25 v late (λ h. either 24 v (of-24 h) (old h))
  where
    late : 25 ≤ v → TimersGood v k
    late h =
        let x = (late-ok v k h).0 (rw (le-leb 25 v h) at l) in
        record { timed = x.1; byte = omega (arith, x.0); except-24 = λ _. x.0; before-24 = λ n. absurd (omega arith); of-24 = λ n. absurd (omega arith) }

    of-24 : v < 25 → 24 ≤ v → TimersGood v k
    of-24 h i =
        let z : 24 ≡ v = omega arith in
        subst (λ (n : ℕ). TimersGood n k) z ((of-24-ok k).0 (subst⁻¹ (λ (n : ℕ). (early_timers n).Ok k) z (rw (lt-leb 25 v h) at e)))

    old : v < 25 → v < 24 → TimersGood v k
    old h i =
        let x : k ≡ no_timers = (before-24-ok v k i).0 (rw (lt-leb 25 v h) at e) in
        let rows : k.rows ≡ [] = ap (λ (k : Timers). k.rows) x in
        let byte : k.byte ≡ 0 = ap (λ (k : Timers). k.byte) x in
        record { timed = timed-none k.rows rows; byte = omega arith; except-24 = λ _. byte; before-24 = λ _. rows; of-24 = λ _ _. rows }

timers-back : (v : ℕ) (k : Timers) → TimersGood v k → (early_timers v).Ok (cond (since 25 v) no_timers k) × (late_timers v).Ok (cond (since 25 v) k no_timers)
timers-back v k g = either 25 v late (λ h. rw (lt-leb 25 v h) (either 24 v (of-24 h) old, no-late v h))
  where
    late : 25 ≤ v → (early_timers v).Ok (cond (since 25 v) no_timers k) × (late_timers v).Ok (cond (since 25 v) k no_timers)
    late h = rw (le-leb 25 v h) (no-early v h, (late-ok v k h).1 (g.except-24 (λ z. absurd (omega arith)), g.timed))

    of-24 : v < 25 → 24 ≤ v → (early_timers v).Ok k
    of-24 h i =
        let z : 24 ≡ v = omega arith in
        subst (λ (n : ℕ). (early_timers n).Ok k) z ((of-24-ok k).1 (subst⁻¹ (λ (n : ℕ). TimersGood n k) z g))

    old : v < 24 → (early_timers v).Ok k
    old i =
        let byte : k.byte ≡ 0 = g.except-24 (λ z. absurd (omega arith)) in
        (before-24-ok v k i).1 (ap₂ (λ (n : ℕ) (l : List TimerRow). record { byte = n; rows = l }) byte (g.before-24 i))

-- ---- the node data
entries-there : (w k : ℕ) (seen l : List ℕ) → OkItems (λ _. number {ends = fault.Ends} w) k seen l → (i : ℕ) → i < k → get_or l i 0 < 256 ^ w
unfolding number iso
entries-there w zero seen l h i n = absurd (omega arith)
entries-there w (suc k) seen [] h i n = absurd h
entries-there w (suc k) seen (a ∷ l) h zero n = h.0
entries-there w (suc k) seen (a ∷ l) h (suc i) n = entries-there w k (a ∷ seen) l h.1 i (omega arith)

entries-back : (w k : ℕ) (seen l : List ℕ) → length l ≡ k → ((i : ℕ) → i < k → get_or l i 0 < 256 ^ w) → OkItems (λ _. number {ends = fault.Ends} w) k seen l
unfolding number iso
entries-back w zero seen [] e h = tt
entries-back w zero seen (a ∷ l) e h = absurd (omega arith)
entries-back w (suc k) seen [] e h = absurd (omega arith)
entries-back w (suc k) seen (a ∷ l) e h = (h zero (omega arith), entries-back w k (a ∷ seen) l (omega arith) (λ i n. h (suc i) (omega arith)))

entries-ok : (w : ℕ) (l : List ℕ) → (times {ends = fault.Ends} 4096 (number w)).Ok l ↔ Entries (256 ^ w) l
unfolding items
entries-ok w l = (
  (λ h. record { size = items-length (λ _. number {ends = fault.Ends} w) 4096 [] l h; each = entries-there w 4096 [] l h }),
  (λ g. entries-back w 4096 [] l g.size g.each),
)

pub nodes-ok : (v : ℕ) (n : Nodes) → (nodes v).Ok n ↔ NodesGood v n
unfolding nodes params iso ◌⨾◌
nodes-ok v n = (there, back)
  where
    small : width v < 256
    small = let h = (width-range v).1 in omega arith

    there : (nodes v).Ok n → NodesGood v n
    there h =
        let p = (fixed-ok 1 2 fault.ParamsWidth (params v) n (omega arith)).0 ((fixed-ok 1 (width v) fault.ContentWidth (fixed 1 2 fault.ParamsWidth (params v)) n small).0 h) in
        record {
          param0-to-23 = λ k. rw (width-old k) at ((entries-ok (width v) n.param0).0 p.0);
          param0-from-24 = λ k. rw (width-new k) at ((entries-ok (width v) n.param0).0 p.0);
          param1 = (entries-ok 1 n.param1).0 p.1.0;
          param2 = (entries-ok 1 n.param2).0 p.1.1;
        }

    back : NodesGood v n → (nodes v).Ok n
    back g =
        let p : Entries (256 ^ width v) n.param0 = either 24 v (λ k. rw (width-new k) (g.param0-from-24 k)) (λ k. rw (width-old k) (g.param0-to-23 k)) in
        (fixed-ok 1 (width v) fault.ContentWidth (fixed 1 2 fault.ParamsWidth (params v)) n small).1
        ((fixed-ok 1 2 fault.ParamsWidth (params v) n (omega arith)).1
        ((entries-ok (width v) n.param0).1 p, ((entries-ok 1 n.param1).1 g.param1, (entries-ok 1 n.param2).1 g.param2)))

-- ---- the ids
abbrev id_of : NameRow → ℕ
id_of r = r.id

-- no node is unmapped exactly where every id is mapped
mapped-there : (b : Block) → first_unmapped all b ≡ none → (i : ℕ) → i < 4096 → Has id_of (id_at b i) b.names
mapped-there b h i k = used-has id_of b.names (id_at b i) (none-fails (λ i. unmapped all b.names (id_at b i)) 4096 0 h i (omega arith) k)

mapped-back : (b : Block) → ((i : ℕ) → i < 4096 → Has id_of (id_at b i) b.names) → first_unmapped all b ≡ none
mapped-back b h = first-none (λ i. unmapped all b.names (id_at b i)) 4096 0 (λ i _ k. has-used id_of b.names (id_at b i) (h i k))

-- ---- the other parts
name-mapping-ok : (x : NameMapping) → (name_mapping all).Ok x ↔ (U32 x.timestamp × (Rows NameGood x.names × Distinct id_of x.names))
unfolding name_mapping iso ◌⨾◌ number
name-mapping-ok x =
    let list = fixed-ok 1 0 fault.MappingVersion (listed 2 (name_row all)) x.names (omega arith) in
    let rows = rows_ok id_of NameGood (name_row all) name-ok x.names in
    ((λ h. (h.0, rows.0 (list.0 h.1))), λ h. (h.0, list.1 (rows.1 h.1)))

-- they stand in front or behind
pub slot_ok : {A : Type 0} (f : BlockFormat A) (a₀ a : A) (c : Bool) → ((only c a₀ f).Ok (cond c a a₀) × (only (not c) a₀ f).Ok (cond c a₀ a)) ↔ f.Ok a
unfolding nothing
slot_ok f a₀ a true = ((λ h. h.0), λ h. (h, refl))
slot_ok f a₀ a false = ((λ h. h.1), λ h. (refl, h))

objects-ok : (l : List ObjectRow) → objects.Ok l ↔ Rows ObjectGood l
unfolding objects
objects-ok l =
    let list = fixed-ok 1 0 fault.ObjectVersion (listed 2 λ _. object_row) l (omega arith) in
    let rows = each-ok ObjectGood object_row object-ok 2 l in
    ((λ h. let x = rows.0 (list.0 h) in record { count = x.0; each = x.1 }), λ g. list.1 (rows.1 (g.count, g.each)))

-- ---- metadata
list-version-fits : (c d : Bool) → cond c 2 1 < 256 ^ cond d 1 2
list-version-fits true true = lit< tt
list-version-fits true false = lit< tt
list-version-fits false true = lit< tt
list-version-fits false false = lit< tt

list-version-not-0 : (c : Bool) → eqb 0 (cond c 2 1) ≡ false
list-version-not-0 true = refl
list-version-not-0 false = refl

zero-fits : (d : Bool) → 0 < 256 ^ cond d 1 2
zero-fits true = lit< tt
zero-fits false = lit< tt

-- the forms that a version has
pub form-ok : (v form : ℕ) → (list_form v).Ok form ↔ ((form ≤ 1) × (v < 23 → form ≡ 0))
unfolding list_form iso refine number
form-ok v form = (there form, back form)
  where
    there : (f : ℕ) → (list_form v).Ok f → (f ≤ 1) × (v < 23 → f ≡ 0)
    there zero h = (omega arith, λ _. refl)
    there (suc zero) h = (omega arith, λ k. no_true (rw (list-version-not-0 (since 28 v), lt-leb 23 v k) at h.0.1))
    there (suc (suc f)) h = let e : 1 ≡ suc (suc f) = rw (ne_eqb (suc (suc f)) 0 (λ e. omega arith)) at h.1 in absurd (omega arith)

    back : (f : ℕ) → (f ≤ 1) × (v < 23 → f ≡ 0) → (list_form v).Ok f
    back zero h = ((list-version-fits (since 28 v) (since 23 v), rw (eq-eqb (list_version v) (list_version v) refl)), form-counted v)
    back (suc zero) h = ((zero-fits (since 23 v), either 23 v (λ k. rw (le-leb 23 v k) (or-true (eqb 0 (list_version v)))) (λ k. absurd (let e = h.1 k in omega arith))), refl)
    back (suc (suc f)) h = absurd (let e = h.0 in omega arith)

-- of a version
record MetadataListGood (v : ℕ) (x : MetadataList) : Type 0 where
  form : x.form ≤ 1
  in-22 : v < 23 → x.form ≡ 0
  of_zero : x.form ≡ 1 → x.rows ≡ []
  rows : Rows (MetadataGood v) x.rows × Distinct (λ (r : MetadataRow). r.position) x.rows

metadata-ok : (v : ℕ) (x : MetadataList) → (metadata v).Ok x ↔ MetadataListGood v x
unfolding metadata iso ◌⨾◌ nothing
metadata-ok v x = ((λ h. there (is_counted x.form) refl ((form-ok v x.form).0 h.0) h.1), λ g. ((form-ok v x.form).1 (g.form, g.in-22), back g (is_counted x.form) refl))
  where
    keyed : (listed 2 (metadata_row v)).Ok x.rows ↔ (Rows (MetadataGood v) x.rows × Distinct (λ (r : MetadataRow). r.position) x.rows)
    keyed = rows_ok (λ (r : MetadataRow). r.position) (MetadataGood v) (metadata_row v) (metadata-row-ok v) x.rows

    there : (c : Bool) → is_counted x.form ≡ c → (x.form ≤ 1) × (v < 23 → x.form ≡ 0) → (only c [] (listed 2 (metadata_row v))).Ok x.rows → MetadataListGood v x
    there true e f h = record { form = f.0; in-22 = f.1; of_zero = λ z. absurd (omega (arith, eqb-true x.form 0 e)); rows = keyed.0 h }
    there false e f h = record { form = f.0; in-22 = f.1; of_zero = λ _. h; rows = rw h (record { count = omega arith; each = tt }, tt) }

    back : MetadataListGood v x → (c : Bool) → is_counted x.form ≡ c → (only c [] (listed 2 (metadata_row v))).Ok x.rows
    back g true e = keyed.1 g.rows
    back g false e = g.of_zero (let n = eqb-false x.form 0 e in omega (arith, g.form))

-- ---- the opening

record OpeningGood (o : Opening) : Type 0 where
  version : (22 ≤ o.version) × (o.version ≤ 29)
  flags : U8 o.flags
  lighting : U16 o.lighting
  before-27 : o.version < 27 → o.lighting ≡ 65535

opening-ok : (o : Opening) → opening.Ok o ↔ OpeningGood o
unfolding opening iso ◌⨾◌ refine number
opening-ok o = (there, back)
  where
    there : opening.Ok o → OpeningGood o
    there h =
        let t = and_yes (leb 22 o.version) (leb o.version 29) h.0.1 in
        let x = (since-ok u16 65535 o.lighting 27 o.version).0 h.1.1 in
        record {
          version = (leb-true _ _ t.0, leb-true _ _ t.1);
          flags = h.1.0;
          lighting = either 27 o.version x.0 (λ k. omega (arith, x.1 k));
          before-27 = x.1;
        }

    back : OpeningGood o → opening.Ok o
    back g = (
      (omega (arith, g.version.1), yes_and (le-leb _ _ g.version.0) (le-leb _ _ g.version.1)),
      (g.flags, (since-ok u16 65535 o.lighting 27 o.version).1 ((λ _. g.lighting), g.before-27)),
    )

-- ---- the block
pub valid-is-ok : ValidIsOk
unfolding block iso steps front rest ◌⨾◌
valid-is-ok b = (there, back)
  where
    v : ℕ
    v = b.head.version

    there : Valid b → (block all).Ok b × (first_unmapped all b ≡ none)
    there g =
        let h = g.head in
        let names = (slot_ok (name_mapping all) no_mapping (name_mapping_of b) (since 29 v)).1 ((name-mapping-ok (name_mapping_of b)).1 (h.timestamp, (g.names, g.ids-distinct))) in
        let k = timers-back v (timers_of b) record {
          timed = (g.timers, g.timers-distinct);
          byte = h.timer;
          except-24 = h.timer-except-24;
          before-24 = g.timers-before-24;
          of-24 = g.timers-of-24;
        } in
        let m = (metadata-ok v (metadata_of b)).1 record {
          form = h.form;
          in-22 = h.form-in-22;
          of_zero = g.metadata-of-zero;
          rows = (g.metadata, g.metadata-distinct);
        } in
        let o = (opening-ok (opening_of b)).1 record { version = h.version; flags = h.flags; lighting = h.lighting; before-27 = h.lighting-before-27 } in (
          (
            (o, (names.0, (nodes-ok v b.nodes).1 g.nodes)),
            (m, (k.0, ((objects-ok b.objects).1 g.objects, (names.1, k.1)))),
          ),
          mapped-back b g.ids-mapped,
        )

    back : (block all).Ok b × (first_unmapped all b ≡ none) → Valid b
    back (h, m) =
        let o = (opening-ok (opening_of b)).0 h.0.0 in
        let names = (name-mapping-ok (name_mapping_of b)).0 ((slot_ok (name_mapping all) no_mapping (name_mapping_of b) (since 29 v)).0 (h.0.1.0, h.1.1.1.1.0)) in
        let d = (metadata-ok v (metadata_of b)).0 h.1.0 in
        let k = timers-there v (timers_of b) h.1.1.0 h.1.1.1.1.1 in
        record {
          head = record {
            version = o.version;
            flags = o.flags;
            lighting = o.lighting;
            lighting-before-27 = o.before-27;
            timestamp = names.0;
            timer = k.byte;
            timer-except-24 = k.except-24;
            form = d.form;
            form-in-22 = d.in-22;
          };
          nodes = (nodes-ok v b.nodes).0 h.0.1.1;
          names = names.1.0;
          metadata = d.rows.0;
          objects = (objects-ok b.objects).0 h.1.1.1.0;
          timers = k.timed.0;
          metadata-of-zero = d.of_zero;
          timers-before-24 = k.before-24;
          timers-of-24 = k.of-24;
          metadata-distinct = d.rows.1;
          timers-distinct = k.timed.1;
          ids-distinct = names.1.1;
          ids-mapped = mapped-there b m;
        }
