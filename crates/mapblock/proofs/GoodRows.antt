-- Rows, in the language of formats and in plain words.
use Prim.Native.Nat.{ℕ, ◌^◌, ◌<◌, ◌≤◌}
use mathlib.Core.Path.{◌≡◌, refl}
use mathlib.Core.Logic.{◌↔◌}
use mathlib.Core.List.{List, []}
use mathlib.Core.Bool.{Bool, true, false}
use native.Mathlib.Omega.{arith}
use lib.Dec.{leb, leb→le, le→leb}
use lib.IntN.{ℤ, pos, negsuc}
use lib.Signed.{le_z_yes}
use lib.ListN.{length}
use borrow.Author.Tests.{le-leb, lt-leb, leb-true, leb-false, eq-eqb}
use Rattle.wire.specs.Format.{nothing, refine, ◌⨾◌, iso}
use Rattle.wire.specs.Formats.{number, u8, u16, signed, s32, behind, fixed, prefixed, listed, only}
use Rattle.mapblock.specs.Inventory.{BlockFormat, inventory}
use Rattle.mapblock.specs.Data.{NameRow, Variable, MetadataRow, ObjectRow, TimerRow}
use Rattle.mapblock.specs.Layout.{since, before, all, unused, unmapped, new_position, name_row, variable, metadata_row, object_row, timer_row}
use Rattle.mapblock.specs.Valid.{Each, U16, S32, Run16, NameGood, VariableGood, MetadataGood, ObjectGood, TimerGood}
use Rattle.mapblock.specs.declared.fault.Fault.{Fault}
use Rattle.mapblock.specs.declared.fault.Fault.TheVariants as fault
use Rattle.mapblock.proofs.Keyed.{each-ok}

-- ---- what only some versions have
pub either : {P : Type 0} (n v : ℕ) → (n ≤ v → P) → (v < n → P) → P
either {P} n v p q = by (leb n v) refl
  where
    by : (c : Bool) → leb n v ≡ c → P
    by true e = p (leb-true n v e)
    by false e = q (leb-false n v e)

module _ {A : Type 0} (f : BlockFormat A) (a₀ a : A) (n v : ℕ) where
  pub since-ok : (only (since n v) a₀ f).Ok a ↔ ((n ≤ v → f.Ok a) × (v < n → a ≡ a₀))
  unfolding nothing
  since-ok = (
    (λ h. ((λ k. rw (le-leb n v k) at h), (λ k. rw (lt-leb n v k) at h))),
    (λ h. either n v (λ k. rw (le-leb n v k) (h.0 k)) (λ k. rw (lt-leb n v k) (h.1 k))),
  )

  pub before-ok : (only (before n v) a₀ f).Ok a ↔ ((v < n → f.Ok a) × (n ≤ v → a ≡ a₀))
  unfolding nothing
  before-ok = (
    (λ h. ((λ k. rw (lt-leb n v k) at h), (λ k. rw (le-leb n v k) at h))),
    (λ h. either n v (λ k. rw (le-leb n v k) (h.1 k)) (λ k. rw (lt-leb n v k) (h.0 k))),
  )

-- ---- fields
-- one that is fixed asks nothing of the value
pub fixed-ok : {A : Type 0} (k n : ℕ) (e : Fault) (f : BlockFormat A) (a : A) → n < 256 ^ k → (fixed k n e f).Ok a ↔ f.Ok a
unfolding behind iso refine number
fixed-ok k n e f a h = ((λ x. x.1), λ x. ((h, eq-eqb n n refl), x))

s32-ok : (z : ℤ) → (s32 {ends = fault.Ends}).Ok z ↔ S32 z
unfolding signed iso
s32-ok (pos n) = ((λ h. (le_z_yes tt, le_z_yes (le→leb n 2147483647 (omega arith)))), λ h. let k = leb→le n 2147483647 h.1.le in omega arith)
s32-ok (negsuc n) = ((λ h. (le_z_yes (le→leb n 2147483647 (omega arith)), le_z_yes tt)), λ h. let k = leb→le n 2147483647 h.0.le in omega arith)

position-ok : {A : Type 0} (key : A → ℕ) (seen : List A) (p : ℕ) → (new_position key seen).Ok p ↔ ((p ≤ 4095) × (unused key all seen p ≡ true))
unfolding refine number iso
position-ok key seen p = ((λ h. (leb-true p 4095 h.0.1, h.1)), λ h. ((let k = h.0 in omega arith, le-leb p 4095 h.0), h.1))

-- ---- rows
pub name-ok : (seen : List NameRow) (r : NameRow) → (name_row all seen).Ok r ↔ (NameGood r × (unmapped all seen r.id ≡ true))
unfolding name_row iso ◌⨾◌ refine number prefixed
name-ok seen r = ((λ h. (record { id = h.0.0; name = h.1 }, h.0.1)), λ h. ((h.0.id, h.1), h.0.name))

module _ (v : ℕ) (r : Variable) where
  private-ok : (only {ends = fault.Ends} (since 28 v) 0 (refine (λ b. leb b 1) fault.PrivateByte u8)).Ok r.hidden ↔ ((r.hidden ≤ 1) × (v < 28 → r.hidden ≡ 0))
  unfolding refine number iso
  private-ok =
      let x = since-ok (refine (λ b. leb b 1) fault.PrivateByte u8) 0 r.hidden 28 v in (
        (λ h. let y = x.0 h in (either 28 v (λ k. leb-true r.hidden 1 (y.0 k).1) (λ k. let z = y.1 k in omega arith), y.1)),
        (λ h. x.1 ((λ _. (let z = h.0 in omega arith, le-leb r.hidden 1 h.0)), h.1)),
      )

  variable-ok : (variable v).Ok r ↔ VariableGood v r
  unfolding variable iso ◌⨾◌ prefixed
  variable-ok = (
    (λ h. let x = private-ok.0 h.1.1 in record { key = h.0; value = h.1.0; hidden = x.0; hidden-before-28 = x.1 }),
    (λ g. (g.key, (g.value, private-ok.1 (g.hidden, g.hidden-before-28)))),
  )

module _ (v : ℕ) (seen : List MetadataRow) (r : MetadataRow) where
  abbrev New : Type 0
  New = unused (λ (r : MetadataRow). r.position) all seen r.position ≡ true

  place_ok : (new_position (λ (r : MetadataRow). r.position) seen).Ok r.position ↔ ((r.position ≤ 4095) × New)
  place_ok = position-ok (λ (r : MetadataRow). r.position) seen r.position

  kind_ok : (only {ends = fault.Ends} (before 23 v) 0 u16).Ok r.kind ↔ ((v < 23 → U16 r.kind) × (23 ≤ v → r.kind ≡ 0))
  unfolding number iso
  kind_ok = before-ok u16 0 r.kind 23 v

  content-ok : (only {ends = fault.Ends} (before 23 v) [] (prefixed 2)).Ok r.content ↔ ((v < 23 → Run16 r.content) × (23 ≤ v → r.content ≡ []))
  unfolding prefixed iso
  content-ok = before-ok (prefixed 2) [] r.content 23 v

  variables-ok : (only (since 23 v) [] (listed 4 λ _. variable v)).Ok r.variables
      ↔ ((23 ≤ v → (listed 4 (λ _. variable v)).Ok r.variables) × (v < 23 → r.variables ≡ []))
  variables-ok = since-ok (listed 4 λ _. variable v) [] r.variables 23 v

  inventory-ok : (only (since 23 v) [] inventory).Ok r.inventory ↔ ((23 ≤ v → inventory.Ok r.inventory) × (v < 23 → r.inventory ≡ []))
  inventory-ok = since-ok inventory [] r.inventory 23 v

  pub metadata-row-ok : (metadata_row v seen).Ok r ↔ (MetadataGood v r × New)
  unfolding metadata_row iso ◌⨾◌ inventory
  metadata-row-ok = (there, λ h. back h.0 h.1)
    where
      list : (listed 4 (λ _. variable v)).Ok r.variables ↔ ((length r.variables < 256 ^ 4) × Each (VariableGood v) r.variables)
      list = each-ok (VariableGood v) (variable v) (variable-ok v) 4 r.variables

      there : (metadata_row v seen).Ok r → MetadataGood v r × New
      there h =
          let p = place_ok.0 h.0 in
          let t = kind_ok.0 h.1.0 in
          let c = content-ok.0 h.1.1.0 in
          let l = variables-ok.0 h.1.1.1.0 in
          let i = inventory-ok.0 h.1.1.1.1 in (
            record {
              position = p.0;
              in-22 = λ k. record { kind = t.0 k; content = c.0 k; no-variables = l.1 k; no-inventory = i.1 k };
              from-23 = λ k. record {
                variables-count = (list.0 (l.0 k)).0;
                variables = (list.0 (l.0 k)).1;
                inventory = record { bytes = (i.0 k).1; ends = (i.0 k).0 };
                no_kind = t.1 k;
                no-content = c.1 k;
              };
            },
            p.1,
          )

      back : MetadataGood v r → New → (metadata_row v seen).Ok r
      back g n =
          let t = kind_ok.1 ((λ k. (g.in-22 k).kind), λ k. (g.from-23 k).no_kind) in
          let c = content-ok.1 ((λ k. (g.in-22 k).content), λ k. (g.from-23 k).no-content) in
          let l = variables-ok.1 ((λ k. let x = g.from-23 k in list.1 (x.variables-count, x.variables)), λ k. (g.in-22 k).no-variables) in
          let i = inventory-ok.1 ((λ k. let x = (g.from-23 k).inventory in (x.ends, x.bytes)), λ k. (g.in-22 k).no-inventory) in
          (place_ok.1 (g.position, n), (t, (c, (l, i))))

pub object-ok : (r : ObjectRow) → object_row.Ok r ↔ ObjectGood r
unfolding object_row iso ◌⨾◌ number prefixed
object-ok r =
    let x = s32-ok r.x in
    let y = s32-ok r.y in
    let z = s32-ok r.z in (
      (λ h. record { kind = h.0; x = x.0 h.1.0; y = y.0 h.1.1.0; z = z.0 h.1.1.1.0; content = h.1.1.1.1 }),
      λ g. (g.kind, (x.1 g.x, (y.1 g.y, (z.1 g.z, g.content)))),
    )

pub timer-ok : (seen : List TimerRow) (r : TimerRow) → (timer_row seen).Ok r ↔ (TimerGood r × (unused (λ (r : TimerRow). r.position) all seen r.position ≡ true))
unfolding timer_row iso ◌⨾◌
timer-ok seen r =
    let p = position-ok (λ (r : TimerRow). r.position) seen r.position in
    let t = s32-ok r.timeout in
    let e = s32-ok r.elapsed in (
      (λ h. (record { position = (p.0 h.0).0; timeout = t.0 h.1.0; elapsed = e.0 h.1.1 }, (p.0 h.0).1)),
      λ h. (p.1 (h.0.position, h.1), (t.1 h.0.timeout, e.1 h.0.elapsed)),
    )
