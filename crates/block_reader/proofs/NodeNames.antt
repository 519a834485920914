-- The name of a node: where it stands, and the walk that finds it.
use Prim.Native.Nat.{ℕ, ◌+◌, ◌-◌, ◌<◌, ◌≤◌}
use mathlib.Core.Path.{◌≡◌, ap, sym, subst, ◌∙◌}
use mathlib.Core.List.{List, [], ◌∷◌, ◌++◌, append_assoc}
use mathlib.Core.Bool.{Bool, true, false, cond}
use native.Mathlib.Omega.{arith}
use lib.Dec.{eqb}
use lib.ListN.{length, take, drop, length-append, length-drop, take-append-drop}
use lib.Seq.{length-take-le}
use Rattle.std.proofs.lemmas.List.{length-take}
use borrow.Author.Tests.{eq-eqb, ne_eqb, le-leb, lt-leb}
use Rattle.wire.proofs.Lists.{rest-is}
use Rattle.wire.specs.Bytes.{Bytes, bytes_drop}
use Rattle.wire.specs.Read.{done, map_read}
use Rattle.wire.specs.Answer.{good, plain, no_such}
use Rattle.wire.specs.Format.{encode_items}
use Rattle.mapblock.specs.Data.{NameRow}
use Rattle.mapblock.specs.Layout.{all, name_row}
use Rattle.mapblock.specs.Block.{id_at}
use Rattle.mapblock.specs.Params.{id_in}
use Rattle.mapblock.specs.Table.{all_rows}
use Rattle.wire.specs.Ranges.{range_at, bytes_in}
use Rattle.mapblock.specs.Rows.{name_fields}
use Rattle.block_reader.specs.Sections.{sections}
use Rattle.block_reader.specs.Questions.{name_of, name_range_of, name_range, node_name_of, NameRun}
use Rattle.block_reader.specs.Theorems.{Holds, VeryBytes}
use Rattle.wire.specs.declared.ranges.Range.{Range}
use Rattle.mapblock.specs.declared.names.NameFields.{NameFields}
use Rattle.block_reader.specs.declared.scan.Scanned.{Scanned}
use Rattle.mapblock.proofs.Entries.{id_same}
use Rattle.block_reader.proofs.NameWalks.{row-bytes, row-length, head-length, row_head, row_inside, first-row, all-run}
use Rattle.block_reader.proofs.Taken.{taken}
use Rattle.block_reader.proofs.SectionsThere.{part-holds, sections-are-rows}
use Rattle.block_reader.proofs.BlockAnswers.{TakenAs}

-- ---- the very bytes
module _ (s : List ℕ) (id : ℕ) where
  spot-holds : (p q : List ℕ) (seen l : List NameRow) (at : ℕ) → s ≡ p ++ (encode_items (name_row all) seen l ++ q) → at ≡ length p → Holds s (name_range_of l at id) (name_of l id)
  spot-holds p q seen [] at e z = part-holds s p [] q at e z
  spot-holds p q seen (r ∷ l) at e z = go (eqb id r.id) (spot-holds (p ++ (name_row all seen).encode r) q (r ∷ seen) l (at + 4 + length r.name) further place)
    where
      further : s ≡ (p ++ (name_row all seen).encode r) ++ (encode_items (name_row all) (r ∷ seen) l ++ q)
      further = e ∙ simp append_assoc

      place : at + 4 + length r.name ≡ length (p ++ (name_row all seen).encode r)
      place = rw (length-append, row-length seen r) (omega arith)

      here : s ≡ (p ++ row_head r) ++ (r.name ++ (encode_items (name_row all) (r ∷ seen) l ++ q))
      here = further ∙ rw (row-bytes seen r) (simp append_assoc)

      start : at + 4 ≡ length (p ++ row_head r)
      start = rw (length-append, head-length r) (omega arith)

      go : (b : Bool) → Holds s (name_range_of l (at + 4 + length r.name) id) (name_of l id)
          → Holds s (cond b (range_at (at + 4) (length r.name)) (name_range_of l (at + 4 + length r.name) id)) (cond b r.name (name_of l id))
      go true h = part-holds s (p ++ row_head r) r.name (encode_items (name_row all) (r ∷ seen) l ++ q) (at + 4) here start
      go false h = h

-- bytes about a range that holds r
split_at : (s : List ℕ) (p : Range) {r : List ℕ} → Holds s p r → s ≡ take p.start s ++ (r ++ drop p.length (drop p.start s))
split_at s p h =
    sym (take-append-drop p.start s)
    ∙ ap (λ (x : List ℕ). take p.start s ++ x) (sym (take-append-drop p.length (drop p.start s)) ∙ ap (λ (x : List ℕ). x ++ drop p.length (drop p.start s)) h.bytes)

pub very-bytes : VeryBytes
unfolding sections
very-bytes s b n w h i k =
    let x = (sections-are-rows s b n w h).names in
    let p = (sections b).names in
    let start : p.start ≤ length s = omega (arith, x.inside) in
    spot-holds s (id_at b i) (take p.start s) (drop p.length (drop p.start s)) [] b.names p.start (split_at s p x) (sym (length-take-le p.start s start))

-- ---- the walk over the rows of names
-- a range has at most so many bytes as it tells
pub bytes-within : (s : List ℕ) (p : Range) → length (bytes_in s p) ≤ p.length
bytes-within s p = omega (arith, length-take p.length (drop p.start s))

-- What is left of the rows has the name at the same place as all of them.
pub record Finding (names rest : List ℕ) (start at id : ℕ) : Type 0 where
  pub left : name_range_of (all_rows rest) at id ≡ name_range_of (all_rows names) start id
  pub size : at + length rest ≡ start + length names
  pub bytes : Bytes rest

module _ {names rest : List ℕ} {start at id : ℕ} (f : Finding names rest start at id) where
  pub finding-none : all_rows rest ≡ [] → range_at at 0 ≡ name_range_of (all_rows names) start id
  finding-none e = ap (λ (m : List NameRow). name_range_of m at id) (sym e) ∙ f.left

  module _ {row : NameFields} {n : ℕ} (k : done row n ≡ map_read name_fields ((name_row all []).read rest)) where
    pub finding-here : row.id ≡ id → range_at (at + row.name.start) row.name.length ≡ name_range_of (all_rows names) start id
    finding-here e =
        let y = first-row rest f.bytes k in
        let same : id ≡ y.row.id = sym e ∙ sym (ap (λ (z : NameFields). z.id) y.fields) in
        let here : range_at (at + 4) (length y.row.name) ≡ name_range_of (y.row ∷ all_rows (drop n rest)) at id = rw (eq-eqb id y.row.id same) in
        ap (λ (z : NameFields). range_at (at + z.name.start) z.name.length) (sym y.fields) ∙ here ∙ ap (λ (m : List NameRow). name_range_of m at id) (sym y.rows) ∙ f.left

    pub finding-on : (row.id ≡ id → ⊥) → Finding names (take (length rest - n) (drop n rest)) start (at + n) id
    finding-on e =
        let y = first-row rest f.bytes k in
        let other : id ≡ y.row.id → ⊥ = λ z. e (sym (ap (λ (z : NameFields). z.id) y.fields) ∙ sym z) in
        let place : at + n ≡ at + 4 + length y.row.name = omega (arith, y.size) in
        let on : name_range_of (all_rows (drop n rest)) (at + n) id ≡ name_range_of (y.row ∷ all_rows (drop n rest)) at id = rw (ne_eqb id y.row.id other, place) in
        subst (λ (l : List ℕ). Finding names l start (at + n) id) (sym (rest-is n rest)) record {
          left = on ∙ ap (λ (m : List NameRow). name_range_of m at id) (sym y.rows) ∙ f.left;
          size = rw length-drop (omega (arith, f.size, row_inside rest k));
          bytes = bytes_drop n rest f.bytes;
        }

-- ---- the answers
module _ {s : List ℕ} {w : Scanned} (k : TakenAs s w) (y : Bytes s) where
  -- the section of names
  pub names-run : NameRun (bytes_in s w.sections.names) k.b.names
  names-run = subst (λ (x : Scanned). NameRun (bytes_in s x.sections.names) k.b.names) k.shows record {
    bytes = (sections-are-rows s k.b k.n y k.reads).names.bytes;
    good = ((taken s k.b k.n y).0 k.reads).0.names.each;
  }

  pub names_inside : w.sections.names.start + w.sections.names.length ≤ length s
  names_inside = subst (λ (x : Scanned). x.sections.names.start + x.sections.names.length ≤ length s) k.shows (sections-are-rows s k.b k.n y k.reads).names.inside

  -- an id's name among the rows that stand there
  pub spot_in : (id : ℕ) {p : Range} → p ≡ name_range_of (all_rows (bytes_in s w.sections.names)) w.sections.names.start id
      → p ≡ name_range_of k.b.names w.sections.names.start id
  spot_in id h = h ∙ ap (λ (l : List NameRow). name_range_of l w.sections.names.start id) (all-run names-run)

  module _ (i : ℕ) where
    pub node-none : 4096 ≤ i → plain no_such ≡ node_name_of s i
    node-none h = rw (k.answer, lt-leb i 4095 (omega arith))

    -- the name of the id that the lists tell, from where the names start
    pub node-told : {id : ℕ} {p : Range} → i < 4096 → id ≡ id_in w.head.version (take (length s - w.lists) (drop w.lists s)) i
        → p ≡ name_range_of k.b.names w.sections.names.start id → good p ≡ node_name_of s i
    unfolding sections
    node-told {id} {p} h e g =
        let same : id ≡ id_at k.b i = e ∙ ap (λ (l : List ℕ). id_in w.head.version l i) (rest-is w.lists s) ∙ sym (id_same k.b w.head.version (drop w.lists s) (ap (λ (x : Scanned). x.head.version) k.shows) k.nodes i h) in
        let start : w.sections.names.start ≡ (sections k.b).names.start = sym (ap (λ (x : Scanned). x.sections.names.start) k.shows) in
        let spot : p ≡ name_range k.b i = g ∙ rw (start, same) in
        rw (k.answer, le-leb i 4095 (omega arith)) (ap good spot)
