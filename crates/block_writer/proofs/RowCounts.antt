-- Counting the rows of a section, and of all four.
use Prim.Native.Nat.{ℕ, suc, ◌+◌, ◌-◌, ◌<◌, ◌≤◌}
use mathlib.Core.Path.{◌≡◌, refl, ap, ◌∙◌}
use mathlib.Core.Option.{Option, some, none, map}
use mathlib.Core.List.{List, ◌∷◌}
use native.Mathlib.Nat.{add-zero}
use native.Mathlib.Omega.{arith}
use lib.ListN.{length, drop}
use Rattle.mapblock.specs.Inventory.{BlockFormat}
use Rattle.mapblock.specs.Data.{NameRow, MetadataRow, ObjectRow, TimerRow}
use Rattle.mapblock.specs.Layout.{object_row}
use Rattle.block_writer.specs.Frames.{name_frame, metadata_frame, timer_frame, rows_in, max_rows, section_rows}
use Rattle.block_writer.specs.BlockParts.{BlockParts, given, made, rows_made}
use Rattle.block_writer.specs.Sections.{counts_of, counts_in}
use Rattle.block_writer.proofs.FrameLengths.{Long, long-done, long-refused}
use Rattle.block_writer.proofs.RowsIn.{rows_empty, rows-over, rows_on, rows-stop}

abbrev how_many : {A : Type 0} → BlockFormat A → ℕ → List ℕ → Option ℕ
how_many f k s = map length (rows_in f k s)

-- ---- the loop: of the rows that a u16 counts, so many are counted, and the others start at `rest`
pub record Counting {A : Type 0} (f : BlockFormat A) (s rest : List ℕ) (count : ℕ) : Type 0 where
  pub whole : map (λ n. count + n) (how_many f (max_rows - count) rest) ≡ how_many f max_rows s
  pub few : count ≤ max_rows

module _ {A : Type 0} {f : BlockFormat A} {s rest : List ℕ} {count : ℕ} (c : Counting f s rest count) where
  pub counting-end : length rest ≡ 0 → some count ≡ how_many f max_rows s
  counting-end h = rw (rows_empty f (max_rows - count) rest h, add-zero) at c.whole

  module _ (h : 0 < length rest) where
    pub counting-over : max_rows ≤ count → none ≡ how_many f max_rows s
    counting-over e =
        let z : max_rows - count ≡ 0 = omega arith in
        rw (rows-over f (max_rows - count) rest h z) at c.whole

    pub counting-stop : none ≡ Long f rest → none ≡ how_many f max_rows s
    counting-stop e = rw (rows-stop f (max_rows - count) rest h (long-refused f rest e).2) at c.whole

    pub counting-on : {n : ℕ} → count < max_rows → some n ≡ Long f rest → Counting f s (drop n rest) (count + 1)
    counting-on {n} p e =
        let x = long-done f rest e in
        let left : 0 < max_rows - count = omega arith in
        let next : max_rows - count - 1 ≡ max_rows - (count + 1) = omega arith in
        record {
          whole = rw (← next) (go x.0 (rows_in f (max_rows - count - 1) (drop n rest))) ∙ rw (rows_on f (max_rows - count) rest h left x.1) at c.whole;
          few = omega arith;
        }
      where
        go : (a : A) (o : Option (List A))
            → map (λ n. count + 1 + n) (map length o) ≡ map (λ n. count + n) (map length (map (λ l. a ∷ l) o))
        go a none = refl
        go a (some l) = let z : count + 1 + length l ≡ count + suc (length l) = omega arith in ap some z

-- ---- the four sections: the first that is not whole leaves no counts
module _ (v : ℕ) (names metadata objects timers : List ℕ) where
  pub counts-are : {a b c d : Option ℕ} → a ≡ map length (section_rows name_frame names) → b ≡ map length (section_rows (metadata_frame v) metadata)
      → c ≡ map length (section_rows object_row objects) → d ≡ map length (section_rows timer_frame timers)
      → (given a λ a. given b λ b. given c λ c. given d λ d. some (record { names = a; metadata = b; objects = c; timers = d })) ≡ counts_in v names metadata objects timers
  counts-are e f g h = rw (e, f, g, h)

-- of the block that parts make
pub counts-made : (p : BlockParts) → counts_in p.head.version p.names p.metadata p.objects p.timers ≡ map counts_of (rows_made p)
counts-made p = go (section_rows name_frame p.names) (section_rows (metadata_frame p.head.version) p.metadata) (section_rows object_row p.objects) (section_rows timer_frame p.timers)
  where
    go : (n : Option (List NameRow)) (m : Option (List MetadataRow)) (o : Option (List ObjectRow)) (t : Option (List TimerRow))
        → (given (map length n) λ a. given (map length m) λ b. given (map length o) λ c. given (map length t) λ d. some (record { names = a; metadata = b; objects = c; timers = d }))
        ≡ map counts_of (given n λ n. given m λ m. given o λ o. given t λ t. some (made p n m o t))
    go none m o t = refl
    go (some n) none o t = refl
    go (some n) (some m) none t = refl
    go (some n) (some m) (some o) none = refl
    go (some n) (some m) (some o) (some t) = refl
