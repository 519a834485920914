-- The verdict: a block read in two goes, and what the end of the scan answers.
use Prim.Native.Nat.{ℕ, ◌+◌, ◌*◌, ◌<◌, ◌≤◌}
use mathlib.Core.Path.{◌≡◌, refl, ap, ap₂, sym, ◌∙◌}
use mathlib.Core.Option.{some, none}
use mathlib.Core.List.{List}
use mathlib.Core.Bool.{Bool}
use native.Mathlib.Nat.{add_assoc}
use native.Mathlib.Omega.{arith}
use lib.ListN.{length, drop, length-drop}
use lib.Seq.{drop-drop}
use borrow.Author.Tests.{eq-eqb, ne_eqb}
use Rattle.wire.specs.Bytes.{Bytes, bytes_drop}
use Rattle.wire.specs.Read.{Read, done, refused, map_read, shift, not_done, same-refusal, map-done, map-refused, shift-done, shift-refused}
use Rattle.wire.specs.Format.{◌⨾◌, iso, pair, ends-in}
use Rattle.wire.specs.Formats.{Shape, into, ◌▹◌}
use Rattle.mapblock.specs.Inventory.{BlockFormat}
use Rattle.mapblock.specs.Data.{Block, Timers}
use Rattle.mapblock.specs.Layout.{width, late_timers}
use Rattle.mapblock.specs.Block.{block, first_unmapped, param0_at, verdict}
use Rattle.mapblock.specs.Params.{first_unmapped_in}
use Rattle.block_reader.specs.Sections.{scanned_of}
use Rattle.block_reader.specs.Scan.{with_late_timers_at, ReadUpTo}
use Rattle.mapblock.specs.Told.{ended}
use Rattle.mapblock.specs.declared.fault.Fault.{Fault}
use Rattle.mapblock.specs.declared.fault.Fault.TheVariants as fault
use Rattle.block_reader.specs.declared.scan.Scanned.{Scanned}
use Rattle.mapblock.proofs.Readings.{ended-done, ended-refused}
use Rattle.mapblock.proofs.Entries.{first_unmapped-same}

-- ---- told from further in front
pub shift-twice : {A B C : Type 0} (n m : ℕ) (f : B → C) (g : A → B) (r : Read Fault A) → shift n f (shift m g r) ≡ shift (n + m) (λ a. f (g a)) r
shift-twice n m f g (done a k) = rw add_assoc
shift-twice n m f g (refused e p) = rw add_assoc

pub map-shift : {A B C : Type 0} (n : ℕ) (f : B → C) (g : A → B) (r : Read Fault A) → map_read f (shift n g r) ≡ shift n (λ a. f (g a)) r
map-shift n f g (done a k) = refl
map-shift n f g (refused e p) = refl

-- ---- G is F, and then X
pub record Then {A B C : Type 0} (F : BlockFormat A) (G : BlockFormat B) (X : BlockFormat C) (put : A → C → B) : Type 0 where
  pub fails : (s : List ℕ) (e : Fault) (p : ℕ) → F.read s ≡ refused e p → G.read s ≡ refused e p
  pub goes : (s : List ℕ) (a : A) (n : ℕ) → F.read s ≡ done a n → G.read s ≡ shift n (put a) (X.read (drop n s))

pub then_one : {A C : Type 0} (F : BlockFormat A) (X : BlockFormat C) → Then F (F ▹ X) X pair
unfolding ◌⨾◌
then_one F X = record { fails = λ s e p h. rw h; goes = λ s a n h. rw h }

module _ {A B C D : Type 0} (H : BlockFormat D) (F : BlockFormat A) (G : BlockFormat B) (X : BlockFormat C) (put : A → C → B) (t : Then F G X put) where
  more-fails : (s : List ℕ) (e : Fault) (p : ℕ) (r : Read Fault D) → H.read s ≡ r → (H ▹ F).read s ≡ refused e p → (H ▹ G).read s ≡ refused e p
  unfolding ◌⨾◌
  more-fails s e p (done d n) g h =
      let x = shift-refused n (pair d) (F.read (drop n s)) e p (rw g at h) in
      rw (g, t.fails (drop n s) e x.0 x.1, x.2)
  more-fails s e p (refused k q) g h = rw g (same-refusal {A = D × A} (rw g at h))

  put_on : List ℕ → D × A → ℕ → Read Fault (D × B)
  put_on s x m = shift m (λ c. pair x.0 (put x.1 c)) (X.read (drop m s))

  more-goes : (s : List ℕ) (x : D × A) (m : ℕ) (r : Read Fault D) → H.read s ≡ r → (H ▹ F).read s ≡ done x m
      → (H ▹ G).read s ≡ put_on s x m
  unfolding ◌⨾◌ put_on
  more-goes s x m (done d n) g h =
      let y = shift-done n (pair d) (F.read (drop n s)) x m (rw g at h) in
      let e : (H ▹ G).read s ≡ shift n (pair d) (shift y.1 (put y.0) (X.read (drop y.1 (drop n s)))) = rw (g, t.goes (drop n s) y.0 y.1 y.2) in
      e ∙ shift-twice n y.1 (pair d) (put y.0) (X.read (drop y.1 (drop n s))) ∙ ap (λ (l : List ℕ). shift (n + y.1) (λ c. pair d (put y.0 c)) (X.read l)) (drop-drop y.1 n s)
      ∙ ap₂ (put_on s) y.3 y.4
  more-goes s x m (refused k q) g h = not_done {A = D × A} (rw g at h)

  pub then-more : Then (H ▹ F) (H ▹ G) X (λ x c. pair x.0 (put x.1 c))
  unfolding put_on
  then-more = record { fails = λ s e p h. more-fails s e p (H.read s) refl h; goes = λ s x m h. more-goes s x m (H.read s) refl h }

-- the same of records
module _ {A A' B B' C : Type 0} (K : Shape A A') (L : Shape B B') (F : BlockFormat A) (G : BlockFormat B) (X : BlockFormat C) (put : A → C → B) (t : Then F G X put) where
  pub then-into : Then (into K F) (into L G) X (λ a c. L.make (put (K.parts a) c))
  unfolding iso
  then-into = record {
    fails = λ s e p h. rw (t.fails s e p (map-refused K.make (F.read s) e p h));
    goes = λ s a n h.
        let x = map-done K.make (F.read s) a n h in
        let same : x.0 ≡ K.parts a = sym (K.back x.0) ∙ ap K.parts x.2 in
        ap (map_read L.make) (t.goes s x.0 n x.1) ∙ map-shift n L.make (put x.0) (X.read (drop n s))
        ∙ ap (λ (q : A). shift n (λ c. L.make (put q c)) (X.read (drop n s))) same;
  }

-- ---- the verdict by what the block's reading found
module _ (free : ℕ → Bool) (s : List ℕ) where
  pub verdict-refused : {e : Fault} {p : ℕ} → (block free).read s ≡ refused e p → refused e p ≡ map_read scanned_of (verdict free s)
  unfolding verdict
  verdict-refused h = rw h

  module _ {b : Block} {n : ℕ} (h : (block free).read s ≡ done b n) where
    pub verdict-after : (n ≡ length s → ⊥) → refused fault.BytesAfter n ≡ map_read scanned_of (verdict free s)
    unfolding verdict
    verdict-after k = rw (h, ne_eqb _ _ k)

    pub verdict-first_unmapped : {i : ℕ} → n ≡ length s → first_unmapped free b ≡ some i → refused fault.IdUnmapped (param0_at b i) ≡ map_read scanned_of (verdict free s)
    unfolding verdict
    verdict-first_unmapped k g = rw (h, eq-eqb _ _ k, g)

    pub verdict-done : n ≡ length s → first_unmapped free b ≡ none → done (scanned_of b) n ≡ map_read scanned_of (verdict free s)
    unfolding verdict
    verdict-done k g = rw (h, eq-eqb _ _ k, g)

-- ---- the end of the scan
module _ {free : ℕ → Bool} {s : List ℕ} {w : Scanned} {at : ℕ} {t : List ℕ} (u : ReadUpTo free s w at t) where
  abbrev late : Read Fault Timers
  late = (late_timers w.head.version).read (drop at s)

  pub late-refused : {e : Fault} {p : ℕ} → refused e p ≡ ended late → refused e (at + p) ≡ map_read scanned_of (verdict free s)
  late-refused k = verdict-refused free s (u.reads ∙ ap (shift at u.with) (ended-refused late k))

  pub late-inside : {n : ℕ} → done tt n ≡ ended late → at + n ≤ length s
  late-inside k = omega (arith, ends-in (late_timers w.head.version) (ended-done late k).1, length-drop at s, u.inside)

  module _ {n : ℕ} (k : done tt n ≡ ended late) where
    taken : (block free).read s ≡ done (u.with (ended-done late k).0) (at + n)
    taken = u.reads ∙ ap (shift at u.with) (ended-done late k).1

    same-first_unmapped : Bytes s → first_unmapped free (u.with (ended-done late k).0) ≡ first_unmapped_in w.head.version (drop w.lists s) t
    same-first_unmapped b = let x = (ended-done late k).0 in first_unmapped-same (u.with x) w.head.version (drop w.lists s) (u.version x) (u.nodes x) free t (u.marked x) (bytes_drop w.lists s b)

    pub late-after : at + n < length s → refused fault.BytesAfter (at + n) ≡ map_read scanned_of (verdict free s)
    late-after l = verdict-after free s taken (λ e. omega arith)

    pub late-first_unmapped : {i : ℕ} → Bytes s → length s ≤ at + n → some i ≡ first_unmapped_in w.head.version (drop w.lists s) t
        → refused fault.IdUnmapped (w.lists + width w.head.version * i) ≡ map_read scanned_of (verdict free s)
    late-first_unmapped {i} b l g =
        let x = ended-done late k in
        let end : at + n ≡ length s = omega (arith, late-inside k) in
        let place : param0_at (u.with x.0) i ≡ w.lists + width w.head.version * i = ap₂ (λ (l v : ℕ). l + width v * i) (ap (λ (f : Scanned). f.lists) (u.shows x.0 n x.1)) (u.version x.0) in
        ap (refused fault.IdUnmapped) (sym place) ∙ verdict-first_unmapped free s taken end (same-first_unmapped b ∙ sym g)

    pub late-done : Bytes s → length s ≤ at + n → none ≡ first_unmapped_in w.head.version (drop w.lists s) t
        → done (with_late_timers_at w at n) (at + n) ≡ map_read scanned_of (verdict free s)
    late-done b l g =
        let x = ended-done late k in
        let end : at + n ≡ length s = omega (arith, late-inside k) in
        ap (λ (f : Scanned). done f (at + n)) (sym (u.shows x.0 n x.1)) ∙ verdict-done free s taken end (same-first_unmapped b ∙ sym g)
