-- How long a frame is, where of each field no more than its length counts.
use Prim.Native.Nat.{ℕ, ◌+◌, ◌<◌, ◌≤◌}
use mathlib.Core.Path.{◌≡◌, refl, ap, sym, subst⁻¹, ◌∙◌}
use mathlib.Core.Option.{Option, some, none, map, none-ne-some, some-ne-none}
use mathlib.Core.List.{List, []}
use mathlib.Core.Bool.{Bool, true, false, cond}
use native.Mathlib.Omega.{arith}
use lib.Dec.{leb}
use lib.ListN.{length, drop, length-drop, drop_of_length-le}
use lib.Seq.{drop-drop}
use borrow.Author.Tests.{le-leb, lt-leb, leb-true, leb-false}
use Rattle.std.specs.Bool.{then_some}
use Rattle.wire.specs.Told.{option_of}
use Rattle.wire.specs.Read.{Read, done, refused, bind, map_read, shift}
use Rattle.wire.specs.Format.{◌⨾◌, next, pair, iso, ends-in}
use Rattle.wire.specs.Formats.{◌▹◌, u16, s32, signed}
use Rattle.wire.proofs.Steps.{number-done, number-ends}
use Rattle.wire.proofs.Joints.{refine-all}
use Rattle.mapblock.specs.Inventory.{BlockFormat}
use Rattle.mapblock.specs.Layout.{all, unused, unmapped, name_row}
use Rattle.mapblock.specs.MetadataChecks.{metadata_row_for}
use Rattle.mapblock.specs.Rows.{name_fields, metadata_fields}
use Rattle.mapblock.specs.declared.names.NameFields.{NameFields}
use Rattle.mapblock.specs.declared.metadata.MetadataFields.{MetadataFields}
use Rattle.mapblock.specs.declared.fault.Fault.{Fault}
use Rattle.mapblock.specs.declared.fault.Fault.TheVariants as fault
use Rattle.mapblock.proofs.Readings.{num}
use Rattle.block_writer.specs.Frames.{name_frame, metadata_frame, timer_frame}
use Rattle.block_writer.specs.BlockParts.{given}
use Rattle.block_writer.specs.Sections.{frame_of, length_read}
use Rattle.block_writer.specs.declared.frames.SectionKind.{SectionKind}

-- ---- lengths
length-map : {A B : Type 0} (f : A → B) (r : Read Fault A) → length_read (map_read f r) ≡ length_read r
length-map f (done a n) = refl
length-map f (refused e p) = refl

length_shift : {A B : Type 0} (n : ℕ) (f : A → B) (r : Read Fault A) → length_read (shift n f r) ≡ map (λ m. n + m) (length_read r)
length_shift n f (done a m) = refl
length_shift n f (refused e p) = refl

length_some : {A : Type 0} (r : Read Fault A) {n : ℕ} → some n ≡ length_read r → (a : A) × (r ≡ done a n)
length_some (done a m) {n} h = let z : m ≡ n = cc in (a, ap (done a) z)
length_some (refused e p) {n} h = absurd (some-ne-none n h)

length_none : {A : Type 0} (r : Read Fault A) → none ≡ length_read r → (e : Fault) × (p : ℕ) × (r ≡ refused e p)
length_none (done a m) h = absurd (none-ne-some m h)
length_none (refused e p) h = (e, p, refl)

abbrev pub Long : {A : Type 0} → BlockFormat A → List ℕ → Option ℕ
Long f s = length_read (f.read s)

-- what was told of a reading has its length
pub long-told : {A B : Type 0} (to : A → B) (f : BlockFormat A) (s : List ℕ) {r : Read Fault B} → r ≡ map_read to (f.read s) → length_read r ≡ Long f s
long-told to f s h = rw h (length-map to (f.read s))

pub long-done : {A : Type 0} (f : BlockFormat A) (s : List ℕ) {n : ℕ} → some n ≡ Long f s → (a : A) × (f.read s ≡ done a n)
long-done f s h = length_some (f.read s) h

pub long-refused : {A : Type 0} (f : BlockFormat A) (s : List ℕ) → none ≡ Long f s → (e : Fault) × (p : ℕ) × (f.read s ≡ refused e p)
long-refused f s h = length_none (f.read s) h

pub long-in : {A : Type 0} (f : BlockFormat A) (s : List ℕ) {n : ℕ} → some n ≡ Long f s → n ≤ length s
long-in f s h = ends-in f (long-done f s h).1

-- ---- one after the other
module _ {A B : Type 0} (f : BlockFormat A) (g : BlockFormat B) (s : List ℕ) where
  then_by : (r : Read Fault A) → length_read (bind r (next (λ _. g) s)) ≡ (given (length_read r) λ n. map (λ m. n + m) (Long g (drop n s)))
  then_by (done a n) = length_shift n (pair a) (g.read (drop n s))
  then_by (refused e p) = refl

  length-then : Long (f ▹ g) s ≡ (given (Long f s) λ n. map (λ m. n + m) (Long g (drop n s)))
  unfolding ◌⨾◌
  length-then = then_by (f.read s)

-- a field of so many bytes
abbrev Width : {A : Type 0} → ℕ → BlockFormat A → Type 0
Width w f = (s : List ℕ) → Long f s ≡ cond (leb w (length s)) (some w) none

number-width : (k : ℕ) → Width k (num k)
number-width k s = go (leb k (length s)) refl
  where
    go : (b : Bool) → leb k (length s) ≡ b → Long (num k) s ≡ cond b (some k) none
    go true h = ap length_read (number-done fault.Ends k s (leb-true k (length s) h))
    go false h = ap length_read (number-ends fault.Ends k s (leb-false k (length s) h))

s32-width : Width 4 (s32 {ends = fault.Ends})
unfolding signed iso
s32-width s = length-map _ ((num 4).read s) ∙ number-width 4 s

-- a field that is not empty, behind one of so many bytes
skip : {A B : Type 0} (f : BlockFormat A) (g : BlockFormat B) (w : ℕ) (s : List ℕ) → Width w f → Long g [] ≡ none → Long (f ▹ g) s ≡ map (λ m. w + m) (Long g (drop w s))
skip f g w s h k = length-then f g s ∙ rw (h s) (go (leb w (length s)) refl)
  where
    go : (b : Bool) → leb w (length s) ≡ b
        → (given (cond b (some w) none) λ n. map (λ m. n + m) (Long g (drop n s))) ≡ map (λ m. w + m) (Long g (drop w s))
    go true e = refl
    go false e = let short : length s ≤ w = omega (arith, leb-false w (length s) e) in rw (drop_of_length-le s short, k)

-- two fields of which the first is not empty
begins : {A B : Type 0} (f : BlockFormat A) (g : BlockFormat B) → Long f [] ≡ none → Long (f ▹ g) [] ≡ none
begins f g h = length-then f g [] ∙ rw h

-- ---- names
-- no id is used before a row that is alone
pub name-alone : (s : List ℕ) → (name_row all []).read s ≡ name_frame.read s
unfolding name_row name_frame iso ◌⨾◌ unused
name-alone s = rw (refine-all (unmapped all []) fault.IdTwice u16 s (λ a. refl))

pub name-told : (s : List ℕ) {r : Read Fault NameFields} → r ≡ map_read name_fields ((name_row all []).read s) → length_read r ≡ Long name_frame s
name-told s h = long-told name_fields name_frame s (rw (name-alone s) at h)

-- ---- metadata
pub metadata-told : (v : ℕ) (s : List ℕ) {r : Read Fault MetadataFields} → r ≡ map_read (metadata_fields v) ((metadata_row_for false v).read s)
    → length_read r ≡ Long (metadata_frame v) s
unfolding metadata_frame
metadata-told v s h = long-told (metadata_fields v) (metadata_frame v) s h

-- ---- timers
module _ (s : List ℕ) where
  timer-length : Long timer_frame s ≡ map (λ m. 2 + m) (map (λ m. 4 + m) (Long s32 (drop 6 s)))
  unfolding timer_frame iso
  timer-length =
      let last = skip s32 s32 4 (drop 2 s) s32-width (s32-width []) ∙ ap (λ (t : List ℕ). map (λ m. 4 + m) (Long s32 t)) (drop-drop 4 2 s) in
      length-map _ ((u16 ▹ s32 ▹ s32).read s)
      ∙ skip u16 (s32 ▹ s32) 2 s (number-width 2) (begins s32 s32 (s32-width []))
      ∙ ap (map (λ m. 2 + m)) last

  timer-short : length s < 10 → none ≡ Long timer_frame s
  timer-short h =
      let k : length (drop 6 s) < 4 = rw length-drop (omega arith) in
      sym (timer-length ∙ rw (s32-width (drop 6 s), lt-leb 4 (length (drop 6 s)) k))

  timer-whole : 10 ≤ length s → some 10 ≡ Long timer_frame s
  timer-whole h =
      let k : 4 ≤ length (drop 6 s) = rw length-drop (omega arith) in
      sym (timer-length ∙ rw (s32-width (drop 6 s), le-leb 4 (length (drop 6 s)) k))

  pub timer-told : (b : Bool) → leb 10 (length s) ≡ b → option_of (then_some b 10) ≡ Long timer_frame s
  timer-told true e = timer-whole (leb-true 10 (length s) e)
  timer-told false e = timer-short (leb-false 10 (length s) e)

-- ---- any section
pub of-section : {k j : SectionKind} (v : ℕ) (s : List ℕ) {o : Option ℕ} → k ≡ j → o ≡ Long (frame_of j v) s → o ≡ Long (frame_of k v) s
of-section v s {o} e h = subst⁻¹ (λ (k : SectionKind). o ≡ Long (frame_of k v) s) e h
