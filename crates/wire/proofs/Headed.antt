-- A head, read and written; and what one format behind it says of another.
use Prim.Native.Nat.{ℕ, ◌+◌, ◌-◌, ◌<◌, ◌≤◌}
use mathlib.Core.Path.{◌≡◌, refl, ap, sym, ◌∙◌}
use mathlib.Core.Bool.{Bool, true, false}
use mathlib.Core.List.{List, ◌++◌}
use native.Mathlib.Omega.{arith}
use lib.Dec.{eqb, leb}
use lib.ListN.{length, take, drop, length-append}
use lib.Seq.{drop-drop}
use borrow.Author.Tests.{leb-true, leb-false, eqb-true, eqb-false}
use Rattle.wire.specs.Bytes.{to_be, from_be}
use Rattle.wire.specs.Marks.{starts}
use Rattle.wire.specs.Read.{Read, done, refused, shift, to_option, not_done, to_option-is, Misread, at_place}
use Rattle.wire.specs.Format.{Format, refine, ◌⨾◌, iso, run}
use Rattle.wire.specs.Formats.{number, u16, u32, fixed, behind, headed, head_length, head}
use Rattle.wire.specs.Store.{stored, PutAt}
use Rattle.wire.specs.Told.{short, told_number, told_head}
use Rattle.std.specs.Prelude.{Option, Some, None}
use Rattle.wire.proofs.Steps.{mark-done, mark-fails, mark-ends, number-done, number-ends, number-told}
use Rattle.wire.proofs.Fixed.{fixed_on, fixed-other, fixed-refused}
use Rattle.wire.proofs.Overwrites.{stored-fits, stored-not}
use Rattle.wire.proofs.Puts.{put-number, put_two}

-- what stands behind the mark and the version, told from the mark's first byte
abbrev pub behind_head : {E A : Type 0} → Read E A → Read E A
behind_head r = shift 3 (λ a. a) (shift 2 (λ a. a) r)

behind-done : {E A : Type 0} (r : Read E A) (a : A) (n : ℕ) → behind_head r ≡ done a n → r ≡ done a (n - 5)
behind-done (done b i) a n h = let x : b ≡ a = cc in let y : 3 + (2 + i) ≡ n = cc in let z : i ≡ n - 5 = omega arith in rw (x, z)
behind-done (refused e p) a n h = not_done h

behind-refused : {E A : Type 0} (r : Read E A) {e : E} {p : ℕ} → behind_head r ≡ refused e p → (q : ℕ) × (r ≡ refused e q)
behind-refused (done b i) h = not_done (sym h)
behind-refused (refused k q) h = (q, (cc))

-- ---- the mark and the version, and what follows them
module _ (m : List ℕ) (three : length m ≡ 3) (v : ℕ) (s : List ℕ) {E A : Type 0} (e : E) (f : Format E e A) where
  pub headed-unmarked : starts m s ≡ false → (headed m v e f).read s ≡ refused e 0
  headed-unmarked h = go (leb (length m) (length s)) refl
    where
      go : (b : Bool) → leb (length m) (length s) ≡ b → (headed m v e f).read s ≡ refused e 0
      go true i = mark-fails e m e (fixed 2 v e f) s (leb-true _ _ i) h
      go false i = mark-ends e m e (fixed 2 v e f) s (leb-false _ _ i)

  module _ (k : starts m s ≡ true) where
    behind-mark : {r : Read E A} → (fixed 2 v e f).read (drop 3 s) ≡ r → (headed m v e f).read s ≡ shift 3 (λ a. a) r
    behind-mark {r} h =
        mark-done e m e (fixed 2 v e f) s k (ap (λ (n : ℕ). (fixed 2 v e f).read (drop n s)) three ∙ h)
        ∙ ap (λ (n : ℕ). shift n (λ a. a) r) three

    pub headed-unversioned : told_number {A = ℕ} 2 None ≡ (u16 {ends = short}).read (drop 3 s) → (headed m v e f).read s ≡ refused e 3
    headed-unversioned h = behind-mark (fixed-refused e 2 v e f (drop 3 s) (number-told e 2 (drop 3 s) h))

    module _ {x : ℕ} (h : told_number 2 (Some x) ≡ (u16 {ends = short}).read (drop 3 s)) where
      pub headed-other : (x ≡ v → ⊥) → (headed m v e f).read s ≡ refused e 3
      headed-other n = behind-mark (fixed-other e 2 v e f (drop 3 s) (number-told e 2 (drop 3 s) h) n)

      pub headed-on : x ≡ v → (headed m v e f).read s ≡ behind_head (f.read (drop 5 s))
      headed-on o =
          behind-mark
          (fixed_on e 2 v e f (drop 3 s) (number-told e 2 (drop 3 s) h ∙ ap (λ (y : ℕ). done y 2) o) ∙ ap (λ (l : List ℕ). shift 2 (λ a. a) (f.read l)) (drop-drop 2 3 s))

-- which of the two it is, whatever follows
data Opening (m : List ℕ) (v : ℕ) (s : List ℕ) : Type 1 where
  misheaded : (p : ℕ) → ((E A : Type 0) (e : E) (f : Format E e A) → (headed m v e f).read s ≡ refused e p) → Opening m v s
  opens : ((E A : Type 0) (e : E) (f : Format E e A) → (headed m v e f).read s ≡ behind_head (f.read (drop 5 s))) → Opening m v s

module _ (m : List ℕ) (three : length m ≡ 3) (v : ℕ) (s : List ℕ) where
  opening : Opening m v s
  opening = go (starts m s) refl (leb 2 (length (drop 3 s))) refl (eqb (from_be 0 (take 2 (drop 3 s))) v) refl
    where
      go : (a : Bool) → starts m s ≡ a → (b : Bool) → leb 2 (length (drop 3 s)) ≡ b → (c : Bool) → eqb (from_be 0 (take 2 (drop 3 s))) v ≡ c → Opening m v s
      go false h b i c j = misheaded 0 (λ E A e f. headed-unmarked m three v s e f h)
      go true h false i c j = misheaded 3 (λ E A e f. headed-unversioned m three v s e f h (sym (number-ends short 2 (drop 3 s) (leb-false _ _ i))))
      go true h true i false j = misheaded 3 (λ E A e f. headed-other m three v s e f h (sym (number-done short 2 (drop 3 s) (leb-true _ _ i))) (eqb-false _ _ j))
      go true h true i true j = opens (λ E A e f. headed-on m three v s e f h (sym (number-done short 2 (drop 3 s) (leb-true _ _ i))) (eqb-true _ _ j))

  -- f and g behind the same mark and version
  module _ {E F A B : Type 0} (e : E) (d : F) (f : Format E e A) (g : Format F d B) where
    pub headed-misread : ((x : E) (p : ℕ) → f.read (drop 5 s) ≡ refused x p → Misread (g.read (drop 5 s))) → Misread ((headed m v e f).read s) → Misread ((headed m v d g).read s)
    headed-misread more (at_place {e = x} p h) = go opening
      where
        later : {r : Read F B} → (headed m v d g).read s ≡ behind_head r → Misread r → Misread ((headed m v d g).read s)
        later k (at_place q i) = at_place _ (k ∙ ap behind_head i)

        go : Opening m v s → Misread ((headed m v d g).read s)
        go (misheaded q k) = at_place q (k F B d g)
        go (opens k) =
            let y = behind-refused (f.read (drop 5 s)) (sym (k E A e f) ∙ h) in
            later (k F B d g) (more x y.0 y.1)

    pub headed-done : {a : A} {n : ℕ} → (headed m v e f).read s ≡ done a n
        → (f.read (drop 5 s) ≡ done a (n - 5)) × ((headed m v d g).read s ≡ behind_head (g.read (drop 5 s)))
    headed-done {a} {n} h = go opening
      where
        go : Opening m v s → (f.read (drop 5 s) ≡ done a (n - 5)) × ((headed m v d g).read s ≡ behind_head (g.read (drop 5 s)))
        go (misheaded q k) = not_done (sym (k E A e f) ∙ h)
        go (opens k) = (behind-done (f.read (drop 5 s)) a n (sym (k E A e f) ∙ h), k F B d g)

-- ---- of the whole head the same is found, whatever the fault
module _ (m : List ℕ) (three : length m ≡ 3) (s : List ℕ) {E F : Type 0} (e : E) (d : F) where
  pub head-found : to_option ((head {ends = e} m).read s) ≡ to_option ((head {ends = d} m).read s)
  head-found = go (opening m three 1 s)
    where
      same_number : (b : Bool) → leb 4 (length (drop 5 s)) ≡ b → to_option (behind_head ((u32 {ends = e}).read (drop 5 s))) ≡ to_option (behind_head ((u32 {ends = d}).read (drop 5 s)))
      same_number true h = rw (number-done e 4 (drop 5 s) (leb-true _ _ h), number-done d 4 (drop 5 s) (leb-true _ _ h))
      same_number false h = rw (number-ends e 4 (drop 5 s) (leb-false _ _ h), number-ends d 4 (drop 5 s) (leb-false _ _ h))

      go : Opening m 1 s → to_option ((head {ends = e} m).read s) ≡ to_option ((head {ends = d} m).read s)
      go (misheaded p k) = ap to_option (k E ℕ e u32) ∙ to_option-is (k F ℕ d u32)
      go (opens k) = ap to_option (k E ℕ e u32) ∙ same_number (leb 4 (length (drop 5 s))) refl ∙ to_option-is (k F ℕ d u32)

-- the number that stands behind the mark and the version, as the head's
pub head-told : (r : Option ℕ) → told_head r ≡ to_option (behind_head (told_number 4 r))
head-told (Some n) = refl
head-told None = refl

-- ---- written
module _ (m : List ℕ) (three : length m ≡ 3) (n : ℕ) (d : List ℕ) where
  size : length (m ++ (to_be 2 1 ++ to_be 4 n)) ≡ head_length
  size = omega (arith, three, length-append m (to_be 2 1 ++ to_be 4 n))

  pub head-not-put : length d < head_length → d ≡ stored 0 ((head {ends = short} m).encode n) d
  unfolding behind iso ◌⨾◌ refine number run
  head-not-put h = sym (stored-not 0 (m ++ (to_be 2 1 ++ to_be 4 n)) d (omega (arith, size)))

  pub head-put : {a b c : List ℕ} → head_length ≤ length d → a ≡ stored 0 m d → b ≡ stored 3 ((u16 {ends = short}).encode 1) a → c ≡ stored 5 ((u32 {ends = short}).encode n) b
      → c ≡ stored 0 ((head {ends = short} m).encode n) d
  unfolding behind iso ◌⨾◌ refine number run
  head-put h e f g =
      let room : 0 + length (m ++ (to_be 2 1 ++ to_be 4 n)) ≤ length d = omega (arith, size) in
      let marked : PutAt 0 m d _ 3 = record { ends = omega (arith, three); overwrites = e ∙ stored-fits 0 m d (omega (arith, three)) } in
      (put_two room marked (λ i. put_two i (put-number 3 2 1 (omega arith) f) (λ j. put-number 5 4 n (omega arith) g))).overwrites
      ∙ sym (stored-fits 0 (m ++ (to_be 2 1 ++ to_be 4 n)) d room)
