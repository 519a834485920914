-- The head of a tally, read and written.
use Prim.Native.Nat.{ℕ, ◌+◌, ◌≤◌}
use mathlib.Core.Path.{◌≡◌, refl, ap, ◌∙◌}
use mathlib.Core.Bool.{Bool, true, false, cond}
use mathlib.Core.List.{List}
use mathlib.Core.Option.{some, none}
use native.Mathlib.Omega.{arith}
use lib.Dec.{eqb}
use lib.ListN.{length, drop, length-drop}
use lib.Seq.{drop-drop}
use borrow.Author.Tests.{eqb-true, eqb-false, eq-eqb, ne_eqb}
use Rattle.wire.proofs.Tests.{same_test}
use Rattle.wire.specs.Read.{Read, done, refused, shift, to_option, to_option-done, to_option-none, Misread, at_place}
use Rattle.wire.specs.Format.{items, ends-in, refine, ◌⨾◌, iso, run}
use Rattle.wire.specs.Formats.{number, u32, behind, listed, headed, head_length, head}
use Rattle.wire.specs.Store.{stored}
use Rattle.wire.specs.Told.{short}
use Rattle.wire.proofs.Joints.{listed-refused, listed-done}
use Rattle.wire.proofs.Headed.{behind_head, headed-misread, headed-done}
use Rattle.tally.specs.Tally.{Malformed, malformed, TallyFormat, tally_mark, tally_head, head_bytes, whole, row, tally, rows_of, one}

-- ---- items behind a head that states how many they are, to the end of the bytes
module _ {A : Type 0} (m : List ℕ) (three : length m ≡ 3) (item : List A → TallyFormat A) (t : List ℕ) where
  -- items told from the head's first byte
  outward : head_length ≤ length t → (r : Read Malformed (List A)) → whole t (behind_head (shift 4 (λ a. a) r)) ≡ whole (drop head_length t) r
  outward long (done l i) = ap (λ (b : Bool). cond b (some l) none) (same_test (eqb (3 + (2 + (4 + i))) (length t)) yes no)
    where
      yes : eqb (3 + (2 + (4 + i))) (length t) ≡ true → eqb i (length (drop head_length t)) ≡ true
      yes q = let p = eqb-true (3 + (2 + (4 + i))) (length t) q in eq-eqb i (length (drop head_length t)) (omega (arith, length-drop head_length t))

      no : eqb (3 + (2 + (4 + i))) (length t) ≡ false → eqb i (length (drop head_length t)) ≡ false
      no q =
          let p = eqb-false (3 + (2 + (4 + i))) (length t) q in
          ne_eqb i (length (drop head_length t)) (λ z. p (omega (arith, length-drop head_length t, long)))
  outward long (refused x p) = refl

  -- of a head that states n of them they decide
  pub listed-stated : {n : ℕ} → some (n, head_length) ≡ to_option ((head {ends = malformed} m).read t)
      → (head_length ≤ length t) × (whole t ((headed m 1 malformed (listed 4 item)).read t) ≡ whole (drop head_length t) ((items item n).read (drop head_length t)))
  listed-stated {n} h =
      let x = headed-done m three 1 t malformed malformed u32 (listed 4 item) (to_option-done ((head {ends = malformed} m).read t) h) in
      let e : (u32 {ends = malformed}).read (drop 5 t) ≡ done n 4 = x.0 in
      let long : head_length ≤ length t = omega (arith, ends-in (u32 {ends = malformed}) e, length-drop 5 t) in
      let rows : (listed 4 item).read (drop 5 t) ≡ shift 4 (λ l. l) ((items item n).read (drop head_length t)) = listed-done 4 item (drop 5 t) e ∙ rw (drop-drop 4 5 t) in
      (long, ap (whole t) (x.1 ∙ ap behind_head rows) ∙ outward long ((items item n).read (drop head_length t)))

  -- with no head there are none
  pub listed-unstated : none ≡ to_option ((head {ends = malformed} m).read t) → whole t ((headed m 1 malformed (listed 4 item)).read t) ≡ none
  listed-unstated h =
      go
      (headed-misread m three 1 t malformed malformed u32 (listed 4 item)
      (λ x p i. at_place p (listed-refused 4 item (drop 5 t) i)) (to_option-none ((head {ends = malformed} m).read t) h))
    where
      go : Misread ((headed m 1 malformed (listed 4 item)).read t) → whole t ((headed m 1 malformed (listed 4 item)).read t) ≡ none
      go (at_place p i) = rw i

module _ (t : List ℕ) where
  -- the rows of a tally
  pub stated : {n : ℕ} → some (n, head_length) ≡ to_option (tally_head.read t)
      → (head_length ≤ length t) × (rows_of one t ≡ whole (drop head_length t) ((items (row one) n).read (drop head_length t)))
  unfolding rows_of tally
  stated h = listed-stated tally_mark refl (row one) t h

  -- with no head it is no tally
  pub unstated : none ≡ to_option (tally_head.read t) → rows_of one t ≡ none
  unfolding rows_of tally
  unstated h = listed-unstated tally_mark refl (row one) t h

-- ---- written
pub head-put : (n : ℕ) (d : List ℕ) {a : List ℕ} → a ≡ stored 0 ((head {ends = short} tally_mark).encode n) d → a ≡ stored 0 (head_bytes one n) d
unfolding behind iso ◌⨾◌ refine number run
head-put n d h = h
