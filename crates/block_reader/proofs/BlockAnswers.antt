-- What is answered of a whole block: its sections, and the lists that the reader fills.
use Prim.Native.Nat.{ℕ, zero, suc, ◌+◌, ◌-◌, ◌*◌, ◌≤◌}
use mathlib.Core.Path.{◌≡◌, refl, ap, sym, subst, fun_ext, ◌∙◌}
use mathlib.Core.List.{List, append-nil}
use mathlib.Core.Bool.{Bool, true}
use native.Mathlib.Omega.{arith}
use lib.ListN.{length, get_or, take, drop, replicate, drop_of_length-le}
use borrow.Author.Tests.{eq-eqb}
use Rattle.wire.proofs.Lists.{rest-is}
use Rattle.wire.specs.Bytes.{Bytes}
use Rattle.wire.specs.Read.{Read, done, refused, map_read, map-done, map-refused}
use Rattle.wire.specs.Answer.{Answer, good, refusal, map_answer, lent}
use Rattle.mapblock.specs.Data.{Block, Nodes}
use Rattle.mapblock.specs.Layout.{all, width}
use Rattle.mapblock.specs.Block.{verdict}
use Rattle.mapblock.specs.Params.{lists_of}
use Rattle.block_reader.specs.Sections.{scanned_of}
use Rattle.mapblock.specs.Table.{free_in}
use Rattle.mapblock.specs.Numbers.{refusal_number}
use Rattle.block_reader.specs.Questions.{are_whole, block_answer, block_of, shown, sections_of, read_of, lists, ListsHold}
use Rattle.mapblock.specs.declared.fault.Fault.{Fault}
use Rattle.block_reader.specs.declared.scan.Scanned.{Scanned}
use Rattle.block_reader.proofs.Taken.{taken-read}
use Rattle.block_reader.proofs.SectionsThere.{lists-inside, lists-there}

-- ---- what the scan told
pub zeros-at : (n i : ℕ) → ◌≡◌ {A = ℕ} (get_or (replicate n 0) i 0) 0
zeros-at zero i = refl
zeros-at (suc n) zero = refl
zeros-at (suc n) (suc i) = zeros-at n i

-- a clear table frees all
pub clear-all : (n : ℕ) → free_in (replicate n 0) ≡ all
clear-all n = fun_ext (λ i. eq-eqb (get_or (replicate n 0) i 0) 0 (zeros-at n i))

pub clear-table : (n : ℕ) (s : List ℕ) {r : Read Fault Scanned} → r ≡ map_read scanned_of (verdict (free_in (replicate n 0)) s) → r ≡ map_read scanned_of (verdict all s)
clear-table n s h = h ∙ ap (λ (free : ℕ → Bool). map_read scanned_of (verdict free s)) (clear-all n)

pub block_refused : (s : List ℕ) {f : Fault} {p : ℕ} → refused f p ≡ map_read scanned_of (verdict all s) → block_of s ≡ refusal (refusal_number f) 0 p
unfolding block_of
block_refused s {f} {p} h = ap block_answer (map-refused scanned_of (verdict all s) f p (sym h))

-- the block that the scan found, and where it stands
pub record TakenAs (s : List ℕ) (w : Scanned) : Type 0 where
  pub b : Block
  pub n : ℕ
  pub reads : verdict all s ≡ done b n
  pub answer : block_of s ≡ good b
  pub shows : scanned_of b ≡ w
  pub inside : w.lists + (4096 * width w.head.version + 8192) ≤ length s
  pub nodes : b.nodes ≡ lists_of (width w.head.version) (drop w.lists s)

pub taken_as_lem : (s : List ℕ) {w : Scanned} {n : ℕ} → Bytes s → done w n ≡ map_read scanned_of (verdict all s) → TakenAs s w
unfolding block_of
taken_as_lem s {w} {n} y h =
    let x = map-done scanned_of (verdict all s) w n (sym h) in
    let r = taken-read s x.0 n y x.1 in
    subst (TakenAs s) x.2 record {
      b = x.0;
      n = n;
      reads = x.1;
      answer = ap block_answer x.1;
      shows = refl;
      inside = lists-inside s x.0 n y r;
      nodes = lists-there s x.0 n y r;
    }

-- ---- the sections
module _ (s : List ℕ) where
  pub sections-refused : {f : Fault} {p : ℕ} → refused f p ≡ map_read scanned_of (verdict all s) → refusal (refusal_number f) 0 p ≡ sections_of s
  sections-refused h = sym (ap (map_answer shown) (block_refused s h))

  pub sections-told : {w : Scanned} → TakenAs s w → good (w.head, w.sections) ≡ sections_of s
  sections-told k = ap (λ (y : Scanned). good (y.head, y.sections)) (sym k.shows) ∙ sym (ap (map_answer shown) k.answer)

-- ---- the reader; a, b and c are the lengths of the lists lent
module _ (s : List ℕ) (a b c : ℕ) where
  pub read-block : {r : Answer Block} → are_whole a b c ≡ true → block_of s ≡ r → read_of s a b c ≡ r
  read-block h k = rw h k

-- a refusal leaves the lists as they were
pub lists-kept : (x y z : List ℕ) {r : Answer Block} {n o p : ℕ} → r ≡ refusal n o p
    → (refusal n o p ≡ map_answer shown r) × ListsHold r (lists x y z) (lists x y z)
lists-kept x y z h = rw h (refl, (refl, refl, refl))

module _ {s : List ℕ} {w : Scanned} (k : TakenAs s w) {r : Answer Block} (h : r ≡ good k.b) where
  pub read_told : good (w.head, w.sections) ≡ map_answer shown r
  read_told = sections-told s k ∙ ap (map_answer shown) (k.answer ∙ sym h)

  -- a list of the nodes, over one of as many
  pub list-filled : (f : Nodes → List ℕ) (x y : List ℕ) → y ≡ f (lists_of (width w.head.version) (take (length s - w.lists) (drop w.lists s)))
      → length y ≡ length x → y ≡ lent (map_answer (λ (b : Block). f b.nodes) r) x
  list-filled f x y e z =
      let same : y ≡ f k.b.nodes = e ∙ ap (λ (l : List ℕ). f (lists_of (width w.head.version) l)) (rest-is w.lists s) ∙ ap f (sym k.nodes) in
      let size : length x ≤ length (f k.b.nodes) = rw (← same) (omega arith) in
      rw (h, drop_of_length-le x size, append-nil) same
