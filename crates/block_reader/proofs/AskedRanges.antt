-- Row questions: a row that was told ends in the bytes.
use Prim.Native.Nat.{ℕ, ◌≤◌}
use mathlib.Core.Path.{◌≡◌, ap, sym}
use mathlib.Core.List.{List}
use mathlib.Core.Bool.{Bool, true, false, cond}
use lib.Dec.{eqb}
use lib.ListN.{length}
use Rattle.std.specs.Prelude.{Ok, Err, Result, IfOk}
use Rattle.wire.specs.Read.{Read, done, refused, map_read}
use Rattle.wire.specs.Answer.{good, plain, no_such}
use Rattle.wire.proofs.Answers.{no-good}
use Rattle.mapblock.specs.Inventory.{BlockFormat}
use Rattle.mapblock.specs.Numbers.{answer_of}
use Rattle.mapblock.specs.declared.fault.Fault.{Fault}
use Rattle.mapblock.proofs.Leaves.{told_in}
use Rattle.block_reader.specs.AskedRows.{told_row_answer}
use Rattle.block_reader.specs.RowQuestions.{front_row}
use Rattle.block_reader.specs.declared.row_questions.RowError.{RowError}

module _ {A : Type 0} (s : List ℕ) where
  answer-done : (r : Read Fault A) {a : A} {n : ℕ} → good (a, n) ≡ answer_of r → done a n ≡ r
  answer-done (done b m) {a} {n} h = let e : ◌≡◌ {A = A × ℕ} (a, n) (b, m) = cc in ap (λ (x : A × ℕ). done x.0 x.1) e
  answer-done (refused f p) h = no-good (sym h)

  asked-done : (r : Read Fault A) {a : A} {n : ℕ} → good (a, n) ≡ front_row s r → done a n ≡ r
  asked-done r {a} {n} h = go (eqb (length s) 0) h
    where
      go : (b : Bool) → good (a, n) ≡ cond b (plain no_such) (answer_of r) → done a n ≡ r
      go true e = no-good (sym e)
      go false e = answer-done r e

pub row_within : {A B : Type 0} (to : A → B) (f : BlockFormat A) (s : List ℕ) (r : Result (B × ℕ) RowError) → told_row_answer r ≡ front_row s (map_read to (f.read s))
    → IfOk r (λ (row : B × ℕ). row.1 ≤ length s)
row_within to f s (Ok (b, n)) h = told_in to f s (asked-done s (map_read to (f.read s)) h)
row_within to f s (Err e) h = tt
