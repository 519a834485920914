-- What checking answers, and what its answer says of the bytes.
use Prim.Native.Nat.{ℕ, ◌≤◌}
use mathlib.Core.Path.{◌≡◌, refl, ap, sym}
use mathlib.Core.Bool.{Bool, true, false}
use mathlib.Core.List.{List, []}
use mathlib.Core.Option.{Option, some, none}
use lib.ListN.{length, drop}
use Rattle.wire.specs.Choice.{no_true, no_false}
use Rattle.wire.specs.Answer.{good, plain, tally_malformed, bytes_of}
use Rattle.wire.proofs.Answers.{no-good}
use Rattle.wire.specs.Places.{start_told}
use Rattle.wire.specs.Bytes.{Bytes, bytes_drop}
use Rattle.wire.specs.Format.{items, items-length}
use Rattle.wire.specs.Formats.{head_length}
use Rattle.tally.specs.Tally.{TallyKind, TallyRows, whole, row, rows_of, one}
use Rattle.tally.specs.Operations.{with_rows, check_of, row_bytes_of}
use Rattle.tally.specs.Told.{told_check}
use Rattle.tally.specs.Walks.{is_some, takes}
use Rattle.std.specs.Bool.{then_some}
use Rattle.tally.proofs.Held.{opened, whole-some}

-- ---- the answer, by what the head states
pub check-unstated : (t : List ℕ) → rows_of one t ≡ none → plain tally_malformed ≡ check_of one t
check-unstated t h = rw h

module _ (t : List ℕ) (n : ℕ) (b : Bytes t) (h : rows_of one t ≡ whole (drop head_length t) ((items (row one) n).read (drop head_length t))) where
  counted : (r : Option (TallyRows one)) → whole (drop head_length t) ((items (row one) n).read (drop head_length t)) ≡ r → is_some r ≡ true
      → good n ≡ with_rows r λ l. good (length l)
  unfolding items
  counted (some l) e g =
      let r = (items (row one) n).backward (drop head_length t) l _ (bytes_drop head_length t b) (whole-some (drop head_length t) _ l e) in
      ap good (sym (items-length (row one) n [] l r.ok))
  counted none e g = no_true g

  check-good : takes (items (row one) n) (drop head_length t) ≡ true → good n ≡ check_of one t
  check-good g = rw h (counted (whole (drop head_length t) ((items (row one) n).read (drop head_length t))) refl g)

  uncounted : (r : Option (TallyRows one)) → is_some r ≡ false → plain tally_malformed ≡ with_rows r λ l. good (length l)
  uncounted (some l) g = no_false g
  uncounted none g = refl

  check-bad : takes (items (row one) n) (drop head_length t) ≡ false → plain tally_malformed ≡ check_of one t
  check-bad g = rw h (uncounted (whole (drop head_length t) ((items (row one) n).read (drop head_length t))) g)

  pub check-taken : (g : Bool) → g ≡ takes (items (row one) n) (drop head_length t) → told_check (then_some g n) ≡ check_of one t
  check-taken true e = check-good (sym e)
  check-taken false e = check-bad (sym e)

-- ---- what it says
pub record Checked (k : TallyKind) (t : List ℕ) (n : ℕ) : Type 0 where
  pub l : TallyRows k
  pub is : rows_of k t ≡ some l
  pub counts : n ≡ length l

module _ (k : TallyKind) (t : List ℕ) where
  checked-by : (r : Option (TallyRows k)) {n : ℕ} → rows_of k t ≡ r → good n ≡ with_rows r (λ l. good (length l)) → Checked k t n
  checked-by (some l) e g = record { l = l; is = e; counts = cc }
  checked-by none e g = no-good (sym g)

  pub checked : {n : ℕ} → good n ≡ check_of k t → Checked k t n
  checked g = checked-by (rows_of k t) refl g

  unchecked-by : (r : Option (TallyRows k)) → rows_of k t ≡ r → plain tally_malformed ≡ with_rows r (λ l. good (length l)) → rows_of k t ≡ none
  unchecked-by (some l) e g = no-good g
  unchecked-by none e g = e

  pub unchecked : plain tally_malformed ≡ check_of k t → rows_of k t ≡ none
  unchecked g = unchecked-by (rows_of k t) refl g

module _ (t : List ℕ) where
  pub check-long : Bytes t → {n : ℕ} → good n ≡ check_of one t → head_length ≤ length t
  check-long b h = let c = checked one t h in (opened one t c.l b c.is).long

  pub rows-there : {n : ℕ} → good n ≡ check_of one t → drop head_length t ≡ bytes_of (λ s. s) (row_bytes_of one t)
  rows-there h = rw (checked one t h).is

  pub rows_start : {n : ℕ} → good n ≡ check_of one t → head_length ≡ start_told (λ (s : List ℕ). head_length) (row_bytes_of one t)
  rows_start h = rw (checked one t h).is

  pub rows-nowhere : plain tally_malformed ≡ check_of one t → [] ≡ bytes_of (λ s. s) (row_bytes_of one t)
  rows-nowhere h = rw (unchecked one t h)

  pub rows-first : plain tally_malformed ≡ check_of one t → 0 ≡ start_told (λ (s : List ℕ). head_length) (row_bytes_of one t)
  rows-first h = rw (unchecked one t h)
