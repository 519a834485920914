-- The row at the front of bytes, as the code reads it: the name behind its length, then the count.
use Prim.Native.Nat.{ℕ, ◌+◌, ◌-◌, ◌^◌, ◌<◌, ◌≤◌}
use mathlib.Core.Path.{◌≡◌, ap, sym, ◌∙◌}
use mathlib.Core.Bool.{true, false}
use mathlib.Core.List.{List, []}
use mathlib.Core.Option.{some, none}
use native.Mathlib.Omega.{arith}
use lib.ListN.{length, take, drop}
use borrow.Author.Tests.{le-leb, lt-leb}
use Rattle.wire.specs.Bytes.{Bytes}
use Rattle.wire.specs.Read.{done, refused, to_option}
use Rattle.wire.specs.Format.{refine, iso, ends-in}
use Rattle.wire.specs.Formats.{prefixed, u64}
use Rattle.wire.specs.Told.{short, told_run, told_number}
use Rattle.wire.proofs.Steps.{number-told, prefixed-told}
use Rattle.wire.proofs.Joints.{then-refused, then-done}
use Rattle.tally.specs.Rows.{is_name}
use Rattle.tally.specs.Tally.{Malformed, malformed, TallyFormat, TallyKind, TallyRow, TallyRows, fields, may_stand, row, one}
use Rattle.tally.specs.Told.{told_row}
use Rattle.std.specs.Prelude.{Some, None, Result, Ok, Err}
use Rattle.std.specs.Result.{result_ok}
use Rattle.std.proofs.lemmas.Option.{same_Some, none-some}
use Rattle.wire.specs.declared.fields.EndsAt.{EndsAt}

-- the name as the code slices it
pub name-part : (n : ℕ) (s : List ℕ) → take (n + 2 - 2) (drop 2 s) ≡ take n (drop 2 s)
name-part n s = let e : n + 2 - 2 ≡ n = omega arith in rw e

module _ (k : TallyKind) (seen : TallyRows k) (s : List ℕ) where
  -- the fields are refused, or they are read, and judged
  pub row-refused : {e : Malformed} {p : ℕ} → (fields k).read s ≡ refused e p → (row k seen).read s ≡ refused e p
  unfolding row refine
  row-refused h = rw h

  row-unread : {e : Malformed} {p : ℕ} → (fields k).read s ≡ refused e p → none ≡ to_option ((row k seen).read s)
  row-unread h = ap to_option (sym (row-refused h))

  module _ {r : TallyRow k} {n : ℕ} (h : (fields k).read s ≡ done r n) where
    pub row-good : may_stand k seen r ≡ true → (row k seen).read s ≡ done r n
    unfolding row refine
    row-good j = rw (h, j)

    pub row-bad : may_stand k seen r ≡ false → (row k seen).read s ≡ refused malformed 0
    unfolding row refine
    row-bad j = rw (h, j)

-- a name behind its length
abbrev pub text : TallyFormat (List ℕ)
text = prefixed 2

module _ (k : TallyKind) (s : List ℕ) where
  pub name-unread : {e : Malformed} {p : ℕ} → text.read s ≡ refused e p → (fields k).read s ≡ refused e p
  unfolding fields iso
  name-unread h = rw (then-refused text k.count s h)

  module _ {n : List ℕ} {m : ℕ} (h : text.read s ≡ done n m) where
    pub count-unread : {e : Malformed} {p : ℕ} → k.count.read (drop m s) ≡ refused e p → (fields k).read s ≡ refused e (m + p)
    unfolding fields iso
    count-unread g = rw (then-done text k.count s h g)

    pub fields_read : {c : k.counts.C} {i : ℕ} → k.count.read (drop m s) ≡ done c i → (fields k).read s ≡ done (record { name = n; count = c }) (m + i)
    unfolding fields iso
    fields_read g = rw (then-done text k.count s h g)

-- ---- the name, as the leaf tells it, where its answer is taken as an option
pub run-is : {n : ℕ} (s : List ℕ) (r : Result ℕ EndsAt) → Some n ≡ result_ok r → told_run 2 s r ≡ (prefixed {ends = short} 2).read s → told_run 2 s (Ok n) ≡ (prefixed {ends = short} 2).read s
run-is {n} s (Ok m) e h = rw (same_Some n m e) h
run-is {n} s (Err p) e h = absurd (none-some n (sym e))

pub no-run : (s : List ℕ) (r : Result ℕ EndsAt) → None ≡ result_ok r → told_run 2 s r ≡ (prefixed {ends = short} 2).read s → (e : Malformed) × (p : ℕ) × (text.read s ≡ refused e p)
no-run s (Ok n) e h = absurd (none-some n e)
no-run s (Err p) e h = (_, _, prefixed-told malformed 2 s h)

module _ (s : List ℕ) (n : ℕ) (h : told_run 2 s (Ok n) ≡ (prefixed {ends = short} 2).read s) where
  pub name-read : text.read s ≡ done (take n (drop 2 s)) (2 + n)
  name-read = prefixed-told malformed 2 s h

  pub name-inside : n + 2 ≤ length s
  name-inside = omega (arith, ends-in text name-read)

  pub name-stands : Bytes s → is_name (take n (drop 2 s)) ≡ true
  unfolding prefixed iso
  name-stands b =
      let l : length (take n (drop 2 s)) < 256 ^ 2 = (text.backward s (take n (drop 2 s)) (2 + n) b name-read).ok.0 in
      le-leb (length (take n (drop 2 s))) 65535 (omega arith)

-- ---- version 1
module _ (s : List ℕ) where
  pub front-no-name : (r : Result ℕ EndsAt) → None ≡ result_ok r → told_run 2 s r ≡ (prefixed {ends = short} 2).read s → none ≡ to_option ((row one []).read s)
  front-no-name r e h = row-unread one [] s (name-unread one s (no-run s r e h).2)

  module _ (n : ℕ) (h : told_run 2 s (Ok n) ≡ (prefixed {ends = short} 2).read s) where
    place : n + 2 ≡ 2 + n
    place = omega arith

    pub front-no-count : told_number 8 None ≡ (u64 {ends = short}).read (drop (n + 2) s) → none ≡ to_option ((row one []).read s)
    front-no-count g =
        row-unread one [] s (count-unread one s (name-read s n h) (ap (λ (m : ℕ). (u64 {ends = malformed}).read (drop m s)) (sym place) ∙ number-told malformed 8 (drop (n + 2) s) g))

    module _ (c : ℕ) (g : told_number 8 (Some c) ≡ (u64 {ends = short}).read (drop (n + 2) s)) where
      both_read : (fields one).read s ≡ done (record { name = take n (drop 2 s); count = c }) (2 + n + 8)
      both_read = fields_read one s (name-read s n h) (ap (λ (m : ℕ). (u64 {ends = malformed}).read (drop m s)) (sym place) ∙ number-told malformed 8 (drop (n + 2) s) g)

      pub front-none : Bytes s → c ≡ 0 → none ≡ to_option ((row one []).read s)
      front-none b e = ap to_option (sym (row-bad one [] s both_read (rw (name-stands s n h b) (lt-leb 1 c (omega arith)))))

      pub front-some : Bytes s → 1 ≤ c → told_row s (Some (n, c)) ≡ to_option ((row one []).read s)
      front-some b e =
          let end : n + 10 ≡ 2 + n + 8 = omega arith in
          ap (λ (m : ℕ). some (record { name = take n (drop 2 s); count = c }, m)) end
          ∙ ap to_option (sym (row-good one [] s both_read (rw (name-stands s n h b) (le-leb 1 c e))))
