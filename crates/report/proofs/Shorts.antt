-- Texts that fit: a room that holds any text of so short a tally, or of a refusal.
use Prim.Native.Nat.{ℕ, ◌+◌, ◌*◌, ◌≤◌}
use mathlib.Core.Path.{◌≡◌, ap, ◌∙◌}
use mathlib.Core.List.{List, [], ◌∷◌}
use native.Mathlib.Omega.{arith}
use lib.ListN.{length, length-append}
use borrow.Author.Tests.{le-leb}
use Rattle.wire.specs.Answer.{good}
use Rattle.tally.specs.Rows.{Row, Rows}
use Rattle.tally.specs.Tally.{ones, one}
use Rattle.tally.specs.Walks.{rows_bytes}
use Rattle.tally.specs.Theorems.{IsTally, rows_in}
use Rattle.tally.proofs.Held.{one_size, tally-size, opened}
use Rattle.report.specs.Text.{line, lines, opening, tally_text, refusal_text, tally_text_of, refusal_text_of}
use Rattle.report.proofs.Decimals.{decimal-short}

line-short : (r : Row ℕ) → length (line r) ≤ length r.name + 22
unfolding line
line-short r = rw (length-append, length-append) (omega (arith, decimal-short r.count))

-- eleven bytes of text for five of a row, at most
lines-short : (l : Rows ones) → 5 * length (lines l) ≤ 11 * length (rows_bytes one l)
unfolding lines
lines-short [] = omega arith
lines-short (r ∷ l) = rw (length-append, length-append) (omega (arith, lines-short l, line-short r, one_size r))

opening-short : (n : ℕ) → length (opening n) ≤ 32
unfolding opening
opening-short n = rw (length-append, length-append) (omega (arith, decimal-short n))

text-short : (l : Rows ones) → 5 * length (tally_text l) ≤ 11 * length (rows_bytes one l) + 160
unfolding tally_text
text-short l = rw length-append (omega (arith, opening-short (length l), lines-short l))

pub tally-text-fits : (room : ℕ) (t : List ℕ) → IsTally one t → 11 * length t + 160 ≤ 5 * room → tally_text_of room t ≡ good (tally_text (rows_in one t))
unfolding tally_text_of
tally-text-fits room t (b, (l, e)) h =
    let fits : length (tally_text l) ≤ room = omega (arith, text-short l, ap length (opened one t l b e).bytes ∙ tally-size one l) in
    rw (e, le-leb (length (tally_text l)) room fits)

refusal-short : (n i : ℕ) → length (refusal_text n i) ≤ 57
unfolding refusal_text
refusal-short n i = simp length-append (omega (arith, decimal-short n, decimal-short i))

pub refusal-text-fits : (room n i : ℕ) → 57 ≤ room → refusal_text_of room n i ≡ good (refusal_text n i)
unfolding refusal_text_of
refusal-text-fits room n i h = let fits : length (refusal_text n i) ≤ room = omega (arith, refusal-short n i) in rw (le-leb (length (refusal_text n i)) room fits)
