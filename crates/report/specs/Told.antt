-- What the answers of putting text say: document 01, 'The numbers a call comes back with'; and what its passes tell each other.
use Rattle.std.specs.Prelude.{ℕ, ◌+◌, ◌≤◌, ◌≡◌, Bool, List, leb, length}
use Rattle.wire.specs.Answer.{Answer, good, plain, no_room, tally_malformed}
use Rattle.wire.specs.Store.{PutAt}
use Rattle.tally.specs.Rows.{Rows}
use Rattle.tally.specs.Tally.{ones, one}
use Rattle.tally.specs.Walks.{Holds}
use Rattle.report.specs.Text.{lines}
use Rattle.std.specs.Prelude.{Ok, Err, Result}
use Rattle.report.specs.declared.text.TextError.{TextError}
use Rattle.report.specs.declared.text.TextError.TheVariants as text_errors

-- the text's length
abbrev pub told_text : Result ℕ TextError → Answer ℕ
told_text (Ok n) = good n
told_text (Err text_errors.Malformed) = plain tally_malformed
told_text (Err text_errors.NoRoom) = plain no_room

-- the length of the text that was put; 0 where none was
abbrev pub length_put : Result ℕ TextError → ℕ
length_put (Ok n) = n
length_put (Err text_errors.Malformed) = 0
length_put (Err text_errors.NoRoom) = 0

-- ---- the measuring pass, over bytes that are rows
abbrev pub LinesFit : List ℕ → ℕ → Bool → Type 0
LinesFit s room r = (l : Rows ones) → Holds one s l → r ≡ leb (length (lines l)) room

-- ---- the writing pass
-- bytes that are rows, whose lines fit from a place on
pub record HasRoom (at : ℕ) (s : List ℕ) (size : ℕ) : Type 0 where
  pub l : Rows ones
  pub holds : Holds one s l
  pub room : at + length (lines l) ≤ size

abbrev pub LinesPut : ℕ → List ℕ → List ℕ → List ℕ → ℕ → Type 0
LinesPut at s before after end = (l : Rows ones) → Holds one s l → at + length (lines l) ≤ length before → PutAt at (lines l) before after end
