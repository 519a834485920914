-- What the program prints of its input: document 01, 'Program'.
use Rattle.std.specs.Prelude.{ℕ, ◌≤◌, ◌≡◌, List, length, take}
use Rattle.report.specs.Text.{refusal_text, printed}
use Rattle.sheetcount_lib.specs.Program.{sheetcount_of}

-- room for the text of any tally of 8,192 bytes
abbrev pub max_text_length : ℕ
max_text_length = 20_480

-- the first r bytes are the text x
pub record TextIs (r : ℕ) (text x : List ℕ) : Type 0 where
  pub inside : r ≤ length text
  pub same : take r text ≡ x

abbrev pub ShowsRefusal : ℕ → List ℕ → ℕ → ℕ → Type 0
ShowsRefusal r text n i = TextIs r text (refusal_text n i)

abbrev pub Shows : ℕ → List ℕ → List ℕ → Type 0
Shows r text s = TextIs r text (printed (sheetcount_of s))
