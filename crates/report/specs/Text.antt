-- What is printed of a tally and of a refusal: document 01, 'Program'.
use Rattle.std.specs.Prelude.{ℕ, zero, suc, ◌+◌, ◌/◌, ◌%◌, cond, List, [], ◌∷◌, ◌++◌, ltb, length}
use Rattle.std.proofs.Math.Option.{Option, some, none}
use Rattle.wire.specs.Answer.{Answer, good, refusal, in_room}
use Rattle.tally.specs.Rows.{Row, Rows}
use Rattle.tally.specs.Tally.{ones, one, rows_of}
use Rattle.tally.specs.Operations.{with_rows}

-- ---- numbers
abbrev pub digit : ℕ → ℕ  -- the ASCII code
digit d = 48 + d

-- the decimal digits of a number that has at most suc k of them
unfoldable pub decimal_by : ℕ → ℕ → List ℕ
decimal_by zero n = digit (n % 10) ∷ []
decimal_by (suc k) n = cond (ltb n 10) (digit n ∷ []) (decimal_by k (n / 10) ++ (digit (n % 10) ∷ []))

-- below 2^64 a number has at most twenty
unfoldable pub decimal : ℕ → List ℕ
decimal n = decimal_by 19 n

-- ---- a tally
abbrev pub space : ℕ
space = 32

abbrev pub newline : ℕ
newline = 10

-- "Rows print as count, one space and the name's bytes"
unfoldable pub line : Row ℕ → List ℕ
line r = decimal r.count ++ (space ∷ (r.name ++ (newline ∷ [])))

unfoldable pub lines : Rows ones → List ℕ
lines [] = []
lines (r ∷ l) = line r ++ lines l

abbrev pub rows_words : List ℕ  -- TLY 1 rows, and a space
rows_words = 84 ∷ 76 ∷ 89 ∷ 32 ∷ 49 ∷ 32 ∷ 114 ∷ 111 ∷ 119 ∷ 115 ∷ 32 ∷ []

-- TLY 1 rows N
unfoldable pub opening : ℕ → List ℕ
opening n = rows_words ++ (decimal n ++ (newline ∷ []))

unfoldable pub tally_text : Rows ones → List ℕ
tally_text l = opening (length l) ++ lines l

-- ---- a refusal
abbrev pub refused_word : List ℕ  -- refused, and a space
refused_word = 114 ∷ 101 ∷ 102 ∷ 117 ∷ 115 ∷ 101 ∷ 100 ∷ 32 ∷ []

abbrev pub record_word : List ℕ  -- record, between spaces
record_word = 32 ∷ 114 ∷ 101 ∷ 99 ∷ 111 ∷ 114 ∷ 100 ∷ 32 ∷ []

-- refused N record R
unfoldable pub refusal_text : ℕ → ℕ → List ℕ
refusal_text n i = refused_word ++ (decimal n ++ (record_word ++ (decimal i ++ (newline ∷ []))))

-- ---- what a call answers that puts text into a buffer
-- of bytes that are to be a tally: 13, 11
unfoldable pub tally_text_of : ℕ → List ℕ → Answer (List ℕ)
tally_text_of room t = with_rows (rows_of one t) λ l. in_room room (tally_text l)

unfoldable pub refusal_text_of : ℕ → ℕ → ℕ → Answer (List ℕ)
refusal_text_of room n i = in_room room (refusal_text n i)

-- ---- what the program prints of the tally, or of the refusal, that its input comes to; of bytes that are no tally, which an answer never has, nothing
abbrev pub rows_text : Option (Rows ones) → List ℕ
rows_text none = []
rows_text (some l) = tally_text l

unfoldable pub printed : Answer (List ℕ) → List ℕ
printed (good t) = rows_text (rows_of one t)
printed (refusal n i o) = refusal_text n i
