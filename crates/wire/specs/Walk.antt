-- Rows taken from the front of bytes: document 01, 'Reading, looking, writing', "the rows behind a row are handed on as what remains".
use Rattle.std.specs.Prelude.{ℕ, zero, suc, ◌≡◌, List, [], ◌∷◌, ◌++◌, map, length, drop}
use Rattle.wire.specs.Read.{Read, done, refused}
use Rattle.wire.specs.Answer.{Answer, good, plain, bytes_of, no_such}

-- the rows that can be read from the front, each by itself, at most k
abbrev pub row_then : {E A : Type 0} → Read E A → (ℕ → List A) → List A
row_then (done a n) next = a ∷ next n
row_then (refused e p) next = []

unfoldable pub rows_read : {E A : Type 0} → (List ℕ → Read E A) → ℕ → List ℕ → List A
rows_read read zero s = []
rows_read read (suc k) s = row_then (read s) (λ n. rows_read read k (drop n s))

-- the rows behind the front row, which are handed on as what remains; none when the question for it is refused
abbrev pub rows_behind : {A : Type 0} → List ℕ → Answer (A × ℕ) → List ℕ
rows_behind {A} s a = bytes_of (λ (x : A × ℕ). drop x.1 s) a

-- What a caller sees who looks n times at bytes: at all of them, and then each time at what remains behind the row before.
unfoldable pub walk : {A : Type 0} → (List ℕ → List ℕ) → (List ℕ → A) → ℕ → List ℕ → List A
walk behind look zero s = []
walk behind look (suc n) s = look s ∷ walk behind look n (behind s)

-- The question for the front row, asked of the bytes s and then each time of what remains, gives these rows, each as it is shown, one after the
-- other, and then 16.
abbrev pub GivesRows : {A B : Type 0} → (List ℕ → Answer (B × ℕ)) → (A → B × ℕ) → List ℕ → List A → Type 0
GivesRows {A} ask shown s rows = walk (λ p. rows_behind p (ask p)) ask (suc (length rows)) s ≡ map (λ (r : A). good (shown r)) rows ++ plain no_such ∷ []
