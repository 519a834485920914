-- What holds of tallies: document 01, 'Tallies, lots, spans, sheets', 'Cuts and merges' and 'What may not slip through'. proofs/WellFormed.antt,
-- proofs/Walk.antt, proofs/Canon.antt and proofs/MergeLaw.antt prove it.
use Rattle.std.specs.Prelude.{ℕ, suc, ◌+◌, ◌≤◌, ◌≡◌, ◌↔◌, ◌⊎◌, true, List, [], ◌∷◌, ◌++◌, length, take, drop}
use Rattle.std.proofs.Math.Option.{some, get_or}
use Rattle.wire.specs.Bytes.{Bytes}
use Rattle.wire.specs.Answer.{Answer, good, refusal, map_answer, bytes_of, lent, no_room, too_many}
use Rattle.wire.specs.Walk.{GivesRows}
use Rattle.tally.specs.Rows.{Counts, Rows, plus, count_in, Canonical}
use Rattle.tally.specs.Tally.{TallyKind, TallyRow, TallyRows, fields, tally, rows_of, countable}
use Rattle.tally.specs.Operations.{row_bytes_of, front_of, merge_of}

-- ---- Bytes are a tally exactly where they are those of rows as a tally has them, which can be counted.
abbrev pub WellFormed : TallyKind → Type 0
WellFormed k = (s : List ℕ) (l : TallyRows k) → Bytes s
    → (rows_of k s ≡ some l) ↔ (Canonical k.counts l × (countable k l ≡ true) × (s ≡ (tally k).encode l))

-- ---- Rows are taken from the front, and the rows behind a row are what remains.
-- a row with its length
abbrev pub row_shown : (k : TallyKind) → TallyRow k → TallyRow k × ℕ
row_shown k r = (r, length ((fields k).encode r))

-- The question for the front row, asked of a tally's rows and then each time of what remains, gives them one after the other and then 16.
abbrev pub WalkGivesRows : TallyKind → Type 0
WalkGivesRows k = (t : List ℕ) (l : TallyRows k) → Bytes t → rows_of k t ≡ some l → GivesRows (front_of k) (row_shown k) (bytes_of (λ p. p) (row_bytes_of k t)) l

-- ---- Sums add, name by name; rows as a tally has them are determined by their counts; so order and grouping of sums are free.
pub record Sums (S : Counts) : Type 0 where
  pub adds : (a b : Rows S) (n : List ℕ) → count_in S (plus S a b) n ≡ S.add (count_in S a n) (count_in S b n)
  pub keeps : (a b : Rows S) → Canonical S a → Canonical S b → Canonical S (plus S a b)
  pub determined : (a b : Rows S) → Canonical S a → Canonical S b → ((n : List ℕ) → count_in S a n ≡ count_in S b n) → a ≡ b
  pub comm : (a b : Rows S) → Canonical S a → Canonical S b → plus S a b ≡ plus S b a
  pub assoc : (a b c : Rows S) → Canonical S a → Canonical S b → Canonical S c → plus S (plus S a b) c ≡ plus S a (plus S b c)
  pub unit : (a : Rows S) → Canonical S a → plus S a [] ≡ a

-- ---- Lists of merges: document 01, 'Cuts and merges'.
-- what a merge of two tallies answers, and what the output lent holds then
abbrev pub Merger : Type 0
Merger = List ℕ → List ℕ → List ℕ → Answer ℕ × List ℕ

-- what a call answers that puts bytes into the output lent, or is refused, and what the output holds then
abbrev pub outcome : Answer (List ℕ) → List ℕ → Answer ℕ × List ℕ
outcome x out = (map_answer length x, lent x out)

-- the one that the contract of `merge` cites
abbrev pub merged : TallyKind → Merger
merged k a b out = outcome (merge_of k (length out) a b) out

-- one is taken out of a list, and that leaves another
pub data Taken (a : List ℕ) : List (List ℕ) → List (List ℕ) → Type 0 where
  here : {l : List (List ℕ)} → Taken a (a ∷ l) l
  there : {x : List ℕ} {l m : List (List ℕ)} → Taken a l m → Taken a (x ∷ l) (x ∷ m)

-- Document 01's list of merges. From a list of tallies, so many merges done and these refused leave a list. Each takes two of those left,
-- in either order, and has an output of its own, as long as the room. Its result, at the length told, takes the place of both; a refused
-- merge leaves both.
pub data Merges (m : Merger) (room : ℕ) : List (List ℕ) → ℕ → List ℕ → List (List ℕ) → Type 0 where
  stop : {ts : List (List ℕ)} → Merges m room ts 0 [] ts
  done : {a b out : List ℕ} {ts us vs left : List (List ℕ)} {n made : ℕ} {log : List ℕ}
      → Taken a ts us → Taken b us vs → length out ≡ room → (m a b out).0 ≡ good n
      → Merges m room (take n (m a b out).1 ∷ vs) made log left → Merges m room ts (suc made) log left
  refused : {a b out : List ℕ} {ts us vs left : List (List ℕ)} {number record₀ offset made : ℕ} {log : List ℕ}
      → Taken a ts us → Taken b us vs → length out ≡ room → (m a b out).0 ≡ refusal number record₀ offset
      → Merges m room ts made log left → Merges m room ts made (number ∷ log) left

module _ (k : TallyKind) where
  -- a well-formed tally
  abbrev pub IsTally : List ℕ → Type 0
  IsTally t = Bytes t × ((l : TallyRows k) × (rows_of k t ≡ some l))

  abbrev pub AllTallies : List (List ℕ) → Type 0
  AllTallies [] = Unit {0}
  AllTallies (t ∷ ts) = IsTally t × AllTallies ts

  -- its rows
  abbrev pub rows_in : List ℕ → TallyRows k
  rows_in t = get_or (rows_of k t) []

  -- document 01's sum of tallies
  abbrev pub sum_of : List (List ℕ) → TallyRows k
  sum_of [] = []
  sum_of (t ∷ ts) = plus k.counts (rows_in t) (sum_of ts)

  -- what all of them together count of a name
  abbrev pub count_across : List (List ℕ) → List ℕ → k.counts.C
  count_across [] n = k.counts.none
  count_across (t ∷ ts) n = k.counts.add (count_in k.counts (rows_in t) n) (count_across ts n)

  -- when it fits, in document 01's sense: no count above the limit, at most 2^32-1 rows and, written as a tally, no longer than the room
  abbrev pub Fits : ℕ → TallyRows k → Type 0
  Fits room l = (countable k l ≡ true) × (length ((tally k).encode l) ≤ room)

  -- a merge of well-formed tallies is refused for these alone
  abbrev pub Overfull : List ℕ → Type 0
  Overfull [] = Unit {0}
  Overfull (n ∷ log) = ((n ≡ too_many) ⊎ (n ≡ no_room)) × Overfull log

  pub record AddsUp (room : ℕ) (start : List (List ℕ)) (made : ℕ) (log : List ℕ) (left : List (List ℕ)) : Type 0 where
    -- what is left are well-formed tallies, and they add up, name by name, to the start
    pub tallies : AllTallies left
    pub same : (n : List ℕ) → count_across left n ≡ count_across start n
    -- each merge that is done takes one away
    pub fewer : made + length left ≡ length start
    pub overfull : Overfull log
    -- where the sum fits nothing is refused
    pub none-refused : Fits room (sum_of start) → log ≡ []
    -- where one is left the sum fits, and it has the sum's very bytes
    pub one_left : (t : List ℕ) → left ≡ t ∷ [] → Fits room (sum_of start) × (t ≡ (tally k).encode (sum_of start))

  -- of every list of merges, from two tallies or more
  abbrev pub MergeLawOf : Merger → Type 0
  MergeLawOf m = (room : ℕ) (a b : List ℕ) (more : List (List ℕ)) (made : ℕ) (log : List ℕ) (left : List (List ℕ))
      → AllTallies (a ∷ b ∷ more) → Merges m room (a ∷ b ∷ more) made log left → AddsUp room (a ∷ b ∷ more) made log left

  abbrev pub MergeLaw : Type 0
  MergeLaw = MergeLawOf (merged k)

  -- the sum of tallies counts of each name what they count together
  abbrev pub SumCounts : Type 0
  SumCounts = (ts : List (List ℕ)) (n : List ℕ) → count_in k.counts (sum_of ts) n ≡ count_across ts n

  -- the tally of no rows
  abbrev pub empty_tally : List ℕ
  empty_tally = (tally k).encode []

  -- "The empty tally changes nothing that fits."
  pub record EmptyChangesNothing : Type 0 where
    -- A tally that fits in the output, merged with the empty one, comes out as it was, whichever of the two is first: its length is told, its bytes
    -- stand in front of the output, and behind them the output is as it was.
    pub first : (t out : List ℕ) → IsTally t → length t ≤ length out → merged k empty_tally t out ≡ (good (length t), t ++ drop (length t) out)
    pub second : (t out : List ℕ) → IsTally t → length t ≤ length out → merged k t empty_tally out ≡ (good (length t), t ++ drop (length t) out)
    -- Wherever it stands in a list of tallies, their sum is the same without it.
    pub among : (front back : List (List ℕ)) → sum_of (front ++ empty_tally ∷ back) ≡ sum_of (front ++ back)

  -- ---- what may not slip through: a merge that does nothing, or one that refuses all
  abbrev pub DoesNothing : Merger → Type 0
  DoesNothing m = (a b out : List ℕ) → (m a b out).1 ≡ out

  abbrev pub RefusesAll : Merger → Type 0
  RefusesAll m = (a b out : List ℕ) → (n : ℕ) × (r : ℕ) × (o : ℕ) × ((m a b out).0 ≡ refusal n r o)

  -- a merge of which the law holds is neither
  abbrev pub ShutOut : Type 0
  ShutOut = (m : Merger) → MergeLawOf m → (DoesNothing m → ⊥) × (RefusesAll m → ⊥)
