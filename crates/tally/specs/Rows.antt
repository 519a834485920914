-- Rows of a name and a count: document 01, 'Tallies, lots, spans, sheets' and 'Cuts and merges'. What a count is stays open here: whatever
-- adds up the same in any order and grouping.
use Rattle.std.specs.Prelude.{ℕ, ◌≡◌, Bool, true, false, List, [], ◌∷◌, leb, length}
use Rattle.wire.specs.Bytes.{Bytes}
use Rattle.wire.specs.Order.{order, choose}
use Rattle.std.specs.declared.cmp.Ordering.TheVariants.{Less}

-- Counts: nothing, their sum, and which of them may stand in a row.
pub record Counts : Type 1 where
  pub C : Type 0
  pub none : C
  pub add : C → C → C
  pub add_none : (c : C) → add none c ≡ c
  pub add_comm : (c d : C) → add c d ≡ add d c
  pub add_assoc : (c d e : C) → add (add c d) e ≡ add c (add d e)
  pub stands : C → Bool
  pub stands-add : (c d : C) → stands c ≡ true → stands d ≡ true → stands (add c d) ≡ true
  pub none-stands : stands none ≡ false

pub record Row (C : Type 0) : Type 0 where
  pub name : List ℕ
  pub count : C

-- the names that may stand in a tally: those whose length a u16 holds
abbrev pub is_name : List ℕ → Bool
is_name n = leb (length n) 65535

-- whether m is the name n
abbrev pub is_named : List ℕ → List ℕ → Bool
is_named n m = choose (order m n) false true false

module _ (S : Counts) where
  abbrev pub Rows : Type 0
  Rows = List (Row S.C)

  -- two rows of one name
  abbrev pub joined : Row S.C → Row S.C → Row S.C
  joined r s = record { name = r.name; count = S.add r.count s.count }

  -- one row more among rows in order
  abbrev pub add_row : Row S.C → Rows → Rows
  add_row r [] = r ∷ []
  add_row r (s ∷ l) = choose (order r.name s.name) (r ∷ s ∷ l) (joined r s ∷ l) (s ∷ add_row r l)

  -- the sum of two lists of rows: each name in either of them, with its counts added
  abbrev pub plus : Rows → Rows → Rows
  plus [] b = b
  plus (r ∷ a) b = add_row r (plus a b)

  -- the count of a name
  abbrev pub count_in : Rows → List ℕ → S.C
  count_in [] n = S.none
  count_in (r ∷ l) n = S.add (choose (order r.name n) S.none r.count S.none) (count_in l n)

  -- every name of the rows comes after n
  abbrev pub Above : List ℕ → Rows → Type 0
  Above n [] = Unit {0}
  Above n (r ∷ l) = (order n r.name ≡ Less) × Above n l

  -- rows as a tally has them: names that may stand there and rise strictly, and counts that may stand there
  abbrev pub Canonical : Rows → Type 0
  Canonical [] = Unit {0}
  Canonical (r ∷ l) = (is_name r.name ≡ true) × Bytes r.name × (S.stands r.count ≡ true) × Above r.name l × Canonical l
