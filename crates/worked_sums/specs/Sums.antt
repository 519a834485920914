-- Document 01, 'Sums worked by hand': the fourteen that are marked P, as one table. What is told comes from the definitions that the contracts
-- cite.
use Rattle.std.specs.Prelude.{ℕ, ◌-◌, ◌≡◌, List, [], ◌∷◌, ◌++◌, map, ℤ, pos, negsuc, length, take}
use Rattle.wire.specs.Read.{Read, done, refused}
use Rattle.wire.specs.Answer.{Answer, good, refusal}
use Rattle.wire.specs.Choice.{bit}
use Rattle.position.specs.Keys.{join_of, split_of}
use Rattle.position.specs.Spans.{in_span, span_at}
use Rattle.position.specs.declared.key.Coordinates.{Coordinates}
use Rattle.mapblock.specs.Block.{content_id}
use Rattle.mapblock.specs.Inventory.{end_line, inventory}
use Rattle.block_reader.specs.Light.{light_count}
use Rattle.mapblock.specs.declared.fault.Fault.{Fault}
use Rattle.mapblock.specs.Numbers.{refusal_number}
use Rattle.tally.specs.Tally.{one}
use Rattle.tally.specs.Operations.{merge_of}
use Rattle.tally.specs.Theorems.{empty_tally}

-- A sum: its label, the numbers that the definitions tell, and those of document 01.
pub record Sum : Type 0 where
  pub label : ℕ
  pub told : List ℤ
  pub expected : List ℤ

abbrev pub sum : ℕ → List ℤ → List ℤ → Sum
sum p t e = record { label = p; told = t; expected = e }

-- ---- what is told
abbrev pub minus : ℕ → ℤ  -- of a number that is not 0
minus n = negsuc (n - 1)

abbrev pub counts : List ℕ → List ℤ
counts [] = []
counts (n ∷ l) = pos n ∷ counts l

-- of an answer its number, and on 0 its values
abbrev pub answer : {A : Type 0} → (A → List ℤ) → Answer A → List ℤ
answer values (good a) = pos 0 ∷ values a
answer values (refusal n r o) = pos n ∷ []

abbrev pub axes : Coordinates → List ℤ
axes c = c.x ∷ c.y ∷ c.z ∷ []

abbrev pub key : ℤ → List ℤ
key k = k ∷ []

-- of bytes their number, and then they themselves
abbrev pub bytes : List ℕ → List ℤ
bytes s = counts (length s ∷ s)

-- of a reading the number, and where it ends
abbrev pub ending : {A : Type 0} → Read Fault A → List ℤ
ending (done a n) = counts (0 ∷ n ∷ [])
ending (refused f p) = counts (refusal_number f ∷ p ∷ [])

-- ---- what they are told of
abbrev pub list_line : List ℕ  -- EndInventoryList and a newline
list_line = take 12 end_line ++ (76 ∷ 105 ∷ 115 ∷ 116 ∷ 10 ∷ [])

abbrev pub sums : List Sum
sums =
    sum 1 (answer key (join_of (pos 0) (pos 1) (minus 2))) (pos 0 ∷ minus 33_550_336 ∷ [])
    ∷ sum 2 (answer key (join_of (minus 1) (pos 0) (pos 0))) (pos 0 ∷ minus 1 ∷ [])
    ∷ sum 3 (answer key (join_of (pos 2047) (pos 2047) (pos 2047))) (pos 0 ∷ pos 34_351_347_711 ∷ [])
    ∷ sum 4 (answer key (join_of (minus 2048) (minus 2048) (minus 2048))) (pos 0 ∷ minus 34_368_129_024 ∷ [])
    ∷ sum 5 (answer axes (split_of (pos 2048))) (pos 0 ∷ minus 2048 ∷ pos 1 ∷ pos 0 ∷ [])
    ∷ sum 6 (answer axes (split_of (pos 34_351_347_712))) (pos 9 ∷ [])
    ∷ sum 7 (counts (content_id 23 127 240 ∷ [])) (pos 127 ∷ [])
    ∷ sum 8 (counts (content_id 23 128 0 ∷ [])) (pos 2048 ∷ [])
    ∷ sum 9 (counts (content_id 23 255 240 ∷ [])) (pos 4095 ∷ [])
    ∷ sum 10 (counts (light_count 0xFFFE ∷ [])) (pos 1 ∷ [])
    ∷ sum 11 (counts (light_count 0xF000 ∷ [])) (pos 12 ∷ [])
    ∷ sum 12 (counts (bit (in_span (span_at 0 1_000_000) 999_998) ∷ bit (in_span (span_at 0 1_000_000) 1_000_000) ∷ [])) (pos 1 ∷ pos 0 ∷ [])
    ∷ sum 13 (answer bytes (merge_of one 9 (empty_tally one) (empty_tally one))) (counts (0 ∷ 9 ∷ 84 ∷ 76 ∷ 89 ∷ 0 ∷ 1 ∷ 0 ∷ 0 ∷ 0 ∷ 0 ∷ []))
    ∷ sum 14 (ending (inventory.read (list_line ++ end_line))) (counts (0 ∷ 30 ∷ []))
    ∷ []

-- All of them agree.
abbrev pub AllAgree : Type 0
AllAgree = map (λ (s : Sum). s.told) sums ≡ map (λ (s : Sum). s.expected) sums
