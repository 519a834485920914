-- Bytes in order: byte by byte, a prefix first (document 01, 'Tallies, lots, spans, sheets': names strictly rising).
use Rattle.std.specs.Prelude.{ℕ, Bool, true, false, cond, List, [], ◌∷◌, ltb}
use Rattle.std.specs.declared.cmp.Ordering.{Ordering}
use Rattle.std.specs.declared.cmp.Ordering.TheVariants.{Less, Equal, Greater}

abbrev pub order : List ℕ → List ℕ → Ordering
order [] [] = Equal
order [] (y ∷ ys) = Less
order (x ∷ xs) [] = Greater
order (x ∷ xs) (y ∷ ys) = cond (ltb x y) Less (cond (ltb y x) Greater (order xs ys))

-- one of three, by how the bytes stand to others
abbrev pub choose {ℓ} : {A : Type ℓ} → Ordering → A → A → A → A
choose Less x y z = x
choose Equal x y z = y
choose Greater x y z = z

abbrev pub is_before : Ordering → Bool
is_before w = choose w true false false
