-- Bytes, and numbers of k bytes, most significant first (document 01, 'The pieces': all numbers are MSB first).
use Rattle.std.specs.Prelude.{ℕ, zero, suc, ◌+◌, ◌*◌, ◌/◌, ◌%◌, ◌^◌, ◌<◌, ◌≡◌, refl, List, [], ◌∷◌, ◌++◌, length, get_or, take, drop}
use Rattle.std.proofs.Common.{ap, sym, ◌∙◌, pow-suc, mod-lt, arith, lit<, length-append, get_or-drop, take-suc, take_all, length-take-le}

-- the elements of a list are bytes
abbrev pub Bytes : List ℕ → Type 0
Bytes s = (i : ℕ) → get_or s i 0 < 256

-- v in k bytes
abbrev pub to_be : ℕ → ℕ → List ℕ
to_be zero v = []
to_be (suc k) v = to_be k (v / 256) ++ v % 256 ∷ []

-- the number whose bytes these are, after the digits of v
abbrev pub from_be : ℕ → List ℕ → ℕ
from_be v [] = v
from_be v (b ∷ l) = from_be (v * 256 + b) l

-- ---- lists of bytes
pub bytes-nil : Bytes []
bytes-nil i = lit< tt

pub bytes-cons : (x : ℕ) (l : List ℕ) → x < 256 → Bytes l → Bytes (x ∷ l)
bytes-cons x l h b zero = h
bytes-cons x l h b (suc i) = b i

pub bytes-append : (x y : List ℕ) → Bytes x → Bytes y → Bytes (x ++ y)
bytes-append [] y h b i = b i
bytes-append (x ∷ xs) y h b zero = h zero
bytes-append (x ∷ xs) y h b (suc i) = bytes-append xs y (λ j. h (suc j)) b i

pub bytes_drop : (n : ℕ) (s : List ℕ) → Bytes s → Bytes (drop n s)
bytes_drop n s b i = rw get_or-drop (b (n + i))

pub bytes_take : (n : ℕ) (s : List ℕ) → Bytes s → Bytes (take n s)
bytes_take zero s b i = lit< tt
bytes_take (suc n) [] b i = lit< tt
bytes_take (suc n) (x ∷ s) b zero = b zero
bytes_take (suc n) (x ∷ s) b (suc i) = bytes_take n s (λ j. b (suc j)) i

-- ---- numbers
pub to_be-length : (k v : ℕ) → length (to_be k v) ≡ k
to_be-length zero v = refl
to_be-length (suc k) v = rw (length-append, to_be-length k (v / 256)) (omega arith)

pub to_be-bytes : (k v : ℕ) → Bytes (to_be k v)
to_be-bytes zero v = bytes-nil
to_be-bytes (suc k) v = bytes-append (to_be k (v / 256)) (v % 256 ∷ []) (to_be-bytes k (v / 256)) (bytes-cons (v % 256) [] (mod-lt v (lit< tt)) bytes-nil)

pub from_be-last : (v : ℕ) (l : List ℕ) (b : ℕ) → from_be v (l ++ b ∷ []) ≡ from_be v l * 256 + b
from_be-last v [] b = refl
from_be-last v (x ∷ l) b = from_be-last (v * 256 + x) l b

-- what is written in k bytes is read back
pub from_be-to_be : (k v : ℕ) → v < 256 ^ k → from_be 0 (to_be k v) ≡ v
from_be-to_be zero v h = omega arith
from_be-to_be (suc k) v h =
    let p : v < 256 ^ k * 256 = rw pow-suc at h in
    rw (from_be-last 0 (to_be k (v / 256)) (v % 256), from_be-to_be k (v / 256) (omega arith)) (omega arith)

-- the last of k + 1 bytes
module _ (k : ℕ) (l : List ℕ) (h : length l ≡ suc k) where
  last_apart : l ≡ take k l ++ get_or l k 0 ∷ []
  last_apart = sym (take_all (suc k) l (omega arith)) ∙ take-suc l k 0 (omega arith)

  from_be-apart : from_be 0 l ≡ from_be 0 (take k l) * 256 + get_or l k 0
  from_be-apart = ap (from_be 0) last_apart ∙ from_be-last 0 (take k l) (get_or l k 0)

-- k bytes are those of the number that they make
pub to_be-from_be : (k : ℕ) (l : List ℕ) → length l ≡ k → Bytes l → to_be k (from_be 0 l) ≡ l
to_be-from_be zero [] h b = refl
to_be-from_be zero (x ∷ l) h b = absurd (omega arith)
to_be-from_be (suc k) l h b =
    let low : from_be 0 l % 256 ≡ get_or l k 0 = omega (arith, from_be-apart k l h, b k) in
    let high : from_be 0 l / 256 ≡ from_be 0 (take k l) = omega (arith, from_be-apart k l h, b k) in
    rw (high, low, to_be-from_be k (take k l) (length-take-le k l (omega arith)) (bytes_take k l b)) (sym (last_apart k l h))

pub from_be-below : (k : ℕ) (l : List ℕ) → length l ≡ k → Bytes l → from_be 0 l < 256 ^ k
from_be-below zero [] h b = lit< tt
from_be-below zero (x ∷ l) h b = absurd (omega arith)
from_be-below (suc k) l h b =
    let less = from_be-below k (take k l) (length-take-le k l (omega arith)) (bytes_take k l b) in
    rw pow-suc (omega (arith, from_be-apart k l h, b k))
