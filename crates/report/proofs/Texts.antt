-- Texts put into a lent buffer, one piece behind the other.
use Prim.Native.Nat.{ℕ, ◌+◌, ◌<◌, ◌≤◌}
use mathlib.Core.Path.{◌≡◌, refl, sym, ◌∙◌}
use mathlib.Core.List.{List, [], ◌∷◌, ◌++◌}
use native.Mathlib.Nat.{zero-add}
use native.Mathlib.Omega.{arith}
use lib.ListN.{length, length-append}
use Rattle.wire.specs.Answer.{good, plain, no_room, in_room, Answered}
use Rattle.wire.proofs.Answers.{room-short, room-put}
use Rattle.wire.specs.Store.{stored, PutAt}
use Rattle.wire.proofs.Overwrites.{stored-fits}
use Rattle.wire.proofs.Puts.{put-run, front-room, put_two}
use Rattle.tally.specs.Rows.{Row}
use Rattle.report.specs.Text.{decimal, space, newline, line, rows_words, opening, refused_word, record_word, refusal_text, refusal_text_of}

-- a store that ends at m, and what is put behind it
put_then : (at m : ℕ) (u w : List ℕ) {n : ℕ} {d a e : List ℕ} → m ≡ at + length u → at + length (u ++ w) ≤ length d → a ≡ stored at u d
    → (m + length w ≤ length a → PutAt m w a e n) → PutAt at (u ++ w) d e n
put_then at m u w {d = d} p room s f = put_two {u = u} room (record { ends = p; overwrites = s ∙ stored-fits at u d (front-room at u w room) }) f

-- ---- what a call answers that puts a text into the buffer d
module _ (d x : List ℕ) where
  pub text-all : {n : ℕ} {a : List ℕ} → length x ≤ length d → PutAt 0 x d a n → Answered (good n) d a (in_room (length d) x)
  text-all {n} h p = let e : n ≡ length x = p.ends ∙ zero-add (length x) in room-put d x (sym e) (omega arith) (p.overwrites ∙ rw (e, zero-add))

-- ---- a refusal, whose numbers have k and j digits
module _ (n i k j : ℕ) (p : k ≡ length (decimal n)) (q : j ≡ length (decimal i)) (d : List ℕ) where
  size : length (refusal_text n i) ≡ 8 + k + 8 + j + 1
  unfolding refusal_text
  size = simp length-append (omega arith)

  pub refusal-short : length d ≤ 8 + k + 8 + j → Answered (plain no_room) d d (refusal_text_of (length d) n i)
  unfolding refusal_text_of
  refusal-short h = room-short d (refusal_text n i) (omega (arith, size))

  pub refusal-all : {a b c e f : List ℕ} → 8 + k + 8 + j < length d → a ≡ stored 0 refused_word d → b ≡ stored 8 (decimal n) a → c ≡ stored (8 + k) record_word b
      → e ≡ stored (8 + k + 8) (decimal i) c → f ≡ stored (8 + k + 8 + j) (newline ∷ []) e → Answered (good (8 + k + 8 + j + 1)) d f (refusal_text_of (length d) n i)
  unfolding refusal_text_of refusal_text
  refusal-all h s₁ s₂ s₃ s₄ s₅ =
      text-all d (refusal_text n i) (omega (arith, size))
      (put_then 0 8 refused_word _ refl (omega (arith, size)) s₁ λ r₁.
      put_then 8 (8 + k) (decimal n) _ (omega arith) r₁ s₂ λ r₂.
      put_then (8 + k) (8 + k + 8) record_word _ refl r₂ s₃ λ r₃.
      put_then (8 + k + 8) (8 + k + 8 + j) (decimal i) _ (omega arith) r₃ s₄ λ r₄.
      put-run (8 + k + 8 + j) (newline ∷ []) r₄ s₅)

-- ---- a line, whose count has k digits
module _ (k : ℕ) (r : Row ℕ) (p : k ≡ length (decimal r.count)) where
  pub line-size : length (line r) ≡ k + length r.name + 2
  unfolding line
  line-size = simp length-append (omega arith)

  -- it ends within the buffer that has room for it
  pub line-end : (at : ℕ) {size : ℕ} → at + length (line r) ≤ size → at + k + 1 + length r.name + 1 ≤ size
  line-end at h = omega (arith, h, line-size)

  pub line-put : (at : ℕ) {d a b c e : List ℕ} → at + length (line r) ≤ length d → a ≡ stored at (decimal r.count) d → b ≡ stored (at + k) (space ∷ []) a
      → c ≡ stored (at + k + 1) r.name b → e ≡ stored (at + k + 1 + length r.name) (newline ∷ []) c → PutAt at (line r) d e (at + k + 1 + length r.name + 1)
  unfolding line
  line-put at room s₁ s₂ s₃ s₄ =
      put_then at (at + k) (decimal r.count) _ (omega arith) room s₁ λ r₁.
      put_then (at + k) (at + k + 1) (space ∷ []) _ refl r₁ s₂ λ r₂.
      put_then (at + k + 1) (at + k + 1 + length r.name) r.name _ refl r₂ s₃ λ r₃.
      put-run (at + k + 1 + length r.name) (newline ∷ []) r₃ s₄

-- ---- the opening, whose number has k digits
module _ (n k : ℕ) (p : k ≡ length (decimal n)) where
  pub opening-size : length (opening n) ≡ 11 + k + 1
  unfolding opening
  opening-size = simp length-append (omega arith)

  pub opening-put : {d a b c : List ℕ} → length (opening n) ≤ length d → a ≡ stored 0 rows_words d → b ≡ stored 11 (decimal n) a → c ≡ stored (11 + k) (newline ∷ []) b
      → PutAt 0 (opening n) d c (11 + k + 1)
  unfolding opening
  opening-put room s₁ s₂ s₃ =
      put_then 0 11 rows_words _ refl (omega arith) s₁ λ r₁.
      put_then 11 (11 + k) (decimal n) _ (omega arith) r₁ s₂ λ r₂.
      put-run (11 + k) (newline ∷ []) r₂ s₃
