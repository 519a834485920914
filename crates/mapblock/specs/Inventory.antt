-- An inventory: document 01, 'Block layout'. It runs through the first line that is exactly `EndInventory` with its newline, and is one field.
use Rattle.std.specs.Prelude.{ℕ, suc, ◌≤◌, ◌≡◌, refl, List, [], ◌∷◌, ◌++◌, Bool, true, false, cond, eqb, length, take, drop}
use Rattle.std.proofs.Common.{zero-le, ap, sym, ◌∙◌, inl, arith, take-append-drop, length-take-le}
use Rattle.std.proofs.Math.Option.{Option, some, none, none-ne-some}
use Rattle.std.proofs.Math.Seq.{take-append_seam}
use Rattle.wire.specs.Choice.{cond_yes}
use Rattle.wire.specs.Bytes.{Bytes, bytes_take}
use Rattle.wire.specs.Marks.{starts, starts-long, starts-append}
use Rattle.wire.specs.Read.{Read, done, refused, reach, not_done}
use Rattle.wire.specs.Format.{Format, Parsed, moved}
use Rattle.mapblock.specs.declared.fault.Fault.{Fault}
use Rattle.mapblock.specs.declared.fault.Fault.TheVariants as fault

-- a format of a block's bytes
abbrev pub BlockFormat : Type 0 → Type 1
BlockFormat A = Format Fault fault.Ends A

-- `EndInventory` and a newline
abbrev pub end_line : List ℕ
end_line = 69 ∷ 110 ∷ 100 ∷ 73 ∷ 110 ∷ 118 ∷ 101 ∷ 110 ∷ 116 ∷ 111 ∷ 114 ∷ 121 ∷ 10 ∷ []

abbrev pub after : Option ℕ → Option ℕ
after none = none
after (some n) = some (suc n)

-- how many bytes there are through the first end line; the list begins a line where the flag is true
abbrev pub through : Bool → List ℕ → Option ℕ
through fresh [] = none
through fresh (x ∷ xs) = cond (cond fresh (starts end_line (x ∷ xs)) false) (some 13) (after (through (eqb x 10) xs))

abbrev pub sized : List ℕ → Option ℕ → Read Fault (List ℕ)
sized s none = refused fault.Ends 0
sized s (some n) = done (take n s) n

-- ---- laws
pub after-some : (o : Option ℕ) (n : ℕ) → after o ≡ some n → (m : ℕ) × (o ≡ some m) × (suc m ≡ n)
after-some none n h = absurd (none-ne-some n h)
after-some (some m) n h = (m, refl, (cc))

through-long : (b : Bool) (l : List ℕ) (n : ℕ) → through b l ≡ some n → (13 ≤ n) × (n ≤ length l)
through-long b [] n h = absurd (none-ne-some n h)
through-long b (x ∷ xs) n h = go (cond b (starts end_line (x ∷ xs)) false) refl h (λ m. through-long (eqb x 10) xs m)
  where
    go : (c : Bool) → cond b (starts end_line (x ∷ xs)) false ≡ c → cond c (some 13) (after (through (eqb x 10) xs)) ≡ some n
        → ((m : ℕ) → through (eqb x 10) xs ≡ some m → (13 ≤ m) × (m ≤ length xs)) → (13 ≤ n) × (n ≤ suc (length xs))
    go true e f ih =
        let z : 13 ≡ n = cc in
        let k : 13 ≤ suc (length xs) = starts-long end_line (x ∷ xs) (cond_yes b (starts end_line (x ∷ xs)) e).1 in
        (omega arith, omega arith)
    go false e f ih =
        let y = after-some (through (eqb x 10) xs) n f in
        let i = ih y.0 y.1 in
        (omega arith, omega arith)

-- more bytes after it change nothing
through-more : (b : Bool) (l t : List ℕ) (n : ℕ) → through b l ≡ some n → through b (l ++ t) ≡ some n
through-more b [] t n h = absurd (none-ne-some n h)
through-more b (x ∷ xs) t n h =
    let i = through-long b (x ∷ xs) n h in
    let k : starts end_line (x ∷ xs ++ t) ≡ starts end_line (x ∷ xs) = starts-append end_line (x ∷ xs) t (omega arith) in
    go k (cond b (starts end_line (x ∷ xs)) false) refl h (λ m. through-more (eqb x 10) xs t m)
  where
    go : starts end_line (x ∷ xs ++ t) ≡ starts end_line (x ∷ xs) → (c : Bool) → cond b (starts end_line (x ∷ xs)) false ≡ c → cond c (some 13) (after (through (eqb x 10) xs)) ≡ some n
        → ((m : ℕ) → through (eqb x 10) xs ≡ some m → through (eqb x 10) (xs ++ t) ≡ some m)
        → cond (cond b (starts end_line (x ∷ xs ++ t)) false) (some 13) (after (through (eqb x 10) (xs ++ t))) ≡ some n
    go k true e f ih = ap (λ (d : Bool). cond (cond b d false) (some 13) (after (through (eqb x 10) (xs ++ t)))) k ∙ ap (λ (d : Bool). cond d (some 13) (after (through (eqb x 10) (xs ++ t)))) e ∙ f
    go k false e f ih =
        let y = after-some (through (eqb x 10) xs) n f in
        ap (λ (d : Bool). cond (cond b d false) (some 13) (after (through (eqb x 10) (xs ++ t)))) k ∙ ap (λ (d : Bool). cond d (some 13) (after (through (eqb x 10) (xs ++ t)))) e
        ∙ ap after (ih y.0 y.1) ∙ ap some y.2

-- and none after it are needed
through-take : (b : Bool) (s : List ℕ) (n : ℕ) → through b s ≡ some n → through b (take n s) ≡ some n
through-take b [] n h = absurd (none-ne-some n h)
through-take b (x ∷ xs) n h =
    go (cond b (starts end_line (x ∷ xs)) false) refl h (λ m. through-take (eqb x 10) xs m)
  where
    same : (m : ℕ) → 12 ≤ m → m ≤ length xs → starts end_line (x ∷ take m xs) ≡ starts end_line (x ∷ xs)
    same m p q =
        let e : starts end_line (x ∷ (take m xs ++ drop m xs)) ≡ starts end_line (x ∷ take m xs) = starts-append end_line (x ∷ take m xs) (drop m xs) (omega (arith, length-take-le m xs q)) in
        sym e ∙ ap (λ (l : List ℕ). starts end_line (x ∷ l)) (take-append-drop m xs)

    step : (m : ℕ) (c : Bool) → 12 ≤ m → m ≤ length xs → cond b (starts end_line (x ∷ xs)) false ≡ c
        → through b (x ∷ take m xs) ≡ cond c (some 13) (after (through (eqb x 10) (take m xs)))
    step m c p q e =
        ap (λ (d : Bool). cond (cond b d false) (some 13) (after (through (eqb x 10) (take m xs)))) (same m p q)
        ∙ ap (λ (d : Bool). cond d (some 13) (after (through (eqb x 10) (take m xs)))) e

    go : (c : Bool) → cond b (starts end_line (x ∷ xs)) false ≡ c → cond c (some 13) (after (through (eqb x 10) xs)) ≡ some n
        → ((m : ℕ) → through (eqb x 10) xs ≡ some m → through (eqb x 10) (take m xs) ≡ some m)
        → through b (take n (x ∷ xs)) ≡ some n
    go true e f ih =
        let z : 13 ≡ n = cc in
        let k : 13 ≤ suc (length xs) = starts-long end_line (x ∷ xs) (cond_yes b (starts end_line (x ∷ xs)) e).1 in
        let p : 12 ≤ 12 = omega arith in
        let q : 12 ≤ length xs = omega arith in
        rw (← z) (step 12 true p q e)
    go false e f ih =
        let y = after-some (through (eqb x 10) xs) n f in
        let i = through-long (eqb x 10) xs y.0 y.1 in
        let p : 12 ≤ y.0 = omega arith in
        rw (← y.2) (step y.0 false p i.1 e ∙ ap after (ih y.0 y.1))

sized-done : (s : List ℕ) (o : Option ℕ) (l : List ℕ) (n : ℕ) → sized s o ≡ done l n → (o ≡ some n) × (take n s ≡ l)
sized-done s none l n h = not_done h
sized-done s (some m) l n h = let z : m ≡ n = cc in (ap some z, let e : take m s ≡ l = cc in rw z at e)

pub inventory-forward : (l t : List ℕ) → through true l ≡ some (length l) → sized (l ++ t) (through true (l ++ t)) ≡ done l (length l)
inventory-forward l t h = rw (through-more true l t (length l) h, take-append_seam)

pub inventory-backward : (s l : List ℕ) (n : ℕ) → Bytes s → sized s (through true s) ≡ done l n → Parsed (λ l. (through true l ≡ some (length l)) × Bytes l) (λ l. l) s l n
inventory-backward s l n b h =
    let y = sized-done s (through true s) l n h in
    let i = through-long true s n y.0 in
    let size : length (take n s) ≡ n = length-take-le n s i.1 in
    moved y.1 refl record {
      ok = (through-take true s n y.0 ∙ ap some (sym size), bytes_take n s b);
      front = sym (take-append-drop n s);
      ends = sym size;
    }

-- it is refused for want of its end line alone
pub inventory-refused : (s : List ℕ) (o : Option ℕ) (e : Fault) (p : ℕ) → sized s o ≡ refused e p → e ≡ fault.Ends
inventory-refused s none e p h = cc
inventory-refused s (some n) e p h = not_done (sym h)

pub inventory-inside : (s : List ℕ) (o : Option ℕ) → through true s ≡ o → reach (sized s o) ≤ length s
inventory-inside s none h = zero-le
inventory-inside s (some n) h = (through-long true s n h).1

unfoldable pub inventory : BlockFormat (List ℕ)
inventory = record {
  Ok = λ l. (through true l ≡ some (length l)) × Bytes l;
  encode = λ l. l;
  read = λ s. sized s (through true s);
  bytes = λ l h. h.1;
  inside = λ s. inventory-inside s (through true s) refl;
  forward = λ l h t. inventory-forward l t h.0;
  backward = inventory-backward;
  stable_refusal = λ s t e p b h. inl (inventory-refused s (through true s) e p h);
}
