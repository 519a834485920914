-- The lines of rows, passed from the front: what is measured of them, and what is written.
use Prim.Native.Nat.{ℕ, ◌+◌, ◌-◌, ◌<◌, ◌≤◌}
use mathlib.Core.Path.{◌≡◌, refl, ap, ap₂, sym, ◌∙◌}
use mathlib.Core.Bool.{true, false}
use mathlib.Core.List.{List, [], ◌∷◌, ◌++◌, append_assoc, append-nil}
use native.Mathlib.Omega.{arith}
use lib.ListN.{length, take, drop, length-append, length-drop}
use lib.Seq.{length-take-le}
use borrow.Author.Tests.{le-leb, lt-leb}
use Rattle.wire.proofs.Lists.{rest-is}
use Rattle.wire.specs.Store.{PutAt}
use Rattle.wire.proofs.Puts.{put-room, put_two}
use Rattle.tally.specs.Rows.{Row, Rows}
use Rattle.tally.specs.Tally.{ones, one}
use Rattle.tally.specs.Walks.{Holds}
use Rattle.tally.proofs.Held.{row_inside, first-row, no_row}
use Rattle.tally.proofs.FrontRows.{name-part}
use Rattle.tally.proofs.SumRows.{Front}
use Rattle.report.specs.Text.{decimal, line, lines}
use Rattle.report.specs.Told.{LinesFit, HasRoom, LinesPut}
use Rattle.report.proofs.Texts.{line-size}
use Rattle.std.specs.Prelude.{Some, None}

no_lines : lines [] ≡ []
unfolding lines
no_lines = refl

first-line : (r : Row ℕ) (l : Rows ones) → lines (r ∷ l) ≡ line r ++ lines l
unfolding lines
first-line r l = refl

-- the row in front, as the code takes it
abbrev row_at : List ℕ → ℕ → ℕ → Row ℕ
row_at s n c = record { name = take (n + 2 - 2) (drop 2 s); count = c }

-- ---- the lines W of the rows that were passed, and the rows that are left
pub record Passed (rest W : List ℕ) (l : Rows ones) : Type 0 where
  pub L : Rows ones
  pub holds : Holds one rest L
  pub whole : W ++ lines L ≡ lines l

module _ {rest : List ℕ} {l : Rows ones} where
  module _ {W : List ℕ} (p : Passed rest W l) where
    passed-room : length W ≤ length (lines l)
    passed-room = omega (arith, ap length p.whole, length-append W (lines p.L))

    passed-end : Front rest None → W ≡ lines l
    passed-end f = sym (append-nil W) ∙ ap (λ (t : List ℕ). W ++ t) (sym (ap lines (no_row rest p.L f p.holds) ∙ no_lines)) ∙ p.whole

    passed_on : (n c : ℕ) → Front rest (Some (n, c)) → Passed (drop (n + 10) rest) (W ++ line (row_at rest n c)) l
    passed_on n c f =
        let w = first-row rest n c p.L f p.holds in
        let same : w.r ≡ row_at rest n c = ap₂ (λ (m : List ℕ) (i : ℕ). record { name = m; count = i }) (sym (name-part n rest ∙ w.name)) w.counts in
        let next : lines p.L ≡ line (row_at rest n c) ++ lines w.R = ap lines w.split ∙ first-line w.r w.R ∙ ap (λ (r : Row ℕ). line r ++ lines w.R) same in
        record { L = w.R; holds = w.rest; whole = append_assoc W (line (row_at rest n c)) (lines w.R) ∙ ap (λ (t : List ℕ). W ++ t) (sym next) ∙ p.whole }

-- the length of its line, where the count has k digits
front-size : (s : List ℕ) (n c k : ℕ) → Front s (Some (n, c)) → k ≡ length (decimal c) → length (line (row_at s n c)) ≡ k + n + 2
front-size s n c k f e =
    let long : length (take (n + 2 - 2) (drop 2 s)) ≡ n = rw name-part (length-take-le n (drop 2 s) (omega (arith, row_inside s n c f, length-drop 2 s))) in
    omega (arith, line-size k (row_at s n c) e)

-- what is behind the front row, as the code takes it
abbrev behind : List ℕ → ℕ → List ℕ
behind rest n = take (length rest - (n + 10)) (drop (n + 10) rest)

-- it is shorter
behind-short : (rest : List ℕ) (n c : ℕ) → Front rest (Some (n, c)) → length (behind rest n) < length rest
behind-short rest n c f = rw rest-is (omega (arith, length-drop (n + 10) rest, row_inside rest n c f))

-- ---- the measuring pass
pub record Measuring (s rest : List ℕ) (room left : ℕ) : Type 0 where
  pub short : length rest ≤ length s
  pub counted : (l : Rows ones) → Holds one s l → (W : List ℕ) × Passed rest W l × (left + length W ≡ room)

module _ {s rest : List ℕ} {room left : ℕ} (m : Measuring s rest room left) where
  pub measuring-end : Front rest None → LinesFit s room true
  measuring-end f l h =
      let w = m.counted l h in
      sym (le-leb (length (lines l)) room (omega (arith, w.2, ap length (passed-end w.1 f))))

  module _ (n c k : ℕ) (f : Front rest (Some (n, c))) (e : k ≡ length (decimal c)) where
    -- the lines that were passed, with the next one
    longer : (W : List ℕ) → length (W ++ line (row_at rest n c)) ≡ length W + (k + n + 2)
    longer W = omega (arith, length-append W (line (row_at rest n c)), front-size rest n c k f e)

    pub measuring-full : (k + n + 2 ≤ left → ⊥) → LinesFit s room false
    measuring-full g l h =
        let w = m.counted l h in
        sym (lt-leb (length (lines l)) room (omega (arith, g, w.2, longer w.0, passed-room (passed_on w.1 n c f))))

    pub measuring-on : {more : ℕ} → (k + n + 2 ≤ left) × (more ≡ left - (k + n + 2)) → Measuring s (behind rest n) room more
    measuring-on g = record {
      short = omega (arith, m.short, behind-short rest n c f);
      counted = λ l h. let w = m.counted l h in (w.0 ++ line (row_at rest n c), rw rest-is (passed_on w.1 n c f), omega (arith, g.0, g.1, w.2, longer w.0));
    }

-- ---- the writing pass
pub record Writing (from : ℕ) (s rest d out : List ℕ) (at : ℕ) : Type 0 where
  pub short : length rest ≤ length s
  pub same : length out ≡ length d
  pub written : (l : Rows ones) → Holds one s l → from + length (lines l) ≤ length d → (W : List ℕ) × Passed rest W l × PutAt from W d out at

module _ {from at : ℕ} {s rest d out : List ℕ} (m : Writing from s rest d out at) where
  pub writing-end : Front rest None → LinesPut from s d out at
  writing-end f l h k = let w = m.written l h k in rw (passed-end w.1 f) at w.2

  module _ (n c : ℕ) (f : Front rest (Some (n, c))) where
    room-on : {W : List ℕ} {l : Rows ones} → Passed rest W l → from + length (lines l) ≤ length d → from + length (W ++ line (row_at rest n c)) ≤ length d
    room-on p k = omega (arith, passed-room (passed_on p n c f))

    pub writing-room : HasRoom from s (length d) → at + length (line (row_at rest n c)) ≤ length out
    writing-room r = let w = m.written r.l r.holds r.room in put-room (line (row_at rest n c)) (room-on w.1 r.room) w.2

    pub writing-on : {last : List ℕ} {end : ℕ} → PutAt at (line (row_at rest n c)) out last end → length last ≡ length out → Writing from s (behind rest n) d last end
    writing-on q e = record {
      short = omega (arith, m.short, behind-short rest n c f);
      same = e ∙ m.same;
      written = λ l h k. let w = m.written l h k in (w.0 ++ line (row_at rest n c), rw rest-is (passed_on w.1 n c f), put_two {u = w.0} (room-on w.1 k) w.2 (λ _. q));
    }
