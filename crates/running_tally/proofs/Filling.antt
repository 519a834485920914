-- The second pass: what holds before each group, and its steps.
use Rattle.std.proofs.Common.{◌≡◌, ℕ, ◌+◌, ◌-◌, ◌<◌, ◌≤◌, Bool, true, false, List, [], ◌∷◌, ◌++◌, length, get_or, take, drop, sym, refl, ap, ◌∙◌, subst, ap₂, arith, length-append, length-take-le, take_at, take-add, drop_at}
use Rattle.wire.specs.Store.{overwrite, moved_back}
use Rattle.wire.proofs.Overwrites.{overwrite-drop, moved-fits}
use Rattle.tally.specs.Rows.{Row, Rows, add_row, count_in, Canonical}
use Rattle.tally.specs.Tally.{ones, one, fields}
use Rattle.tally.specs.Walks.{rows_bytes}
use Rattle.tally.proofs.Canon.{count_add, determined}
use Rattle.tally.proofs.Held.{rows_append, one_size}
use Rattle.census.specs.NamePlaces.{row_at}
use Rattle.running_tally.specs.RunningTally.{count_limit}
use Rattle.census.specs.UsedNames.{total_count}
use Rattle.running_tally.specs.Groups.{Remaining, named, First, Grouped}
use Rattle.running_tally.specs.Passes.{has, fresh, May, Apart, Inside, RowFilled, FilledTo, Fills, Filled, Spreads}
use Rattle.running_tally.specs.declared.absorb.Group.{Group}
use Rattle.running_tally.specs.declared.absorb.Hole.{Hole}
use Rattle.running_tally.proofs.Measures.{fresh-there, fresh-new, fresh-none, agree-above, fresh-agree}
use Rattle.running_tally.proofs.Groups.{left_end}
use Rattle.running_tally.proofs.Raising.{Under, under-passed, first_rest, first-may}

-- no bytes are no rows
no_bytes : (F : Rows ones) → length (rows_bytes one F) ≡ 0 → F ≡ []
no_bytes [] h = refl
no_bytes (r ∷ F) h = absurd (omega (arith, h, length-append ((fields one).encode r) (rows_bytes one F), one_size r))

-- ---- before each group
pub record FillingRows (s c ps t₀ : List ℕ) (n i : ℕ) (hole : Hole) (t : List ℕ) (T : Rows ones) : Type 0 where
  pub D : Rows ones
  pub L : Rows ones
  pub H : Rows ones
  pub left : Remaining s c ps i H
  pub apart : Apart t hole n D L
  pub under : Under D H
  pub sum : (m : List ℕ) → count_in ones (fresh L H) m + count_in ones (D ++ L) m ≡ count_in ones T m
  pub room : hole.write + length (rows_bytes one (fresh L H)) ≡ hole.read
  pub total_fits : total_count H < count_limit
  pub behind : drop n t ≡ drop n t₀

pub record Filling (s c ps t₀ : List ℕ) (b n i : ℕ) (hole : Hole) (t : List ℕ) : Type 0 where
  pub inside : Inside t hole n
  pub short : i ≤ length ps
  pub long : length t ≡ length t₀
  pub rows : (G W T : Rows ones) → Fills s c ps t₀ b n G W T → FillingRows s c ps t₀ n i hole t T

module _ (s c ps t₀ : List ℕ) (b n i : ℕ) (hole : Hole) (t : List ℕ) (x : Filling s c ps t₀ b n i hole t) where
  module _ (g : Group) (q : Grouped s c ps i g) where
    abbrev next : Row ℕ
    next = named s ps i g.count

    module _ (G W T : Rows ones) (y : Fills s c ps t₀ b n G W T) where
      abbrev now : FillingRows s c ps t₀ n i hole t T
      now = x.rows G W T y

      first : First s c ps i g now.H
      first = q.first now.H now.left now.total_fits

      rest : Canonical ones (next ∷ first.H)
      rest = first_rest first now.left.canonical

      may : May next now.D
      may = first-may first now.left.canonical now.D now.under

      there-is : has now.L next.name ≡ true → fresh now.L now.H ≡ fresh now.L first.H
      there-is e = ap (fresh now.L) first.split ∙ fresh-there now.L next first.H e

      new_is : has now.L next.name ≡ false → fresh now.L now.H ≡ next ∷ fresh now.L first.H
      new_is e = ap (fresh now.L) first.split ∙ fresh-new now.L next first.H e

      new-size : has now.L next.name ≡ false
          → length (rows_bytes one (fresh now.L now.H)) ≡ length ((fields one).encode next) + length (rows_bytes one (fresh now.L first.H))
      new-size e = ap (λ (l : Rows ones). length (rows_bytes one l)) (new_is e) ∙ length-append ((fields one).encode next) (rows_bytes one (fresh now.L first.H))

      room : has now.L next.name ≡ false → hole.write + length ((fields one).encode next) ≤ hole.read
      room e = omega (arith, now.room, new-size e)

      module _ (t' : List ℕ) (gap' : Hole) (r : RowFilled t t' hole gap' n next now.D now.L) where
        agree : fresh r.L' first.H ≡ fresh now.L first.H
        agree = fresh-agree r.L' now.L first.H (agree-above r.L' now.L next.name first.H rest.3 r.same)

        abbrev Sum : Type 0
        Sum = (m : List ℕ) → count_in ones (fresh now.L first.H) m + count_in ones (r.D' ++ r.L') m ≡ count_in ones T m

        abbrev Room : Type 0
        Room = gap'.write + length (rows_bytes one (fresh now.L first.H)) ≡ gap'.read

        steps : (o : Bool) → has now.L next.name ≡ o → Sum × Room
        steps true e =
            let sum : r.D' ++ r.L' ≡ now.D ++ now.L = r.sum ∙ rw e in
            let moved : gap'.write + hole.read ≡ hole.write + gap'.read + 0 = r.room ∙ rw e in (
              λ m. rw (sum, ← there-is e) (now.sum m),
              omega (arith, moved, now.room, ap (λ (l : Rows ones). length (rows_bytes one l)) (there-is e)),
            )
        steps false e =
            let sum : r.D' ++ r.L' ≡ add_row ones next (now.D ++ now.L) = r.sum ∙ rw e in
            let moved : gap'.write + hole.read ≡ hole.write + gap'.read + length ((fields one).encode next) = r.room ∙ rw e in (
              λ m. rw sum (omega (arith, now.sum m, ap (λ (l : Rows ones). count_in ones l m) (new_is e), count_add ones next (now.D ++ now.L) m)),
              omega (arith, moved, now.room, new-size e),
            )

        on : FillingRows s c ps t₀ n g.next gap' t' T
        on =
            let z = steps (has now.L next.name) refl in
            record {
              D = r.D';
              L = r.L';
              H = first.H;
              left = first.left;
              apart = r.apart;
              under = under-passed next r.D' first.H r.passed rest.3;
              sum = λ m. rw agree (z.0 m);
              room = rw agree z.1;
              total_fits = omega (arith, now.total_fits, ap total_count first.split);
              behind = r.behind ∙ now.behind;
            }

    module _ (name : List ℕ) (e : name ≡ (row_at s (get_or ps i 0)).name) (t' : List ℕ) (gap' : Hole) where
      pub filling-on : length t' ≡ length t → FilledTo t t' hole gap' n (record { name = name; count = g.count }) → Filling s c ps t₀ b n g.next gap' t'
      filling-on len r =
          let is : record { name = name; count = g.count } ≡ next = λ j. record { name = e j; count = g.count } in
          let r' = subst (λ (a : Row ℕ). FilledTo t t' hole gap' n a) is r in
          record {
            inside = r'.inside;
            short = q.inside;
            long = len ∙ x.long;
            rows = λ G W T y. on G W T y t' gap' (r'.filled (now G W T y).D (now G W T y).L (now G W T y).apart (may G W T y) (room G W T y));
          }

  -- no name is new any more
  ends : (G W T : Rows ones) (y : Fills s c ps t₀ b n G W T) → (let z = x.rows G W T y in fresh z.L z.H ≡ []) → Filled t₀ t n T
  ends G W T y none =
      let z = x.rows G W T y in
      let closed : hole.write ≡ hole.read = omega (arith, z.room, ap (λ (l : Rows ones). length (rows_bytes one l)) none) in
      let all : z.D ++ z.L ≡ T = determined ones (z.D ++ z.L) T z.apart.canonical y.due.canonical (λ m. omega (arith, z.sum m, ap (λ (l : Rows ones). count_in ones l m) none)) in
      let past : hole.write + (n - hole.read) ≡ n = omega (arith, closed, x.inside.short) in
      record {
        bytes = ap (λ (j : ℕ). take j t) (sym past) ∙ take-add hole.write (n - hole.read) t
            ∙ ap₂ (λ (u v : List ℕ). u ++ v) z.apart.front (ap (λ (j : ℕ). take (n - hole.read) (drop j t)) closed ∙ z.apart.rest)
            ∙ sym (rows_append one z.D z.L) ∙ ap (rows_bytes one) all;
        behind = z.behind;
      }

  -- the hole is closed
  pub filling-closed : hole.read ≡ hole.write → (G W T : Rows ones) → Fills s c ps t₀ b n G W T → Filled t₀ t n T
  filling-closed h G W T y = let z = x.rows G W T y in ends G W T y (no_bytes (fresh z.L z.H) (omega (arith, z.room, h)))

  -- no place is left
  pub filling-end : length ps ≤ i → (G W T : Rows ones) → Fills s c ps t₀ b n G W T → Filled t₀ t n T
  filling-end h G W T y = let z = x.rows G W T y in ends G W T y (ap (fresh z.L) (left_end h z.left) ∙ fresh-none z.L)

-- ---- rows that were missing are put
module _ (s c ps t : List ℕ) (n b : ℕ) (G W T : Rows ones) (y : Spreads s c ps t n b G W T) where
  pub spread_none : b ≡ 0 → Filled t t (n + b) T
  spread_none e =
      let none : fresh W G ≡ [] = no_bytes (fresh W G) (omega (arith, y.due.room, e)) in
      let all : W ≡ T = determined ones W T y.cursor.canonical y.due.canonical (λ m. omega (arith, y.due.sum m, ap (λ (l : Rows ones). count_in ones l m) none)) in
      let size : n + b ≡ n = omega (arith, e) in
      record { bytes = rw size (y.cursor.bytes ∙ ap (rows_bytes one) all); behind = refl }

  -- ---- room is made in front
  module _ (h : n + b ≤ length t) (t₁ : List ℕ) (e : t₁ ≡ moved_back n b t) where
    was : t₁ ≡ overwrite b (take n t) t
    was = e ∙ moved-fits n b t (omega arith)

    size : length (take n t) ≡ n
    size = length-take-le n t (omega arith)

    spread-start : Fills s c ps t₁ b (n + b) G W T
    spread-start =
        let rest : drop b t₁ ≡ take n t ++ drop (b + length (take n t)) t = ap (drop b) was ∙ drop_at (take b t) (take n t ++ drop (b + length (take n t)) t) b (length-take-le b t (omega arith)) in
        let past : n + b - b ≡ n = omega arith in
        record {
          due = y.due;
          apart = record {
            front = refl;
            rest = rw (past, rest) (take_at (take n t) (drop (b + length (take n t)) t) n size ∙ y.cursor.bytes);
            canonical = y.cursor.canonical;
            total_fits = y.total_fits;
          };
        }

    behind : drop (n + b) t₁ ≡ drop (n + b) t
    behind =
        let past : b + length (take n t) ≡ n + b = omega (arith, size) in
        rw (was, ← past) (overwrite-drop b (take n t) t (omega (arith, size)))

    pub spread-filled : (t₂ : List ℕ) → ((G W T : Rows ones) → Fills s c ps t₁ b (n + b) G W T → Filled t₁ t₂ (n + b) T) → Filled t t₂ (n + b) T
    spread-filled t₂ f = let z = f G W T spread-start in record { bytes = z.bytes; behind = z.behind ∙ behind }
