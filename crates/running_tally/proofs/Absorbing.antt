-- Running tallies: with no rows, their bytes, and what adding counted names makes of one.
use Rattle.std.proofs.Common.{◌≡◌, ℕ, ◌+◌, ◌%◌, ◌^◌, ◌<◌, List, [], length, drop, sym, refl, ap, ◌∙◌, subst, arith, lit<, drop-drop}
use Rattle.std.specs.Prelude.{Option, Some, None}
use Rattle.std.proofs.lemmas.Option.{none-some, same_Some}
use Rattle.wire.specs.Bytes.{Bytes}
use Rattle.tally.specs.Rows.{Rows, plus, Canonical}
use Rattle.tally.specs.Tally.{ones, one}
use Rattle.tally.specs.Walks.{rows_bytes}
use Rattle.tally.proofs.Canon.{canonical-plus}
use Rattle.census.specs.NamePlaces.{counted_names}
use Rattle.running_tally.specs.RunningTally.{none, count_limit, Held, Runs, Absorbs, Absorbed}
use Rattle.census.specs.UsedNames.{total_count}
use Rattle.running_tally.specs.Groups.{gathered}
use Rattle.running_tally.specs.Passes.{fresh, Starts, RowsRaised, RaisedAs, Spreads, Filled}
use Rattle.running_tally.specs.declared.state.RunningTally.{RunningTally}
use Rattle.running_tally.proofs.Counts.{total_count-plus}
use Rattle.running_tally.proofs.Measures.{bytes-plus}
use Rattle.running_tally.proofs.Groups.{canonical-run, gathered-plus, left-start, total_count-gathered}

-- what holds of a value holds of every value that `Some` of it is equal to
each-some : (P : RunningTally → Type 0) (v : RunningTally) → P v → (u : RunningTally) → Some v ≡ Some u → P u
each-some P v p u e = subst P (same_Some v u e) p

-- ---- what callers cite
pub runs-empty : (t : List ℕ) → Runs t none []
runs-empty t = record {
  canonical = tt;
  total_fits = lit< tt;
  held = each-some (λ (v : RunningTally). Held t v []) _ (record { size = refl; bytes = refl; inside = omega arith; rows = refl });
  lost = λ e. absurd (none-some _ (sym e));
}

-- ---- adding counted names
module _ (s c ps t : List ℕ) (w : Option RunningTally) (b : Bytes s) (R : Rows ones) (x : Absorbs s c ps t w R) where
  abbrev G : Rows ones
  G = gathered s c ps

  abbrev T : Rows ones
  T = plus ones (counted_names s c ps) R

  sum : plus ones G R ≡ T
  sum = gathered-plus s c b ps x.counted R x.runs.canonical

  left-canonical : Canonical ones G
  left-canonical = (left-start s c b ps x.counted x.rises).canonical

  canonical : Canonical ones T
  canonical = canonical-run s c b ps R x.counted x.runs.canonical

  total_fits : total_count T < count_limit
  total_fits = omega (arith, total_count-plus (counted_names s c ps) R, x.total_fits)

  -- rows that are too long, and the bytes are as they were where there were none before
  none-held : {t' : List ℕ} → length t' < length (rows_bytes one T) → (R ≡ [] → t' ≡ t) → Absorbed t t' None R T
  none-held h f = record {
    runs = record {
      canonical = canonical;
      total_fits = total_fits;
      held = λ v e. absurd (none-some v e);
      lost = λ e. h;
    };
    behind = λ v e. absurd (none-some v e);
    untouched = λ f' e. f f';
  }

  -- what is too long stays so
  pub still-none : w ≡ None → Absorbed t t None R T
  still-none e =
      let more : length (rows_bytes one T) ≡ length (rows_bytes one (fresh R G)) + length (rows_bytes one R) = ap (λ (l : Rows ones). length (rows_bytes one l)) (sym sum) ∙ bytes-plus G R left-canonical x.runs.canonical in
      none-held (omega (arith, x.runs.lost e, more)) (λ f. refl)

  module _ (v : RunningTally) (e : w ≡ Some v) where
    held : Held t v R
    held = x.runs.held v e

    starts : Starts s c ps t v.size G R
    starts = record {
      left = left-start s c b ps x.counted x.rises;
      cursor = record { inside = held.inside; bytes = held.bytes; place = refl; canonical = x.runs.canonical };
      total_fits = omega (arith, total_count-gathered s c ps, x.total_fits);
    }

    pub not_short : {A : Type 0} → length t < v.size → A
    not_short h = absurd (omega (arith, held.inside, h))

    pub no_room_lem : (t' : List ℕ) → length t' ≡ length t → RaisedAs s c ps t t' v.size None → Absorbed t t' None R T
    no_room_lem t' len r = let y = r G R starts in none-held (rw (len, ← sum) y.0) y.1

    module _ (t' : List ℕ) (n k : ℕ) (r : RaisedAs s c ps t t' v.size (Some (n, k))) where
      raises : RowsRaised t t' v.size n k G R
      raises = r.2 G R starts

      spreads : Spreads s c ps t' v.size n G raises.W (plus ones G R)
      spreads = record {
        due = record {
          left = starts.left;
          total_fits = omega (arith, starts.total_fits);
          room = raises.missing;
          sum = raises.sum;
          canonical = canonical-plus ones G R left-canonical x.runs.canonical;
        };
        cursor = raises.cursor;
        total_fits = raises.total_fits;
      }

      pub all-added : (t'' : List ℕ) (m : ℕ) → length t'' ≡ length t → m ≡ (v.rows + k) % 2 ^ 64
          → ((G W T : Rows ones) → Spreads s c ps t' v.size n G W T → Filled t' t'' (v.size + n) T)
          → Absorbed t t'' (Some (record { size = v.size + n; rows = m })) R T
      all-added t'' m len h f =
          let z = f G raises.W (plus ones G R) spreads in
          let size : v.size + n ≡ length (rows_bytes one T) = raises.size ∙ ap (λ (l : Rows ones). length (rows_bytes one l)) sum in
          let rows : m ≡ length T = omega (arith, h, raises.rows, ap length sum, held.rows, r.1, x.rows_fit) in
          let now : RunningTally = record { size = v.size + n; rows = m } in
          record {
            runs = record {
              canonical = canonical;
              total_fits = total_fits;
              held = each-some (λ (u : RunningTally). Held t'' u T) now (record { size = size; bytes = z.bytes ∙ ap (rows_bytes one) sum; inside = rw len r.0; rows = rows });
              lost = λ g. absurd (none-some now (sym g));
            };
            behind = each-some (λ (u : RunningTally). drop u.size t'' ≡ drop u.size t) now (z.behind ∙ sym (drop-drop n v.size t') ∙ ap (drop n) raises.behind ∙ drop-drop n v.size t);
            untouched = λ g h. absurd (none-some now (sym h));
          }
