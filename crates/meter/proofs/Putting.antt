-- Rows put into an output as a tally: where they fit, and where they do not.
use Rattle.std.proofs.Common.{◌≡◌, ℕ, ◌+◌, ◌-◌, ◌<◌, ◌≤◌, List, [], ◌∷◌, ◌++◌, length, take, drop, sym, refl, ap, ◌∙◌, subst, append_assoc, add_comm, zero-add, arith, lit<, length-append, length-drop, take-append-drop, length-take-le, drop-drop, drop_at, le-leb}
use borrow.Author.Tests.{lt-leb}
use borrow.Rule.Slice.PartMut.{put_mid}
use Rattle.wire.proofs.Lists.{rest-is}
use Rattle.wire.specs.Bytes.{Bytes}
use Rattle.position.specs.declared.key.Coordinates.{Coordinates}
use Rattle.mapblock.specs.Data.{Block}
use Rattle.block_reader.specs.declared.scan.Scanned.{Scanned}
use Rattle.tally.proofs.Canon.{plus-unit}
use Rattle.wire.specs.Answer.{good, refusal, plain, no_room, too_many, Answered}
use Rattle.wire.proofs.Answers.{room-short, room-put}
use Rattle.wire.specs.Store.{overwrite, stored}
use Rattle.wire.proofs.Overwrites.{stored-fits, overwrite-two, part-back}
use Rattle.tally.specs.Rows.{Rows}
use Rattle.tally.specs.Tally.{tally, head_bytes, max_rows, ones, one}
use Rattle.tally.specs.Walks.{rows_bytes}
use Rattle.tally.proofs.Held.{tally-bytes, tally-size, head-size}
use Rattle.census.proofs.ScannedBlock.{scanned-valid}
use Rattle.running_tally.specs.RunningTally.{Held, Runs, Absorbed, none}
use Rattle.running_tally.specs.declared.state.RunningTally.{RunningTally}
use Rattle.running_tally.proofs.Absorbing.{runs-empty}
use Rattle.position.specs.declared.part.Part.{Part}
use Rattle.meter.specs.Standing.{in_part, standing, nodes_in}
use Rattle.meter.specs.Counting.{tally_of, by_one}
use Rattle.sheet.specs.Placed.{placed}
use Rattle.meter.specs.Tallying.{fitted}
use Rattle.meter.specs.SheetTally.{fitted_sheet}
use Rattle.mapblock.specs.Table.{clear_table}
use Rattle.sheet.specs.Records.{ScannedAs}
use Rattle.meter.specs.Adding.{Adds, Added, with_block}
use Rattle.meter.proofs.Amounts.{filter_nodes-fewer, tally-fewer}
use Rattle.meter.proofs.Blocks.{standing-number, rows-canonical}
use Rattle.std.specs.Prelude.{Option, Some, None}

-- ---- the answer by cases
module _ (d : List ℕ) (l : Rows ones) where
  module _ (n : ℕ) where
    pub sheet-short : length d < length ((tally one).encode l) → Answered (refusal no_room n 0) d d (fitted_sheet by_one (length d) l n)
    unfolding fitted_sheet
    sheet-short h = rw (lt-leb _ _ h) (refl, refl)

    pub sheet-many : length ((tally one).encode l) ≤ length d → max_rows < length l → Answered (refusal too_many n 0) d d (fitted_sheet by_one (length d) l n)
    unfolding fitted_sheet
    sheet-many h k = rw (le-leb _ _ h, lt-leb _ _ k) (refl, refl)

    pub sheet-all : {m : ℕ} {a : List ℕ} → length ((tally one).encode l) ≡ m → m ≤ length d → length l ≤ max_rows → a ≡ (tally one).encode l ++ drop m d
        → Answered (good m) d a (fitted_sheet by_one (length d) l n)
    unfolding fitted_sheet
    sheet-all e h k q = rw (le-leb (length ((tally one).encode l)) (length d) (rw e h), le-leb _ _ k, e) (refl, q)

-- ---- the head, then the rows
head-and-rows : (n : ℕ) (l : Rows ones) → n ≡ length l → head_bytes one n ++ rows_bytes one l ≡ (tally one).encode l
head-and-rows n l e = ap (λ (i : ℕ). head_bytes one i ++ rows_bytes one l) e ∙ sym (tally-bytes one l)

-- a tally put over the front of a buffer
pub tally-overwrite : (n : ℕ) (l : Rows ones) (d : List ℕ) → n ≡ length l → length ((tally one).encode l) ≤ length d
    → overwrite 9 (rows_bytes one l) (stored 0 (head_bytes one n) d) ≡ (tally one).encode l ++ drop (length ((tally one).encode l)) d
tally-overwrite n l d e h =
    let H = head_bytes one n in
    let w = rows_bytes one l in
    let size = tally-size one l in
    ap (overwrite 9 w) (stored-fits 0 H d (omega (arith, head-size one n))) ∙ overwrite-two 0 H w d (omega (arith, head-size one n)) ∙ ap (λ (u : List ℕ). overwrite 0 u d) (head-and-rows n l e) ∙ rw zero-add

-- ---- a block's rows, which were absorbed into the output behind the head
module _ (d t' : List ℕ) (w : Option RunningTally) (l : Rows ones) (k : 9 ≤ length d) (long : length t' ≡ length (take (length d - 9) (drop 9 d))) (a : Absorbed (take (length d - 9) (drop 9 d)) t' w [] l) where
  behind : take (length d - 9) (drop 9 d) ≡ drop 9 d
  behind = rest-is 9 d

  whole : put_mid 9 (length d - 9) d t' ≡ take 9 d ++ t'
  whole = part-back 9 d t' k

  -- there was no room, and nothing was written
  absorbed-short : w ≡ None → Answered (plain no_room) d (put_mid 9 (length d - 9) d t') (fitted by_one (length d) l)
  absorbed-short o =
      let same : put_mid 9 (length d - 9) d t' ≡ d = whole ∙ ap (λ (u : List ℕ). take 9 d ++ u) (a.untouched refl o ∙ behind) ∙ take-append-drop 9 d in
      let more : length d < length ((tally one).encode l) = omega (arith, long, a.runs.lost o, ap length behind, length-drop 9 d, tally-size one l) in
      subst (λ (u : List ℕ). Answered (plain no_room) d u (fitted by_one (length d) l)) (sym same) (room-short d ((tally one).encode l) more)

  module _ {v : RunningTally} (o : w ≡ Some v) where
    held : Held t' v l
    held = a.runs.held v o

    rows-there : t' ≡ rows_bytes one l ++ drop v.size (drop 9 d)
    rows-there = sym (take-append-drop v.size t') ∙ ap (λ (u : List ℕ). u ++ drop v.size t') held.bytes ∙ ap (λ (u : List ℕ). rows_bytes one l ++ u) (a.behind v o ∙ ap (drop v.size) behind)

    absorbed-rows : v.rows ≡ length l
    absorbed-rows = held.rows

    absorbed-size : v.size + 9 ≤ length d
    absorbed-size = omega (arith, k, long, held.inside, ap length behind, length-drop 9 d)

    absorbed-all : {e : List ℕ} → e ≡ stored 0 (head_bytes one v.rows) (put_mid 9 (length d - 9) d t') → Answered (good (v.size + 9)) d e (fitted by_one (length d) l)
    absorbed-all {e} q =
        let H = head_bytes one v.rows in
        let u = take 9 d ++ t' in
        let same : length u ≡ length d = omega (arith, k, long, length-append (take 9 d) t', length-take-le 9 d k, ap length behind, length-drop 9 d) in
        let put : e ≡ H ++ drop 9 u = q ∙ ap (stored 0 H) whole ∙ stored-fits 0 H u (omega (arith, head-size one v.rows)) in
        let rest : drop 9 u ≡ rows_bytes one l ++ drop v.size (drop 9 d) = drop_at (take 9 d) t' 9 (length-take-le 9 d k) ∙ rows-there in
        let last : drop v.size (drop 9 d) ≡ drop (v.size + 9) d = drop-drop v.size 9 d ∙ ap (λ (i : ℕ). drop i d) (add_comm 9 v.size) in
        let size : length ((tally one).encode l) ≡ v.size + 9 = omega (arith, tally-size one l, held.size) in
        let all : e ≡ (tally one).encode l ++ drop (v.size + 9) d = put ∙ ap (λ (z : List ℕ). H ++ z) (rest ∙ ap (λ (z : List ℕ). rows_bytes one l ++ z) last) ∙ sym (append_assoc H (rows_bytes one l) (drop (v.size + 9) d)) ∙ ap (λ (z : List ℕ). z ++ drop (v.size + 9) d) (head-and-rows v.rows l held.rows) in
        room-put d ((tally one).encode l) size absorbed-size all

-- ---- a block put into an empty tally
module _ {s : List ℕ} {w : Scanned} {b : Block} (p : Part) (at : Coordinates) (y : Bytes s) (f : ScannedAs s w b) where
  abbrev rows : Rows ones
  rows = tally_of by_one (nodes_in p (placed at b ∷ []))

  put-absorbed : (t : List ℕ) {t' c₁ c₂ : List ℕ} {u r : Option RunningTally} → c₁ ≡ clear_table → u ≡ none → ((R : Rows ones) → Adds s w c₁ t u b R → Added c₂ t t' r R (with_block p at b R)) → Absorbed t t' r [] rows
  put-absorbed t {t'} {c₁} {u = u} {r = r} z e g =
      let start : Adds s w c₁ t u b [] = record { scanned = f; clear = z; runs = subst (λ (v : Option RunningTally). Runs t v []) (sym e) (runs-empty t); total_fits = lit< tt; rows_fit = lit< tt } in
      subst (Absorbed t t' r []) (plus-unit ones rows (rows-canonical by_one p (placed at b ∷ []) (scanned-valid s y f.taken f.shows, tt))) (g [] start).absorbed

  put-few : length rows ≤ 4096
  put-few = omega (arith, tally-fewer by_one (nodes_in p (placed at b ∷ [])), filter_nodes-fewer (in_part p) (standing (placed at b ∷ [])), standing-number (placed at b ∷ []))

  -- the output does not even hold the head
  pub put-headless : (d : List ℕ) → length d < 9 → Answered (plain no_room) d d (fitted by_one (length d) rows)
  put-headless d h = room-short d ((tally one).encode rows) (omega (arith, tally-size one rows))

  -- it is added to the output behind the head, by clear counters
  module _ (d : List ℕ) (k : 9 ≤ length d) {t' c₁ c₂ : List ℕ} {u r : Option RunningTally} (long : length t' ≡ length (take (length d - 9) (drop 9 d))) (z : c₁ ≡ clear_table) (e : u ≡ none)
      (g : (R : Rows ones) → Adds s w c₁ (take (length d - 9) (drop 9 d)) u b R → Added c₂ (take (length d - 9) (drop 9 d)) t' r R (with_block p at b R)) where
    there : Absorbed (take (length d - 9) (drop 9 d)) t' r [] rows
    there = put-absorbed (take (length d - 9) (drop 9 d)) z e g

    pub put-nothing : r ≡ None → Answered (plain no_room) d (put_mid 9 (length d - 9) d t') (fitted by_one (length d) rows)
    put-nothing = absorbed-short d t' r rows k long there

    module _ {v : RunningTally} (o : r ≡ Some v) where
      pub put-rows : v.rows ≤ 4096
      put-rows = omega (arith, put-few, absorbed-rows d t' r rows k long there o)

      pub put-size : v.size + 9 ≤ length d
      put-size = absorbed-size d t' r rows k long there o

      pub put-all : {a : List ℕ} → a ≡ stored 0 (head_bytes one v.rows) (put_mid 9 (length d - 9) d t') → Answered (good (v.size + 9)) d a (fitted by_one (length d) rows)
      put-all = absorbed-all d t' r rows k long there o
