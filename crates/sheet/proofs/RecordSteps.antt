-- A sheet read and judged a step at a time: one law for each way on, which a proof about code cites.
use Prim.Native.Nat.{ℕ, zero, suc, ◌+◌, ◌<◌}
use mathlib.Core.Path.{◌≡◌, refl, ap, sym, ◌∙◌}
use mathlib.Core.Bool.{Bool, true, false, cond}
use mathlib.Core.List.{List, [], ◌∷◌, ◌++◌}
use mathlib.Core.Option.{Option, some, none}
use native.Mathlib.Omega.{arith}
use lib.IntN.{ℤ}
use lib.ListN.{length, drop}
use lib.Seq.{drop-drop, drop-append_seam}
use borrow.Author.Tests.{eq-eqb, ne_eqb}
use Rattle.wire.specs.Read.{Read, done, refused, to_option}
use borrow.Author.Rules.{rules}
use Rattle.wire.specs.Format.{◌⨾◌, iso}
use Rattle.wire.specs.Formats.{s64, half64, prefixed}
use Rattle.wire.specs.Answer.{Answer, good, refusal, plain, map_answer, sheet_malformed}
use Rattle.wire.proofs.Answers.{no-good, then-good, map-good}
use Rattle.std.specs.Prelude.{Some, None, Ok, Err, Result}
use Rattle.std.specs.Result.{result_ok}
use Rattle.wire.specs.Told.{Short, short, told_run}
use Rattle.wire.specs.declared.fields.EndsAt.{EndsAt}
use Rattle.sheet.specs.Records.{told_frame}
use Rattle.wire.proofs.Steps.{signed-told, prefixed-told}
use Rattle.position.specs.Keys.{split_of}
use Rattle.position.specs.declared.key.Coordinates.{Coordinates}
use Rattle.mapblock.specs.Data.{Block}
use Rattle.block_reader.specs.Questions.{block_of}
use Rattle.sheet.specs.Placed.{Placed, placed}
use Rattle.sheet.specs.Sheet.{Misframed, misframed, SheetRecord, frame, sheet_head, rises, judged_in, judge_record, records_from, sheet_of}

-- ---- a record's framing, as the code reads it: none where the bytes of its key or its block end, else the block behind the twelve of key and length
module _ (s : List ℕ) where
  pub frame-no-key : {e : Short} {p : ℕ} → refused e p ≡ (s64 {ends = short}).read s → none ≡ to_option (frame.read s)
  unfolding frame iso ◌⨾◌
  frame-no-key h = rw (signed-told misframed 8 half64 refl s h)

  module _ {key : ℤ} (h : done key 8 ≡ (s64 {ends = short}).read s) where
    pub frame-no-block : (r : Result ℕ EndsAt) → told_run 4 (drop 8 s) r ≡ (prefixed {ends = short} 4).read (drop 8 s) → None ≡ result_ok r → none ≡ to_option (frame.read s)
    unfolding frame iso ◌⨾◌
    frame-no-block (Ok k) g n = absurd (search rules)
    frame-no-block (Err p) g n = rw (signed-told misframed 8 half64 refl s h, prefixed-told misframed 4 (drop 8 s) g)

    pub frame-block : {n : ℕ} (r : Result ℕ EndsAt) → told_run 4 (drop 8 s) r ≡ (prefixed {ends = short} 4).read (drop 8 s) → Some n ≡ result_ok r
        → told_frame s (Some (key, n)) ≡ to_option (frame.read s)
    unfolding frame iso ◌⨾◌
    frame-block {n} (Ok k) g e =
        let end : 8 + (4 + n) ≡ 12 + n = omega arith in
        let same : n ≡ k = cc in
        rw (signed-told misframed 8 half64 refl s h, prefixed-told misframed 4 (drop 8 s) g, sym same, end, drop-drop 4 8 s)
    frame-block (Err p) g e = absurd (search rules)

-- ---- the head, and what follows from it
module _ (s : List ℕ) where
  pub sheet-misframed : {e : Misframed} {p : ℕ} → sheet_head.read s ≡ refused e p → sheet_of s ≡ refusal sheet_malformed 0 0
  unfolding sheet_of
  sheet-misframed h = rw h

  pub sheet-on : {n k : ℕ} → sheet_head.read s ≡ done n k → sheet_of s ≡ records_from n 0 none (drop k s)
  unfolding sheet_of
  sheet-on h = rw h

-- ---- a record judged
module _ (last : Option ℤ) (r : SheetRecord) where
  pub judge-good : {c : Coordinates} {b : Block} → split_of r.key ≡ good c → rises last r.key ≡ true → block_of r.block ≡ good b → judge_record last r ≡ good (placed c b)
  unfolding judged_in block_of
  judge-good {c} h u b = rw (h, u) (ap (map_answer (placed c)) b)

  -- a record that is taken: its key has a place and rises, and its block is taken
  pub judge-taken : (x : Placed) → judge_record last r ≡ good x → (split_of r.key ≡ good x.at) × (rises last r.key ≡ true) × (block_of r.block ≡ good x.block)
  unfolding judged_in block_of
  judge-taken x h =
      let y = then-good (split_of r.key) (λ c. cond (rises last r.key) (map_answer (placed c) (block_of r.block)) (plain sheet_malformed)) x h in
      let u = rising (rises last r.key) (map_answer (placed y.0) (block_of r.block)) y.2 in
      let z = map-good (placed y.0) (block_of r.block) x u.1 in
      (y.1 ∙ ap (λ (p : Placed). good p.at) z.2, u.0, z.1 ∙ ap (λ (p : Placed). good p.block) z.2)
    where
      rising : (t : Bool) (a : Answer Placed) → cond t a (plain sheet_malformed) ≡ good x → (t ≡ true) × (a ≡ good x)
      rising true a e = (refl, e)
      rising false a e = no-good e

-- ---- records one after the other
module _ (i : ℕ) (last : Option ℤ) (s : List ℕ) where
  pub records-end : length s ≡ 0 → records_from 0 i last s ≡ good []
  unfolding records_from
  records-end h = rw (eq-eqb (length s) 0 h)

  pub records-more : 0 < length s → records_from 0 i last s ≡ refusal sheet_malformed i 0
  unfolding records_from
  records-more h = rw (ne_eqb (length s) 0 (λ e. omega arith))

  module _ (k : ℕ) where
    pub records-misframed : {e : Misframed} {p : ℕ} → frame.read s ≡ refused e p → records_from (suc k) i last s ≡ refusal sheet_malformed i 0
    unfolding records_from
    records-misframed h = rw h

    module _ {r : SheetRecord} {n : ℕ} (h : frame.read s ≡ done r n) where
      pub records-refused : {a b c : ℕ} → judge_record last r ≡ refusal a b c → records_from (suc k) i last s ≡ refusal a i c
      unfolding records_from
      records-refused j = rw (h, j)

      pub records-on : {x : Placed} → judge_record last r ≡ good x
          → records_from (suc k) i last s ≡ map_answer (λ (l : List Placed). x ∷ l) (records_from k (suc i) (some r.key) (drop n s))
      unfolding records_from
      records-on j = rw (h, j)

-- the same of a record that is written
module _ (k i : ℕ) (last : Option ℤ) (r : SheetRecord) (t : List ℕ) (ok : frame.Ok r) where
  pub written-refused : {a b c : ℕ} → judge_record last r ≡ refusal a b c → records_from (suc k) i last (frame.encode r ++ t) ≡ refusal a i c
  written-refused j = records-refused i last (frame.encode r ++ t) k (frame.forward r ok t) j

  pub written_on : {x : Placed} → judge_record last r ≡ good x
      → records_from (suc k) i last (frame.encode r ++ t) ≡ map_answer (λ (l : List Placed). x ∷ l) (records_from k (suc i) (some r.key) t)
  written_on j = records-on i last (frame.encode r ++ t) k (frame.forward r ok t) j ∙ rw (drop-append_seam (frame.encode r) t)

-- of records that are taken, the first and those behind it
pub record FirstTaken (k i : ℕ) (last : Option ℤ) (s : List ℕ) (l : List Placed) : Type 0 where
  pub first : SheetRecord
  pub ends : ℕ
  pub reads : frame.read s ≡ done first ends
  pub block : Placed
  pub judged : judge_record last first ≡ good block
  pub more : List Placed
  pub behind : records_from k (suc i) (some first.key) (drop ends s) ≡ good more
  pub blocks : l ≡ block ∷ more

module _ (k i : ℕ) (last : Option ℤ) (s : List ℕ) (l : List Placed) where
  judged-first : (r : SheetRecord) (n : ℕ) → frame.read s ≡ done r n → (a : Answer Placed) → judge_record last r ≡ a → records_from (suc k) i last s ≡ good l → FirstTaken k i last s l
  judged-first r n e (good x) j h =
      let y = map-good (λ (l : List Placed). x ∷ l) (records_from k (suc i) (some r.key) (drop n s)) l (sym (records-on i last s k e j) ∙ h) in
      record { first = r; ends = n; reads = e; block = x; judged = j; more = y.0; behind = y.1; blocks = sym y.2 }
  judged-first r n e (refusal a b c) j h = no-good (sym (records-refused i last s k e j) ∙ h)

  framed-first : (x : Read Misframed SheetRecord) → frame.read s ≡ x → records_from (suc k) i last s ≡ good l → FirstTaken k i last s l
  framed-first (done r n) e h = judged-first r n e (judge_record last r) refl h
  framed-first (refused f p) e h = no-good (sym (records-misframed i last s k e) ∙ h)

  pub first_taken : records_from (suc k) i last s ≡ good l → FirstTaken k i last s l
  first_taken h = framed-first (frame.read s) refl h

-- none are left
pub none-taken : (i : ℕ) (last : Option ℤ) (s : List ℕ) (l : List Placed) → records_from 0 i last s ≡ good l → (s ≡ []) × (l ≡ [])
none-taken i last [] l h = let e : good l ≡ good [] = sym h ∙ records-end i last [] refl in (refl, (cc))
none-taken i last (b ∷ s) l h = no-good (sym (records-more i last (b ∷ s) (omega arith)) ∙ h)

-- as many blocks as records
pub records-count : (k i : ℕ) (last : Option ℤ) (s : List ℕ) (l : List Placed) → records_from k i last s ≡ good l → length l ≡ k
records-count zero i last s l h = ap length (none-taken i last s l h).1
records-count (suc k) i last s l h =
    let x = first_taken k i last s l h in
    ap length x.blocks ∙ ap suc (records-count k (suc i) (some x.first.key) (drop x.ends s) x.more x.behind)
