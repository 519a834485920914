-- The program: the length of a block, and what the whole input comes to.
use Prim.Native.Nat.{ℕ, zero, suc, ◌+◌, ◌-◌, ◌^◌, ◌≤◌, ◌<◌}
use mathlib.Core.Path.{◌≡◌, refl, ap, sym, subst, ◌∙◌}
use mathlib.Core.Bool.{Bool, true, false, cond}
use mathlib.Core.List.{List, [], ◌∷◌, ◌++◌, append_assoc}
use native.Mathlib.Omega.{arith}
use lib.Dec.{eqb, leb}
use lib.IntN.{ℤ}
use lib.ListN.{length, drop}
use lib.Seq.{drop-append_seam}
use borrow.Author.Tests.{le-leb, lt-leb, leb-true, leb-false, eqb-true, eqb-false, eq-eqb, ne_eqb}
use Rattle.wire.specs.Bytes.{Bytes, bytes_drop}
use Rattle.wire.specs.Read.{Read, done, refused}
use Rattle.wire.specs.Format.{◌⨾◌, iso, run, pair}
use Rattle.wire.specs.Formats.{u32, s64, half64, number, prefixed}
use Rattle.wire.specs.Answer.{Answer, good, refusal, no_room, sheet_malformed, then_answer}
use Rattle.wire.proofs.Answers.{no-good}
use Rattle.wire.specs.Told.{Short, short}
use Rattle.wire.proofs.Steps.{number-told, signed-told}
use Rattle.position.specs.Keys.{between}
use Rattle.position.specs.Lots.{axis}
use Rattle.tally.specs.Rows.{Canonical}
use Rattle.tally.specs.Tally.{ones}
use Rattle.meter.specs.Counting.{by_one}
use Rattle.sheet.specs.Sheet.{Misframed, misframed, SheetRecord, frame, sheet_head, framed}
use Rattle.meter.specs.SheetTally.{tally_sheet_of}
use Rattle.meter.specs.Streaming.{State, no_records, step_of, steps_of, take_of, finish_of}
use Rattle.meter.specs.SheetTold.{answer_from}
use Rattle.sheet.specs.Theorems.{Framed}
use Rattle.sheetcount_lib.specs.Program.{everything, max_block_length, max_tally_length, record_head, block_length_of, next_of, counted_from, sheetcount_of, AllWithin, Within, AllShort, Sheetcount}
use Rattle.sheet.proofs.RecordSteps.{records-end, records-more, sheet-misframed}
use Rattle.sheet.proofs.SheetTaken.{ok-head, record-valid}
use Rattle.meter.proofs.Streaming.{then_same, then-then, more, more-is, frames, frames-first, finishing, finishing-none, step-good, taking-canonical}
use Rattle.meter.proofs.Taking.{take-misframed, take-refused, take-good, record-taken, take-number, from-refused, from-good}
use Rattle.meter.proofs.SheetPuts.{blocks_tally, from-head}

-- ---- a record's first twelve bytes, by the fields as the leaves tell them
module _ (s : List ℕ) where
  pub twelve-no-key : {e : Short} {p : ℕ} → refused e p ≡ (s64 {ends = short}).read s → record_head.read s ≡ refused misframed p
  unfolding record_head ◌⨾◌
  twelve-no-key h = rw (signed-told misframed 8 half64 refl s h)

  module _ {key : ℤ} (h : done key 8 ≡ (s64 {ends = short}).read s) where
    pub twelve-no-length : {e : Short} {p : ℕ} → refused e p ≡ (u32 {ends = short}).read (drop 8 s) → record_head.read s ≡ refused misframed (8 + p)
    unfolding record_head ◌⨾◌
    twelve-no-length g = rw (signed-told misframed 8 half64 refl s h, number-told misframed 4 (drop 8 s) g)

    pub twelve-done : (n : ℕ) → done n 4 ≡ (u32 {ends = short}).read (drop 8 s) → record_head.read s ≡ done (pair key n) 12
    unfolding record_head ◌⨾◌
    twelve-done n g = rw (signed-told misframed 8 half64 refl s h, number-told misframed 4 (drop 8 s) g)

-- ---- the length of a block
module _ (i : ℕ) (s : List ℕ) where
  pub unread : {e : Misframed} {p : ℕ} → record_head.read s ≡ refused e p → block_length_of i s ≡ refusal sheet_malformed i 0
  unfolding block_length_of
  unread h = rw h

  module _ {h : ℤ × ℕ} {m : ℕ} (e : record_head.read s ≡ done h m) where
    pub wanted : h.1 ≤ max_block_length → block_length_of i s ≡ good h.1
    unfolding block_length_of
    wanted l = rw (e, le-leb h.1 max_block_length l)

    pub unwanted : max_block_length < h.1 → block_length_of i s ≡ refusal no_room i 0
    unfolding block_length_of
    unwanted l = rw (e, lt-leb h.1 max_block_length l)

-- ---- a record that is framed states the length of its block
head_bytes_lem : (r : SheetRecord) → frame.encode r ≡ record_head.encode (r.key, length r.block) ++ r.block
unfolding frame record_head iso ◌⨾◌ prefixed run
head_bytes_lem r = sym (append_assoc ((s64 {ends = misframed}).encode r.key) ((u32 {ends = misframed}).encode (length r.block)) r.block)

head_ok : (r : SheetRecord) → frame.Ok r → record_head.Ok (r.key, length r.block)
unfolding frame record_head iso ◌⨾◌ prefixed number
head_ok r h = (h.0, h.1.0)

head-written : (r : SheetRecord) (t : List ℕ) → frame.Ok r → record_head.read (frame.encode r ++ t) ≡ done (pair r.key (length r.block)) (length (record_head.encode (r.key, length r.block)))
head-written r t ok =
    rw (head_bytes_lem r, append_assoc (record_head.encode (r.key, length r.block)) r.block t)
    (record_head.forward (r.key, length r.block) (head_ok r ok) (r.block ++ t))

head_read : (s : List ℕ) (r : SheetRecord) (n : ℕ) → Bytes s → frame.read s ≡ done r n → (m : ℕ) × (record_head.read s ≡ done (pair r.key (length r.block)) m)
head_read s r n b f =
    let t = frame.backward s r n b f in
    (_, ap record_head.read t.front ∙ head-written r (drop n s) t.ok)

-- what the length tells of the bytes that it was read from, and of more of them
module _ (i n : ℕ) (s : List ℕ) (b : Bytes s) (h : block_length_of i s ≡ good n) where
  length-read : (x : Read Misframed (ℤ × ℕ)) → record_head.read s ≡ x → (a : ℤ × ℕ) × (m : ℕ) × (record_head.read s ≡ done a m) × (a.1 ≡ n) × (n ≤ max_block_length)
  length-read (refused e p) g = no-good (sym (unread i s g) ∙ h)
  length-read (done a m) g = go (leb a.1 max_block_length) refl
    where
      go : (t : Bool) → leb a.1 max_block_length ≡ t → (a : ℤ × ℕ) × (m : ℕ) × (record_head.read s ≡ done a m) × (a.1 ≡ n) × (n ≤ max_block_length)
      go true e =
          let l = leb-true a.1 max_block_length e in
          let z : good a.1 ≡ good n = sym (wanted i s g l) ∙ h in
          let same : a.1 ≡ n = cc in
          (a, m, g, same, omega arith)
      go false e = no-good (sym (unwanted i s g (leb-false a.1 max_block_length e)) ∙ h)

  length_most : n ≤ max_block_length
  length_most = (length-read (record_head.read s) refl).4

-- the length of a record's block is the one that it states
stated-length : (i : ℕ) (s : List ℕ) (m : ℕ) (r : SheetRecord) (n : ℕ) → Bytes s → frame.read s ≡ done r n → block_length_of i s ≡ good m → length r.block ≡ m
stated-length i s m r n b f h =
    let x = length-read i m s b h (record_head.read s) refl in
    let y = head_read s r n b f in
    let z : ◌≡◌ {A = Read Misframed (ℤ × ℕ)} (done (pair r.key (length r.block)) y.0) (done x.0 x.1) = sym y.1 ∙ x.2 in
    let e : pair r.key (length r.block) ≡ x.0 = cc in
    ap (λ (a : ℤ × ℕ). a.1) e ∙ x.3

-- ---- so many records from a state on
module _ (w : State by_one) (s : List ℕ) where
  counted-end : counted_from 0 w s ≡ answer_from everything max_tally_length w 0 s
  unfolding counted_from
  counted-end = go (eqb (length s) 0) refl
    where
      go : (b : Bool) → eqb (length s) 0 ≡ b → cond b (finish_of by_one max_tally_length w) (refusal sheet_malformed w.records 0) ≡ answer_from everything max_tally_length w 0 s
      go true e = sym (ap (λ a. then_answer a (finishing by_one everything max_tally_length w)) (records-end w.records w.last s (eqb-true (length s) 0 e)) ∙ finishing-none by_one everything max_tally_length w)
      go false e = sym (ap (λ a. then_answer a (finishing by_one everything max_tally_length w)) (records-more w.records w.last s (let n = eqb-false (length s) 0 e in omega arith)))

  pub counted_none : length s ≡ 0 → counted_from 0 w s ≡ finish_of by_one max_tally_length w
  unfolding counted_from
  counted_none h = rw (eq-eqb (length s) 0 h)

  pub counted-more : 0 < length s → counted_from 0 w s ≡ refusal sheet_malformed w.records 0
  unfolding counted_from
  counted-more h = rw (ne_eqb (length s) 0 (λ e. omega arith))

  pub next-unread : {a i c : ℕ} → block_length_of w.records s ≡ refusal a i c → next_of w s ≡ refusal a i c
  unfolding next_of
  next-unread h = rw h

  pub next-take : {m : ℕ} → block_length_of w.records s ≡ good m → next_of w s ≡ take_of by_one everything w s
  unfolding next_of
  next-take h = rw h

  module _ (k : ℕ) where
    pub counted-refused : {a i c : ℕ} → next_of w s ≡ refusal a i c → counted_from (suc k) w s ≡ refusal a i c
    unfolding counted_from
    counted-refused h = rw h

    counted-on : {v : State by_one} {n : ℕ} → next_of w s ≡ good (v, n) → counted_from (suc k) w s ≡ counted_from k v (drop n s)
    unfolding counted_from
    counted-on h = rw h

next-canonical : (w : State by_one) (s : List ℕ) {v : State by_one} {n : ℕ} → Bytes s → Canonical ones w.rows → take_of by_one everything w s ≡ good (v, n) → Canonical ones v.rows
next-canonical w s {n = n} b c h =
    let x = record-taken everything w s h in
    subst (λ (u : State by_one). Canonical ones u.rows) x.state
    (taking-canonical by_one everything w x.taken.key x.block (record-valid w.last x.taken x.block (frame.backward s x.taken n b x.reads).ok x.judged) c)

-- where no block is longer, the answer is that of the sheet
counted-within : (k : ℕ) (w : State by_one) (s : List ℕ) → Bytes s → Canonical ones w.rows → AllWithin k s → counted_from k w s ≡ answer_from everything max_tally_length w k s
counted-within zero w s b c h = counted-end w s
counted-within (suc k) w s b c h = framed (frame.read s) refl (λ v n. counted-within k v (drop n s) (bytes_drop n s b))
  where
    Behind : Type 0
    Behind = (v : State by_one) (n : ℕ) → Canonical ones v.rows → AllWithin k (drop n s) → counted_from k v (drop n s) ≡ answer_from everything max_tally_length v k (drop n s)

    -- the record is not whole
    short-of : (x : Read Misframed (ℤ × ℕ)) → record_head.read s ≡ x → take_of by_one everything w s ≡ refusal sheet_malformed w.records 0 → counted_from (suc k) w s ≡ refusal sheet_malformed w.records 0
    short-of (refused e p) g t = counted-refused w s k (next-unread w s (unread w.records s g))
    short-of (done a m) g t = counted-refused w s k (next-take w s (wanted w.records s g (h.0 a m g)) ∙ t)

    -- it is whole
    taken : (r : SheetRecord) (n m : ℕ) → frame.read s ≡ done r n → block_length_of w.records s ≡ good m → (a : Answer (State by_one × ℕ)) → take_of by_one everything w s ≡ a → Behind → counted_from (suc k) w s ≡ answer_from everything max_tally_length w (suc k) s
    taken r n m f g (refusal x y z) t ih = counted-refused w s k (next-take w s g ∙ t) ∙ sym (from-refused everything w s max_tally_length k t)
    taken r n m f g (good (v, q)) t ih =
        counted-on w s k (next-take w s g ∙ t) ∙ ih v q (next-canonical w s b c t) (h.1 (record-taken everything w s t).taken q (record-taken everything w s t).reads) ∙ sym (from-good everything w s t max_tally_length k b c)

    framed : (x : Read Misframed SheetRecord) → frame.read s ≡ x → Behind → counted_from (suc k) w s ≡ answer_from everything max_tally_length w (suc k) s
    framed (refused e p) f ih =
        let t = take-misframed everything w s f in
        short-of (record_head.read s) refl t ∙ sym (from-refused everything w s max_tally_length k t)
    framed (done r n) f ih =
        let g = head_read s r n b f in
        taken r n (length r.block) f (wanted w.records s g.1 (h.0 _ g.0 g.1)) (take_of by_one everything w s) refl ih

-- ---- a record, and what follows it
stepped : (n : ℕ) (w : State by_one) (r : SheetRecord) (t : List ℕ) → frame.Ok r → length r.block ≤ max_block_length
    → counted_from (suc n) w (frame.encode r ++ t) ≡ then_answer (step_of by_one everything w r) (λ v. counted_from n v t)
stepped n w r t f rows_fit = go (step_of by_one everything w r) refl
  where
    s : List ℕ
    s = frame.encode r ++ t

    sized : block_length_of w.records s ≡ good (length r.block)
    sized = wanted w.records s (head-written r t f) rows_fit

    go : (a : Answer (State by_one)) → step_of by_one everything w r ≡ a → counted_from (suc n) w s ≡ then_answer a (λ v. counted_from n v t)
    go (refusal x y z) e = counted-refused w s n (next-take w s sized ∙ take-refused everything w s (frame.forward r f t) e)
    go (good v) e = counted-on w s n (next-take w s sized ∙ take-good everything w s (frame.forward r f t) e) ∙ rw (drop-append_seam (frame.encode r) t)

-- of a record that is taken, in bytes that may go on, these are the bytes
pub record NextBytes (w v : State by_one) : Type 0 where
  pub bytes : List ℕ
  pub are-bytes : Bytes bytes
  pub on : (k : ℕ) (t : List ℕ) → counted_from (suc k) w (bytes ++ t) ≡ counted_from k v t
  pub number : v.records ≡ suc w.records

pub next-bytes : (w : State by_one) (s : List ℕ) {v : State by_one} {n : ℕ} → Bytes s → next_of w s ≡ good (v, n) → NextBytes w v
next-bytes w s {v} {n} b h = go (block_length_of w.records s) refl
  where
    go : (a : Answer ℕ) → block_length_of w.records s ≡ a → NextBytes w v
    go (refusal x y z) e = no-good (sym (next-unread w s e) ∙ h)
    go (good m) e =
        let t = sym (next-take w s e) ∙ h in
        let x = record-taken everything w s t in
        let r = x.taken in
        let ok = (frame.backward s r n b x.reads).ok in
        let max_count = length_most w.records (length r.block) s b (e ∙ ap good (sym (stated-length w.records s m r n b x.reads e))) in
        record {
          bytes = frame.encode r;
          are-bytes = frame.bytes r ok;
          on = λ k u. stepped k w r u ok max_count ∙ ap (λ (a : Answer (State by_one)). then_answer a (λ y. counted_from k y u)) (step-good by_one everything w r x.judged ∙ ap good x.state);
          number = take-number everything w s t;
        }

-- ---- the whole input
everything-good : (s : List ℕ) → tally_sheet_of by_one s everything max_tally_length max_tally_length ≡ blocks_tally everything s max_tally_length
unfolding tally_sheet_of axis between
everything-good s = refl

within : (s : List ℕ) → Bytes s → Within s → sheetcount_of s ≡ tally_sheet_of by_one s everything max_tally_length max_tally_length
unfolding sheetcount_of
within s b h = go (sheet_head.read s) refl ∙ sym (everything-good s)
  where
    go : (x : Read Misframed ℕ) → sheet_head.read s ≡ x → framed 0 x (λ n k. counted_from n (no_records by_one) (drop k s)) ≡ blocks_tally everything s max_tally_length
    go (refused e p) f = rw (sheet-misframed s f)
    go (done n k) f = counted-within n (no_records by_one) (drop k s) (bytes_drop k s b) tt (h n k f) ∙ sym (from-head everything s [] b f max_tally_length)

-- a tally is answered where no block is longer
good-within : (k : ℕ) (w : State by_one) (s t : List ℕ) → Bytes s → counted_from k w s ≡ good t → AllWithin k s
good-within zero w s t b h = tt
good-within (suc k) w s t b h = next (next_of w s) refl (λ v n. good-within k v (drop n s) t (bytes_drop n s b))
  where
    Behind : Type 0
    Behind = (v : State by_one) (n : ℕ) → counted_from k v (drop n s) ≡ good t → AllWithin k (drop n s)

    sized : (v : State by_one) (n : ℕ) → next_of w s ≡ good (v, n) → counted_from k v (drop n s) ≡ good t → (a : Answer ℕ) → block_length_of w.records s ≡ a → Behind → AllWithin (suc k) s
    sized v n e g (refusal x y z) f ih = no-good (sym (next-unread w s f) ∙ e)
    sized v n e g (good m) f ih = (max_count, rest)
      where
        max_count : (h : ℤ × ℕ) (o : ℕ) → record_head.read s ≡ done h o → h.1 ≤ max_block_length
        max_count h o r =
            let x = length-read w.records m s b f (record_head.read s) refl in
            let z : ◌≡◌ {A = Read Misframed (ℤ × ℕ)} (done h o) (done x.0 x.1) = sym r ∙ x.2 in
            let same : h ≡ x.0 = cc in
            omega (arith, ap (λ (a : ℤ × ℕ). a.1) same, x.3, x.4)

        rest : (r : SheetRecord) (o : ℕ) → frame.read s ≡ done r o → AllWithin k (drop o s)
        rest r o q =
            let x = record-taken everything w s (sym (next-take w s f) ∙ e) in
            let z : ◌≡◌ {A = Read Misframed SheetRecord} (done x.taken n) (done r o) = sym x.reads ∙ q in
            let same : n ≡ o = cc in
            subst (λ (i : ℕ). AllWithin k (drop i s)) same (ih v n g)

    next : (a : Answer (State by_one × ℕ)) → next_of w s ≡ a → Behind → AllWithin (suc k) s
    next (refusal x y z) e ih = no-good (sym (counted-refused w s k e) ∙ h)
    next (good (v, n)) e ih = sized v n e (sym (counted-on w s k e) ∙ h) (block_length_of w.records s) refl ih

tallied-within : (s t : List ℕ) → sheetcount_of s ≡ good t → Bytes s → Within s
unfolding sheetcount_of
tallied-within s t h b n k e = good-within n (no_records by_one) (drop k s) t (bytes_drop k s b) (sym (opened e) ∙ h)
  where
    opened : sheet_head.read s ≡ done n k → framed 0 (sheet_head.read s) (λ n k. counted_from n (no_records by_one) (drop k s)) ≡ counted_from n (no_records by_one) (drop k s)
    opened e = rw e

-- ---- a longer block
module _ (k : ℕ) (h : ℤ × ℕ) (rest : List ℕ) (ok : record_head.Ok h) (l : max_block_length < h.1) where
  abbrev stop : State by_one → Answer (List ℕ)
  stop v = refusal no_room v.records 0

  long-next : (w : State by_one) → counted_from (suc k) w (record_head.encode h ++ rest) ≡ stop w
  long-next w = counted-refused w (record_head.encode h ++ rest) k (next-unread w (record_head.encode h ++ rest) (unwanted w.records (record_head.encode h ++ rest) (record_head.forward h ok rest) l))

  long-behind : (seen rs : List SheetRecord) (w : State by_one) → Framed rs → AllShort rs
      → counted_from (more (suc k) rs) w (frames seen rs (record_head.encode h ++ rest)) ≡ then_answer (steps_of by_one everything w rs) stop
  unfolding steps_of
  long-behind seen [] w f rows_fit = long-next w
  long-behind seen (r ∷ rs) w f rows_fit =
      ap (counted_from (suc (more (suc k) rs)) w) (frames-first seen r rs (record_head.encode h ++ rest))
      ∙ stepped (more (suc k) rs) w r (frames (r ∷ seen) rs (record_head.encode h ++ rest)) f.0 rows_fit.0
      ∙ then_same (step_of by_one everything w r) (λ v. counted_from (more (suc k) rs) v (frames (r ∷ seen) rs (record_head.encode h ++ rest))) (λ v. then_answer (steps_of by_one everything v rs) stop) (λ v _. long-behind (r ∷ seen) rs v f.1 rows_fit.1)
      ∙ sym (then-then (step_of by_one everything w r) (λ v. steps_of by_one everything v rs) stop)

pub behind-head : (n : ℕ) (t : List ℕ) → n < 256 ^ 4 → sheetcount_of (sheet_head.encode n ++ t) ≡ counted_from n (no_records by_one) t
unfolding sheetcount_of
behind-head n t h = rw (sheet_head.forward n (ok-head n h) t) (ap (counted_from n (no_records by_one)) (drop-append_seam (sheet_head.encode n) t))

pub headless : (s : List ℕ) {e : Misframed} {p : ℕ} → sheet_head.read s ≡ refused e p → sheetcount_of s ≡ refusal sheet_malformed 0 0
unfolding sheetcount_of
headless s h = rw h

pub sheetcount : Sheetcount
sheetcount = record {
  within = within;
  tallied = λ s t b h. sym (within s b (tallied-within s t h b)) ∙ h;
  longer = λ n rs h rest bound fewer f rows_fit ok l.
      let k = n - suc (length rs) in
      let size : more (suc k) rs ≡ n = omega (arith, more-is (suc k) rs) in
      behind-head n (frames [] rs (record_head.encode h ++ rest)) bound
      ∙ ap (λ (i : ℕ). counted_from i (no_records by_one) (frames [] rs (record_head.encode h ++ rest))) (sym size)
      ∙ long-behind k h rest ok l [] rs (no_records by_one) f rows_fit;
}
