-- What the writer answers, test by test.
use Prim.Native.Nat.{ℕ, ◌≤◌}
use mathlib.Core.Path.{◌≡◌, refl, ap, sym, ◌∙◌}
use mathlib.Core.Option.{Option, some, none, map, none-ne-some, map-eq-some_iff}
use mathlib.Core.List.{List}
use mathlib.Core.Bool.{true, false}
use native.Mathlib.Nat.{zero-add}
use native.Mathlib.Omega.{arith}
use lib.ListN.{length}
use borrow.Author.Tests.{le-leb, lt-leb}
use Rattle.wire.specs.Read.{Read, done, refused}
use Rattle.wire.specs.Store.{overwrite}
use Rattle.wire.specs.Answer.{Answer, good, refusal, plain, map_answer, lent, version_outside, parts_misfit, in_room}
use Rattle.wire.proofs.Looser.{looser-self}
use Rattle.mapblock.specs.Data.{Block}
use Rattle.mapblock.specs.Layout.{all, is_version, name_row, metadata_row, object_row, timer_row}
use Rattle.mapblock.specs.Block.{block, verdict}
use Rattle.mapblock.specs.Numbers.{refusal_number}
use Rattle.mapblock.specs.Told.{ended}
use Rattle.mapblock.specs.declared.fault.Fault.{Fault}
use Rattle.mapblock.proofs.Readings.{ended-done, ended-refused}
use Rattle.block_reader.proofs.Taken.{taken}
use Rattle.block_writer.specs.Frames.{name_frame, metadata_frame, timer_frame}
use Rattle.block_writer.specs.BlockParts.{BlockParts, fits, made, rows_made, block_made, WellTyped}
use Rattle.block_writer.specs.Measured.{bytes_for, Written}
use Rattle.block_writer.specs.Sections.{SectionRows, counts_of, counts_in}
use Rattle.block_writer.specs.Judging.{Small}
use Rattle.block_writer.specs.Write.{judged_bytes, write_of}
use Rattle.block_writer.specs.declared.counts.RowCounts.{RowCounts}
use Rattle.block_writer.proofs.Encoded.{encoded}
use Rattle.block_writer.proofs.Framed.{name-looser, metadata-looser, timer-looser}
use Rattle.block_writer.proofs.RowCounts.{counts-made}
use Rattle.block_writer.proofs.RowsJudging.{rows-bytes, names-small, objects-small, timers-small}
use Rattle.block_writer.proofs.MadeBlock.{MadeOf, made_of, block-bytes}

module _ (p : BlockParts) where
  pub bad-version : is_version p.head.version ≡ false → (room : ℕ) → write_of p room ≡ plain version_outside
  unfolding write_of
  bad-version h room = rw h

  module _ (v : is_version p.head.version ≡ true) where
    made_none : block_made p ≡ none → (room : ℕ) → write_of p room ≡ plain parts_misfit
    unfolding write_of
    made_none h room = rw (v, h)

    pub misfit : fits p ≡ false → (room : ℕ) → write_of p room ≡ plain parts_misfit
    unfolding block_made
    misfit h = made_none (rw h)

    pub ragged : fits p ≡ true → none ≡ counts_in p.head.version p.names p.metadata p.objects p.timers → (room : ℕ) → write_of p room ≡ plain parts_misfit
    unfolding block_made
    ragged f h = made_none (rw f (go (rows_made p) (h ∙ counts-made p)))
      where
        go : (o : Option Block) → none ≡ map counts_of o → o ≡ none
        go none e = refl
        go (some b) e = absurd (none-ne-some (counts_of b) e)

-- ---- the block that is made, by its counts
module _ (p : BlockParts) (c : RowCounts) (f : fits p ≡ true) (h : some c ≡ counts_in p.head.version p.names p.metadata p.objects p.timers) where
  counted : (b : Block) × (rows_made p ≡ some b) × (counts_of b ≡ c)
  counted = (map-eq-some_iff counts_of (rows_made p)).0 (sym (h ∙ counts-made p))

  pub block_is : Block
  block_is = counted.0

  made-is : block_made p ≡ some block_is
  unfolding block_made block_is
  made-is = rw f counted.1

  parts_are : MadeOf p block_is
  parts_are = made_of p block_is made-is

  count-is : counts_of block_is ≡ c
  unfolding block_is
  count-is = counted.2

  pub section-rows : SectionRows p.head.version p.names p.metadata p.objects p.timers c block_is.names block_is.metadata block_is.objects block_is.timers
  section-rows = let m = parts_are in record {
    names = record { are = m.names.are; many = ap (λ (c : RowCounts). c.names) count-is };
    metadata = record { are = m.metadata.are; many = ap (λ (c : RowCounts). c.metadata) count-is };
    objects = record { are = m.objects.are; many = ap (λ (c : RowCounts). c.objects) count-is };
    timers = record { are = m.timers.are; many = ap (λ (c : RowCounts). c.timers) count-is };
  }

  module _ (held : WellTyped p) where
    pub small : Small p.names × (Small p.objects × Small p.timers)
    small = let j = section-rows in (names-small held.names j.names, (objects-small held.objects j.objects, timers-small held.timers j.timers))

    -- the bytes that are put
    bytes-are : (block all).encode block_is ≡ bytes_for p c
    bytes-are =
        let j = section-rows in
        let b = block_is in
        ap (block all).encode (sym parts_are.same)
        ∙ encoded p c b.names b.metadata b.objects b.timers held.param1 held.param2 j.names.many j.metadata.many j.objects.many j.timers.many
        ∙ rw (
          ← rows-bytes name_frame held.names j.names (name_row all) (name-looser all),
          ← rows-bytes (metadata_frame p.head.version) held.metadata j.metadata (metadata_row p.head.version) (metadata-looser p.head.version),
          ← rows-bytes object_row held.objects j.objects (λ _. object_row) (λ _. looser-self object_row),
          ← rows-bytes timer_frame held.timers j.timers timer_row timer-looser,
        )

    module _ (v : is_version p.head.version ≡ true) where
      abbrev verdict_on : Read Fault (Unit {0})
      verdict_on = ended (verdict all ((block all).encode (made p block_is.names block_is.metadata block_is.objects block_is.timers)))

      verdict_on-is : verdict_on ≡ ended (verdict all ((block all).encode block_is))
      verdict_on-is = ap (λ (b : Block). ended (verdict all ((block all).encode b))) parts_are.same

      written-by : (room : ℕ) → write_of p room ≡ judged_bytes room ((block all).encode block_is) (verdict all ((block all).encode block_is))
      unfolding write_of
      written-by room = rw (v, made-is)

      pub refuses : {e : Fault} {q : ℕ} → refused e q ≡ verdict_on → (room : ℕ) → write_of p room ≡ refusal (refusal_number e) 0 q
      refuses i room = written-by room ∙ ap (judged_bytes room ((block all).encode block_is)) (ended-refused (verdict all ((block all).encode block_is)) (i ∙ verdict_on-is))

      module _ {n : ℕ} (i : done tt n ≡ verdict_on) where
        taken_as : (b : Block) × (verdict all ((block all).encode block_is) ≡ done b n)
        taken_as = ended-done (verdict all ((block all).encode block_is)) (i ∙ verdict_on-is)

        size : n ≡ length (bytes_for p c)
        size = ((taken ((block all).encode block_is) taken_as.0 n (block-bytes p block_is held v parts_are)).0 taken_as.1).2 ∙ ap length bytes-are

        by-room : (room : ℕ) → write_of p room ≡ in_room room (bytes_for p c)
        by-room room =
            written-by room ∙ ap (judged_bytes room ((block all).encode block_is)) taken_as.1
            ∙ ap (in_room room) bytes-are

        pub writes : Written p c n
        writes = record {
          long = size;
          in-room = λ room h. by-room room ∙ rw (le-leb (length (bytes_for p c)) room (omega (arith, size)));
          no-room = λ room h. by-room room ∙ rw (lt-leb (length (bytes_for p c)) room (omega (arith, size)));
        }

-- ---- an answer, and what the buffer holds then
abbrev pub Answers : BlockParts → List ℕ → Answer ℕ → List ℕ → Type 0
Answers p out a after = (a ≡ map_answer length (write_of p (length out))) × (after ≡ lent (write_of p (length out)) out)

pub answers_by : (p : BlockParts) (out : List ℕ) (w : Answer (List ℕ)) → write_of p (length out) ≡ w → Answers p out (map_answer length w) (lent w out)
answers_by p out w e = rw e (refl, refl)

pub answers-written : {p : BlockParts} {c : RowCounts} {n : ℕ} (out : List ℕ) {after : List ℕ} → Written p c n → n ≤ length out → after ≡ overwrite 0 (bytes_for p c) out → Answers p out (good n) after
answers-written {p} {c} out w h e =
    let x = answers_by p out (good (bytes_for p c)) (w.in-room (length out) h) in
    (ap good w.long ∙ x.0, e ∙ rw zero-add x.1)
