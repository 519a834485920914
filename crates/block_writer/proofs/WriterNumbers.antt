-- The numbers that the writer gives.
use Prim.Native.Nat.{ℕ}
use mathlib.Core.Path.{◌≡◌, refl}
use mathlib.Core.Option.{Option, some, none}
use mathlib.Core.List.{List, [], ◌∷◌}
use mathlib.Core.Bool.{Bool, true, false, cond}
use lib.ListN.{length}
use borrow.Author.Tests.{eq-eqb}
use Rattle.wire.specs.Read.{Read, done, refused, bind, map-refused}
use Rattle.wire.specs.Format.{iso}
use Rattle.wire.specs.Answer.{RefusedWith, plain, version_outside, id_unmapped, no_room, parts_misfit}
use Rattle.wire.proofs.Answers.{one-of-more, with-room}
use Rattle.wire.proofs.Looser.{dropped}
use Rattle.mapblock.specs.Data.{Block}
use Rattle.mapblock.specs.Layout.{all, is_version, steps}
use Rattle.mapblock.specs.Block.{judged_whole, block, block_from, pieces_of, first_unmapped, judged, verdict}
use Rattle.mapblock.specs.Numbers.{refusal_number}
use Rattle.mapblock.specs.declared.fault.Fault.{Fault}
use Rattle.block_writer.specs.BlockParts.{BlockParts, WellTyped, block_made}
use Rattle.block_writer.specs.Write.{value_numbers, writer_numbers, judged_bytes, written_block, write_of}
use Rattle.block_writer.specs.Theorems.{WriterNumbers}
use Rattle.block_writer.proofs.Framed.{ValueFault}
use Rattle.block_writer.proofs.MadeBlock.{made_of, steps-looser, pieces-ok, block_settled}

-- what is said of the bytes of a block that was made
module _ (p : BlockParts) (room : ℕ) (held : WellTyped p) (version : is_version p.head.version ≡ true) (b : Block) (made : block_made p ≡ some b) where
  abbrev s : List ℕ
  s = (block all).encode b

  by-ids : (o : Option ℕ) → RefusedWith writer_numbers (judged_bytes room s (judged all b (length s) o))
  by-ids none = with-room writer_numbers room s refl
  by-ids (some i) = refl

  refused-in : {e : Fault} {q : ℕ} → (block all).read s ≡ refused e q → ValueFault e
  unfolding block iso
  refused-in {e} {q} h =
      dropped (steps-looser all) (pieces_of b) (pieces-ok p b held version (made_of p b made)) (map-refused block_from ((steps all).read ((steps all).encode (pieces_of b))) e q h)

  by-verdict : RefusedWith writer_numbers (judged_bytes room s (verdict all s))
  unfolding verdict
  by-verdict = go ((block all).read s) refl
    where
      go : (r : Read Fault Block) → (block all).read s ≡ r
          → RefusedWith writer_numbers (judged_bytes room s (bind r (judged_whole all s)))
      go (done c n) h =
          let x = (block_settled p b held version made).itself c n h in
          rw (x.0, x.1, eq-eqb (length s) (length s) refl) (by-ids (first_unmapped all b))
      go (refused e q) h = one-of-more (refusal_number e) (version_outside ∷ parts_misfit ∷ no_room ∷ id_unmapped ∷ []) value_numbers (refused-in h)

pub writer-numbers : WriterNumbers
unfolding write_of
writer-numbers p room held = by-version (is_version p.head.version) refl
  where
    by-made : is_version p.head.version ≡ true → (o : Option Block) → block_made p ≡ o → RefusedWith writer_numbers (written_block room o)
    by-made version none h = refl
    by-made version (some b) h = by-verdict p room held version b h

    by-version : (c : Bool) → is_version p.head.version ≡ c → RefusedWith writer_numbers (cond c (written_block room (block_made p)) (plain version_outside))
    by-version true h = by-made h (block_made p) refl
    by-version false h = refl
