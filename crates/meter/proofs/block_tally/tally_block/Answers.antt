use Rattle.std.proofs.Common.{◌≡◌, rules, sym, refl, ◌∙◌}
use mir.ValLaws.{to_z-of_z}
use Rattle.wire.proofs.Steps.{told-as}
use Rattle.mapblock.specs.Table.{clear_table}
use Rattle.position.specs.Keys.{split_of, told_split}
use Rattle.sheet.specs.Placed.{placed_at}
use Rattle.meter.specs.Tallying.{tally_block_of}
use Rattle.meter.proofs.Tallied.{refused-block, block-found, block-put}
use Rattle.meter.proofs.block_tally.tally_block.Goals as goal

pub returns-in_err-scanned : goal.returns-in_err-scanned
unfolding tally_block_of placed_at clear_table
returns-in_err-scanned c = search (rules, refused-block _ refl c.in_err-scanned.ensures.told)

pub put_tally-requires : goal.put_tally-requires
unfolding clear_table
put_tally-requires c = block-found _ refl (λ i. (c.type_inv.block i).fits) c.in_ok-scanned.ensures.told

pub returns : goal.returns
unfolding clear_table
returns c =
    let split : told_split c.split.result ≡ split_of c.args.key = simp (to_z-of_z, c.ranges.key) at c.split.ensures in
    block-put _ refl (λ i. (c.type_inv.block i).fits) c.in_ok-scanned.ensures.told _ c.args.part _ c.put_tally.result (sym c.is_good.ensures ∙ c.if-not-is_good.false) (told-as told_split split c.in_ok-at.ensures.ok_part) c.put_tally.ensures
