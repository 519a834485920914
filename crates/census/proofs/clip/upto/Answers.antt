use Rattle.std.proofs.Common.{arith}
use Rattle.std.proofs.lemmas.Int.{ints}
use mir.ValLaws.{to_z-of_z}
use Rattle.census.proofs.clip.upto.Goals as goal

pub returns : goal.returns
returns c = search (arith, ints, to_z-of_z, c.clamp16.ensures)
