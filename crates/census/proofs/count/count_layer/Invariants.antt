use Rattle.std.proofs.Common.{◌*◌, ◌≤◌}
use Rattle.mapblock.specs.Params.{id_in}
use Rattle.census.specs.Clips.{clip_with}
use Rattle.census.specs.CountsById.{Raised}
use Rattle.census.proofs.count.count_layer.Given as goal

abbrev pub invariant-loop-y : goal.invariant-loop-y
invariant-loop-y l = (l.y ≤ 16) × Raised (clip_with l.clip (id_in l.version l.lists)) (l.z * 256) (l.y * 16) l.initial.counts l.counts
