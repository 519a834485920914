use Rattle.std.proofs.Common.{◌*◌, ◌≤◌}
use Rattle.mapblock.specs.Params.{id_in}
use Rattle.census.specs.Clips.{clip_with}
use Rattle.census.specs.CountsById.{Raised}
use Rattle.census.proofs.count.count_clip.Given as goal

abbrev pub invariant-loop-z : goal.invariant-loop-z
invariant-loop-z l = (l.z ≤ 16) × Raised (clip_with l.clip (id_in l.version l.lists)) 0 (l.z * 256) l.initial.counts l.counts
