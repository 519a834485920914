use Rattle.census.proofs.Clips.{lot-counted}
use Rattle.census.proofs.count.count_in.Goals as goal

pub returns-then-holds_lists-clause-counts : goal.returns-then-holds_lists-clause-counts
returns-then-holds_lists-clause-counts c =
    let a = c.args in
    let w = c.clip_to.ensures in
    λ _. lot-counted a.version a.lists.now a.lot a.at {b = c.clip_to.result} record { x = w.x; y = w.y; z = w.z } c.count_clip.ensures
