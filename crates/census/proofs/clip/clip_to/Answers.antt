use Rattle.census.proofs.Clips.{clamped}
use Rattle.census.proofs.clip.clip_to.Goals as goal

pub invariant_of-result : goal.invariant_of-result
invariant_of-result c = record {
  first = (clamped _ c.below.ensures, clamped _ c.below-2.ensures, clamped _ c.below-3.ensures);
  last = (clamped _ c.upto.ensures, clamped _ c.upto-2.ensures, clamped _ c.upto-3.ensures);
}
