-- Bytes are a tally exactly where they are those of rows as a tally has them.
use Rattle.tally.specs.Tally.{TallyKind}
use Rattle.tally.specs.Theorems.{WellFormed}
use Rattle.tally.proofs.Held.{opened, rows-of-tally}

pub well-formed : (k : TallyKind) → WellFormed k
well-formed k s l b = (λ h. let o = opened k s l b h in (o.canonical, o.counts, o.bytes), λ h. rw h.2 (rows-of-tally k l h.0 h.1))
