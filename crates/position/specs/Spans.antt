-- Spans: document 01, 'Tallies, lots, spans, sheets'.
use Rattle.std.specs.Prelude.{ℕ, Bool, cond, ◌&&◌, Option, Some, None, leb, ltb}
use Rattle.wire.specs.Answer.{Answer, good, plain, bad_part}
use Rattle.position.specs.declared.span.Span.{Span}

-- from is inside, until outside
abbrev pub in_span : Span → ℕ → Bool
in_span s t = leb s.from t && ltb t s.until

abbrev pub good_span : Span → Bool
good_span s = leb s.from s.until

abbrev pub span_at : ℕ → ℕ → Span
span_at a b = record { from = a; until = b }

unfoldable pub span_of : ℕ → ℕ → Answer Span
span_of a b = cond (good_span (span_at a b)) (good (span_at a b)) (plain bad_part)

abbrev pub all_time : Span
all_time = span_at 0 0xffffffff

-- what the code's answer says
abbrev pub told_span : Option Span → Answer Span
told_span (Some s) = good s
told_span None = plain bad_part
