-- Rows as a host is handed them: the answer with the row's length, the values of its fields, and where its runs stand in the bytes given; all 0 on a refusal.
use Rattle.std.specs.Prelude.{ℕ, pos}
use Rattle.wire.specs.Answer.{Answer, good, refusal}
use Rattle.wire.specs.Ranges.{no_range}
use Rattle.mapblock.specs.declared.names.NameFields.{NameFields}
use Rattle.mapblock.specs.declared.metadata.MetadataFields.{MetadataFields}
use Rattle.mapblock.specs.declared.objects.ObjectFields.{ObjectFields}
use Rattle.mapblock.specs.declared.timers.TimerFields.{TimerFields}
use Rattle.anowhetele.specs.Answers.{done_with, refused_with}
use Rattle.anowhetele.specs.declared.answer.AnowAnswer.{AnowAnswer}
use Rattle.anowhetele.specs.declared.rows.AnowNameRow.{AnowNameRow}
use Rattle.anowhetele.specs.declared.rows.AnowMetadataRow.{AnowMetadataRow}
use Rattle.anowhetele.specs.declared.rows.AnowObjectRow.{AnowObjectRow}
use Rattle.anowhetele.specs.declared.rows.AnowTimerRow.{AnowTimerRow}

abbrev pub no_name : AnowAnswer → AnowNameRow
no_name a = record { answer = a; id = 0; name = no_range }

abbrev pub handed_name : Answer (NameFields × ℕ) → AnowNameRow
handed_name (good x) = let f = x.0 in record { answer = done_with x.1; id = f.id; name = f.name }
handed_name (refusal n r o) = no_name (refused_with n r o)

abbrev pub no_metadata : AnowAnswer → AnowMetadataRow
no_metadata a = record { answer = a; position = 0; kind = 0; variables = 0; content = no_range; rows = no_range; inventory = no_range }

abbrev pub handed_metadata : Answer (MetadataFields × ℕ) → AnowMetadataRow
handed_metadata (good x) =
    let f = x.0 in
    record {
      answer = done_with x.1;
      position = f.position;
      kind = f.kind;
      variables = f.variables;
      content = f.content;
      rows = f.rows;
      inventory = f.inventory;
    }
handed_metadata (refusal n r o) = no_metadata (refused_with n r o)

abbrev pub no_object : AnowAnswer → AnowObjectRow
no_object a = record { answer = a; kind = 0; x = pos 0; y = pos 0; z = pos 0; content = no_range }

abbrev pub handed_object : Answer (ObjectFields × ℕ) → AnowObjectRow
handed_object (good x) =
    let f = x.0 in
    record { answer = done_with x.1; kind = f.kind; x = f.x; y = f.y; z = f.z; content = f.content }
handed_object (refusal n r o) = no_object (refused_with n r o)

abbrev pub no_timer : AnowAnswer → AnowTimerRow
no_timer a = record { answer = a; position = 0; timeout = pos 0; elapsed = pos 0 }

abbrev pub handed_timer : Answer (TimerFields × ℕ) → AnowTimerRow
handed_timer (good x) = let f = x.0 in record { answer = done_with x.1; position = f.position; timeout = f.timeout; elapsed = f.elapsed }
handed_timer (refusal n r o) = no_timer (refused_with n r o)
