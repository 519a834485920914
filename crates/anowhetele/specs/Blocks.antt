-- Blocks as a host is handed them: the answer, whose length is 0 since nothing of a length is written, the head and where the sections are;
-- and the place of a node's name. All are 0 on a refusal.
use Rattle.std.specs.Prelude.{◌≡◌, List, ℕ}
use Rattle.wire.specs.Answer.{Answer, good, refusal, map_answer}
use Rattle.wire.specs.Ranges.{no_range}
use Rattle.mapblock.specs.Data.{Nodes}
use Rattle.block_reader.specs.Questions.{shown, read_into, ListsHold}
use Rattle.mapblock.specs.declared.head.Head.{Head}
use Rattle.wire.specs.declared.ranges.Range.{Range}
use Rattle.mapblock.specs.declared.head.Sections.{Sections}
use Rattle.anowhetele.specs.Answers.{done_with, refused_with}
use Rattle.anowhetele.specs.declared.answer.AnowAnswer.{AnowAnswer}
use Rattle.anowhetele.specs.declared.blocks.AnowBlock.{AnowBlock}
use Rattle.anowhetele.specs.declared.blocks.AnowNode.{AnowNode}

abbrev pub no_block : AnowAnswer → AnowBlock
no_block a = record {
  answer = a;
  head = record { version = 0; flags = 0; lighting = 0; timestamp = 0; timer = 0; form = 0 };
  sections = record { names = no_range; metadata = no_range; objects = no_range; timers = no_range };
}

abbrev pub handed_block : Answer (Head × Sections) → AnowBlock
handed_block (good x) = record { answer = done_with 0; head = x.0; sections = x.1 }
handed_block (refusal n r o) = no_block (refused_with n r o)

-- what a host is handed by the reader, and what the lists lent hold before and after
abbrev pub HandedRead : List ℕ → AnowBlock → Nodes → Nodes → Type 0
HandedRead s r before after = (r ≡ handed_block (map_answer shown (read_into s before))) × ListsHold (read_into s before) before after

abbrev pub no_node : AnowAnswer → AnowNode
no_node a = record { answer = a; name = no_range }

abbrev pub handed_node : Answer Range → AnowNode
handed_node (good p) = record { answer = done_with 0; name = p }
handed_node (refusal n r o) = no_node (refused_with n r o)
