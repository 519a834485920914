-- What a host is handed of an answer: the number, the record and the offset, which are 0 on 0, and the length of the result, which is 0 on a refusal.
use Rattle.std.specs.Prelude.{ℕ, ◌≡◌, List, length}
use Rattle.wire.specs.Answer.{Answer, good, refusal, map_answer, lent}
use Rattle.anowhetele.specs.declared.answer.AnowAnswer.{AnowAnswer}

abbrev pub done_with : ℕ → AnowAnswer
done_with n = record { number = 0; index = 0; offset = 0; length = n }

abbrev pub refused_with : ℕ → ℕ → ℕ → AnowAnswer
refused_with n r o = record { number = n; index = r; offset = o; length = 0 }

-- of a call that tells a length alone
abbrev pub handed : Answer ℕ → AnowAnswer
handed (good n) = done_with n
handed (refusal n r o) = refused_with n r o

-- of a call that writes nothing
abbrev pub nothing_written : {A : Type 0} → Answer A → Answer ℕ
nothing_written a = map_answer (λ _. 0) a

-- what a host is handed of a call that puts x into a lent buffer, and what the buffer then holds
abbrev pub Handed : AnowAnswer → List ℕ → List ℕ → Answer (List ℕ) → Type 0
Handed r before after x = (r ≡ handed (map_answer length x)) × (after ≡ lent x before)
