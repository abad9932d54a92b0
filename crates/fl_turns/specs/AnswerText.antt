-- How answers are written.
use Rattle.std.specs.Prelude.{[], ℕ, List, codes}
use Rattle.fl_aliases.specs.Table.{table_text}
use Rattle.fl_opset.specs.RegistryText.{registry_text}
use Rattle.fl_replies.specs.ReplyText.{count_text, dropped_fault_text, world_text}
use Rattle.fl_calls.specs.CheckText.{check_text}
use Rattle.fl_calls.specs.Answer.{Answer as Said, replied, dropped, text, checked, bad_packet, admitted, unknown}
use Rattle.fl_turns.specs.Answer.{Answer, silence, said, listed}

-- what the world says to the line of this number
abbrev pub said_text : ℕ → Said → List ℕ
said_text number (replied reply) = world_text reply
said_text number (dropped fault) = dropped_fault_text fault
said_text number (text registry) = registry_text registry
said_text number (checked check) = check_text check
said_text number (bad_packet place) = count_text (codes "refused F18 ") place
said_text number (admitted count) = count_text (codes "admitted ") count
said_text number unknown = count_text (codes "refused F19 ") number

-- the answer to the line of this number: no line, one, or one for each operation or each alias
abbrev pub text_of : ℕ → Answer → List ℕ
text_of number silence = []
text_of number (said answer) = said_text number answer
text_of number (listed table) = table_text table
