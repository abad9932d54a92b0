-- How what a packet would bring is written.
use Rattle.std.specs.Prelude.{ℕ, List, codes}
use Rattle.fl_replies.specs.ReplyText.{count_text}
use Rattle.fl_calls.specs.declared.response.Check.{Check}
use Rattle.fl_calls.specs.declared.response.Check.TheVariants.{New, Lacks, Data}

abbrev pub check_text : Check → List ℕ
check_text (New count) = count_text (codes "new ") count
check_text (Lacks count) = count_text (codes "lacks ") count
check_text Data = codes "data\n"
