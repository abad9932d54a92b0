use Rattle.std.proofs.Common.{sym, ◌∙◌}
use Rattle.fl_labels.specs.Text.{name_text, cap_text}
use Rattle.fl_labels.specs.ItemText.{no_comma-name_text, no_comma-cap_text}
use Rattle.fl_labels.specs.laws.OneReading.{same_number, name_text_injective, name_text_some, cap_text_injective, cap_text_some, pid_text_injective, endpoint_text_injective, same_listing}
use Rattle.fl_labels.proofs.laws.law_one_reading.Goals as goal

pub returns-clause-numbers : goal.returns-clause-numbers
returns-clause-numbers c = λ m n word p q. same_number m n p.in_range q.in_range (sym p.written ∙ q.written)

pub returns-clause-names : goal.returns-clause-names
returns-clause-names c = name_text_injective

pub returns-clause-caps : goal.returns-clause-caps
returns-clause-caps c = cap_text_injective

pub returns-clause-pids : goal.returns-clause-pids
returns-clause-pids c = pid_text_injective

pub returns-clause-endpoints : goal.returns-clause-endpoints
returns-clause-endpoints c = endpoint_text_injective

pub returns-clause-labels : goal.returns-clause-labels
returns-clause-labels c = same_listing name_text no_comma-name_text name_text_some name_text_injective

pub returns-clause-cap_sets : goal.returns-clause-cap_sets
returns-clause-cap_sets c = same_listing cap_text no_comma-cap_text cap_text_some cap_text_injective
