use Rattle.fl_labels.specs.NameOrder.{name_total, name_exact}
use Rattle.fl_labels.specs.CapOrder.{cap_total, cap_exact}
use Rattle.fl_labels.specs.Text.{name_text, cap_text}
use Rattle.fl_labels.specs.laws.OneReading.{own_text}
use Rattle.fl_labels.proofs.laws.law_own_listing.Goals as goal

pub returns-clause-labels : goal.returns-clause-labels
returns-clause-labels c = own_text name_total name_exact name_text

pub returns-clause-cap_sets : goal.returns-clause-cap_sets
returns-clause-cap_sets c = own_text cap_total cap_exact cap_text
