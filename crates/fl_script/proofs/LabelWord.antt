-- Words that are no label's.
use Rattle.std.specs.declared.result.Result.{Result}
use Rattle.std.specs.declared.result.Result.TheVariants.{Ok, Err}
use Rattle.fl_labels.specs.Name.{name_cmp}
use Rattle.fl_labels.specs.SetBy.{SetBy}
use Rattle.fl_labels.specs.Text.{name_text}
use Rattle.fl_jobs.specs.declared.job.TooLong.{TooLong}
use Rattle.fl_aliases.specs.Words.{Word}
use Rattle.fl_labels.specs.Words.{IsListing}
use Rattle.fl_script.specs.Words.{IsLabelWord}

-- a word that lists no set is that of no label
pub no_label : (word : Word) → ((tags : SetBy name_cmp) → IsListing name_text tags word → ⊥) → (label : Result (SetBy name_cmp) TooLong) → IsLabelWord label word → ⊥
no_label word none (Ok tags) is = none tags is.listed
no_label word none (Err e) is = none is.tags is.listed
