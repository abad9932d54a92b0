-- What is printed of an error.
use Rattle.std.specs.Prelude.{ℕ, List, codes}
use Rattle.fl_labels.specs.declared.error.SetError.{SetError}
use Rattle.fl_labels.specs.declared.error.SetError.TheVariants.{BadText, TooLong, Memory}

abbrev pub error_text : SetError → List ℕ
error_text BadText = codes "not a list in braces"
error_text TooLong = codes "too many members"
error_text Memory = codes "out of memory"
