-- What labels are given.
use Rattle.std.specs.declared.option.Option.{Option}
use Rattle.std.specs.declared.option.Option.TheVariants.{None, Some}
use Rattle.std.specs.declared.result.Result.{Result}
use Rattle.std.specs.declared.result.Result.TheVariants.{Ok, Err}
use Rattle.fl_labels.specs.Name.{name_cmp}
use Rattle.fl_labels.specs.SetBy.{SetBy}
use Rattle.fl_rules.specs.declared.labels.Labels.{Labels}
use Rattle.fl_jobs.specs.declared.job.TooLong.{TooLong}
use Rattle.fl_jobs.specs.declared.job.GivenLabels.{GivenLabels}

abbrev pub both : Result (SetBy name_cmp) TooLong → Result (SetBy name_cmp) TooLong → Option Labels
both (Ok secrecy) (Ok integrity) = Some (record { secrecy = secrecy; integrity = integrity })
both (Ok secrecy) (Err long) = None
both (Err long) integrity = None

-- both labels, where neither is too long
abbrev pub labels_of : GivenLabels → Option Labels
labels_of given = both given.secrecy given.integrity
