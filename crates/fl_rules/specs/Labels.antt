-- The two labels of a process, or of one of its endpoints, on loan.
use Rattle.fl_rules.specs.declared.labels.Labels.{Labels}
use Rattle.fl_rules.specs.declared.labels.LabelsRef.{LabelsRef}

abbrev pub sets_of : LabelsRef → Labels
sets_of labels = record { secrecy = labels.secrecy.now; integrity = labels.integrity.now }
