-- Each open endpoint is safe exactly where each tag that one of them crosses may be both added and removed.
use Rattle.fl_labels.specs.Caps.{Caps}
use Rattle.fl_labels.specs.Found.{Within}
use Rattle.fl_rules.specs.declared.labels.Labels.{Labels}
use Rattle.fl_rules.specs.laws.Endpoints.{safe_crosses, crosses_safe}
use Rattle.fl_mailbox.specs.Endpoints.{Table}
use Rattle.fl_mailbox.specs.Offenders.{CrossesAt, DualAt, AllSafe}

pub all_crosses : {E : Caps} (process : Labels) (table : Table) → AllSafe E process table
    → Within (CrossesAt process table) (DualAt E)
all_crosses process table safe x at =
    safe_crosses at.0.mode process at.0.labels (safe x.endpoint at.0 at.1) x.tag at.2

pub crosses_all : {E : Caps} (process : Labels) (table : Table)
    → Within (CrossesAt process table) (DualAt E)
    → AllSafe E process table
crosses_all process table all endpoint opened there =
    crosses_safe opened.mode process opened.labels
    (λ tag crosses. all (record { endpoint = endpoint; tag = tag }) (opened, there, crosses))
