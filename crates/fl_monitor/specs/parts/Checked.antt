-- Checks that were made.
use Rattle.std.specs.Prelude.{List, not}
use Rattle.std.specs.FinMap as map
use Rattle.std.specs.declared.option.Option.TheVariants.{None, Some}
use Rattle.std.specs.declared.result.Result.{Result}
use Rattle.std.specs.declared.result.Result.TheVariants.{Ok, Err}
use Rattle.fl_labels.specs.Cap.{cap_cmp}
use Rattle.fl_labels.specs.Caps.{Caps}
use Rattle.fl_labels.specs.SetBy.{SetBy, In}
use Rattle.fl_ops.specs.declared.op.Op.{Op}
use Rattle.fl_ops.specs.Registry.{InEffect, Listed}
use Rattle.fl_jobs.specs.declared.answer.Refusal.{Refusal}
use Rattle.fl_labels.specs.Name.{name_cmp}
use Rattle.fl_labels.specs.SetBy as set
use Rattle.fl_labels.specs.declared.endpoint.Endpoint.{Endpoint}
use Rattle.fl_labels.specs.declared.cap.Cap.{Cap}
use Rattle.fl_ops.specs.Registry.{Registry}
use Rattle.fl_jobs.specs.declared.answer.Refusal.TheVariants.{EndpointsFull, LabelTooLong, NoEndpoint, NotOwned, NotWritable}
use Rattle.fl_jobs.specs.declared.job.Side.{Side}
use Rattle.fl_jobs.specs.declared.job.TooLong.{TooLong}
use Rattle.fl_rules.specs.Endpoint.{writes}
use Rattle.fl_rules.specs.declared.endpoint.Mode.{Mode}
use Rattle.fl_rules.specs.declared.labels.Labels.{Labels}
use Rattle.fl_mailbox.specs.Endpoints.{Table, IsLeastFree}
use Rattle.fl_bench.specs.Checks.{Check, fails, refuse_if, with, with_found, ◌then◌}
use Rattle.fl_bench.specs.Guards.{endpoint_check, endpoints_check, grant_check}
use Rattle.fl_bench.specs.Jobs.{change_check}
use Rattle.fl_bench.specs.Process.{side_of, with_side}

-- the check passes, or fails so
pub data Checked (check : Check) : Result (Unit {0}) Refusal → Type 0 where
  passed : check None → Checked check (Ok tt)
  failed : {f : Refusal} → check (Some f) → Checked check (Err f)

-- the same, of who owns these under the operations
abbrev pub CheckedBy : List Op → SetBy cap_cmp → (Caps → Check) → Result (Unit {0}) Refusal → Type 0
CheckedBy ops owned check = Checked (check (InEffect (Listed ops) (In owned)))

-- ---- the checks of single acts

-- the label of a side becomes another
abbrev pub relabel_checks : Caps → Labels → Table → Side → SetBy name_cmp → Check
relabel_checks E labels table side label = change_check E (side_of side labels) label
    then endpoints_check E (with_side side label labels) table

-- the same, of what is given for a label
abbrev pub given_checks : Caps → Labels → Table → Side → Result (SetBy name_cmp) TooLong → Check
given_checks E labels table side (Err long) = fails LabelTooLong
given_checks E labels table side (Ok label) = relabel_checks E labels table side label

-- who owns these and has these labels and endpoints drops c
abbrev pub drop_checks : Registry → Labels → Table → SetBy cap_cmp → Cap → Check
drop_checks V labels table owned c = refuse_if (not (set.contains owned c)) (NotOwned c)
    then endpoints_check (InEffect V (In (set.remove owned c))) labels table

-- an endpoint is opened
abbrev pub open_checks : Caps → Labels → Table → Mode → Labels → Check
open_checks E process table mode labels = with_found (IsLeastFree table) EndpointsFull (λ e.
    endpoint_check E process e mode labels)

-- an endpoint gets other labels
abbrev pub tune_checks : Caps → Labels → Table → Endpoint → Labels → Check
tune_checks E process table e labels = with (map.get table e) (NoEndpoint e) (λ opened.
    endpoint_check E process e opened.mode labels)

-- a message goes that brings these
abbrev pub send_checks : Caps → Table → Endpoint → SetBy cap_cmp → Check
send_checks E table from caps = with (map.get table from) (NoEndpoint from) (λ opened.
    refuse_if (not (writes opened.mode)) (NotWritable from) then grant_check E caps)
