-- What is noted of a job, and when an entry is safe.
use Rattle.std.specs.Prelude.{List, [], ◌∷◌, cond}
use Rattle.std.specs.FinMap as map
use Rattle.std.specs.declared.option.Option.{Option}
use Rattle.std.specs.declared.option.Option.TheVariants.{None, Some}
use Rattle.std.specs.declared.result.Result.TheVariants.{Ok, Err}
use Rattle.fl_labels.specs.Caps.{Caps}
use Rattle.fl_labels.specs.Found.{Within}
use Rattle.fl_labels.specs.SetBy.{In}
use Rattle.fl_labels.specs.declared.name.Name.{Name}
use Rattle.fl_labels.specs.declared.pid.Pid.{Pid}
use Rattle.fl_ops.specs.Registry.{Registry, Reach, From, InEffect, IsLogin}
use Rattle.fl_rules.specs.Endpoint.{SafeEndpoint}
use Rattle.fl_rules.specs.Message.{SafeMessage}
use Rattle.fl_rules.specs.Safety.{SafeChange, SafeEmission}
use Rattle.fl_rules.specs.declared.endpoint.Mode.{Mode}
use Rattle.fl_rules.specs.declared.labels.Labels.{Labels}
use Rattle.fl_mailbox.specs.declared.endpoints.OpenEndpoint.{OpenEndpoint}
use Rattle.fl_mailbox.specs.declared.mailbox.Mailbox.{Mailbox}
use Rattle.fl_jobs.specs.Given.{labels_of}
use Rattle.fl_jobs.specs.declared.job.GivenLabels.{GivenLabels}
use Rattle.fl_jobs.specs.declared.job.Order as orders
use Rattle.fl_jobs.specs.declared.job.Mail as mails
use Rattle.fl_jobs.specs.declared.job.Mail.TheVariants.{Open, Tune, Close, Send, Take}
use Rattle.fl_jobs.specs.declared.job.Act.{Act}
use Rattle.fl_jobs.specs.declared.job.Act.TheVariants.{Order, Relabel, Ask, Spawn, Exit}
use Rattle.fl_jobs.specs.declared.job.Act.TheVariants.{Drop, Enter, Emit, Mail}
use Rattle.fl_jobs.specs.declared.job.Job.{Job}
use Rattle.fl_jobs.specs.declared.job.Job.TheVariants.{Proc, By, Member, Arrive}
use Rattle.fl_jobs.specs.declared.secret.Secret.{Secret}
use Rattle.fl_jobs.specs.declared.answer.Reply.TheVariants as replies
use Rattle.fl_bench.specs.Process.{standing_of, side_of, order_takes, takes_nothing}
use Rattle.fl_bench.specs.Secrets.{digest_of}
use Rattle.fl_bench.specs.declared.process.Process.{Process}
use Rattle.fl_system.specs.declared.admission.Party.{Party}
use Rattle.fl_system.specs.declared.admission.Admission.{Admission}
use Rattle.fl_system.specs.declared.admission.Admission.TheVariants.{Change, Endpoint, Emission, Grant}
use Rattle.fl_system.specs.declared.admission.Admission.TheVariants.{Entry, Message, Yes, Reached}
use Rattle.fl_system.specs.declared.answer.Answer.{Answer}
use Rattle.fl_system.specs.declared.answer.Answer.TheVariants as answers
use Rattle.fl_system.specs.State.{NodeState}
use Rattle.fl_system.specs.Processes.{process_of}

-- ---- when an entry is safe

-- what the party had in effect under the registry U
abbrev pub has : Registry → Party → Caps
has U p = InEffect U (In p.standing.owned)

-- by the rules, under the registry U
abbrev pub SafeUnder : Registry → Admission → Type 0
SafeUnder U (Change side p label) = SafeChange (has U p) (side_of side p.standing.labels) label
SafeUnder U (Endpoint p mode labels) = SafeEndpoint (has U p) mode p.standing.labels labels
SafeUnder U (Emission p) = SafeEmission (has U p) p.standing.labels.secrecy
SafeUnder U (Grant p caps) = Within (In caps) (has U p)
SafeUnder U (Entry p login c digest) = IsLogin U login c digest
SafeUnder U (Message p q) = SafeMessage (has U p) p.standing.labels (has U q) q.standing.labels
SafeUnder U (Yes p c) = has U p c
SafeUnder U (Reached node boot root c) = Reach U (From root) c

-- ---- what is noted of a job that was admitted

-- the process as it was before
abbrev pub party : Pid → Process → Party
party pid p = record { pid = pid; standing = standing_of p }

-- where it was answered yes
abbrev pub if_yes : Answer → Admission → List Admission
if_yes (answers.Reply replies.Yes) entry = entry ∷ []
if_yes other entry = []

-- where it was answered the capability of the login
abbrev pub if_entered : Answer → Party → Name → Secret → List Admission
if_entered (answers.Reply (replies.Entered c)) p login secret = Entry p login c (digest_of secret) ∷ []
if_entered other p login secret = []

-- an order hands on what it takes, if it takes anything
abbrev pub order_entries : Party → orders.Order → List Admission
order_entries p order = cond (takes_nothing order) [] (Grant p (order_takes order) ∷ [])

-- an endpoint of this mode has these labels now
abbrev pub endpoint_entries : Party → Mode → Option Labels → List Admission
endpoint_entries p mode None = []
endpoint_entries p mode (Some labels) = Endpoint p mode labels ∷ []

-- the same, of an endpoint that was there
abbrev pub tuned_entries : Party → Option OpenEndpoint → GivenLabels → List Admission
tuned_entries p None given = []
tuned_entries p (Some opened) given = endpoint_entries p opened.mode (labels_of given)

abbrev pub mail_entries : Party → Mailbox → mails.Mail → List Admission
mail_entries p ch (Open mode given) = endpoint_entries p mode (labels_of given)
mail_entries p ch (Tune e given) = tuned_entries p (map.get ch.endpoints e) given
mail_entries p ch (Close e) = []
mail_entries p ch (Send from receiver to message) = Grant p message.caps ∷ []
mail_entries p ch Take = []

-- of an act of the process p, which stood as pid
abbrev pub act_entries : Pid → Process → Act → Answer → List Admission
act_entries pid p (Order order) a = order_entries (party pid p) order
act_entries pid p (Relabel side (Ok label)) a = Change side (party pid p) label ∷ []
act_entries pid p (Relabel side (Err e)) a = []
act_entries pid p (Ask c) a = if_yes a (Yes (party pid p) c)
act_entries pid p (Spawn caps) a = Grant (party pid p) caps ∷ []
act_entries pid p Exit a = []
act_entries pid p (Drop c) a = []
act_entries pid p (Enter login secret) a = if_entered a (party pid p) login secret
act_entries pid p (Emit bytes) a = Emission (party pid p) ∷ []
act_entries pid p (Mail c) a = mail_entries (party pid p) p.mailbox c

abbrev pub entries_by : Option Process → Pid → Act → Answer → List Admission
entries_by None pid act a = []
entries_by (Some p) pid act a = act_entries pid p act a

-- of a job that was admitted at the node, as it was before, with this answer
abbrev pub entries : NodeState → Job → Answer → List Admission
entries n Proc a = []
entries n (By pid act) a = entries_by (process_of n pid) pid act a
entries n (Member root c) a = if_yes a (Reached n.number n.boot root c)
entries n (Arrive d) a = []

-- ---- what is noted of a message that arrived

abbrev pub message_entries : Option Party → Pid → Option Process → List Admission
message_entries (Some sender) pid (Some q) = Message sender (party pid q) ∷ []
message_entries sender pid q = []
