-- Processes, and what their jobs name of them.
use Rattle.std.specs.Prelude.{Bool, true, false, [], ◌∷◌, ◌==◌, length}
use Rattle.std.specs.declared.option.Option.{Option}
use Rattle.std.specs.declared.option.Option.TheVariants.{None, Some}
use Rattle.fl_labels.specs.Cap.{cap_cmp}
use Rattle.fl_labels.specs.Name.{name_cmp}
use Rattle.fl_labels.specs.SetBy as set
use Rattle.fl_labels.specs.SetBy.{In}
use Rattle.fl_labels.specs.declared.cap.Cap.{Cap}
use Rattle.fl_labels.specs.declared.cap.Cap.TheVariants.{Use, Grow}
use Rattle.fl_ops.specs.declared.op.Body.{Body}
use Rattle.fl_ops.specs.declared.op.Body.TheVariants as bodies
use Rattle.fl_ops.specs.Registry.{Registry, InEffect}
use Rattle.fl_jobs.specs.declared.job.Side.{Side}
use Rattle.fl_jobs.specs.declared.job.Side.TheVariants.{Secrecy, Integrity}
use Rattle.fl_jobs.specs.declared.job.Order.{Order}
use Rattle.fl_jobs.specs.declared.job.Order.TheVariants.{Tag, Group, Put, MakeLogin, OpenGroup}
use Rattle.fl_rules.specs.declared.labels.Labels.{Labels}
use Rattle.fl_message.specs.declared.message.Data.{Data}
use Rattle.fl_mailbox.specs.Mailbox.{closed}
use Rattle.fl_bench.specs.Mailbox.{entered}
use Rattle.fl_bench.specs.Secrets.{digest_of}
use Rattle.fl_bench.specs.declared.process.Holding.{Holding}
use Rattle.fl_bench.specs.declared.process.Holding.TheVariants.{Idle, Ordering}
use Rattle.fl_bench.specs.declared.process.Process.{Process}
use Rattle.fl_bench.specs.declared.standing.Standing.{Standing}

-- with nothing
abbrev pub newborn : Process
newborn =
    record { labels = record { secrecy = set.empty; integrity = set.empty }; owned = Idle set.empty; mailbox = closed }

abbrev pub held : Holding → set.SetBy cap_cmp
held (Idle caps) = caps
held (Ordering caps) = caps

-- the capabilities that the process owns
abbrev pub owns : Process → set.SetBy cap_cmp
owns p = held p.owned

-- its labels, and what it owns
abbrev pub standing_of : Process → Standing
standing_of p = record { labels = p.labels; owned = owns p }

-- the same, where there is a process
abbrev pub standing_at : Option Process → Option Standing
standing_at None = None
standing_at (Some p) = Some (standing_of p)

abbrev pub is_under_way : Holding → Bool
is_under_way (Idle caps) = false
is_under_way (Ordering caps) = true

-- whether an operation of the process is under way
abbrev pub is_busy : Process → Bool
is_busy p = is_under_way p.owned

-- with an operation under way
abbrev pub ordering : Process → Process
ordering p = record p { owned = Ordering (owns p) }

-- idle, as the owner of these
abbrev pub owning : Process → set.SetBy cap_cmp → Process
owning p caps = record p { owned = Idle caps }

-- a new process with the labels of p and no mail, which owns these
abbrev pub child_of : Process → set.SetBy cap_cmp → Process
child_of p caps = record { labels = p.labels; owned = Idle caps; mailbox = closed }

-- with what the message that comes to it brings
abbrev pub receiving : Process → Data → Process
receiving p d = record p { owned = Idle (set.union (owns p) d.message.caps); mailbox = entered p.mailbox d }

-- what the process has in effect under the registry V
abbrev pub effective : Registry → Process → Cap → Type 0
effective V p = InEffect V (In (owns p))

abbrev pub side_of : Side → Labels → set.SetBy name_cmp
side_of Secrecy l = l.secrecy
side_of Integrity l = l.integrity

abbrev pub with_side : Side → set.SetBy name_cmp → Labels → Labels
with_side Secrecy label l = record l { secrecy = label }
with_side Integrity label l = record l { integrity = label }

-- what the operation does that the order asks for
abbrev pub body_of : Order → Body
body_of (Tag policy) = bodies.MakeTag policy
body_of Group = bodies.MakeGroup
body_of (Put group c) = bodies.Put group c
body_of (MakeLogin c secret) = bodies.MakeLogin c (digest_of secret)
body_of (OpenGroup group) = bodies.Open group

-- what an order takes of who gives it: a put, to grow the group, and what is put; a new login, what
-- it gives; an opening, to use the group and to grow it
abbrev pub order_takes : Order → set.SetBy cap_cmp
order_takes (Tag policy) = set.empty
order_takes Group = set.empty
order_takes (Put group c) = set.of_list (Grow group ∷ c ∷ [])
order_takes (MakeLogin c secret) = set.of_list (c ∷ [])
order_takes (OpenGroup group) = set.of_list (Use group ∷ Grow group ∷ [])

abbrev pub takes_nothing : Order → Bool
takes_nothing order = length (set.members (order_takes order)) == 0
