-- What leads to a capability.
use Rattle.std.specs.declared.cmp.Ordering.{Ordering}
use Rattle.std.specs.Ordering.{ordering_then}
use Rattle.std.specs.Prelude.{List}
use Rattle.fl_labels.specs.Cap.{cap_cmp}
use Rattle.fl_labels.specs.Name.{name_cmp}
use Rattle.fl_labels.specs.declared.cap.Cap.{Cap}
use Rattle.fl_labels.specs.declared.cap.Cap.TheVariants.{Use}
use Rattle.fl_labels.specs.declared.name.Name.{Name}
use Rattle.fl_ops.specs.declared.digest.Digest.{Digest}
use Rattle.fl_ops.specs.declared.op.Op.{Op}
use Rattle.fl_ops.specs.Registry.{Registry, From, IsLogin, Listed, Reach}
use Rattle.fl_chains.specs.declared.groups.Target.{Target}
use Rattle.fl_chains.specs.declared.logins.Login.{Login}
use Rattle.fl_chains.specs.Rising.{AreRising}

-- the use of the group does
abbrev pub GroupLeads : Registry → Cap → Name → Type 0
GroupLeads U c group = Reach U (From (Use group)) c

-- the registry has such a login, and its capability does
abbrev pub LoginLeads : Registry → Cap → Login → Type 0
LoginLeads U c login =
    ((digest : Digest) × IsLogin U login.name login.cap digest) × Reach U (From login.cap) c

-- by name, then by capability
abbrev pub login_cmp : Login → Login → Ordering
login_cmp a b = ordering_then (name_cmp a.name b.name) (cap_cmp a.cap b.cap)

-- the groups whose use leads to c
abbrev pub AreGroupsTo : List Op → Cap → List Name → Type 0
AreGroupsTo ops c = AreRising name_cmp (GroupLeads (Listed ops) c)

-- the groups of the target are those
abbrev pub IsTarget : Target → Type 0
IsTarget target = AreGroupsTo target.ops.now target.cap target.groups.now
