-- When an endpoint of a process is safe, for who has the effective set E.
use Rattle.std.specs.Prelude.{◌≡◌, ◌⊎◌, Bool, true, false}
use Rattle.fl_labels.specs.declared.name.Name.{Name}
use Rattle.fl_labels.specs.Caps.{Caps, Dual}
use Rattle.fl_labels.specs.SetBy.{IsMissing}
use Rattle.fl_labels.specs.Found.{Within}
use Rattle.fl_rules.specs.declared.endpoint.Mode.{Mode}
use Rattle.fl_rules.specs.declared.endpoint.Mode.TheVariants.{Read, Write, Both}
use Rattle.fl_rules.specs.declared.labels.Labels.{Labels}

-- messages go to the process
abbrev pub reads : Mode → Bool
reads Read = true
reads Write = false
reads Both = true

-- messages go from the process
abbrev pub writes : Mode → Bool
writes Read = false
writes Write = true
writes Both = true

-- the way from the first labels to the second loses this tag of secrecy, or gains this tag of integrity
abbrev pub Loosens : Labels → Labels → Name → Type 0
Loosens from to tag = IsMissing from.secrecy to.secrecy tag ⊎ IsMissing to.integrity from.integrity tag

-- the way from the endpoint to its process
abbrev pub SafeRead : Caps → Labels → Labels → Type 0
SafeRead E process endpoint = Within (Loosens endpoint process) (Dual E)

-- the way from the process to its endpoint
abbrev pub SafeWrite : Caps → Labels → Labels → Type 0
SafeWrite E process endpoint = Within (Loosens process endpoint) (Dual E)

-- each way that the mode names
pub record SafeEndpoint (E : Caps) (mode : Mode) (process endpoint : Labels) : Type 0 where
  pub read : reads mode ≡ true → SafeRead E process endpoint
  pub write : writes mode ≡ true → SafeWrite E process endpoint

-- the tags that are lost or gained on the ways that the mode names
abbrev pub Crosses : Mode → Labels → Labels → Name → Type 0
Crosses Read process endpoint tag = Loosens endpoint process tag
Crosses Write process endpoint tag = Loosens process endpoint tag
Crosses Both process endpoint tag = Loosens endpoint process tag ⊎ Loosens process endpoint tag
