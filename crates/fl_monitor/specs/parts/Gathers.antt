-- How what is wanting is gathered.
use Rattle.std.specs.Prelude.{◌≡◌, ◌↔◌, ◌⊎◌, Bool, true}
use Rattle.fl_labels.specs.Cap.{cap_cmp}
use Rattle.fl_labels.specs.Caps.{Caps}
use Rattle.fl_labels.specs.Name.{name_cmp}
use Rattle.fl_labels.specs.SetBy.{SetBy, In, IsMissing}
use Rattle.fl_labels.specs.declared.cap.Cap.{Cap}
use Rattle.fl_labels.specs.declared.cap.Cap.TheVariants as caps
use Rattle.fl_labels.specs.declared.name.Name.{Name}
use Rattle.fl_jobs.specs.declared.job.Order.{Order}
use Rattle.fl_rules.specs.declared.labels.Labels.{Labels}
use Rattle.fl_bench.specs.Foresight.{Both}
use Rattle.fl_bench.specs.Process.{order_takes}
use Rattle.fl_monitor.specs.declared.wanting.Sign.{Sign}
use Rattle.fl_monitor.specs.declared.wanting.Sign.TheVariants.{Plus, Minus}

-- the new set has what the old one has, and each of P that E lacks
pub record Gathers (E P : Caps) (old new : SetBy cap_cmp) : Type 0 where
  pub each : (c : Cap) → In new c ↔ (In old c ⊎ (P c × ¬ E c))

-- one of P is lacking in E
abbrev pub IsLacking : Caps → Caps → Type 0
IsLacking E P = (c : Cap) × P c × ¬ E c

-- the capability of a tag that has this sign
abbrev pub signed : Sign → Name → Cap
signed Plus tag = caps.Plus tag
signed Minus tag = caps.Minus tag

-- those of this sign, of each tag of the one label that the other lacks
abbrev pub OfMissing : Sign → SetBy name_cmp → SetBy name_cmp → Caps
OfMissing sign label other c = (tag : Name) × (c ≡ signed sign tag) × IsMissing label other tag

-- what an order of a process of these labels demands
abbrev pub OrderDemands : Bool → Labels → Order → Caps
OrderDemands guards labels order c = In (order_takes order) c ⊎ ((guards ≡ true) × Both labels.secrecy c)
