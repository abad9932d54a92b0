-- Processes that a tag keeps in.
use Rattle.std.specs.declared.option.Option.{Option}
use Rattle.std.specs.declared.option.Option.TheVariants.{None, Some}
use Rattle.fl_labels.specs.SetBy.{In}
use Rattle.fl_labels.specs.declared.cap.Cap.TheVariants.{Minus}
use Rattle.fl_labels.specs.declared.name.Name.{Name}
use Rattle.fl_ops.specs.Registry.{Registry}
use Rattle.fl_bench.specs.Process.{effective}
use Rattle.fl_bench.specs.declared.process.Process.{Process}

-- who stands there, if anybody, has the tag in its secrecy label
abbrev pub IsVeiled : Name → Option Process → Type 0
IsVeiled tag None = Unit {0}
IsVeiled tag (Some p) = In p.labels.secrecy tag

-- who stands there, if anybody, does not have the tag's minus in effect under the registry V
abbrev pub LacksMinus : Registry → Name → Option Process → Type 0
LacksMinus V tag None = Unit {0}
LacksMinus V tag (Some p) = ¬ effective V p (Minus tag)

-- who stands there, if anybody, has the tag and may not remove it: it lets nothing out
pub record IsTainted (V : Registry) (tag : Name) (o : Option Process) : Type 0 where
  pub veiled : IsVeiled tag o
  pub lacks : LacksMinus V tag o
