use Rattle.std.proofs.Common.{refl}
use Rattle.fl_dir_maker.specs.declared.fault.Cause.TheVariants.{Memory}
use Rattle.fl_dir_maker.specs.Keeping.{no_room}
use Rattle.fl_dir_maker.proofs.host.HostMakerMakesKeepers.make.Goals as goal

pub returns-in_default-clause-why : goal.returns-in_default-clause-why
returns-in_default-clause-why c = (Memory, refl, no_room)
