-- Scripts over keepers in memory.
use Rattle.std.specs.declared.option.Option.TheVariants.{Some}
use Rattle.fl_store.specs.MemKeeping.{mem_custody}
use Rattle.fl_makers.specs.Making.{nothing_kept}
use Rattle.fl_makers.specs.MemMaking.{mem_making}
use Rattle.fl_makers.specs.declared.mem.MemMaker.{MemMaker}
use Rattle.fl_calls.specs.Entering.{Openings}
use Rattle.fl_calls.specs.Over.{openings_of}
use Rattle.fl_turn_laws.specs.Certain.{Stores}

-- Each keeper is honest and holds what it keeps. One is made for each node, and keeps nothing yet.
abbrev pub in_memory : Openings
in_memory = let maker : MemMaker = record {} in openings_of mem_custody mem_making maker

-- of each node nothing is kept yet, and it is that node's
abbrev pub never_opened : Stores
never_opened number = Some (nothing_kept number)
