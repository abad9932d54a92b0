-- What the maker of an operation gets.
use Rattle.std.specs.Prelude.{List, [], ◌∷◌}
use Rattle.std.specs.declared.option.Option.{Option}
use Rattle.std.specs.declared.option.Option.TheVariants.{None, Some}
use Rattle.std.specs.FinMap as map
use Rattle.fl_labels.specs.SetBy as set
use Rattle.fl_labels.specs.declared.name.Name.{Name}
use Rattle.fl_labels.specs.declared.cap.Cap.{Cap}
use Rattle.fl_labels.specs.declared.cap.Cap.TheVariants.{Plus, Minus, Use, Grow}
use Rattle.fl_labels.specs.Pid.{pid_cmp}
use Rattle.fl_labels.specs.declared.pid.Pid.{Pid}
use Rattle.fl_ops.specs.declared.op.Op.{Op}
use Rattle.fl_ops.specs.declared.op.Body.{Body}
use Rattle.fl_ops.specs.declared.op.Body.TheVariants.{MakeTag, MakeGroup, Put, MakeLogin, Open}
use Rattle.fl_bench.specs.declared.process.Holding.{Holding}
use Rattle.fl_bench.specs.declared.process.Holding.TheVariants.{Idle, Ordering}
use Rattle.fl_bench.specs.declared.process.Process.{Process}
use Rattle.fl_bench.specs.Bench.{BenchState}

-- what an operation of this body and name gives its maker: of a tag, to add and to remove it; of a group, to use and
-- to grow it
abbrev pub given_by : Body → Name → List Cap
given_by (MakeTag policy) tag = Plus tag ∷ Minus tag ∷ []
given_by MakeGroup group = Use group ∷ Grow group ∷ []
given_by (Put group c) name = []
given_by (MakeLogin c digest) name = []
given_by (Open group) name = []

-- the same, of the operation
abbrev pub given : Op → List Cap
given op = given_by op.body op.name

-- with these too, where an operation was under way, which is over
abbrev pub settled : Holding → List Cap → Holding
settled (Idle owned) caps = Idle owned
settled (Ordering owned) caps = Idle (set.insert_all owned caps)

-- the process that stands as pid, if one does, is settled
abbrev pub receives : map.FinMap pid_cmp Process → Pid → List Cap → Option Process → map.FinMap pid_cmp Process
receives m pid caps None = m
receives m pid caps (Some p) = map.insert m pid (record p { owned = settled p.owned caps })

-- the operation of pid that is under way is over, and gives these
abbrev pub settles : BenchState → Pid → List Cap → BenchState
settles b pid caps = record b { processes = receives b.processes pid caps (map.get b.processes pid) }

-- with what the operation gives to its maker pid
abbrev pub finished : BenchState → Pid → Op → BenchState
finished b pid op = settles b pid (given op)

-- with no operation of pid under way, and nothing given
abbrev pub cancelled : BenchState → Pid → BenchState
cancelled b pid = settles b pid []
