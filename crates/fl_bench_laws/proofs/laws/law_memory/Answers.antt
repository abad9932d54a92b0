use Rattle.fl_ops.specs.Registry.{Listed}
use Rattle.fl_bench_laws.specs.laws.Memory.{memory_wanted}
use Rattle.fl_bench_laws.proofs.laws.law_memory.Goals as goal

pub returns : goal.returns
returns c = λ ops b after job d. memory_wanted (Listed ops) b d
