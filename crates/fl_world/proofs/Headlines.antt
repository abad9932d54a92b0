-- From what the laws say of benches to what stands at a node.
use Rattle.std.proofs.Common.{◌≡◌, ℕ, Option, Some, None, refl}
use Rattle.std.specs.FinMap as map
use Rattle.fl_labels.specs.declared.pid.Pid.{Pid}
use Rattle.fl_mailbox.specs.Offenders.{AllSafe}
use Rattle.fl_bench.specs.Bench.{BenchState}
use Rattle.fl_bench.specs.Process.{effective}
use Rattle.fl_bench.specs.declared.process.Process.{Process}
use Rattle.fl_system.specs.Numbered.{item_at}
use Rattle.fl_system.specs.Processes.{process_at}
use Rattle.fl_system.specs.Union.{Union}
use Rattle.fl_system.specs.World.{World, KeptNode}
use Rattle.fl_system.specs.WorldSteps.{IsAt}
use Rattle.fl_world.specs.Headline.{HasSafeEndpoints}

-- the process of a bench that may be there
pub record AtBench (o : Option BenchState) (pid : Pid) (p : Process) : Type 0 where
  bench : BenchState
  there : o ≡ Some bench
  stands : map.get bench.processes pid ≡ Some p

at_bench : (o : Option BenchState) (pid : Pid) (p : Process) → process_at o pid ≡ Some p → AtBench o pid p
at_bench None pid p e = absurd (cc)
at_bench (Some b) pid p e = record { bench = b; there = refl; stands = e }

pub safe_processes : (w : World) → ((number k : ℕ) (s : KeptNode) (b : BenchState) (pid : Pid) (p : Process)
    → IsAt w number s → item_at s.node.benches k ≡ Some b → map.get b.processes pid ≡ Some p
    → AllSafe (effective (Union w) p) p.labels p.mailbox.endpoints) → HasSafeEndpoints w
safe_processes w law = record {
  safe = λ number s pid p at stands.
      let b = at_bench _ pid p stands in
      law number _ s b.bench pid p at b.there b.stands;
}
