-- The state of a bench.
use Rattle.std.specs.Prelude.{◌≡◌, ◌+◌, ℕ, refl}
use Rattle.std.specs.Coded.{Coded, code_by, coded×, coded_ℕ}
use Rattle.std.specs.FinMap as map
use Rattle.fl_labels.specs.Pid.{pid_cmp}
use Rattle.fl_labels.specs.PidOrder.{coded_pid}
use Rattle.fl_labels.specs.declared.pid.Pid.{Pid}
use Rattle.fl_bench.specs.declared.process.Process.{Process}
use Rattle.fl_bench.specs.contracts.process.Process as processes_row

-- The node and its boot, and the processes. The next process gets the serial next, and the one after that a serial
-- greater by stride.
pub record BenchState : Type 0 where
  pub node : ℕ
  pub boot : ℕ
  pub next : ℕ
  pub stride : ℕ
  pub processes : map.FinMap pid_cmp Process

-- with no process, as the bench index of stride benches
abbrev pub new_bench : ℕ → ℕ → ℕ → ℕ → BenchState
new_bench node boot index stride =
    record { node = node; boot = boot; next = index; stride = stride; processes = map.empty }

-- with the process p as pid
abbrev pub has_at : BenchState → Pid → Process → BenchState
has_at b pid p = record b { processes = map.insert b.processes pid p }

-- with no process as pid
abbrev pub gone : BenchState → Pid → BenchState
gone b pid = record b { processes = map.remove b.processes pid }

-- pid is what the next process is called
pub record IsNext (b : BenchState) (pid : Pid) : Type 0 where
  pub node : pid.node ≡ b.node
  pub boot : pid.boot ≡ b.boot
  pub serial : pid.serial ≡ b.next

-- with p as its next process
abbrev pub born : BenchState → Pid → Process → BenchState
born b pid p = record b { next = b.next + b.stride; processes = map.insert b.processes pid p }

-- a state is stored as the tuple of its fields
abbrev pub coded_state : Coded BenchState
coded_state =
    code_by (ℕ × (ℕ × (ℕ × (ℕ × map.FinMap pid_cmp Process))))
    (coded× coded_ℕ (coded× coded_ℕ (coded× coded_ℕ (coded× coded_ℕ
    (map.code coded_pid (processes_row.the_row).coded)))))
    (λ b. (b.node, (b.boot, (b.next, (b.stride, b.processes)))))
    (λ t. record { node = t.0; boot = t.1.0; next = t.1.1.0; stride = t.1.1.1.0; processes = t.1.1.1.1 })
    (λ _. refl)
