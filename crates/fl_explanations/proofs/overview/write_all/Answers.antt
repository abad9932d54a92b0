use Rattle.std.proofs.Common.{◌≤◌, ◌∙◌, ap, arith, length, sym}
use Rattle.std.proofs.lemmas.List.{length-map, take_all}
use Rattle.std.specs.FinMap as map
use Rattle.std.specs.List.{flat_map}
use Rattle.std.specs.Option.{option_copied}
use Rattle.fl_labels.specs.PidOrder.{pid_total}
use Rattle.fl_labels.specs.declared.pid.Pid.{Pid}
use Rattle.fl_bench.specs.Process.{newborn}
use Rattle.fl_bench.specs.declared.process.Process.{Process}
use Rattle.fl_sink.specs.laws.Passing.{passes_then, puts_then, puts_stop}
use Rattle.fl_sink.specs.laws.Pieces.{flat_map_more, flat_map_at}
use Rattle.fl_explanations.specs.Lines.{processes_at, standing_line}
use Rattle.fl_explanations.proofs.Entries.{entry_is, entry_there, within}
use Rattle.fl_explanations.proofs.overview.write_all.Goals as goal

pub unreachable-requires : goal.unreachable-requires
unreachable-requires g c =
    let are = rw c.in-Some.is at c.requires in
    entry_there pid_total c.in-Some.bench.now.processes c.loop-pid.pid-index c.pid-item.result
    (rw are at c.loop-pid-test.true) (rw are at c.pid-item.is) newborn
    (sym c.process.ensures ∙ ap option_copied c.in_default-process.is)

pub loop-pid-preserved : goal.loop-pid-preserved
loop-pid-preserved g c =
    let are = rw c.in-Some.is at c.requires in
    let m = c.in-Some.bench.now.processes in
    let i = c.loop-pid.pid-index in
    let pid = c.pid-item.result in
    let process = c.in-Some-process.process.now in
    let inside = rw are at c.loop-pid-test.true in
    let at = rw are at c.pid-item.is in
    let there = sym c.process.ensures ∙ ap option_copied c.in-Some-process.is in
    rw (
      flat_map_more standing_line (map.entries m) i (pid, process)
          (within pid_total m i pid inside at),
      ← entry_is pid_total m i pid inside at process there,
    )
    (passes_then _ _ _ c.loop-pid.invariant c.in_ok-write_standing.ensures.puts.is)

pub returns-in_err-write_standing-clause-puts : goal.returns-in_err-write_standing-clause-puts
returns-in_err-write_standing-clause-puts g c =
    let are = rw c.in-Some.is at c.requires in
    let m = c.in-Some.bench.now.processes in
    let i = c.loop-pid.pid-index in
    let pid = c.pid-item.result in
    let process = c.in-Some-process.process.now in
    let inside = rw are at c.loop-pid-test.true in
    let at = rw are at c.pid-item.is in
    let there = sym c.process.ensures ∙ ap option_copied c.in-Some-process.is in
    let all = ap (λ b. flat_map standing_line (processes_at (option_copied b))) c.in-Some.is in
    rw (
      all ∙ flat_map_at standing_line (map.entries m) i (pid, process)
          (within pid_total m i pid inside at),
      ← entry_is pid_total m i pid inside at process there,
    )
    (puts_then c.loop-pid.invariant
    (puts_stop _ _ c.in_err-write_standing.ensures.puts.is c.from_residual.ensures.0))

pub returns-clause-puts : goal.returns-clause-puts
returns-clause-puts g c =
    let m = c.in-Some.bench.now.processes in
    let i = c.loop-pid.pid-index in
    let are = ap length (rw c.in-Some.is at c.requires) in
    let keys = length-map (map.entries m) (λ (e : Pid × Process). e.0) in
    let ended = c.loop-pid-test.false in
    let whole : length (map.entries m) ≤ i = omega (arith, ended, are, keys) in
    let all = ap (λ b. flat_map standing_line (processes_at (option_copied b))) c.in-Some.is in
    rw (all ∙ ap (flat_map standing_line) (sym (take_all i (map.entries m) whole)))
    (record { is = c.loop-pid.invariant })
