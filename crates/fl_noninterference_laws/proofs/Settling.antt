-- Benches that are alike stay so where an operation ends, and nodes where what is on its way is
-- published or given up.
use Rattle.std.proofs.Common.{◌≡◌, ◌∙◌, inl, inr, refl, sym, ap, subst, ℕ, List, [], length}
use Rattle.std.proofs.Common.{Option, Some, None}
use Rattle.std.specs.FinMap as map
use Rattle.fl_labels.specs.declared.cap.Cap.{Cap}
use Rattle.fl_labels.specs.declared.name.Name.{Name}
use Rattle.fl_labels.specs.declared.pid.Pid.{Pid}
use Rattle.fl_bench.specs.Bench.{BenchState}
use Rattle.fl_bench.specs.Gifts.{given, settled, receives, settles, finished, cancelled}
use Rattle.fl_bench.specs.declared.process.Process.{Process}
use Rattle.fl_bench.specs.laws.Puts.{none_some}
use Rattle.fl_system.specs.Jobs.{bench_of}
use Rattle.fl_system.specs.Numbered.{change_item}
use Rattle.fl_system.specs.Publishes.{at_bench_of, given_to, released, told}
use Rattle.fl_system.specs.declared.state.Batch.{Batch}
use Rattle.fl_system.specs.declared.state.Batch.TheVariants.{Ordered, Received}
use Rattle.fl_system_laws.specs.laws.Numbered.{length-with}
use Rattle.fl_noninterference_laws.specs.Alike.{AlikeAt, AreAlikeBenches}
use Rattle.fl_noninterference_laws.specs.AlikeNodes.{AreAlikeLists}
use Rattle.fl_noninterference_laws.specs.Tainted.{IsVeiled}
use Rattle.fl_noninterference_laws.proofs.Lists.{length_alike, changed_alike}
use Rattle.fl_noninterference_laws.proofs.Standing.{Table, AlikeTables, turned, put_both, put_first}
use Rattle.fl_noninterference_laws.proofs.Standing.{with_tables}

-- with what the operation gives
abbrev ended : Process → List Cap → Process
ended p caps = record p { owned = settled p.owned caps }

module _ (tag : Name) where
  ended_alike : (p q : Process) (caps : List Cap) → AlikeAt tag (Some p) (Some q)
      → AlikeAt tag (Some (ended p caps)) (Some (ended q caps))
  ended_alike p q caps (inl e) = let same : p ≡ q = cc in inl (ap (λ x. Some (ended x caps)) same)
  ended_alike p q caps (inr v) = inr v

  alone_has : (q : Process) → AlikeAt tag None (Some q) → IsVeiled tag (Some q)
  alone_has q (inl e) = absurd (none_some refl e)
  alone_has q (inr v) = v.1

  module _ (m n : Table) (pid : Pid) (caps : List Cap) (alike : AlikeTables tag m n) where
    received : (o other : Option Process) → map.get m pid ≡ o → map.get n pid ≡ other
        → AlikeAt tag o other
        → AlikeTables tag (receives m pid caps o) (receives n pid caps other)
    received None None e f at = alike
    received (Some p) (Some q) e f at =
        put_both tag m n pid alike (ended p caps) (ended q caps) (ended_alike p q caps at)
    received (Some p) None e f at =
        let has = alone_has p (turned tag at) in
        put_first tag m n pid alike (subst (IsVeiled tag) (sym e) has) (ended p caps) has
    received None (Some q) e f at =
        let has = alone_has q at in
        λ k. turned tag (put_first tag n m pid (λ z. turned tag (alike z))
        (subst (IsVeiled tag) (sym f) has) (ended q caps) has k)

  pub settles_alike : (pid : Pid) (caps : List Cap) (b c : BenchState) → AreAlikeBenches tag b c
      → AreAlikeBenches tag (settles b pid caps) (settles c pid caps)
  settles_alike pid caps b c a =
      with_tables tag a (receives b.processes pid caps (map.get b.processes pid))
      (receives c.processes pid caps (map.get c.processes pid))
      (received b.processes c.processes pid caps a.each (map.get b.processes pid)
      (map.get c.processes pid) refl refl (a.each pid))

  module _ (bs cs : List BenchState) (alike : AreAlikeLists tag bs cs) where
    at_both : (pid : Pid) (change : BenchState → BenchState)
        → ((b c : BenchState) → AreAlikeBenches tag b c → AreAlikeBenches tag (change b) (change c))
        → AreAlikeLists tag (at_bench_of pid change bs) (at_bench_of pid change cs)
    at_both pid change each =
        subst (λ k. AreAlikeLists tag (at_bench_of pid change bs)
        (change_item change cs (bench_of k pid.serial))) (length_alike tag bs cs alike)
        (changed_alike tag change change each bs cs (bench_of (length bs) pid.serial) alike)

    pub given_alike : (batch : Batch)
        → AreAlikeLists tag (given_to batch bs) (given_to batch cs)
    given_alike (Ordered op None desk) = alike
    given_alike (Ordered op (Some pid) desk) =
        at_both pid (λ b. finished b pid op) (settles_alike pid (given op))
    given_alike (Received ops) = alike

    pub released_alike : (batch : Batch)
        → AreAlikeLists tag (released batch bs) (released batch cs)
    released_alike (Ordered op None desk) = alike
    released_alike (Ordered op (Some pid) desk) =
        at_both pid (λ b. cancelled b pid) (settles_alike pid [])
    released_alike (Received ops) = alike

-- as many desks are there
pub told_desks : (batch : Batch) (count : ℕ) (xs ys : List ℕ) → length xs ≡ length ys
    → length (told batch count xs) ≡ length (told batch count ys)
told_desks (Ordered op maker None) count xs ys same = same
told_desks (Ordered op maker (Some desk)) count xs ys same =
    length-with xs desk count ∙ same ∙ sym (length-with ys desk count)
told_desks (Received ops) count xs ys same = same
