-- One more task of a worker.
use Rattle.std.proofs.Common.{◌≡◌, ◌≢◌, ◌<◌, ◌≤◌, ◌+◌, inl, inr, ℕ, List, [], ◌∷◌, ◌++◌, length}
use Rattle.std.proofs.Common.{take, drop, sym, ap, ◌∙◌, subst, refl, arith, length-append}
use Rattle.std.proofs.Common.{length-drop, Option, Some, None, Ok, Err, Result, All, MatchResult}
use Rattle.std.proofs.lemmas.List.{take-append-le, drop-append-le}
use Rattle.std.proofs.lemmas.List.Elements.{All-push, All-cons}
use Rattle.std.proofs.Math.Seq.{take-length, drop-length}
use Rattle.fl_labels.specs.Found.{Within}
use Rattle.fl_labels.specs.declared.pid.Pid.{Pid}
use Rattle.fl_ops.specs.Registry.{Listed}
use Rattle.fl_ops.specs.declared.op.Op.{Op}
use Rattle.fl_ops.specs.declared.op.Body.{Body}
use Rattle.fl_jobs.specs.declared.job.Job.{Job}
use Rattle.fl_jobs.specs.declared.answer.Outcome.{Outcome}
use Rattle.fl_jobs.specs.declared.answer.Refusal.{Refusal}
use Rattle.fl_jobs.specs.declared.answer.Refusal.TheVariants as refusals
use Rattle.fl_bench.specs.Bench.{BenchState}
use Rattle.fl_bench.specs.Gifts.{cancelled}
use Rattle.fl_bench.specs.Jobs.{Does}
use Rattle.fl_bench.specs.laws.Orders.{cancel_back}
use Rattle.fl_system.specs.State.{first_ops}
use Rattle.fl_system.specs.declared.answer.Fault.{Fault}
use Rattle.fl_system.specs.declared.answer.Fault.TheVariants.{KeeperFailed, Stopped}
use Rattle.fl_system.specs.declared.answer.Fault.TheVariants as faults
use Rattle.fl_replica.specs.Boards.{StartsWith}
use Rattle.fl_crew_model.specs.Reasons.{refusal_of}
use Rattle.fl_crew_model.specs.Served.{Serves, IsTold, IsServed, Served}
use Rattle.fl_crew_model.specs.declared.record.Entry.{Entry}
use Rattle.fl_crew_model.specs.declared.record.Ruling.{Ruling}
use Rattle.fl_crew_model.specs.declared.record.Ruling.TheVariants.{Made, Late, GivenUp}
use Rattle.fl_crew_model.specs.declared.record.Told.{Told}
use Rattle.fl_worker.specs.Done.{Done}
use Rattle.fl_worker.specs.Seen.{Rises, last_seen}
use Rattle.fl_worker.specs.Tasks.{AreOf}
use Rattle.fl_worker.specs.Stops.{IsStop, IsLost, IsGivenUp, StopsAt, AreUndone, IsAnswered}
use Rattle.fl_worker.specs.declared.task.Task.{Task}
use Rattle.fl_worker.specs.declared.worker.Worker.{Worker}
use Rattle.fl_worker.specs.parts.Settled.{IsEnded, IsSettled, IsTakenBack}
use Rattle.fl_worker.specs.parts.Turns.{IsKept, IsRight, IsLast}
use Rattle.fl_bench_laws.specs.laws.Alike.{does_same}
use Rattle.fl_worker.specs.laws.Longer.{starts_length, starts_whole, starts_trans, served_longer}
use Rattle.fl_worker.proofs.Lists.{to_first, from_first}
use Rattle.fl_worker.proofs.Lists.{served_more, are_more, rises_more, last_more}

-- ---- under two registries that have the same operations

module _ {V W : Op → Type 0} (up : Within V W) (down : Within W V) where
  serves_same : (b : BenchState) (job : Job) (told : Told) (ruling : Option Ruling)
      (b' : BenchState)
      → Serves V b job told ruling b' → Serves W b job told ruling b'
  serves_same b job told None b' s =
      record { result = s.result; does = does_same up down s.does; is_told = s.is_told }
  serves_same b job told (Some (Made op)) b' s =
      record {
        pid = s.pid;
        left = s.left;
        does = does_same up down s.does;
        is_told =
            s.is_told;
        bench = s.bench;
      }
  serves_same b job told (Some (Late op pid)) b' s =
      record { does = does_same up down s.does; is_told = s.is_told }
  serves_same b job told (Some (GivenUp refusal)) b' s = record {
    pid = s.pid;
    body = s.body;
    left = s.left;
    does = does_same up down s.does;
    is_told = s.is_told;
    bench = s.bench;
  }

  lost_same : (b : BenchState) (e : Entry) → IsLost V b e → IsLost W b e
  lost_same b e l = record {
    is_told = l.is_told;
    body = l.body;
    pid = l.pid;
    left = l.left;
    does = does_same up down l.does;
  }

  stops_same : (b : BenchState) (e : Entry) → StopsAt V b e → StopsAt W b e
  stops_same b e (inl h) = inl h
  stops_same b e (inr h) = inr (lost_same b e h)

-- ---- what a bench answered, and what became of it

module _ {V : Op → Type 0} {b left : BenchState} {job : Job} (told : Told) (b' : BenchState) where
  ended_serves : (body : Body) (pid : Pid) (ruling : Ruling) → Does V b job
      (Ok (Outcome.Order body pid)) left
      → IsEnded body pid left ruling told b' → Serves V b job told (Some ruling) b'
  ended_serves body pid (Made op) does is = record {
    pid = pid;
    left = left;
    does = subst (λ (x : Body). Does V b job (Ok (Outcome.Order x pid)) left) (sym is.0) does;
    is_told = is.1;
    bench = is.2;
  }
  ended_serves body pid (Late op maker) does is = record {
    does = subst (λ (x : BenchState). Does V b job (Ok (Outcome.Order op.body maker)) x) (sym is.3)
        (subst (λ (x : Pid). Does V b job (Ok (Outcome.Order op.body x)) left) (sym is.1)
        (subst (λ (x : Body). Does V b job (Ok (Outcome.Order x pid)) left) (sym is.0) does));
    is_told = is.2;
  }
  ended_serves body pid (GivenUp reason) does is =
      record { pid = pid; body = body; left = left; does = does; is_told = is.0; bench = is.1 }

  alone_serves : (result : Result Outcome Refusal) → Does V b job result left → IsTold result told
      → b' ≡ left
      → Serves V b job told None b'
  alone_serves result does is bench = record {
    result = result;
    does = subst (λ (x : BenchState). Does V b job result x) (sym bench) does;
    is_told = is;
  }

  pub settled_serves : (result : Result Outcome Refusal) (ruling : Option Ruling)
      → Does V b job result left
      → IsSettled result left told ruling b' → Serves V b job told ruling b'
  settled_serves (Ok (Outcome.Order body pid)) None does is = absurd is
  settled_serves (Ok (Outcome.Order body pid)) (Some ruling) does is =
      ended_serves body pid ruling does is
  settled_serves (Ok (Outcome.Reply reply)) None does is = alone_serves
      (Ok (Outcome.Reply reply)) does is.0 is.1
  settled_serves (Ok (Outcome.Reply reply)) (Some ruling) does is = absurd is
  settled_serves (Ok (Outcome.Out packet)) None does is = alone_serves
      (Ok (Outcome.Out packet)) does is.0 is.1
  settled_serves (Ok (Outcome.Out packet)) (Some ruling) does is = absurd is
  settled_serves (Err refusal) None does is = alone_serves (Err refusal) does is.0 is.1
  settled_serves (Err refusal) (Some ruling) does is = absurd is

module _ {V : Op → Type 0} {b left : BenchState} (b' : BenchState) (e : Entry) (fault : Fault)
    (told : e.told ≡ Told.Refused fault) (stop : IsStop fault) where
  taken_order : (body : Body) (pid : Pid) → Does V b e.job.value (Ok (Outcome.Order body pid)) left
      → b' ≡ cancelled left pid
      → (b' ≡ b) × StopsAt V b e
  taken_order body pid does is = (is ∙ cancel_back does, by stop)
    where
      by : IsStop fault → StopsAt V b e
      by (inl k) = inr (record {
        is_told = told ∙ ap Told.Refused k;
        body = body;
        pid = pid;
        left =
            left;
        does = does;
      })
      by (inr s) = inl (told ∙ ap Told.Refused s)

  pub taken_back : (result : Result Outcome Refusal) → Does V b e.job.value result left
      → IsTakenBack result left b'
      → (b' ≡ b) × StopsAt V b e
  taken_back (Ok (Outcome.Order body pid)) does is = taken_order body pid does is
  taken_back (Ok (Outcome.Reply reply)) does is = absurd is
  taken_back (Ok (Outcome.Out packet)) does is = absurd is
  taken_back (Err refusal) does is = absurd is

-- ---- one task

-- a task whose job is over
pub is_right : (t : Task) (list : List Op) (b left b' : BenchState)
    (result : Result Outcome Refusal) (e : Entry)
    → IsKept t list e → Does (Listed list) b t.job result left
    → IsSettled result left e.told e.ruling b'
    → IsRight t list b b' e
is_right t list b left b' result e kept does is = record {
  kept = kept;
  serves = settled_serves e.told b' result e.ruling
      (subst (λ (j : Job). Does (Listed list) b j result left) (sym kept.of.job) does) is;
}

-- a task whose order is taken back
pub is_last : (t : Task) (list : List Op) (b left b' : BenchState) (result : Result Outcome Refusal)
    (e : Entry)
    (fault : Fault) → IsKept t list e → Does (Listed list) b t.job result left
    → e.told ≡ Told.Refused fault
    → IsStop fault → IsTakenBack result left b' → IsLast t list b b' e
is_last t list b left b' result e fault kept does told stop is =
    let back = taken_back b' e fault told stop result
    (subst (λ (j : Job). Does (Listed list) b j result left) (sym kept.of.job) does) is in
    record { kept = kept; bench = back.0; stops = back.1 }

-- ---- a worker

pub none_done : (old w : Worker) → w.number ≡ old.number → w.desk ≡ old.desk → w.bench ≡ old.bench
    → w.entries.items ≡ [] → w.good ≡ 0 → Done old [] w
none_done old w number desk bench empty none = record {
  number = number;
  board = ap (λ d. d.board) desk;
  later = subst (λ (l : List Op). StartsWith l old.desk.list) (ap (λ d. d.list) (sym desk))
      (starts_whole old.desk.list);
  tasks = rw empty tt;
  rises = rw empty tt;
  last = rw (empty, desk) (omega arith);
  some = omega arith;
  served = rw (empty, none) bench;
  undone = rw (empty, none) tt;
}

undone_more : (list : List Op) (b : BenchState) (es : List Entry) (e : Entry) → 0 < length es
    → AreUndone list b es → IsGivenUp e → AreUndone list b (es ++ e ∷ [])
undone_more list b [] e some h given = absurd (omega arith)
undone_more list b (f ∷ es) e some h given = (h.0, All-push IsGivenUp es e h.1 given)

module _ {A : Type 0} (n : ℕ) (xs : List A) (all : n ≡ length xs) where
  take_all : take n xs ≡ xs
  take_all = ap (λ k. take k xs) all ∙ take-length xs

  drop_all : drop n xs ≡ []
  drop_all = ap (λ k. drop k xs) all ∙ drop-length xs

module _ (old w w' : Worker) (ts : List Task) (t : Task) (e : Entry) (done : Done old ts w)
    (number : w'.number ≡ w.number) (board : w'.desk.board ≡ w.desk.board)
    (later : StartsWith w'.desk.list w.desk.list) (kept : IsKept t w'.desk.list e)
    (entries : w'.entries.items ≡ w.entries.items ++ e ∷ []) where
  more : length w'.entries.items ≡ length w.entries.items + 1
  more = omega (arith, ap length entries, length-append w.entries.items (e ∷ []))

  -- what does not depend on how the task went
  done_with : (some : w'.good ≤ length w'.entries.items)
      → Served w'.desk.list old.bench (take w'.good w'.entries.items) w'.bench
      → AreUndone w'.desk.list w'.bench (drop w'.good w'.entries.items) → Done old (ts ++ t ∷ []) w'
  done_with some served undone = record {
    number = number ∙ done.number;
    board = board ∙ done.board;
    later = starts_trans w'.desk.list w.desk.list old.desk.list later done.later;
    tasks = subst (AreOf (ts ++ t ∷ [])) (sym entries)
        (are_more ts w.entries.items t e done.tasks kept.of);
    rises = subst (Rises (length old.desk.list)) (sym entries)
        (rises_more (length old.desk.list) w.entries.items e done.rises low);
    last = subst (λ (es : List Entry). last_seen (length old.desk.list) es ≤ length w'.desk.list)
        (sym entries)
        (let is = last_more (length old.desk.list) w.entries.items e in let all =
        kept.seen in omega arith);
    some = some;
    served = served;
    undone = undone;
  }
    where
      low : last_seen (length old.desk.list) w.entries.items ≤ e.seen
      low =
          let last = done.last in
          let fits = starts_length w'.desk.list w.desk.list later in
          let all = kept.seen in
          omega arith

  -- those that were right, under the list as it is now
  right_still : (es : List Entry) → take w.good w.entries.items ≡ es
      → Served w'.desk.list old.bench es w.bench
  right_still es is =
      served_longer w'.desk.list w.desk.list later old.bench es w.bench
      (subst (λ (x : List Entry). Served w.desk.list old.bench x w.bench) is done.served)

  pub done_right : w.good ≡ length w.entries.items → w'.good ≡ w.good + 1
      → IsRight t w'.desk.list w.bench w'.bench e → Done old (ts ++ t ∷ []) w'
  done_right whole good right =
      let before : take w.good w.entries.items ≡ w.entries.items =
      take_all w.good w.entries.items whole in
      let counted : w'.good ≡ length w'.entries.items = omega (arith, more) in
      let front : take w'.good w'.entries.items ≡ w.entries.items ++ e ∷ [] =
      take_all w'.good w'.entries.items counted ∙ entries in
      let one : IsServed w'.desk.list w.bench e w'.bench = record {
        seen = (let all = kept.seen in omega arith);
        serves = serves_same (to_first w'.desk.list e.seen kept.seen)
            (from_first w'.desk.list e.seen kept.seen)
            w.bench e.job.value e.told e.ruling w'.bench right.serves;
      } in
      done_with (omega arith)
      (subst (λ (es : List Entry). Served w'.desk.list old.bench es w'.bench) (sym front)
      (served_more w'.desk.list old.bench w.entries.items w.bench e w'.bench
      (right_still w.entries.items before) one))
      (subst (AreUndone w'.desk.list w'.bench) (sym (drop_all w'.good w'.entries.items counted)) tt)

  pub done_last : w.good ≡ length w.entries.items → w'.good ≡ w.good
      → IsLast t w'.desk.list w.bench w'.bench e → Done old (ts ++ t ∷ []) w'
  done_last whole good last =
      let before : take w.good w.entries.items ≡ w.entries.items =
      take_all w.good w.entries.items whole in
      let fits : w'.good ≤ length w.entries.items = omega arith in
      let front : take w'.good w'.entries.items ≡ w.entries.items =
      ap (take w'.good) entries ∙ (take-append-le w'.good w.entries.items (e ∷ []) fits
      ∙ take_all w'.good w.entries.items (good ∙ whole)) in
      let rest : drop w'.good w'.entries.items ≡ e ∷ [] =
      ap (drop w'.good) entries ∙ (drop-append-le w'.good w.entries.items (e ∷ []) fits
      ∙ ap (λ (es : List Entry). es ++ e ∷ []) (drop_all w'.good w.entries.items (good ∙ whole))) in
      let stops = stops_same (to_first w'.desk.list e.seen kept.seen)
      (from_first w'.desk.list e.seen kept.seen)
      w.bench e last.stops in
      done_with (omega (arith, more))
      (subst (λ (x : BenchState). Served w'.desk.list old.bench (take w'.good w'.entries.items) x)
      (sym last.bench)
      (subst (λ (es : List Entry). Served w'.desk.list old.bench es w.bench) (sym front)
      (right_still w.entries.items before)))
      (subst (AreUndone w'.desk.list w'.bench) (sym rest) (
        record {
          seen = (let all = kept.seen in omega arith);
          stops = subst
              (λ (x : BenchState). StopsAt (first_ops e.seen w'.desk.list) x e)
              (sym last.bench) stops;
        },
        λ k d h. absurd (omega arith),
      ))

  pub done_given_up : w.good < length w.entries.items → w'.good ≡ w.good
      → w'.desk.list ≡ w.desk.list
      → w'.bench ≡ w.bench → IsGivenUp e → Done old (ts ++ t ∷ []) w'
  done_given_up stopped good list bench given =
      let fits : w'.good ≤ length w.entries.items = omega arith in
      let front : take w'.good w'.entries.items ≡ take w.good w.entries.items =
      ap (take w'.good) entries ∙ (take-append-le w'.good w.entries.items (e ∷ []) fits
      ∙ ap (λ n. take n w.entries.items) good) in
      let rest : drop w'.good w'.entries.items ≡ drop w.good w.entries.items ++ e ∷ [] =
      ap (drop w'.good) entries ∙ (drop-append-le w'.good w.entries.items (e ∷ []) fits
      ∙ ap (λ n. drop n w.entries.items ++ e ∷ []) good) in
      let some : 0 < length (drop w.good w.entries.items) = omega
      (arith, length-drop w.good w.entries.items) in
      done_with (omega (arith, more))
      (subst (λ (x : BenchState). Served w'.desk.list old.bench (take w'.good w'.entries.items) x)
      (sym bench)
      (subst (λ (es : List Entry). Served w'.desk.list old.bench es w.bench) (sym front)
      (right_still (take w.good w.entries.items) refl)))
      (subst (AreUndone w'.desk.list w'.bench) (sym rest)
      (undone_more w'.desk.list w'.bench (drop w.good w.entries.items) e some
      (subst (λ (l : List Op). AreUndone l w'.bench (drop w.good w.entries.items)) (sym list)
      (subst (λ (x : BenchState). AreUndone w.desk.list x (drop w.good w.entries.items))
      (sym bench) done.undone)) given))

-- a worker that had not stopped, after a task
pub turn_done : (old w w' : Worker) (ts : List Task) (t : Task) (served : Result Entry Entry)
    → Done old ts w
    → w.good ≡ length w.entries.items → w'.number ≡ w.number → w'.desk.board ≡ w.desk.board
    → StartsWith w'.desk.list w.desk.list
    → MatchResult served (IsRight t w'.desk.list w.bench w'.bench)
    (IsLast t w'.desk.list w.bench w'.bench)
    → MatchResult served (λ e. (w'.entries.items ≡ w.entries.items ++ e ∷ []) ×
    (w'.good ≡ w.good + 1))
    (λ e. (w'.entries.items ≡ w.entries.items ++ e ∷ []) × (w'.good ≡ w.good))
    → Done old (ts ++ t ∷ []) w'
turn_done old w w' ts t (Ok e) done whole number board later right put =
    done_right old w w' ts t e done number board later right.kept put.0 whole put.1 right
turn_done old w w' ts t (Err e) done whole number board later last put =
    done_last old w w' ts t e done number board later last.kept put.0 whole put.1 last

-- ---- what is told of a job that was done

alone_answered : (result : Result Outcome Refusal) (told : Told) (fault : Fault) → IsStop fault
    → IsTold result told
    → told ≡ Told.Refused fault → ⊥
alone_answered (Ok (Outcome.Reply reply)) told fault stop is same = absurd (cc)
alone_answered (Ok (Outcome.Out packet)) told fault stop is same = absurd (cc)
alone_answered (Ok (Outcome.Order body pid)) told fault stop is same = absurd is
alone_answered (Err refusal) told fault (inl broken) is same = absurd (cc)
alone_answered (Err refusal) told fault (inr stopped) is same = absurd (cc)

refused_answered : (refusal : Refusal) (told : Told) (fault : Fault) → IsStop fault
    → told ≡ Told.Refused (faults.Refused refusal) → told ≢ Told.Refused fault
refused_answered refusal told fault (inl broken) is same = absurd (cc)
refused_answered refusal told fault (inr stopped) is same = absurd (cc)

told_answered : (V : Op → Type 0) (b : BenchState) (job : Job) (told : Told)
    (ruling : Option Ruling)
    (b' : BenchState) (fault : Fault) → IsStop fault → Serves V b job told ruling b'
    → told ≢ Told.Refused fault
told_answered V b job told None b' fault stop s =
    alone_answered s.result told fault stop s.is_told
told_answered V b job told (Some (Made op)) b' fault stop s =
    λ same. let is = s.is_told in absurd (cc)
told_answered V b job told (Some (Late op pid)) b' fault stop s =
    refused_answered refusals.Memory told fault stop s.is_told
told_answered V b job told (Some (GivenUp reason)) b' fault stop s =
    refused_answered (refusal_of reason) told fault stop s.is_told

pub all_answered : (list : List Op) (b : BenchState) (es : List Entry) (b' : BenchState)
    → Served list b es b' → All IsAnswered es
all_answered list b [] b' s = λ k d h. absurd (omega arith)
all_answered list b (e ∷ es) b' s =
    let V = first_ops e.seen list in
    let one = s.1.serves in
    All-cons IsAnswered e es
    (record {
      broken = told_answered V b e.job.value e.told e.ruling s.0 KeeperFailed (inl refl) one;
      stopped = told_answered V b e.job.value e.told e.ruling s.0 Stopped (inr refl) one;
    })
    (all_answered list s.0 es b' s.2)
