-- There are such batches, from a node on that was opened over nothing: worker 1 makes a process
-- that orders a tag, and worker 2
-- makes one under the longer list.
use Rattle.std.proofs.Common.{◌≡◌, ◌⊎◌, inl, inr, ℕ, cond, List, [], ◌∷◌, length, Option, Some}
use Rattle.std.proofs.Common.{None, Ok, refl, sym, ◌∙◌, subst, arith, eqb, lit<}
use Rattle.std.specs.FinMap as map
use Rattle.std.proofs.lemmas.Bool.{false≢true}
use Rattle.std.proofs.lemmas.Bool.Decides.{eqb_tells}
use Rattle.std.specs.declared.snapshot.Snapshot.{Snapshot}
use Rattle.fl_labels.specs.SetBy as set
use Rattle.fl_labels.specs.SetBy.{In}
use Rattle.fl_labels.specs.Cap.{cap_cmp}
use Rattle.fl_labels.specs.PidOrder.{pid_total}
use Rattle.fl_labels.specs.declared.cap.Cap.{Cap}
use Rattle.fl_labels.specs.declared.pid.Pid.{Pid}
use Rattle.fl_ops.specs.OpOrder.{op_cmp}
use Rattle.fl_ops.specs.declared.op.Op.{Op}
use Rattle.fl_ops.specs.declared.op.Body.{Body}
use Rattle.fl_ops.specs.declared.op.Policy.{Policy}
use Rattle.fl_jobs.specs.declared.job.Act.{Act}
use Rattle.fl_jobs.specs.declared.job.Job.{Job}
use Rattle.fl_jobs.specs.declared.job.Order.{Order}
use Rattle.fl_jobs.specs.declared.answer.Refusal.TheVariants.{NoProcess}
use Rattle.fl_jobs.specs.declared.answer.Reply.TheVariants.{Made as Made_process}
use Rattle.fl_jobs.specs.declared.answer.Outcome.{Outcome}
use Rattle.fl_bench.specs.Bench.{BenchState, new_bench, born, has_at}
use Rattle.fl_bench.specs.Checks.{with, ◌then◌}
use Rattle.fl_bench.specs.Gifts.{finished}
use Rattle.fl_bench.specs.Jobs.{Does, checks, act_checks, bench_checks}
use Rattle.fl_bench.specs.Process.{newborn, ordering, order_takes}
use Rattle.fl_bench.specs.declared.process.Process.{Process}
use Rattle.fl_bench.specs.laws.Puts.{get_here}
use Rattle.fl_store.specs.Kept.{Kept, with_ops}
use Rattle.fl_system.specs.Openings.{opened}
use Rattle.fl_system.specs.State.{first_ops}
use Rattle.fl_crew_model.specs.declared.record.Told.{Told}
use Rattle.fl_crew_model.specs.declared.record.Ruling.TheVariants.{Made}
use Rattle.fl_crew_model.specs.declared.record.Entry.{Entry}
use Rattle.fl_crew_model.specs.declared.record.Decision.{Decision}
use Rattle.fl_crew_model.specs.declared.record.Deed.{Deed}
use Rattle.fl_crew_model.specs.declared.record.Deed.TheVariants.{Decided}
use Rattle.fl_crew_model.specs.Books.{Books}
use Rattle.fl_crew_model.specs.Crews.{IsWorker, IsBatch, IsCrew, Promises}
use Rattle.fl_crew_model.proofs.Opened.{opened_crew}

none_in : (o : Op) {P : Type 0} → In (set.empty {R = op_cmp}) o → P
none_in o h = absurd (false≢true (sym (set.contains-empty op_cmp o) ∙ h))

abbrev who : Pid
who = record {
  node = 1;
  boot = 1;
  serial = 1;
  node_in_range = (lit< tt, lit< tt);
  boot_in_range = (lit< tt, lit< tt);
  serial_in_range = (lit< tt, lit< tt);
}

abbrev other : Pid
other = record {
  node = 1;
  boot = 1;
  serial = 2;
  node_in_range = (lit< tt, lit< tt);
  boot_in_range = (lit< tt, lit< tt);
  serial_in_range = (lit< tt, lit< tt);
}

abbrev op : Op
op = record {
  name = record {
    node = 1;
    seq = 1;
    node_in_range = (lit< tt, lit< tt);
    seq_in_range = (lit< tt, lit< tt);
  };
  body = Body.MakeTag Policy.Export;
}

-- what is kept of a node that was never opened
abbrev pub nothing : Kept
nothing = record { number = 1; boot = 0; saved = set.empty }

abbrev pub old : ℕ → BenchState
old w = new_bench 1 1 w 2

abbrev born_one : BenchState
born_one = born (old 1) who newborn

abbrev born_two : BenchState
born_two = born (old 2) other newborn

abbrev waits : BenchState
waits = has_at born_one who (ordering newborn)

abbrev pub new : ℕ → BenchState
new w = cond (eqb w 1) (finished waits who op) born_two

abbrev pub before : Books
before = record { saved = set.empty; list = []; due = None }

abbrev pub after : Books
after = record { saved = with_ops set.empty (op ∷ []); list = op ∷ []; due = None }

abbrev decision : Decision
decision = record { worker = 1; place = 2; ruling = Made op; before = 0; after = 1 }

abbrev pub deeds : List Deed
deeds = Decided decision ∷ []

-- the job, as an entry has it
abbrev shown : Job → Snapshot Job
shown job = record { marker = record {}; value = job }

abbrev birth : ℕ → Pid → ℕ → Entry
birth place pid seen = record {
  place = place;
  job = shown Job.Proc;
  told = Told.Reply (Made_process pid);
  seen = seen;
  ruling = None;
}

abbrev order : Entry
order = record {
  place = 2;
  job = shown (Job.By who (Act.Order (Order.Tag Policy.Export)));
  told = Told.Published op.name;
  seen = 0;
  ruling = Some (Made op);
}

abbrev pub queues : ℕ → List Entry
queues w = cond (eqb w 1) (birth 0 who 0 ∷ order ∷ []) (birth 1 other 1 ∷ [])

abbrev pub last : ℕ → ℕ
last w = 1

births_one : (V : Op → Type 0)
    → Does V (old 1) Job.Proc (Ok (Outcome.Reply (Made_process who))) born_one
births_one V =
    Does.passed refl (who, record { node = refl; boot = refl; serial = refl }, refl, refl)

births_two : (V : Op → Type 0)
    → Does V (old 2) Job.Proc (Ok (Outcome.Reply (Made_process other))) born_two
births_two V =
    Does.passed refl (other, record { node = refl; boot = refl; serial = refl }, refl, refl)

stands : map.get born_one.processes who ≡ Some newborn
stands = get_here pid_total (old 1).processes who newborn

-- a new tag takes nothing
nothing_taken : {P : Type 0} (c : Cap) → In (order_takes (Order.Tag Policy.Export)) c → P
nothing_taken c h = absurd (false≢true (sym (set.contains-empty cap_cmp c) ∙ h))

asks : (V : Op → Type 0) → checks V born_one order.job.value None
asks V =
    let act = Act.Order (Order.Tag Policy.Export) in
    subst
    (λ (o : Option Process). with o (NoProcess who)
    (λ p. act_checks V p act then bench_checks born_one act) None)
    (sym stands) ((refl, λ c h. nothing_taken c h), refl)

orders : (V : Op → Type 0) → Does V born_one order.job.value (Ok (Outcome.Order op.body who)) waits
orders V = Does.passed (asks V) (newborn, stands, (refl, refl))

first : Promises 2 0 (op ∷ []) deeds 1 (old 1) (finished waits who op) (birth 0 who 0 ∷ order ∷ [])
    1 []
first =
    record {
      served = (
        born_one,
        record {
          seen = omega arith;
          serves = record {
            result = Ok (Outcome.Reply (Made_process who));
            does =
                births_one (first_ops 0 (op ∷ []));
            is_told = refl;
          };
        },
        (
          finished waits who op,
          record {
            seen = omega arith;
            serves = record {
              pid = who;
              left = waits;
              does = orders (first_ops 0 (op ∷ []));
              is_told =
                  refl;
              bench = refl;
            };
          },
          refl,
        ),
      );
      agrees = (
        0,
        decision ∷ [],
        omega arith,
        record { from = refl; all = refl; later = omega arith },
        (
          1,
          [],
          omega arith,
          record {
            decision = decision;
            first = refl;
            place = refl;
            same = refl;
            seen = omega arith;
            from = refl;
          },
          (refl, refl),
        ),
      );
      homes = (refl, (refl, tt));
    }

second : Promises 2 0 (op ∷ []) deeds 2 (old 2) born_two (birth 1 other 1 ∷ []) 1 []
second =
    record {
      served = (
        born_two,
        record {
          seen = omega arith;
          serves = record {
            result = Ok (Outcome.Reply (Made_process other));
            does =
                births_two (first_ops 1 (op ∷ []));
            is_told = refl;
          };
        },
        refl,
      );
      agrees = (1, [], omega arith, record { from = refl; all = refl; later = tt }, (refl, refl));
      homes = (refl, tt);
    }

workers : (w : ℕ) → IsWorker 2 w → (w ≡ 1) ⊎ (w ≡ 2)
workers w is =
    elim (eqb_tells w 1) [
      | inl one ↦ inl one.1
      | inr more ↦ inr (let low = is.low in let high = is.high in let ne = more.1 in omega arith)
    ]

-- what is promised of worker k
abbrev Promised : ℕ → Type 0
Promised k = Promises 2 0 (op ∷ []) deeds k (old k) (new k) (queues k) (last k) []

pub example : IsBatch 1 2 before after deeds old new queues last
example =
    record {
      recorded = (
        after,
        record {
          before = refl;
          after = refl;
          changes = record {
            idle = refl;
            named = record {
              last = 0;
              is_last = record {
                upper = λ o h own. none_in o h;
                reached = λ h. absurd (omega (arith, h));
              };
              node_is = refl;
              seq_is = refl;
            };
            new = refl;
          };
        },
        refl,
      );
      of_workers = (record { low = omega arith; high = omega arith }, tt);
      promises = λ w is. elim (workers w is) [
        | inl one ↦ subst Promised (sym one) first
        | inr two ↦ subst Promised (sym two) second
      ];
    }

no_items : (xs : List Op) → length xs ≡ 0 → xs ≡ []
no_items [] e = refl
no_items (x ∷ xs) e = absurd (omega (arith, e))

no_members : set.members (set.empty {R = op_cmp}) ≡ []
no_members =
    no_items (set.members set.empty) (sym (set.len-members set.empty) ∙ set.len-empty op_cmp)

-- and the node is a crew's
pub opened_here : IsCrew 1 2 (opened 2 nothing) before old (λ w. 0)
opened_here =
    subst (λ (l : List Op). IsCrew 1 2 (opened 2 nothing)
    (record { saved = set.empty; list = l; due = None }) old (λ w. length l)) no_members
    (opened_crew 2 nothing)
