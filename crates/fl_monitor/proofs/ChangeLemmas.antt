-- What changes of labels, and of what is owned, owe.
use Rattle.std.proofs.Common.{◌≡◌, inl, inr, sym, subst, List, Result, Ok, Err, None, Some}
use Rattle.std.specs.Prelude.{not}
use Rattle.std.specs.Result.{IsErr, IsErrAnd}
use Rattle.fl_labels.specs.Name.{name_cmp}
use Rattle.fl_labels.specs.Cap.{cap_cmp}
use Rattle.fl_labels.specs.Caps.{Caps}
use Rattle.fl_labels.specs.SetBy as set
use Rattle.fl_labels.specs.SetBy.{SetBy, In}
use Rattle.fl_labels.specs.declared.cap.Cap.{Cap}
use Rattle.fl_ops.specs.declared.op.Op.{Op}
use Rattle.fl_ops.specs.Registry.{InEffect, Listed}
use Rattle.fl_jobs.specs.declared.job.Side.{Side}
use Rattle.fl_jobs.specs.declared.job.TooLong.{TooLong}
use Rattle.fl_jobs.specs.declared.answer.Refusal.{Refusal}
use Rattle.fl_jobs.specs.declared.answer.Refusal.TheVariants.{NotOwned}
use Rattle.fl_jobs.specs.declared.answer.Reply.TheVariants.{Done}
use Rattle.fl_jobs.specs.declared.answer.Outcome.{Outcome}
use Rattle.fl_rules.specs.declared.labels.Labels.{Labels}
use Rattle.fl_mailbox.specs.Endpoints.{Table}
use Rattle.fl_bench.specs.Process.{side_of, with_side}
use Rattle.fl_bench.specs.Guards.{endpoints_check}
use Rattle.fl_bench.specs.Jobs.{change_check}
use Rattle.fl_bench.specs.Checks.{refuse_if}
use Rattle.fl_monitor.specs.parts.Acts.{Relabels, Drops}
use Rattle.fl_monitor.specs.parts.Checked.{Checked, relabel_checks, drop_checks}
use Rattle.fl_monitor.proofs.CheckLemmas.{has_failed, has_passed, passed_on, stops, then_goes_on}

-- ---- labels

-- the change of a label, as it is checked under these operations
abbrev pub ChangeChecked : List Op → SetBy cap_cmp → SetBy name_cmp → SetBy name_cmp → Result (Unit {0}) Refusal → Type 0
ChangeChecked ops owned from to = Checked (change_check (InEffect (Listed ops) (In owned)) from to)

-- all endpoints, as they are checked under these operations
abbrev pub EndpointsChecked : List Op → SetBy cap_cmp → Labels → Table → Result (Unit {0}) Refusal → Type 0
EndpointsChecked ops owned labels table = Checked (endpoints_check (InEffect (Listed ops) (In owned)) labels table)

module _ (ops : List Op) (owned : SetBy cap_cmp) (table : Table) (old : Labels) (side : Side) (label : SetBy name_cmp) where
  abbrev E : Caps
  E = InEffect (Listed ops) (In owned)

  -- all of it, as it is checked under these operations
  abbrev RelabelChecked : Result (Unit {0}) Refusal → Type 0
  RelabelChecked = Checked (relabel_checks E old table side label)

  module _ (from : SetBy name_cmp) (is : from ≡ side_of side old) {r : Result (Unit {0}) Refusal} (change : ChangeChecked ops owned from label r) where
    pub change_refused : (f : Refusal) → r ≡ Err f → (q : Result (Unit {0}) Refusal) → IsErr q × IsErrAnd q (λ g. g ≡ f) → RelabelChecked q
    change_refused f e q s = stops (relabel_checks E old table side label) f (inl (subst (λ l. change_check E l label (Some f)) is (has_failed change f e))) q s

    -- the change passes, and the endpoints are looked at
    pub change_passed : (u : Unit {0}) → r ≡ Ok u → (now : List Op) → now ≡ ops → (labels : Labels) → labels ≡ with_side side label old
        → {q : Result (Unit {0}) Refusal} → EndpointsChecked now owned labels table q → RelabelChecked q
    change_passed u passes now same labels as_changed {q} h =
        then_goes_on (change_check E (side_of side old) label) (endpoints_check E (with_side side label old) table)
        (subst (λ l. change_check E l label None) is (has_passed change u passes))
        (subst (λ l. EndpointsChecked ops owned l table q) as_changed (subst (λ ops. EndpointsChecked ops owned labels table q) same h))

  module _ (given : Result (SetBy name_cmp) TooLong) (fits : given ≡ Ok label) {r : Result (Unit {0}) Refusal} (checked : RelabelChecked r) where
    abbrev IsRelabelled : Result Outcome Refusal → Labels → Type 0
    IsRelabelled = Relabels (Listed ops) owned table old side given

    pub relabel_refused : (f : Refusal) → r ≡ Err f → (q : Result Outcome Refusal) → IsErr q × IsErrAnd q (λ g. g ≡ f) → IsRelabelled q old
    relabel_refused f e q s = subst (λ q. IsRelabelled q old) (sym (passed_on q f s)) (Relabels.unsafe fits (has_failed checked f e))

    pub relabel_done : (u : Unit {0}) → r ≡ Ok u → (after : Labels) → after ≡ with_side side label old → IsRelabelled (Ok (Outcome.Reply Done)) after
    relabel_done u e after set = subst (IsRelabelled (Ok (Outcome.Reply Done))) (sym set) (Relabels.safe fits (has_passed checked u e))

-- ---- what is dropped

module _ (ops : List Op) (labels : Labels) (table : Table) (owned : SetBy cap_cmp) (c : Cap) {r : Result (Unit {0}) Refusal} (told : Checked (refuse_if (not (set.contains owned c)) (NotOwned c)) r) where
  abbrev IsDropped : Result Outcome Refusal → SetBy cap_cmp → Type 0
  IsDropped = Drops (Listed ops) labels table owned c

  pub not_owned : (f : Refusal) → r ≡ Err f → (q : Result Outcome Refusal) → IsErr q × IsErrAnd q (λ g. g ≡ f) → IsDropped q owned
  not_owned f e q s = subst (λ q. IsDropped q owned) (sym (passed_on q f s)) (Drops.kept (inl (has_failed told f e)))

  pub drop_not_owned : (f : Refusal) → r ≡ Err f → (q : Result (Unit {0}) Refusal) → IsErr q × IsErrAnd q (λ g. g ≡ f) → Checked (drop_checks (Listed ops) labels table owned c) q
  drop_not_owned f e q s = stops (drop_checks (Listed ops) labels table owned c) f (inl (has_failed told f e)) q s

  module _ (v : Unit {0}) (is_owned : r ≡ Ok v) {t : Result (Unit {0}) Refusal} (looked : EndpointsChecked ops (set.remove owned c) labels table t) where
    pub drop_looked : Checked (drop_checks (Listed ops) labels table owned c) t
    drop_looked =
        then_goes_on (refuse_if (not (set.contains owned c)) (NotOwned c)) (endpoints_check (InEffect (Listed ops) (In (set.remove owned c))) labels table)
        (has_passed told v is_owned) looked

    pub kept_for_endpoints : (f : Refusal) → t ≡ Err f → (after : SetBy cap_cmp) → after ≡ owned → (q : Result Outcome Refusal) → IsErr q × IsErrAnd q (λ g. g ≡ f) → IsDropped q after
    kept_for_endpoints f is after same q s =
        subst (IsDropped q) (sym same)
        (subst (λ q. IsDropped q owned) (sym (passed_on q f s)) (Drops.kept (inr (has_passed told v is_owned, has_failed looked f is))))

    pub gone_safely : (u : Unit {0}) → t ≡ Ok u → (after : SetBy cap_cmp) → after ≡ set.remove owned c → IsDropped (Ok (Outcome.Reply Done)) after
    gone_safely u is after removed = subst (IsDropped (Ok (Outcome.Reply Done))) (sym removed) (Drops.dropped (has_passed told v is_owned, has_passed looked u is))
