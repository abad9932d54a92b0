-- What is new of a packet of operations, and what becomes of it.
use Rattle.std.specs.Prelude.{ℕ, List, [], filter, length, not}
use Rattle.std.specs.declared.option.Option.{Option}
use Rattle.std.specs.declared.option.Option.TheVariants.{None, Some}
use Rattle.fl_labels.specs.SetBy as set
use Rattle.fl_labels.specs.SetBy.{SetBy}
use Rattle.fl_ops.specs.OpOrder.{op_cmp}
use Rattle.fl_ops.specs.declared.op.Op.{Op}
use Rattle.fl_system.specs.declared.state.Batch.{Batch}
use Rattle.fl_system.specs.declared.state.Batch.TheVariants.{Received}
use Rattle.fl_crew_model.specs.declared.record.Delivery.{Delivery}
use Rattle.fl_crew_model.specs.declared.record.Verdict.{Verdict}
use Rattle.fl_crew_model.specs.declared.record.Verdict.TheVariants.{Taken, TakenLate, Declined}
use Rattle.fl_registrar.specs.declared.parcel.Receipt.{Receipt}
use Rattle.fl_registrar.specs.Over.{RegistrarOver}

-- those of the operations that are not saved
abbrev pub news_of : SetBy op_cmp → List Op → SetBy op_cmp
news_of saved ops = set.of_list (filter (λ op. not (set.contains saved op)) ops)

-- what of it the list gains
abbrev pub gained : Verdict → SetBy op_cmp → List Op
gained Taken news = set.members news
gained TakenLate news = []
gained Declined news = []

-- what is then due
abbrev pub due_once : Option Batch → Verdict → SetBy op_cmp → Option Batch
due_once due Taken news = None
due_once due TakenLate news = Some (Received news)
due_once due Declined news = due

-- the row of the record
abbrev pub delivery_of : {K : Type 0} → RegistrarOver K → RegistrarOver K → ℕ → List Op → Receipt
    → Delivery
delivery_of old new place ops receipt =
    record {
      place = place;
      ops = ops;
      verdict = receipt.verdict;
      answer = receipt.answer;
      before = length old.press.list;
      after = length new.press.list;
    }
