-- What contracts see of a registrar.
use Rattle.std.specs.Prelude.{ℕ, Bool, List, refl}
use Rattle.std.specs.Coded.{Coded, code_by, coded×, coded_ℕ, coded_bool, coded_list}
use Rattle.std.specs.Coded.{coded_option}
use Rattle.std.specs.declared.option.Option.{Option}
use Rattle.fl_system.specs.contracts.state.Batch as batch_row
use Rattle.fl_system.specs.declared.state.Batch.{Batch}
use Rattle.fl_node.specs.Over.{NodeOver, coded_over}
use Rattle.fl_replica.specs.contracts.press.Press as press_row
use Rattle.fl_replica.specs.Boards.{Pressed}
use Rattle.fl_crew_model.specs.contracts.record.Deed as deed_row
use Rattle.fl_crew_model.specs.declared.record.Deed.{Deed}
use Rattle.fl_crew_model.specs.contracts.record.FailedOrder as failed_row
use Rattle.fl_crew_model.specs.declared.record.FailedOrder.{FailedOrder}
use Rattle.fl_crew_model.specs.Books.{Books}
use Rattle.fl_registrar.specs.contracts.awaited.Awaited as awaited_row
use Rattle.fl_registrar.specs.declared.awaited.Awaited.{Awaited}

pub record RegistrarOver (K : Type 0) : Type 0 where
  pub node : NodeOver K
  pub press : Pressed
  -- what is saved, and not yet on the press
  pub due : Option Batch
  -- the order that is awaited at each place of the batch, if one is
  pub orders : List (Option Awaited)
  -- the record, and how many rows it has room for
  pub deeds : List Deed
  pub rows : ℕ
  -- the order at which its keeper broke, if it did at one
  pub failed : Option FailedOrder
  pub stopped : Bool

-- what is saved and published, as its record speaks of it
abbrev pub books_of : {K : Type 0} → RegistrarOver K → Books
books_of r = record { saved = r.node.node.saved; list = r.press.list; due = r.due }

-- it is stored as the tuple of its fields
abbrev pub coded_registrar : {K : Type 0} → Coded K → Coded (RegistrarOver K)
coded_registrar {K} keeper =
    code_by
    (NodeOver K × (Pressed × (Option Batch
    × (List (Option Awaited) × (List Deed × (ℕ × (Option FailedOrder × Bool)))))))
    (coded× (coded_over keeper) (coded× (press_row.the_row).coded
    (coded× (coded_option (batch_row.the_row).coded)
    (coded× (coded_list (coded_option (awaited_row.the_row).coded))
    (coded× (coded_list (deed_row.the_row).coded)
    (coded× coded_ℕ (coded× (coded_option (failed_row.the_row).coded) coded_bool)))))))
    (λ r. (r.node, (r.press, (r.due, (r.orders, (r.deeds, (r.rows, (r.failed, r.stopped))))))))
    (λ t. record {
      node = t.0;
      press = t.1.0;
      due = t.1.1.0;
      orders = t.1.1.1.0;
      deeds = t.1.1.1.1.0;
      rows = t.1.1.1.1.1.0;
      failed = t.1.1.1.1.1.1.0;
      stopped = t.1.1.1.1.1.1.1;
    })
    (λ _. refl)
