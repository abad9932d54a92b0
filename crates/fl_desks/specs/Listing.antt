-- What is published, and how much of it each desk sees.
use Rattle.std.specs.Prelude.{◌≡◌, ◌<◌, ◌≤◌, ◌++◌, ℕ, List, min, max, length, refl}
use Rattle.std.specs.Coded.{Coded, code_by, coded×, coded_ℕ, coded_list}
use Rattle.std.specs.declared.option.Option.TheVariants.{Some}
use Rattle.fl_labels.specs.SetBy as set
use Rattle.fl_labels.specs.SetBy.{SetBy}
use Rattle.fl_ops.specs.declared.op.Op.{Op}
use Rattle.fl_ops.specs.OpOrder.{op_cmp}
use Rattle.fl_ops.specs.OpLaws.{coded_op}
use Rattle.fl_system.specs.declared.state.Batch.{Batch}
use Rattle.fl_system.specs.Numbered.{item_at, with_item, items_to}
use Rattle.fl_system.specs.Publishes.{told}
use Rattle.fl_system.specs.State.{ops_of}

pub record ListingState : Type 0 where
  -- each published operation, in the order of publishing
  pub published : List Op
  -- how many of these each desk sees, from desk 1 on
  pub views : List ℕ

-- of so many desks, over what is saved: each sees all of it, rising
abbrev pub listing_of : SetBy op_cmp → ℕ → ListingState
listing_of saved desks =
    record {
      published = set.members saved;
      views = items_to desks (λ desk. length (set.members saved));
    }

-- there is a desk of this number
abbrev pub IsDesk : ListingState → ℕ → Type 0
IsDesk l desk = (0 < desk) × (desk ≤ length l.views)

-- the desk has seen so many operations
abbrev pub HasSeen : ListingState → ℕ → ℕ → Type 0
HasSeen l desk seen = item_at l.views desk ≡ Some seen

-- the desk has not seen the whole list
abbrev pub IsBehind : ListingState → ℕ → Type 0
IsBehind l desk = (seen : ℕ) × HasSeen l desk seen × (seen < length l.published)

-- how many a desk sees that has seen some, and looks at the list up to a length
abbrev pub seen_then : ListingState → ℕ → ℕ → ℕ
seen_then l seen upto = max seen (min upto (length l.published))

-- with so many seen at the desk
abbrev pub with_seen : ListingState → ℕ → ℕ → ListingState
with_seen l desk v = record l { views = with_item l.views desk v }

-- with a batch at the end of the list, of which its desk is told
abbrev pub extended : ListingState → Batch → ListingState
extended l batch =
    record {
      published = l.published ++ ops_of batch;
      views = told batch (length (l.published ++ ops_of batch)) l.views;
    }

-- it is stored as the pair of both
abbrev pub coded_listing : Coded ListingState
coded_listing =
    code_by (List Op × List ℕ) (coded× (coded_list coded_op) (coded_list coded_ℕ))
    (λ l. (l.published, l.views))
    (λ t. record { published = t.0; views = t.1 })
    (λ _. refl)
