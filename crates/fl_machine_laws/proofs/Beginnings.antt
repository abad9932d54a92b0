-- Grants among machines begin with who made the name; and a capability whose makers never hand it
-- on is granted to nobody else.
use Rattle.std.proofs.Common.{◌≡◌, sym, subst, Some, slice_get, ℕ, suc, List}
use Rattle.std.specs.List.{Contains}
use Rattle.fl_labels.specs.SetBy.{In}
use Rattle.fl_labels.specs.declared.cap.Cap.{Cap}
use Rattle.fl_labels.specs.declared.pid.Pid.{Pid}
use Rattle.fl_ops.specs.declared.op.Op.{Op}
use Rattle.fl_bench.specs.Gifts.{given}
use Rattle.fl_authority_laws.specs.Authority.{Bearer, HandsOn, Living, Written}
use Rattle.fl_machine_model.specs.Machines.{Machines, Turn}
use Rattle.fl_machine_laws.specs.Authority.{IsOrderingOn, IsGrantedOn, IsMakerOn, GivesOn}
use Rattle.fl_machine_laws.specs.Places.{AllSaved}
use Rattle.fl_machine_laws.specs.Taint.{machines_at, IsArrivalOn}

-- somebody made the name of what is granted
pub begun_on : {m : Machines} {ts : List Turn} {c : Cap} (i : ℕ) (b : Bearer)
    → IsGrantedOn m ts i b c → (maker : Pid) × IsMakerOn m ts maker c
begun_on (suc i) b (IsGrantedOn.makes {t = t} {pid = pid} {op = op} at making gives) =
    (pid, record { moment = i; turn = t; at = at; op = op; making = making; gives = gives })
begun_on (suc i) b (IsGrantedOn.later granted) = begun_on i b granted
begun_on (suc i) b (IsGrantedOn.born {parent = parent} granted has at done inside) =
    begun_on i (Living parent) granted
begun_on (suc j) b (IsGrantedOn.received {i = i} {sender = sender} granted has at sends before at'
    arrives is inside) =
    begun_on i (Living sender) granted
begun_on (suc i) b (IsGrantedOn.entered granted saved at done) = begun_on i (Written _) granted
begun_on i b (IsGrantedOn.uses {op = op} user granted saved puts) = begun_on i (Written op) granted
begun_on i b (IsGrantedOn.opened {op = op} granted saved is) = begun_on i (Written op) granted
begun_on (suc i) b (IsGrantedOn.ordered {pid = pid} granted has at order hands) =
    begun_on i (Living pid) granted

module _ (m : Machines) (ts : List Turn) (c : Cap)
    (keeps : (maker : Pid) → IsMakerOn m ts maker c → ¬ GivesOn m ts maker c) where
  -- its maker, or an operation of its maker's that hands it on
  abbrev Only : Bearer → Type 0
  Only (Living pid) = IsMakerOn m ts pid c
  Only (Written op) =
      (maker : Pid) × IsMakerOn m ts maker c × (i : ℕ) × (t : Turn) × (slice_get ts i ≡ Some t)
      × IsOrderingOn (machines_at m ts i) t maker op × HandsOn op.body c

  -- which is never saved
  unsaved : (op : Op) (j : ℕ) → Only (Written op) → ¬ AllSaved (machines_at m ts j) op
  unsaved op j (maker, makes, i, t, at, order, hands) saved =
      keeps maker makes (GivesOn.orders_it i j at order hands saved)

  pub only_on : (i : ℕ) (b : Bearer) (d : Cap) → IsGrantedOn m ts i b d → d ≡ c → Only b
  only_on (suc i) b d (IsGrantedOn.makes {t = t} {op = op} at making gives) e =
      record {
        moment = i;
        turn = t;
        at = at;
        op = op;
        making = making;
        gives = subst (Contains (given op)) e gives;
      }
  only_on (suc i) b d (IsGrantedOn.later granted) e = only_on i b d granted e
  only_on (suc i) b d (IsGrantedOn.born {parent = parent} {caps = caps} granted has at done inside)
      e =
      absurd (keeps parent (only_on i (Living parent) d granted e)
      (GivesOn.bears i at done (subst (In caps) e inside)))
  only_on (suc j) b d (IsGrantedOn.received {i = i} {packet = packet} {t' = u} {sender = sender}
      granted has at sends before at' arrives is inside) e =
      absurd (keeps sender (only_on i (Living sender) d granted e)
      (GivesOn.sends i j at sends before at'
      (subst (λ (x : Pid). IsArrivalOn u packet x) (sym is) arrives)
      (subst (In sends.message.caps) e inside)))
  only_on (suc i) b d (IsGrantedOn.entered granted saved at done) e =
      absurd (unsaved _ i (only_on i (Written _) d granted e) saved)
  only_on i b d (IsGrantedOn.uses {op = op} user granted saved puts) e =
      absurd (unsaved op i (only_on i (Written op) d granted e) saved)
  only_on i b d (IsGrantedOn.opened {op = op} granted saved is) e =
      absurd (unsaved op i (only_on i (Written op) d granted e) saved)
  only_on (suc i) b d (IsGrantedOn.ordered {t = t} {pid = pid} {op = op} granted has at order hands)
      e =
      (pid, only_on i (Living pid) d granted e, i, t, at, order, subst (HandsOn op.body) e hands)
