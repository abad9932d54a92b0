-- What is left of the decisions on a worker's orders, where its entries are the record's.
use Rattle.std.proofs.Common.{◌≡◌, ◌∙◌, ◌≤◌, ℕ, List, [], Option, None, Some, length, take, drop}
use Rattle.std.proofs.Common.{subst, sym, ap, arith}
use Rattle.std.proofs.lemmas.List.{take_all, drop_all, take-take, length-take}
use Rattle.fl_crew_model.specs.declared.record.Decision.{Decision}
use Rattle.fl_crew_model.specs.declared.record.Deed.{Deed}
use Rattle.fl_crew_model.specs.declared.record.Entry.{Entry}
use Rattle.fl_crew_model.specs.declared.record.FailedOrder.{FailedOrder}
use Rattle.fl_crew_model.specs.Compared.{AgreesUpTo, Agrees, Rise, decisions_of}
use Rattle.fl_crew_model.proofs.Fronts.{agree_once}
use Rattle.fl_ops.specs.declared.op.Op.{Op}
use Rattle.fl_replica.specs.Boards.{Front}
use Rattle.fl_worker.specs.declared.worker.Worker.{Worker}
use Rattle.fl_settling.specs.Cut.{given_up_from}
use Rattle.fl_settling.specs.Settled.{IsElsewhere, IsFine, IsFront, Meets}
use Rattle.fl_settling.specs.parts.Compared.{IsWhole}
use Rattle.fl_settling.proofs.Entries.{none_cut}

pub none_left : (need good n last : ℕ) (ds left : List Decision) (es read : List Entry) → read ≡ es
    → good ≡ length es → good ≤ n → AgreesUpTo need ds (take n (take good read)) last left
    → (end : ℕ) × Agrees need ds es end → left ≡ []
none_left need good n last ds left es read same all more found (end, agrees) =
    let whole : length es ≤ good = omega arith in
    let longer : length es ≤ n = omega arith in
    let front : take n (take good read) ≡ es =
    ap (λ l. take n (take good l)) same
    ∙ (ap (take n) (take_all good es whole) ∙ take_all n es longer) in
    agree_once need last end ds left [] es
    (subst (λ (l : List Entry). AgreesUpTo need ds l last left) front found) agrees

module _ (n good : ℕ) (read es : List Entry) (same : read ≡ es) (fits : n ≤ good) where
  -- of the first so many the first ones are the first of all
  pub front_same : take n (take good read) ≡ take n es
  front_same = ap (λ l. take n (take good l)) same ∙ take-take n good es fits

  pub front_fits : good ≤ length es → n ≤ length (take good read)
  front_fits all =
      let count = ap length same in
      omega (arith, count, length-take good read)

-- ---- a worker of which all stands

meets_none : (failed : Option FailedOrder) (w last : ℕ) → Meets failed w last []
    → IsElsewhere failed w
meets_none None w last meets = tt
meets_none (Some order) w last meets = meets

module _ (first last front : ℕ) (deeds : List Deed) (w : Worker)
    (is_front : IsFront first deeds w front last) where
  -- what agrees with the record are all of its entries
  pub whole_front : IsWhole first deeds w → front ≡ w.good
  whole_front whole =
      let (end, agrees) = whole.agrees in
      let all : length w.entries.items ≤ w.good = omega (arith, whole.all) in
      let up =
      is_front.most w.good (omega arith) (
        end,
        [],
        subst (λ (l : List Entry). AgreesUpTo first (decisions_of w.number deeds) l end [])
            (sym (take_all w.good w.entries.items all)) agrees,
      ) in
      omega (arith, up, is_front.fits)

module _ (first last front : ℕ) (list : List Op) (deeds : List Deed) (failed : Option FailedOrder)
    (old : Worker) (desk : Front) (new : Worker)
    (is_front : IsFront first deeds (record old { desk = desk }) front last)
    (number : new.number ≡ old.number)
    (entries : new.entries.items ≡ given_up_from failed old.number front old.entries.items)
    (good : new.good ≡ front) where
  pub whole_fine : new.desk.list ≡ list
      → Meets failed old.number last (drop front old.entries.items)
      → IsWhole first deeds (record old { desk = desk })
      → IsFine first list deeds failed old new
  whole_fine caught meets whole =
      let same = whole_front first last front deeds (record old { desk = desk }) is_front whole in
      let all : length old.entries.items ≤ front = omega (arith, same, whole.all) in
      let kept = entries ∙ none_cut failed old.number front old.entries.items all in
      let (end, agrees) = whole.agrees in
      record {
        desk = caught;
        good = good ∙ same;
        entries = kept;
        all = good ∙ (same ∙ (whole.all ∙ sym (ap length kept)));
        agrees = (
          end,
          subst (λ (k : ℕ). Agrees first (decisions_of k deeds) new.entries.items end)
              (sym number)
              (subst (λ (l : List Entry). Agrees first (decisions_of old.number deeds) l end)
              (sym kept) agrees),
        );
        rises = subst (λ (k : ℕ). Rise (decisions_of k deeds)) (sym number) whole.rises;
        elsewhere =
            meets_none failed old.number last
            (subst (Meets failed old.number last) (drop_all front old.entries.items all) meets);
      }

  pub fine_whole : IsFine first list deeds failed old new
      → IsWhole first deeds (record old { desk = desk })
  fine_whole fine =
      let (end, agrees) = fine.agrees in
      record {
        all = sym fine.good ∙ (fine.all ∙ ap length fine.entries);
        agrees = (
          end,
          subst (λ (l : List Entry). Agrees first (decisions_of old.number deeds) l end)
              fine.entries
              (subst (λ (k : ℕ). Agrees first (decisions_of k deeds) new.entries.items end)
              number agrees),
        );
        rises = subst (λ (k : ℕ). Rise (decisions_of k deeds)) number fine.rises;
      }
