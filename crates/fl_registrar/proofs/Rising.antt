-- The places of a worker's decisions rise, with each that is put behind the others.
use Rattle.std.proofs.Common.{◌≡◌, ◌≢◌, ◌⊎◌, ◌↔◌, inl, inr, ◌<◌, ℕ, true, false, cond, List, [], ◌∷◌}
use Rattle.std.proofs.Common.{◌++◌, ◌∙◌, Bool, eqb, refl, ap, sym, subst}
use Rattle.std.proofs.lemmas.Bool.Decides.{eqb_tells}
use Rattle.fl_crew_model.specs.declared.record.Decision.{Decision}
use Rattle.fl_crew_model.specs.declared.record.Delivery.{Delivery}
use Rattle.fl_crew_model.specs.declared.record.Deed.{Deed}
use Rattle.fl_crew_model.specs.declared.record.Deed.TheVariants.{Decided, Delivered}
use Rattle.fl_crew_model.specs.Compared.{IsLater, Rise, EndBefore, decisions_of}

-- ---- a list of decisions

pub end_of : (ds : List Decision) (d : Decision) (place : ℕ)
    → EndBefore (ds ++ d ∷ []) place ↔ (d.place < place)
end_of [] d place = (λ h. h, λ h. h)
end_of (x ∷ []) d place = (λ h. h, λ h. h)
end_of (x ∷ y ∷ ds) d place = end_of (y ∷ ds) d place

rise_more : (ds : List Decision) (d : Decision) → Rise ds → EndBefore ds d.place
    → Rise (ds ++ d ∷ [])
rise_more [] d up before = (tt, tt)
rise_more (x ∷ []) d up before = (before, (tt, tt))
rise_more (x ∷ y ∷ ds) d up before = (up.0, rise_more (y ∷ ds) d up.1 before)

-- ---- the decisions of one worker in a record

-- one more, if it is on an order of this worker
pub of_one_more : (w : ℕ) (deeds : List Deed) (d : Decision) → d.worker ≡ w
    → decisions_of w (deeds ++ Decided d ∷ []) ≡ decisions_of w deeds ++ d ∷ []
of_one_more w [] d is =
    by (eqb_tells d.worker w)
  where
    by : ((eqb d.worker w ≡ true) × (d.worker ≡ w)) ⊎ ((eqb d.worker w ≡ false) × (d.worker ≢ w))
        → cond (eqb d.worker w) (d ∷ []) [] ≡ d ∷ []
    by (inl same) = ap (λ t. cond t (d ∷ []) []) same.0
    by (inr other) = absurd (other.1 is)
of_one_more w (Delivered p ∷ deeds) d is = of_one_more w deeds d is
of_one_more w (Decided x ∷ deeds) d is = by (eqb x.worker w) (of_one_more w deeds d is)
  where
    by : (t : Bool) → decisions_of w (deeds ++ Decided d ∷ []) ≡ decisions_of w deeds ++ d ∷ []
        → cond t (x ∷ decisions_of w (deeds ++ Decided d ∷ []))
        (decisions_of w (deeds ++ Decided d ∷ []))
        ≡ cond t (x ∷ decisions_of w deeds) (decisions_of w deeds) ++ d ∷ []
    by true rest = ap (λ l. x ∷ l) rest
    by false rest = rest

pub of_another : (w : ℕ) (deeds : List Deed) (d : Decision) → d.worker ≢ w
    → decisions_of w (deeds ++ Decided d ∷ []) ≡ decisions_of w deeds
of_another w [] d other = by (eqb_tells d.worker w)
  where
    by : ((eqb d.worker w ≡ true) × (d.worker ≡ w)) ⊎ ((eqb d.worker w ≡ false) × (d.worker ≢ w))
        → cond (eqb d.worker w) (d ∷ []) [] ≡ []
    by (inl same) = absurd (other same.1)
    by (inr other) = ap (λ t. cond t (d ∷ []) []) other.0
of_another w (Delivered p ∷ deeds) d other = of_another w deeds d other
of_another w (Decided x ∷ deeds) d other =
    ap (λ l. cond (eqb x.worker w) (x ∷ l) l) (of_another w deeds d other)

pub of_packet : (w : ℕ) (deeds : List Deed) (p : Delivery)
    → decisions_of w (deeds ++ Delivered p ∷ []) ≡ decisions_of w deeds
of_packet w [] p = refl
of_packet w (Delivered q ∷ deeds) p = of_packet w deeds p
of_packet w (Decided x ∷ deeds) p =
    ap (λ l. cond (eqb x.worker w) (x ∷ l) l) (of_packet w deeds p)

-- ---- a record with one more row

pub decided_rises : (old new : List Deed) (d : Decision) → new ≡ old ++ Decided d ∷ []
    → EndBefore (decisions_of d.worker old) d.place → (w : ℕ) → Rise (decisions_of w old)
    → Rise (decisions_of w new)
decided_rises old new d is before w up = by (eqb_tells d.worker w)
  where
    by : ((eqb d.worker w ≡ true) × (d.worker ≡ w)) ⊎ ((eqb d.worker w ≡ false) × (d.worker ≢ w))
        → Rise (decisions_of w new)
    by (inl same) =
        subst (λ (ds : List Deed). Rise (decisions_of w ds)) (sym is)
        (subst (λ (ds : List Decision). Rise ds) (sym (of_one_more w old d same.1))
        (rise_more (decisions_of w old) d up
        (subst (λ (v : ℕ). EndBefore (decisions_of v old) d.place) same.1 before)))
    by (inr other) =
        subst (λ (ds : List Deed). Rise (decisions_of w ds)) (sym is)
        (subst (λ (ds : List Decision). Rise ds) (sym (of_another w old d other.1)) up)

pub delivered_rises : (old new : List Deed) (p : Delivery) → new ≡ old ++ Delivered p ∷ []
    → (w : ℕ) → Rise (decisions_of w old) → Rise (decisions_of w new)
delivered_rises old new p is w up =
    subst (λ (ds : List Deed). Rise (decisions_of w ds)) (sym is)
    (subst (λ (ds : List Decision). Rise ds) (sym (of_packet w old p)) up)

-- ---- the last row of a record

pub last_of : (w : ℕ) (deeds rest front : List Deed) (deed : Deed) (d : Decision)
    → decisions_of w rest ≡ decisions_of w deeds → rest ≡ front ++ deed ∷ [] → deed ≡ Decided d
    → d.worker ≡ w → (place : ℕ) → EndBefore (decisions_of w deeds) place ↔ (d.place < place)
last_of w deeds rest front deed d same split is its place =
    subst (λ (ds : List Decision). EndBefore ds place ↔ (d.place < place))
    (sym (of_one_more w front d its)
    ∙ (ap (λ (x : Deed). decisions_of w (front ++ x ∷ [])) (sym is)
    ∙ (ap (decisions_of w) (sym split) ∙ same)))
    (end_of (decisions_of w front) d place)

pub before_another : (w : ℕ) (deeds rest front : List Deed) (deed : Deed) (d : Decision)
    → decisions_of w rest ≡ decisions_of w deeds → rest ≡ front ++ deed ∷ [] → deed ≡ Decided d
    → d.worker ≢ w → decisions_of w front ≡ decisions_of w deeds
before_another w deeds rest front deed d same split is other =
    sym (of_another w front d other)
    ∙ (ap (λ (x : Deed). decisions_of w (front ++ x ∷ [])) (sym is)
    ∙ (ap (decisions_of w) (sym split) ∙ same))

pub before_packet : (w : ℕ) (deeds rest front : List Deed) (deed : Deed) (p : Delivery)
    → decisions_of w rest ≡ decisions_of w deeds → rest ≡ front ++ deed ∷ [] → deed ≡ Delivered p
    → decisions_of w front ≡ decisions_of w deeds
before_packet w deeds rest front deed p same split is =
    sym (of_packet w front p)
    ∙ (ap (λ (x : Deed). decisions_of w (front ++ x ∷ [])) (sym is)
    ∙ (ap (decisions_of w) (sym split) ∙ same))
