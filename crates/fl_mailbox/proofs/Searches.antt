-- What a search along the open endpoints says of their table.
use Rattle.std.proofs.Common.{◌≡◌, ◌↔◌, ◌⊎◌, inl, inr, Bool, true, false, cond, T, ◌&&◌, List, [], ◌∷◌, refl, sym, ap, subst, ◌∙◌, Option, Some, None, MatchOption, Less, Equal}
use Rattle.std.specs.Cmp.{Equal-is, eq_by_cmp_equiv, tied_itself}
use Rattle.std.specs.FinMap as map
use Rattle.std.specs.FinMap.{find, is_sorted, get-entries, entries_sorted}
use Rattle.std.specs.FinMap.Entries.{below_all}
use Rattle.std.specs.Ordering.{eq_by_cmp, is_eq, is_gt, is_lt, ordering_then}
use Rattle.std.specs.declared.cmp.Ordering.{Ordering}
use Rattle.std.specs.declared.cmp.Ordering.TheVariants.{Greater}
use Rattle.fl_labels.specs.Endpoint.{endpoint_cmp, endpoint_total, endpoint_exact}
use Rattle.fl_labels.specs.Found.{Found, FoundAs, Within, IsLeastOutside}
use Rattle.fl_labels.specs.Name.{name_cmp}
use Rattle.fl_labels.specs.declared.cap.Cap.{Cap}
use Rattle.fl_labels.specs.declared.endpoint.Endpoint.{Endpoint}
use Rattle.fl_labels.specs.declared.name.Name.{Name}
use Rattle.fl_labels.specs.laws.Searches.{found_as}
use Rattle.fl_rules.specs.declared.labels.Labels.{Labels}
use Rattle.fl_rules.specs.Endpoint.{Crosses, SafeEndpoint}
use Rattle.fl_rules.specs.laws.Endpoints.{safe_crosses}
use Rattle.fl_labels.specs.Caps.{Caps, Dual}
use Rattle.fl_labels.specs.laws.Duals.{dual_same}
use Rattle.fl_mailbox.specs.Endpoints.{Table}
use Rattle.fl_mailbox.specs.Offenders.{offender_cmp, CrossesAt, DualAt}
use Rattle.fl_mailbox.specs.declared.endpoints.OpenEndpoint.{OpenEndpoint}
use Rattle.fl_mailbox.specs.declared.offender.Offender.{Offender}
use Rattle.fl_mailbox.proofs.Opens.{same_some}

left : (a b : Bool) → T (a && b) → T a
left true b h = tt
left false b h = absurd h

right : (a b : Bool) → T (a && b) → T b
right true b h = h
right false b h = absurd h

less : (r : Ordering) → T (is_lt r) → r ≡ Less
less Less h = refl
less Equal h = absurd h
less Greater h = absurd h

-- what is found behind a key that is below all comes after that key
above : (e q : Endpoint) (es : List (Endpoint × OpenEndpoint)) (opened : OpenEndpoint) → T (below_all endpoint_cmp e es)
    → find endpoint_cmp q es ≡ Some opened → endpoint_cmp e q ≡ Less
above e q [] opened up is = absurd (cc)
above e q (f ∷ es) opened up is = go (eq_by_cmp endpoint_cmp q f.0) refl (above e q es opened (right _ _ up)) is
  where
    go : (b : Bool) → eq_by_cmp endpoint_cmp q f.0 ≡ b
        → (find endpoint_cmp q es ≡ Some opened → endpoint_cmp e q ≡ Less)
        → cond b (Some f.1) (find endpoint_cmp q es) ≡ Some opened → endpoint_cmp e q ≡ Less
    go true same rest is =
        ap (endpoint_cmp e) (endpoint_exact q f.0 ((Equal-is (endpoint_cmp q f.0)).0 same)) ∙ less _ (left _ _ up)
    go false other rest is = rest is

module _ (E : Caps) (process : Labels) where
  -- the tags that an open endpoint loses or gains
  abbrev pub CrossesBy : OpenEndpoint → Name → Type 0
  CrossesBy opened = Crosses opened.mode process opened.labels

  -- the entry is not safe, by this tag at the least
  abbrev pub Stops : Endpoint × OpenEndpoint → Offender → Type 0
  Stops e x = (x.endpoint ≡ e.0) × IsLeastOutside name_cmp (CrossesBy e.1) (Dual E) x.tag

  -- the first of these entries that is not safe
  abbrev pub FirstOf : List (Endpoint × OpenEndpoint) → Option Offender → Type 0
  FirstOf [] r = r ≡ None
  FirstOf (e ∷ es) r = ((x : Offender) × (r ≡ Some x) × Stops e x) ⊎ (Within (CrossesBy e.1) (Dual E) × FirstOf es r)

  -- the tag is lost or gained at one of these entries
  abbrev In : List (Endpoint × OpenEndpoint) → Offender → Type 0
  In es x = (opened : OpenEndpoint) × (find endpoint_cmp x.endpoint es ≡ Some opened) × CrossesBy opened x.tag

  by_place : {P : Type 0} (e : Endpoint × OpenEndpoint) (es : List (Endpoint × OpenEndpoint)) (x : Offender)
      → In (e ∷ es) x → (x.endpoint ≡ e.0 → CrossesBy e.1 x.tag → P) → (In es x → P) → P
  by_place {P} e es x p first later = go (eq_by_cmp endpoint_cmp x.endpoint e.0) refl p.1
    where
      go : (b : Bool) → eq_by_cmp endpoint_cmp x.endpoint e.0 ≡ b
          → cond b (Some e.1) (find endpoint_cmp x.endpoint es) ≡ Some p.0 → P
      go true same is =
          first (endpoint_exact x.endpoint e.0 ((Equal-is (endpoint_cmp x.endpoint e.0)).0 same)) (subst (λ o. CrossesBy o x.tag) (sym (same_some e.1 p.0 is)) p.2)
      go false other is = later (p.0, is, p.2)

  here : (e : Endpoint × OpenEndpoint) (es : List (Endpoint × OpenEndpoint)) (x : Offender) → x.endpoint ≡ e.0
      → CrossesBy e.1 x.tag → In (e ∷ es) x
  here e es x at p =
      (e.1, ap (λ r. cond (is_eq r) (Some e.1) (find endpoint_cmp x.endpoint es)) (ap (endpoint_cmp x.endpoint) (sym at) ∙ tied_itself endpoint_total x.endpoint), p)

  later : (e : Endpoint × OpenEndpoint) (es : List (Endpoint × OpenEndpoint)) (x : Offender)
      → T (below_all endpoint_cmp e.0 es) → In es x → In (e ∷ es) x
  later e es x up p =
      let apart : eq_by_cmp endpoint_cmp x.endpoint e.0 ≡ false = (eq_by_cmp_equiv endpoint_total).symm x.endpoint e.0 ∙ ap is_eq (above e.0 x.endpoint es p.0 up p.1) in
      (p.0, ap (λ b. cond b (Some e.1) (find endpoint_cmp x.endpoint es)) apart ∙ p.1, p.2)

  searched : (es : List (Endpoint × OpenEndpoint)) (r : Option Offender) → T (is_sorted endpoint_cmp es) → FirstOf es r
      → FoundAs offender_cmp (In es) (DualAt E) r
  searched [] None up h = λ x p. absurd (none_is_some p.0 p.1)
    where
      none_is_some : (opened : OpenEndpoint) → None ≡ Some opened → ⊥
      none_is_some opened e = cc
  searched [] (Some x) up h = absurd (cc)
  searched (e ∷ es) r up (inl h) = subst (FoundAs offender_cmp (In (e ∷ es)) (DualAt E)) (sym h.1) (record {
    member = here e es h.0 h.2.0 h.2.1.member;
    lacking = h.2.1.lacking;
    least = λ y p q. by_place e es y p
        (λ at crosses. ap is_gt (ap (λ r. ordering_then r (name_cmp h.0.tag y.tag)) (ap (endpoint_cmp h.0.endpoint) (at ∙ sym h.2.0) ∙ tied_itself endpoint_total h.0.endpoint)) ∙ h.2.1.least y.tag crosses q)
        (λ p. ap (λ r. is_gt (ordering_then r (name_cmp h.0.tag y.tag))) (ap (λ k. endpoint_cmp k y.endpoint) h.2.0 ∙ above e.0 y.endpoint es p.0 (left _ _ up) p.1));
  })
  searched (e ∷ es) None up (inr h) =
      λ x p. by_place e es x p (λ at crosses. h.0 x.tag crosses) (λ p. searched es None (right _ _ up) h.1 x p)
  searched (e ∷ es) (Some k) up (inr h) =
      let rest = searched es (Some k) (right _ _ up) h.1 in
      record {
        member = later e es k (left _ _ up) rest.member;
        lacking = rest.lacking;
        least = λ y p q. by_place e es y p (λ at crosses. absurd (q (h.0 y.tag crosses))) (λ p. rest.least y p q);
      }

  pub unsafe_found : (table : Table) (r : Option Offender) → FirstOf (map.entries table) r
      → MatchOption r (Within (CrossesAt process table) (DualAt E)) (IsLeastOutside offender_cmp (CrossesAt process table) (DualAt E))
  unsafe_found table r h = by_case r (found_as r
      (λ x p. (p.0, get-entries table x.endpoint ∙ p.1, p.2))
      (λ x p. (p.0, sym (get-entries table x.endpoint) ∙ p.1, p.2))
      (λ x d. d) (λ x d. d)
      (record { is = searched (map.entries table) r (entries_sorted table) h }))
    where
      by_case : (r : Option Offender) → Found offender_cmp (CrossesAt process table) (DualAt E) r
          → MatchOption r (Within (CrossesAt process table) (DualAt E)) (IsLeastOutside offender_cmp (CrossesAt process table) (DualAt E))
      by_case None found = found.is
      by_case (Some x) found = found.is

  pub at_end : (rest : List (Endpoint × OpenEndpoint)) → rest ≡ [] → FirstOf rest None
  at_end rest e = subst (λ l. FirstOf l None) (sym e) refl

  -- one step of the search, where what is in effect then is what was in effect at first
  module _ {F : Caps} (same : (cap : Cap) → F cap ↔ E cap) (entries rest : List (Endpoint × OpenEndpoint)) (endpoint : Endpoint) (opened : OpenEndpoint) (labels : Labels) (split : entries ≡ (endpoint, opened) ∷ rest) (lent : labels ≡ opened.labels) where
    pub passed_safe : SafeEndpoint F opened.mode process labels → (r : Option Offender) → FirstOf rest r
        → FirstOf entries r
    passed_safe safe r h =
        let all = safe_crosses opened.mode process opened.labels (subst (SafeEndpoint F opened.mode process) lent safe) in
        subst (λ l. FirstOf l r) (sym split) (inr (λ tag crosses. (dual_same same tag).0 (all tag crosses), h))

    pub stopped_unsafe : (tag : Name) → IsLeastOutside name_cmp (Crosses opened.mode process labels) (Dual F) tag
        → FirstOf entries (Some (record { endpoint = endpoint; tag = tag }))
    stopped_unsafe tag h =
        let least = subst (λ l. IsLeastOutside name_cmp (Crosses opened.mode process l) (Dual F) tag) lent h in
        subst (λ l. FirstOf l (Some (record { endpoint = endpoint; tag = tag }))) (sym split) (inl (
          record { endpoint = endpoint; tag = tag },
          refl,
          (
            refl,
            record {
              member = least.member;
              lacking = λ d. least.lacking ((dual_same same tag).1 d);
              least = λ y p q. least.least y p (λ d. q ((dual_same same y).0 d));
            },
          ),
        ))
