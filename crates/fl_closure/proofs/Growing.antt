-- What one operation more lets a group and everybody reach.
use Rattle.std.specs.Prelude.{◌≡◌, ◌⊎◌, refl}
use Rattle.std.proofs.Common.{inl, inr, sym, subst}
use Rattle.fl_labels.specs.Found.{Within}
use Rattle.fl_labels.specs.declared.name.Name.{Name}
use Rattle.fl_labels.specs.declared.cap.Cap.{Cap}
use Rattle.fl_labels.specs.declared.cap.Cap.TheVariants.{Plus, Minus, Use, Grow}
use Rattle.fl_ops.specs.Registry.{Registry, Chain, here, into}
use Rattle.fl_ops.specs.laws.Reaching.{chain_on, chain_more}
use Rattle.fl_closure.specs.declared.rows.Rows.{Rows}
use Rattle.fl_closure.specs.declared.rows.Owner.{Owner}
use Rattle.fl_closure.specs.declared.rows.Owner.TheVariants.{Everybody, Group}
use Rattle.fl_closure.specs.parts.Rows.{Holds}
use Rattle.fl_closure.specs.parts.Closed.{IsGiven, Way, AreClosed, Behind, Leads, IsUser, IsAbove, AreTransitive, Renews}

-- V has what U has, and what it gives beyond that is b to the owner
pub record GivesMore (U V : Registry) (owner : Owner) (b : Cap) : Type 0 where
  pub more : Within U V
  pub new : IsGiven V owner b
  pub only : (h : Owner) (x : Cap) → IsGiven V h x → IsGiven U h x ⊎ ((h ≡ owner) × (x ≡ b))

-- a chain leads to the use of the owner's group
abbrev LeadsTo : Registry → Cap → Owner → Type 0
LeadsTo U a (Group group) = Chain U a (Use group)
LeadsTo U a Everybody = ⊥

-- what is given leads there
abbrev WayTo : Registry → Owner → Owner → Type 0
WayTo U user (Group group) = Way U user (Use group)
WayTo U user Everybody = ⊥

step_to : {U : Registry} (owner : Owner) (h : Name) (x : Cap) → IsGiven U (Group h) x → LeadsTo U x owner → LeadsTo U (Use h) owner
step_to (Group group) h x u r = into u.1 u.2 r
step_to Everybody h x u r = absurd r

way_to : {U : Registry} (owner user : Owner) (x : Cap) → IsGiven U user x → LeadsTo U x owner → WayTo U user owner
way_to (Group group) user x u r = (x, u, r)
way_to Everybody user x u r = absurd r

module _ {U V : Registry} {owner : Owner} {b : Cap} (adds : GivesMore U V owner b) where
  -- a chain by what is new: up to its group, and on from what it gives there, without it
  grown : {a c : Cap} → Chain V a c → Chain U a c ⊎ (LeadsTo U a owner × Chain U b c)
  grown here = inl here
  grown (into {op} {group = h} {b = x} v p rest) = grown_by (adds.only (Group h) x (op, v, p)) (grown rest)
    where
      grown_by : {h : Name} {x c : Cap} → IsGiven U (Group h) x ⊎ ((Group h ≡ owner) × (x ≡ b))
          → Chain U x c ⊎ (LeadsTo U x owner × Chain U b c)
          → Chain U (Use h) c ⊎ (LeadsTo U (Use h) owner × Chain U b c)
      grown_by (inl u) (inl r) = inl (into u.1 u.2 r)
      grown_by {h} {x} (inl u) (inr r) = inr (step_to owner h x u r.0, r.1)
      grown_by {h} {x} {c} (inr e) (inl r) =
          inr (subst (LeadsTo U (Use h)) e.0 here, subst (λ a. Chain U a c) e.1 r)
      grown_by {h} (inr e) (inr r) = inr (subst (LeadsTo U (Use h)) e.0 here, r.1)

  way_by : {h : Owner} {x c : Cap} → IsGiven U h x ⊎ ((h ≡ owner) × (x ≡ b))
      → Chain U x c ⊎ (LeadsTo U x owner × Chain U b c)
      → Way U h c ⊎ (((h ≡ owner) ⊎ WayTo U h owner) × Chain U b c)
  way_by {h} {x} (inl u) (inl r) = inl (x, u, r)
  way_by {h} {x} (inl u) (inr r) = inr (inr (way_to owner h x u r.0), r.1)
  way_by {h} {x} {c} (inr e) (inl r) = inr (inl e.0, subst (λ a. Chain U a c) e.1 r)
  way_by (inr e) (inr r) = inr (inl e.0, r.1)

  way_grown : (h : Owner) (c : Cap) → Way V h c → Way U h c ⊎ (((h ≡ owner) ⊎ WayTo U h owner) × Chain U b c)
  way_grown h c w = way_by (adds.only h w.0 w.1) (grown w.2)

  way_more : (h : Owner) (c : Cap) → Way U h c → Way V h c
  way_more h c w = (w.0, (w.1.0, adds.more _ w.1.1, w.1.2), chain_more adds.more w.2)

  -- over the use of a group, by what it is given
  way_over : (o h : Owner) {c : Cap} → IsGiven V o b → WayTo U h o → Chain U b c → Way V h c
  way_over (Group group) h given w r =
      let up = way_more h (Use group) w in
      (up.0, up.1, chain_on up.2 (into given.1 given.2 (chain_more adds.more r)))
  way_over Everybody h given w r = absurd w

  way_kept : (h : Owner) (c : Cap) → Way U h c ⊎ (((h ≡ owner) ⊎ WayTo U h owner) × Chain U b c) → Way V h c
  way_kept h c (inl w) = way_more h c w
  way_kept h c (inr (inl e, r)) = subst (λ k. Way V k c) (sym e) (b, adds.new, chain_more adds.more r)
  way_kept h c (inr (inr w, r)) = way_over owner h adds.new w r

module _ {U : Registry} {rows : Rows} (closed : AreClosed U rows) where
  pub leads_chain : (root c : Cap) → Leads rows root c → Chain U root c
  leads_chain root c (inl e) = subst (λ a. Chain U root a) (sym e) here
  leads_chain (Use group) c (inr h) =
      let w = (closed.way (Group group) c).0 h in
      into w.1.1 w.1.2 w.2
  leads_chain (Plus tag) c (inr h) = absurd h
  leads_chain (Minus tag) c (inr h) = absurd h
  leads_chain (Grow group) c (inr h) = absurd h

  pub chain_leads : {root c : Cap} → Chain U root c → Leads rows root c
  chain_leads here = inl refl
  chain_leads (into {op} {group} {b} {c} u p rest) = inr ((closed.way (Group group) c).1 (b, (op, u, p), rest))

  above_way : (owner user : Owner) → IsAbove rows owner user → (user ≡ owner) ⊎ WayTo U user owner
  above_way owner user (inl e) = inl e
  above_way (Group group) user (inr h) = inr ((closed.way user (Use group)).0 h)
  above_way Everybody user (inr h) = absurd h

  way_above : (owner user : Owner) → (user ≡ owner) ⊎ WayTo U user owner → IsAbove rows owner user
  way_above owner user (inl e) = inl e
  way_above (Group group) user (inr h) = inr ((closed.way user (Use group)).1 h)
  way_above Everybody user (inr h) = absurd h

  pub are_transitive : AreTransitive rows
  are_transitive = record {
    on = λ user group c h k.
        let up = (closed.way user (Use group)).0 h in
        let on = (closed.way (Group group) c).0 k in
        (closed.way user c).1 (up.0, up.1, chain_on up.2 (into on.1.1 on.1.2 on.2));
  }

  pub renewed : {V : Registry} {owner : Owner} {b : Cap} (new : Rows) → GivesMore U V owner b → Renews rows owner b new
      → AreClosed V new
  renewed {V} {owner} {b} new adds renews = record {
    way = λ h c. (
      λ m. way_kept adds h c (elim ((renews.holds h c).0 m) [ inl k ↦ inl ((closed.way h c).0 k) | inr two ↦ inr (above_way owner h two.0, leads_chain b c two.1) ]),
      λ w. (renews.holds h c).1 (elim (way_grown adds h c w) [ inl k ↦ inl ((closed.way h c).1 k) | inr two ↦ inr (way_above owner h two.0, chain_leads two.1) ]),
    );
  }

-- what is given by V is given by U, which V has
pub same_gifts : {U V : Registry} {rows : Rows} → Within U V → ((h : Owner) (x : Cap) → IsGiven V h x → IsGiven U h x)
    → AreClosed U rows → AreClosed V rows
same_gifts {U} {V} more only closed = record {
  way = λ h c. (λ m. kept h c ((closed.way h c).0 m), λ w. (closed.way h c).1 (w.0, only h w.0 w.1, back w.2));
}
  where
    kept : (h : Owner) (c : Cap) → Way U h c → Way V h c
    kept h c w = (w.0, (w.1.0, more _ w.1.1, w.1.2), chain_more more w.2)

    back : {a c : Cap} → Chain V a c → Chain U a c
    back here = here
    back (into {op} {group = h} {b = x} v p rest) =
        let u = only (Group h) x (op, v, p) in
        into u.1 u.2 (back rest)

-- ---- rows alone

module _ (rows : Rows) (transitive : AreTransitive rows) where
  pub on_leads : (owner : Owner) (b c : Cap) → Holds rows owner b → Leads rows b c → Holds rows owner c
  on_leads owner b c h (inl e) = subst (λ x. Holds rows owner x) (sym e) h
  on_leads owner (Use k) c h (inr m) = transitive.on owner k c h m
  on_leads owner (Plus tag) c h (inr m) = absurd m
  on_leads owner (Minus tag) c h (inr m) = absurd m
  on_leads owner (Grow k) c h (inr m) = absurd m

  pub on_above : (owner user : Owner) (c : Cap) → IsAbove rows owner user → Holds rows owner c → Holds rows user c
  on_above owner user c (inl e) h = subst (λ k. Holds rows k c) (sym e) h
  on_above (Group group) user c (inr m) h = transitive.on user group c m h
  on_above Everybody user c (inr m) h = absurd m

  -- what the owner has already
  pub renews_none : (owner : Owner) (b : Cap) → Holds rows owner b → Renews rows owner b rows
  renews_none owner b there = record {
    holds = λ user c. (λ h. inl h, λ h. elim h [ inl m ↦ m | inr two ↦ on_above owner user c two.0 (on_leads owner b c there two.1) ]);
  }

  -- over a user of the owner's group
  over : (owner user : Owner) (k : Name) → Holds rows user (Use k) → IsUser rows owner (Group k) → IsUser rows owner user
  over (Group group) user k h m = transitive.on user k (Use group) h m
  over Everybody user k h m = m

  pub transitive_after : (new : Rows) (owner : Owner) (b : Cap) → Renews rows owner b new → AreTransitive new
  transitive_after new owner b renews = record {
    on = λ user k c h m. (renews.holds user c).1 (go user k c ((renews.holds user (Use k)).0 h) ((renews.holds (Group k) c).0 m));
  }
    where
      More : Owner → Cap → Type 0
      More user c = Holds rows user c ⊎ (IsAbove rows owner user × Leads rows b c)

      up : (user : Owner) (k : Name) → Holds rows user (Use k) → IsAbove rows owner (Group k) → IsAbove rows owner user
      up user k h (inl e) = inr (subst (λ o. IsUser rows o user) e h)
      up user k h (inr m) = inr (over owner user k h m)

      led : (k : Name) (c : Cap) → Leads rows b (Use k) → Holds rows (Group k) c → Leads rows b c
      led k c (inl e) m = subst (λ r. Leads rows r c) e (inr m)
      led k c (inr h) m = inr (behind b k c h m)
        where
          behind : (b : Cap) (k : Name) (c : Cap) → Behind rows b (Use k) → Holds rows (Group k) c → Behind rows b c
          behind (Use j) k c h m = transitive.on (Group j) k c h m
          behind (Plus tag) k c h m = absurd h
          behind (Minus tag) k c h m = absurd h
          behind (Grow j) k c h m = absurd h

      go : (user : Owner) (k : Name) (c : Cap) → More user (Use k) → More (Group k) c → More user c
      go user k c (inl h) (inl m) = inl (transitive.on user k c h m)
      go user k c (inl h) (inr two) = inr (up user k h two.0, two.1)
      go user k c (inr one) (inl m) = inr (one.0, led k c one.1 m)
      go user k c (inr one) (inr two) = inr (one.0, two.1)
