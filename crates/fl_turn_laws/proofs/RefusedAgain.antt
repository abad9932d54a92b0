-- A node that is refused over what refused openings left would be refused so over what they found.
use Rattle.std.proofs.Common.{◌≡◌, ◌<◌, ◌∙◌, inl, inr, refl, sym, ap, subst, ℕ, Bool, true, false, cond, Some, Err, arith}
use Rattle.std.specs.Cmp.{nat_cmp_total}
use Rattle.std.specs.FinMap as map
use Rattle.std.specs.Ordering.{nat_cmp, eq_by_cmp}
use Rattle.fl_labels.specs.SetBy.{In}
use Rattle.fl_labels.specs.declared.name.Name.{Name}
use Rattle.fl_store.specs.Kept.{Kept, raised}
use Rattle.fl_system.specs.declared.answer.Fault.{Fault}
use Rattle.fl_system.specs.declared.reply.Reply.TheVariants.{Refused}
use Rattle.fl_system.specs.Joins.{Joins, IsStray, joined}
use Rattle.fl_system.specs.Openings.{Opens, FailsToOpen, IsOf, opened}
use Rattle.fl_system.specs.World.{World, KeptNode}
use Rattle.fl_turn_laws.specs.Certain.{IsLeftOf}

-- whichever of two nodes that have saved the same is put there, the same is saved under each number
module _ (m : map.FinMap nat_cmp KeptNode) (number : ℕ) (x y : KeptNode) (same : y.node.saved ≡ x.node.saved) where
  there_by : (q : ℕ) (s : KeptNode) (b : Bool) → cond b (Some x) (map.get m q) ≡ Some s
      → (t : KeptNode) × (cond b (Some y) (map.get m q) ≡ Some t) × (t.node.saved ≡ s.node.saved)
  there_by q s true e =
      let is : x ≡ s = cc e in
      (y, refl, same ∙ ap (λ (z : KeptNode). z.node.saved) is)
  there_by q s false e = (s, e, refl)

  there : (q : ℕ) (s : KeptNode) → map.get (map.insert m number x) q ≡ Some s
      → (t : KeptNode) × (map.get (map.insert m number y) q ≡ Some t) × (t.node.saved ≡ s.node.saved)
  there q s e =
      let found = there_by q s (eq_by_cmp nat_cmp q number) (sym (map.get-insert nat_cmp_total m number x q) ∙ e) in
      (found.0, map.get-insert nat_cmp_total m number y q ∙ found.1, found.2)

module _ (w : World) (number : ℕ) where
  -- the newcomer
  abbrev comer : Kept → KeptNode
  comer k = record { node = opened w.desks k; kept = raised k }

  stray : (k other : Kept) → k.saved ≡ other.saved → (name : Name) → IsStray (joined w number other) name
      → IsStray (joined w number k) name
  stray k other same name h =
      let put = there w.nodes number (comer other) (comer k) same in
      let source = put h.in_world.0 h.in_world.1 h.in_world.2 in
      let owner = put h.op.name.node h.owner h.there in
      record {
        op = h.op;
        op_name = h.op_name;
        in_world = (h.in_world.0, source.0, source.1, subst (λ saved. In saved h.op) (sym source.2) h.in_world.3);
        owner = owner.0;
        there = owner.1;
        unknown = λ i. h.unknown (subst (λ saved. In saved h.op) owner.2 i);
      }

  module _ (k : Kept) (boot : ℕ) (more : k.boot < boot) (left : boot < 4294967295) where
    fails_before : {fault : Fault} → FailsToOpen (IsOf number) (record k { boot = boot }) fault → FailsToOpen (IsOf number) k fault
    fails_before FailsToOpen.no_room = FailsToOpen.no_room
    fails_before FailsToOpen.keeper_failed = FailsToOpen.keeper_failed
    fails_before (FailsToOpen.other not_own) = FailsToOpen.other not_own

    opening_before : {fault : Fault} {after : Kept} → Opens w.desks (IsOf number) (record k { boot = boot }) (Err fault) after
        → Opens w.desks (IsOf number) k (Err fault) k
    opening_before (Opens.spent own all) = absurd (omega (arith, all, left))
    opening_before (Opens.refused why after) = Opens.refused (fails_before why) (inl refl)

    joining_before : {fault : Fault} {a : World} → Joins w number (record k { boot = boot }) (Refused fault) a
        → Joins w number k (Refused fault) a
    joining_before (Joins.there at) = Joins.there at
    joining_before (Joins.not_opened free why) = Joins.not_opened free (opening_before why)
    joining_before (Joins.clash free is some least) = Joins.clash free is (omega (arith, more, left)) least
    joining_before (Joins.impostor free is some none least) = Joins.impostor free is (omega (arith, more, left)) none (record {
      holds = stray k (record k { boot = boot }) refl _ least.holds;
      least = λ name h. least.least name (stray (record k { boot = boot }) k refl name h);
    })

pub refused_before : {w a : World} {number : ℕ} {k left : Kept} {fault : Fault} → IsLeftOf k left
    → Joins w number left (Refused fault) a → Joins w number k (Refused fault) a
refused_before {w} {a} {number} {fault} (inl same) h = subst (λ x. Joins w number x (Refused fault) a) same h
refused_before {w} {a} {number} {k} {fault} (inr (boot, more, left, same)) h =
    joining_before w number k boot more left (subst (λ x. Joins w number x (Refused fault) a) same h)
