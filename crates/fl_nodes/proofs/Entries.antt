-- The nodes of a world by the entries that hold them.
use Rattle.std.proofs.Common.{◌≡◌, ◌∙◌, sym, ap, ℕ, List, [], ◌++◌, Some}
use Rattle.std.proofs.lemmas.List.{append-nil}
use Rattle.std.specs.BTreeMap.{is_at}
use Rattle.std.specs.FinMap as map
use Rattle.std.specs.FinMap.{nat_cmp-IsAntisymmetric}
use Rattle.std.specs.Map.{lookup, set_value}
use Rattle.std.specs.Ordering.{nat_cmp}
use Rattle.std.proofs.lemmas.Cmp.{nat_cmp_total}
use Rattle.fl_mailbox.specs.laws.Tables.{get_held, put_through}
use Rattle.fl_system.specs.declared.admission.Admission.{Admission}
use Rattle.fl_system.specs.declared.sent.Sent.{Sent}
use Rattle.fl_node.specs.Over.{NodeOver}
use Rattle.fl_nodes.specs.Over.{WorldOver}
use Rattle.fl_nodes.proofs.Lifting.{over_went}

abbrev pub of_entries : {K : Type 0} → ℕ → List (ℕ × NodeOver K) → List Sent → List Admission → WorldOver K
of_entries desks es packets audit = record { desks = desks; nodes = map.from_entries es; packets = packets; audit = audit }

module _ {K : Type 0} {desks : ℕ} (es fs : List (ℕ × NodeOver K)) (packets : List Sent) (audit : List Admission) (w : WorldOver K)
    (is : of_entries desks es packets audit ≡ w) where
  the_map : map.from_entries {R = nat_cmp} es ≡ w.nodes
  the_map = ap (λ (t : WorldOver K). t.nodes) is

  pub held : (number : ℕ) → lookup (is_at (nat_cmp number)) es ≡ map.get w.nodes number
  held number = get_held nat_cmp_total nat_cmp-IsAntisymmetric es w.nodes number the_map

  -- a node that is there was changed, and nothing else
  pub changed : (number : ℕ) (x y : NodeOver K) → lookup (is_at (nat_cmp number)) es ≡ Some x
      → fs ≡ set_value (is_at (nat_cmp number)) es y → of_entries desks fs packets audit ≡ over_went w number y [] []
  changed number x y there f =
      let nodes = put_through nat_cmp_total nat_cmp-IsAntisymmetric es fs w.nodes number x y the_map there f in
      let same_packets : packets ≡ w.packets ++ [] = ap (λ (t : WorldOver K). t.packets) is ∙ sym (append-nil w.packets) in
      let same_audit : audit ≡ w.audit ++ [] = ap (λ (t : WorldOver K). t.audit) is ∙ sym (append-nil w.audit) in
      λ i. record { desks = (ap (λ (t : WorldOver K). t.desks) is) i; nodes = nodes i; packets = same_packets i; audit = same_audit i }

  -- nothing was changed
  pub unchanged : fs ≡ es → of_entries desks fs packets audit ≡ w
  unchanged same = ap (λ (l : List (ℕ × NodeOver K)). of_entries desks l packets audit) same ∙ is
