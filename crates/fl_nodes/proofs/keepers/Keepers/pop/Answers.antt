use Rattle.std.proofs.Common.{◌≡◌, ◌<◌, ◌∙◌, refl, sym, ap, subst, Some}
use Rattle.std.specs.FinMap as map
use Rattle.std.specs.FinMap.{nat_cmp-IsAntisymmetric}
use Rattle.std.specs.Option.{option_map}
use Rattle.std.proofs.lemmas.Cmp.{nat_cmp_total}
use Rattle.fl_mailbox.specs.laws.Tables.{get_held, one_gone}
use Rattle.fl_nodes.proofs.Popping.{fewer_left}
use Rattle.fl_nodes.proofs.keepers.Keepers.pop.Goals as goal

pub returns-clause-some : goal.returns-clause-some
returns-clause-some g c =
    let at = sym (get_held nat_cmp_total nat_cmp-IsAntisymmetric c.self.inside.all.entries _ c.in_ok-number.number c.self.view_is)
    ∙ c.in_ok-number.ensures.value in
    record {
      kept = ap (option_map (λ n. n.keeper)) at ∙ ap Some (sym c.into_keeper.ensures);
      left = one_gone nat_cmp_total nat_cmp-IsAntisymmetric c.self.inside.all.entries c.pop_first.new.self.entries _ _
          c.self.view_is c.in_ok-number.ensures.updates.0;
    }

pub returns-clause-fewer : goal.returns-clause-fewer
returns-clause-fewer g c =
    let at = sym (get_held nat_cmp_total nat_cmp-IsAntisymmetric c.self.inside.all.entries _ c.in_ok-number.number c.self.view_is)
    ∙ c.in_ok-number.ensures.value in
    let left = one_gone nat_cmp_total nat_cmp-IsAntisymmetric c.self.inside.all.entries c.pop_first.new.self.entries _ _
    c.self.view_is c.in_ok-number.ensures.updates.0 in
    subst (λ m. map.len m < map.len c.args.self.now) (sym left) (fewer_left c.args.self.now c.in_ok-number.number _ at)
