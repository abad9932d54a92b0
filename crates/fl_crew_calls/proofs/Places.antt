-- The places of crews, by the entries of the map that has them.
use Rattle.std.proofs.Common.{◌≡◌, ◌∙◌, ℕ, List, Option, None, Some, ap, length, nat_cmp, refl, sym}
use Rattle.std.specs.FinMap as map
use Rattle.std.specs.FinMap.{nat_cmp-IsAntisymmetric}
use Rattle.std.proofs.lemmas.Cmp.{nat_cmp_total}
use Rattle.std.specs.Map.{lookup}
use Rattle.std.specs.BTreeMap.{is_at}
use Rattle.fl_mailbox.specs.laws.Tables.{get_held, nothing_held}
use Rattle.fl_workers.specs.Over.{CrewOver}
use Rattle.fl_crew_calls.specs.Over.{AreThere}

-- no place, so none is empty
pub no_place : {K : Type 0} (entries : List (ℕ × Option (CrewOver K))) → length entries ≡ 0
    → AreThere (map.from_entries {R = nat_cmp} entries)
no_place entries none number at =
    let nothing = nothing_held nat_cmp_total nat_cmp-IsAntisymmetric entries _ refl none number in
    cc (nothing, at)

-- what was found among the entries is at its place
pub at_place : {K : Type 0} (entries : List (ℕ × Option (CrewOver K)))
    {crews : map.FinMap nat_cmp (Option (CrewOver K))} → map.from_entries {R = nat_cmp} entries ≡ crews
    → (number : ℕ) (p : Option (Option (CrewOver K)))
    → p ≡ lookup (is_at (nat_cmp number)) entries → map.get crews number ≡ p
at_place entries {crews} is number p found =
    sym (get_held nat_cmp_total nat_cmp-IsAntisymmetric entries crews number is) ∙ sym found
