-- Searches for a tag that may not be both added and removed.
use Rattle.std.proofs.Common.{◌≡◌, List, Option, Some, None, MatchOption}
use Rattle.std.specs.Prelude.{⊤}
use Rattle.fl_labels.specs.declared.name.Name.{Name}
use Rattle.fl_labels.specs.Name.{name_cmp}
use Rattle.fl_labels.specs.NameOrder.{name_total, name_exact}
use Rattle.fl_labels.specs.SetBy.{SetBy, In, members}
use Rattle.fl_labels.specs.Found.{Found, FoundAs, Within, IsLeastOutside}
use Rattle.fl_labels.specs.parts.First.{IsFirst}
use Rattle.fl_labels.specs.laws.Searches.{found_as, searched_set}
use Rattle.fl_rules.specs.Safety.{SafeEmission}
use Rattle.fl_labels.specs.Caps.{Caps, Dual}

-- what a search finds, said of each of its answers
pub tag_match : (P Q : Name → Type 0) (r : Option Name) → FoundAs name_cmp P Q r
    → MatchOption r (Within P Q) (IsLeastOutside name_cmp P Q)
tag_match P Q None h = h
tag_match P Q (Some tag) h = h

pub emission_found : (E : Caps) (s : SetBy name_cmp) (tags : List Name) (r : Option Name) → tags ≡ members s
    → IsFirst (λ _. ⊤) (Dual E) tags r
    → MatchOption r (SafeEmission E s) (IsLeastOutside name_cmp (In s) (Dual E))
emission_found E s tags r e first =
    let found : Found name_cmp (In s) (Dual E) r = found_as r (λ t h. h.0) (λ t h. (h, tt)) (λ t d. d) (λ t d. d) (searched_set name_total name_exact (λ _. ⊤) (Dual E) s tags r e first) in
    tag_match (In s) (Dual E) r found.is
