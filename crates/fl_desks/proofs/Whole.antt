-- What a desk says of the whole list.
use Rattle.std.proofs.Common.{◌≡◌, ◌≤◌, ◌<◌, ◌-◌, ◌∙◌, sym, ap, subst, arith, ℕ, List, length, get_or, take, Some, Result, Ok, Err, OnErr}
use Rattle.std.proofs.Math.Seq.{take-length}
use Rattle.std.proofs.lemmas.List.{length-take-le}
use Rattle.fl_ops.specs.declared.op.Op.{Op}
use Rattle.fl_system.specs.Numbered.{item_at}
use Rattle.fl_desks.specs.declared.desk.Desk.{Desk}
use Rattle.fl_desks.specs.Listing.{HasSeen, IsBehind}
use Rattle.fl_desks.specs.parts.Fronts.{IsFront, IsListing, views_of}
use Rattle.fl_desks.proofs.Views.{front_at, get_views, item_is, place_of_desk, seen_at, views_length}

pub on_err : {T E P : Type 0} (r : Result T E) → P → OnErr r P
on_err (Ok x) p = tt
on_err (Err e) p = p

-- the desk of this number stands at this place
module _ (list : List Op) (desks : List Desk) (desk : ℕ) (d : Desk) (some : 0 < desk)
    (less : desk - 1 < length desks) (is : d ≡ get_or desks (desk - 1) d)
    (listing : IsListing list desks) where
  front : IsFront list d
  front = front_at list desks (desk - 1) d less is listing.fronts

  -- it has seen what it says
  says : item_at (views_of desks) desk ≡ Some d.seen
  says =
      let inside : desk - 1 < length (views_of desks) = subst (λ n. desk - 1 < n) (sym (views_length desks)) less in
      ap (item_at (views_of desks)) (place_of_desk desk some)
      ∙ item_is (views_of desks) (desk - 1) d.seen inside
      ∙ ap (λ n. Some n) (get_views desks (desk - 1) d ∙ ap (λ (x : Desk). x.seen) (sym is))

  module _ (seen : ℕ) (counts : seen ≡ length d.list) where
    counted : seen ≡ d.seen
    counted = counts ∙ ap length front.front ∙ length-take-le d.seen list front.within

    pub is_behind : seen < length list
        → IsBehind (record { published = list; views = views_of desks }) desk
    is_behind fewer = (d.seen, says, omega (arith, fewer, counted))

    pub sees_all : length list ≤ seen
        → HasSeen (record { published = list; views = views_of desks }) desk (length list)
    sees_all enough =
        let all : d.seen ≡ length list = omega (arith, enough, counted, front.within) in
        says ∙ ap (λ n. Some n) all

  -- a desk that has seen the whole list has all of it
  pub whole : HasSeen (record { published = list; views = views_of desks }) desk (length list)
      → d.list ≡ list
  whole seen =
      let at = subst (λ n. item_at (views_of desks) n ≡ Some (length list)) (place_of_desk desk some) seen in
      front.front ∙ ap (λ n. take n list) (seen_at desks (desk - 1) d (length list) less is at) ∙ take-length list
