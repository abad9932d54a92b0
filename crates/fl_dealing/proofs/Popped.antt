-- The last answer of an owner is taken, or there is none.
use Rattle.std.proofs.Common.{◌≡◌, ◌≢◌, ℕ, zero, suc, ◌<◌, ◌≤◌, List, [], ◌∷◌, ◌++◌, All, map, length, get_or, set, vec_len, refl, sym, ◌∙◌, ap, arith, get_or-set_same, get_or-set_other}
use Rattle.std.proofs.lemmas.List.{get_or-map, map-set, map-append, length-map, get_or_past, nil_from_length}
use Rattle.fl_crew_model.specs.declared.record.Entry as told_entry
use Rattle.fl_dealing.specs.declared.entry.Entry.{Entry}
use Rattle.fl_dealing.specs.declared.entry.Taken.{Taken}
use Rattle.fl_dealing.specs.declared.gathering.Lane.{Lane}
use Rattle.fl_dealing.specs.Shown.{shown, shown_taken}
use Rattle.fl_dealing.specs.Gathered.{said_by}

abbrev told : Lane → List Entry
told lane = map shown lane.entries.items

-- what is said by the worker with a lane that there is, and by one with none
pub said_within : (lanes : List Lane) (taken : List Taken) (i : ℕ) (lane : Lane)
    → i < length lanes → said_by lanes taken (suc i) ≡ told (get_or lanes i lane)
said_within lanes taken i lane h = get_or-map told lanes i lane [] h

pub said_past : (lanes : List Lane) (taken : List Taken) (i : ℕ) → length lanes ≤ i
    → said_by lanes taken (suc i) ≡ []
said_past lanes taken i h =
    get_or_past (map told lanes) i [] (omega (arith, length-map lanes told))

module _ (lanes : List Lane) (taken : List Taken) (i : ℕ) (lane left : Lane)
    (e : told_entry.Entry) (within : i < length lanes) (is : lane ≡ get_or lanes i lane)
    (ends : lane.entries.items ≡ left.entries.items ++ e ∷ []) where
  left_said : said_by (set lanes i left) taken (suc i) ≡ told left
  left_said =
      let inside : i < length (map told lanes) = omega (arith, length-map lanes told) in
      ap (λ l. get_or l i []) (map-set told lanes i left)
      ∙ get_or-set_same (map told lanes) i (told left) [] inside

  pub popped_last : said_by lanes taken (suc i)
      ≡ said_by (set lanes i left) taken (suc i) ++ shown e ∷ []
  popped_last = said_within lanes taken i lane within ∙ ap told (sym is) ∙ ap (map shown) ends
      ∙ map-append shown left.entries.items (e ∷ []) ∙ ap (λ l. l ++ shown e ∷ []) (sym left_said)

  pub popped_others : (v : ℕ) → v ≢ suc i
      → said_by (set lanes i left) taken v ≡ said_by lanes taken v
  popped_others zero ne = refl
  popped_others (suc k) ne =
      let other : k ≢ i = omega arith in
      ap (λ l. get_or l k []) (map-set told lanes i left)
      ∙ get_or-set_other (map told lanes) i k (told left) [] other

empty_lanes : (lanes : List Lane) → All (λ lane. vec_len lane.entries ≡ 0) lanes
    → (k : ℕ) → get_or (map told lanes) k [] ≡ []
empty_lanes [] all k = refl
empty_lanes (lane ∷ lanes) all zero =
    let first : vec_len lane.entries ≡ 0 = all 0 lane (omega arith) in
    ap (map shown) (nil_from_length lane.entries.items (omega (arith, lane.entries.ok)))
empty_lanes (lane ∷ lanes) all (suc k) =
    empty_lanes lanes (λ j d h. all (suc j) d (omega arith)) k

lanes_empty : (lanes : List Lane) → ((k : ℕ) → get_or (map told lanes) k [] ≡ [])
    → All (λ lane. vec_len lane.entries ≡ 0) lanes
lanes_empty lanes all k d h =
    let lane : Lane = get_or lanes k d in
    let none : told lane ≡ [] = sym (get_or-map told lanes k d [] h) ∙ all k in
    omega (arith, ap length none, length-map lane.entries.items shown, lane.entries.ok)

-- nobody says anything
pub gone : (lanes : List Lane) (taken : List Taken) → length taken ≡ 0
    → All (λ lane. vec_len lane.entries ≡ 0) lanes → (w : ℕ) → said_by lanes taken w ≡ []
gone lanes taken none all zero = ap (map shown_taken) (nil_from_length taken none)
gone lanes taken none all (suc k) = empty_lanes lanes all k

pub gone_taken : (lanes : List Lane) (taken : List Taken)
    → ((w : ℕ) → said_by lanes taken w ≡ []) → length taken ≡ 0
gone_taken lanes taken all = omega (arith, ap length (all 0), length-map taken shown_taken)

pub gone_lanes : (lanes : List Lane) (taken : List Taken)
    → ((w : ℕ) → said_by lanes taken w ≡ []) → All (λ lane. vec_len lane.entries ≡ 0) lanes
gone_lanes lanes taken all = lanes_empty lanes (λ k. all (suc k))
