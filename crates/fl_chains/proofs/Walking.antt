-- A walk forwards from the nearest root, step by step.
use Rattle.std.specs.Prelude.{◌≡◌, ◌<◌, ◌≤◌, ◌+◌, false, ℕ, List, [], ◌∷◌, ◌++◌, length, map, Option, Some, None, IsSome, Result, Ok, Err, IfOk, ◌↔◌, refl}
use Rattle.std.proofs.Common.{inl, inr, sym, ap, subst, ◌∙◌, arith, length-append}
use Rattle.std.specs.List.{Contains}
use Rattle.std.specs.FinMap.{slice_cmp-IsAntisymmetric}
use Rattle.std.specs.Cmp.{tied_itself}
use Rattle.std.specs.Ordering.{is_gt}
use Rattle.std.proofs.lemmas.List.{nil_from_length}
use Rattle.fl_labels.specs.Caps.{Caps}
use Rattle.fl_labels.specs.declared.cap.Cap.{Cap}
use Rattle.fl_labels.specs.declared.cap.Cap.TheVariants.{Use}
use Rattle.fl_labels.specs.Cap.{cap_cmp}
use Rattle.fl_labels.specs.CapOrder.{cap_total, cap_exact}
use Rattle.fl_labels.specs.Name.{name_cmp}
use Rattle.fl_ops.specs.Registry.{Registry}
use Rattle.fl_chains.specs.declared.step.Step.{Step}
use Rattle.fl_chains.specs.declared.legs.Leg.{Leg}
use Rattle.fl_chains.specs.Step.{put_op, step_cmp}
use Rattle.fl_chains.specs.Least.{IsLeast, FindsLeast}
use Rattle.fl_chains.specs.Chain.{ChainBy, here, step, path_of, path_cmp, IsLeastChain, FindsChain}
use Rattle.fl_chains.specs.declared.chain.Chain as chains
use Rattle.std.specs.declared.alloc.AllocError.{AllocError}
use Rattle.fl_chains.specs.parts.Legs.{LeadsOn}
use Rattle.fl_chains.specs.parts.Search.{IsAway, IsNearer, IsNearest}
use Rattle.fl_chains.proofs.Searching.{away_on, away_itself, by_first, no_steps}
use Rattle.fl_chains.proofs.Orders.{not_behind, shorter_first, alone_first}

abbrev caps_along : List Step → List Cap
caps_along steps = map (λ s. s.cap) steps

last_of : Cap → List Cap → Cap
last_of root [] = root
last_of root (c ∷ cs) = last_of c cs

-- a chain ends with the last capability along it
ends_with : {U : Registry} {a c : Cap} {steps : List Step} → ChainBy U a steps c
    → c ≡ last_of a (caps_along steps)
unfolding last_of
ends_with here = refl
ends_with (step u rest) = ends_with rest

last_same : (a b : Cap) (xs ys : List Cap) → a ∷ xs ≡ b ∷ ys → last_of a xs ≡ last_of b ys
last_same a b xs ys e =
    let first : a ≡ b = cc in
    let others : xs ≡ ys = cc in
    λ i. last_of (first i) (others i)

-- one chain goes on where another ends
pub chain_on : {U : Registry} {a b c : Cap} {xs ys : List Step} → ChainBy U a xs b
    → ChainBy U b ys c → ChainBy U a (xs ++ ys) c
chain_on here on = on
chain_on (step u rest) on = step u (chain_on rest on)

pub chain_push : {U : Registry} {a b : Cap} {xs : List Step} (s : Step) → ChainBy U a xs b
    → U (put_op s) → Use s.group ≡ b
    → ChainBy U a (xs ++ s ∷ []) s.cap
chain_push {U} {a} {b} {xs} s h u e =
    chain_on (subst (ChainBy U a xs) (sym e) h) (step {s = s} u here)

-- a chain of some steps, without the last
record IsPushed (U : Registry) (a : Cap) (steps : List Step) (c : Cap) : Type 0 where
  front : List Step
  last : Step
  is : steps ≡ front ++ last ∷ []
  leads : ChainBy U a front (Use last.group)
  rests : U (put_op last)
  ends : last.cap ≡ c

pushed_by : {U : Registry} (s : Step) → U (put_op s) → {b c : Cap} {steps : List Step} → s.cap ≡ b
    → ChainBy U b steps c
    → IsPushed U (Use s.group) (s ∷ steps) c
pushed_by s u e here = record { front = []; last = s; is = refl; leads = here; rests = u; ends = e }
pushed_by {U} s u e (step {s = t} v rest) =
    let on = pushed_by t v refl rest in
    record {
      front = s ∷ on.front;
      last = on.last;
      is = ap (λ l. s ∷ l) on.is;
      leads = step {s = s} u (subst (λ x. ChainBy U x on.front (Use on.last.group)) (sym e)
          on.leads);
      rests = on.rests;
      ends = on.ends;
    }

pushed : {U : Registry} {a c : Cap} {steps : List Step} → ChainBy U a steps c → 0 < length steps
    → IsPushed U a steps c
pushed here h = absurd (omega (arith, h))
pushed (step {s} u rest) h = pushed_by s u refl rest

-- So far from the root: so many steps are left, and no chain from a root that is as long and has as
-- many left comes before.
pub record IsWalk (U : Registry) (roots : Caps) (c root : Cap) (n : ℕ) (at : Cap) (left : ℕ)
    (steps : List Step) : Type 0 where
  pub leads : ChainBy U root steps at
  pub count : length steps + left ≡ n
  pub away : IsAway U c left at
  pub least : (r : Cap) (others : List Step) (b : Cap) → roots r → ChainBy U r others b
      → length others ≡ length steps → IsAway U c left b
      → is_gt (path_cmp root steps r others) ≡ false

module _ (U : Registry) (roots : Caps) (c start : Cap) (far : ℕ) (legs : List Leg)
    (nearest : IsNearest U roots c start far legs) where
  pub walk_none : (steps : List Step) → steps ≡ []
      → IsWalk U roots c start far start far steps
  walk_none steps e = subst (IsWalk U roots c start far start far) (sym e)
      (record {
        leads = here;
        count = omega arith;
        away = nearest.so_far;
        least = λ r others b root h len away.
            first r others b root h (nil_from_length others len) away;
      })
    where
      first : (r : Cap) (others : List Step) (b : Cap) → roots r → ChainBy U r others b
          → others ≡ [] → IsAway U c far b
          → is_gt (path_cmp start [] r others) ≡ false
      first r others b root h none away =
          let same : r ≡ b = no_steps h (ap length none) in
          subst (λ l. is_gt (path_cmp start [] r l) ≡ false) (sym none)
          (alone_first start r (nearest.least r root
          (subst (IsAway U c far) (sym same) away)))

  -- no chain from a root goes on to what is too near
  too_near : (r : Cap) → roots r → {b : Cap} {front : List Step} → ChainBy U r front b → (k : ℕ)
      → IsNearer U c k b → length front + k ≤ far → ⊥
  too_near r root {b} {front} h k near within = nearest.none_nearer r root (record {
    steps = front ++ near.steps;
    leads = chain_on h near.leads;
    fewer = let e = near.fewer in let l = length-append front near.steps in omega arith;
  })

  module _ (at : Cap) (left : ℕ) (steps : List Step)
      (walk : IsWalk U roots c start far at (left + 1) steps) where
    -- a step of a chain from a root is among the legs
    is_leg : (r : Cap) → roots r → {front : List Step} (s : Step) → ChainBy U r front (Use s.group)
        → length front ≡ length steps → U (put_op s)
        → IsAway U c left s.cap → Contains legs (record { step = s; left = left })
    is_leg r root {front} s h len u away =
        let count = walk.count in
        elim (nearest.lead.all s left (omega arith) u away) [
          | inl m ↦ m
          | inr m ↦ absurd (too_near r root (chain_push s h u refl) left m
              (let l = length-append front (s ∷ []) in omega arith))
        ]

    pub step_there : (r : Option Step) → FindsLeast step_cmp (LeadsOn legs at left) r
        → IsSome r
    step_there None none = absurd (by_first U c left (λ b. b ≡ at → ⊥) on at walk.away refl)
      where
        on : (s : Step) → U (put_op s) → IsAway U c left s.cap → Use s.group ≡ at → ⊥
        on s u away e =
            let m = is_leg start nearest.rooted s
            (subst (ChainBy U start steps) (sym e) walk.leads) refl u away in
            none s (record { step = s; left = left }, m, (refl, e, refl))
    step_there (Some s) h = refl

    pub walk_more : (s : Step) → IsLeast step_cmp (LeadsOn legs at left) s
        → (new : List Step) → new ≡ steps ++ s ∷ []
        → IsWalk U roots c start far s.cap left new
    walk_more s h new e = subst (IsWalk U roots c start far s.cap left) (sym e)
        (record {
          leads = chain_push s walk.leads rests.0 on;
          count = let k = walk.count in let l = length-append steps (s ∷ []) in omega arith;
          away = rests.1;
          least = λ r others b root chain len away.
              let l = length-append steps (s ∷ []) in
              let p = pushed chain (omega arith) in
              let m = length-append p.front (p.last ∷ []) in
              let n = ap length p.is in
              subst (λ x. is_gt (path_cmp start (steps ++ s ∷ []) r x) ≡ false) (sym p.is)
              (least r root p.front p.last p.leads p.rests (omega arith)
              (subst (IsAway U c left) (sym p.ends) away));
        })
      where
        rests : U (put_op s) × IsAway U c left s.cap
        rests =
            let both = nearest.lead.sound h.member.0 h.member.1 in
            let is = h.member.2 in (
              subst (λ x. U (put_op x)) is.2 both.0,
              subst (λ x. IsAway U c left x.cap) is.2
                  (subst (λ k. IsAway U c k h.member.0.step.cap) is.0 both.1),
            )

        on : Use s.group ≡ at
        on = let is = h.member.2 in ap (λ (x : Step). Use x.group) (sym is.2) ∙ is.1

        least : (r : Cap) → roots r → (front : List Step) (t : Step)
            → ChainBy U r front (Use t.group) → U (put_op t) → length front ≡ length steps
            → IsAway U c left t.cap → is_gt
            (path_cmp start (steps ++ s ∷ []) r (front ++ t ∷ [])) ≡ false
        least r root front t chain u len away =
            not_behind start r steps front s t len (name_cmp s.group t.group)
            (walk.least r front (Use t.group) root chain len (away_on U c left t u away))
            (λ tie.
            let paths = slice_cmp-IsAntisymmetric cap_exact (path_of start steps)
            (path_of r front) tie in
            let same : Use t.group ≡ at = ends_with chain
            ∙ sym (last_same start r (caps_along steps) (caps_along front) paths)
            ∙ sym (ends_with walk.leads) in
            h.least t (
              record { step = t; left = left },
              is_leg r root t chain len u away,
              (refl, same, refl),
            ))

  pub walk_end : (at : Cap) (steps : List Step) → IsWalk U roots c start far at 0 steps
      → IsLeastChain U roots c start steps
  walk_end at steps walk = record {
    rooted = nearest.rooted;
    leads = subst (ChainBy U start steps) (away_itself U c at walk.away) walk.leads;
    least = λ r others root chain. shorter_first (length steps) (length others)
        (path_cmp start steps r others)
        (λ few. nearest.none_nearer r root
        (record { steps = others; leads = chain; fewer = let k = walk.count in omega arith }))
        (λ same. walk.least r others c root chain (sym same)
        (record { steps = []; leads = here; count = refl }));
  }

-- the chain of no step
pub root_first : (U : Registry) (roots : Caps) (c : Cap) (steps : List Step) → roots c → steps ≡ []
    → IsLeastChain U roots c c steps
root_first U roots c steps h e = subst (IsLeastChain U roots c c) (sym e) (record {
  rooted = h;
  leads = here;
  least = λ r others root chain. shorter_first 0 (length others) (path_cmp c [] r others)
      (λ few. absurd (omega (arith, few)))
      (λ same.
      let none : others ≡ [] = nil_from_length others (sym same) in
      let is : r ≡ c = no_steps chain (sym same) in
      subst (λ l. is_gt (path_cmp c [] r l) ≡ false) (sym none)
      (alone_first c r (ap is_gt (ap (cap_cmp c) is ∙ tied_itself cap_total c))));
})

-- the same roots in other words
pub found_same : (U : Registry) (c : Cap) (roots others : Caps) → ((b : Cap) → roots b ↔ others b)
    → (r : Result (Option chains.Chain) AllocError)
    → IfOk r (FindsChain U roots c) → IfOk r (FindsChain U others c)
found_same U c roots others same (Ok None) h =
    λ reach. h (reach.0, (same reach.0).1 reach.1, reach.2)
found_same U c roots others same (Ok (Some found)) h = record {
  rooted = (same found.root).0 h.rooted;
  leads = h.leads;
  least = λ r steps root chain. h.least r steps ((same r).1 root) chain;
}
found_same U c roots others same (Err error) h = tt
