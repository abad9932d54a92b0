-- A run over lines begins with a run over the first of them.
use Rattle.std.proofs.Common.{◌≡◌, ◌+◌, ◌++◌, refl, ap, subst, List, [], ◌∷◌, ℕ, suc, length, arith}
use Rattle.fl_stream.specs.Turns.{LineOutput, Turns, Run}
use Rattle.fl_turn_laws.specs.Beginning.{Begins}

module _ {M : Type 0} (turns : Turns M) where
  pub run_begins : (number : ℕ) (old : M) (first later : List (List ℕ)) (outputs : List LineOutput) (new : M)
      → Run turns number old (first ++ later) outputs new → Begins turns number old first later outputs new
  run_begins number old [] later outputs new h =
      let e : number ≡ number + 0 = omega arith in
      record {
        front = [];
        rest = outputs;
        split = refl;
        one_each = refl;
        mid = old;
        begun = refl;
        ended = subst (λ n. Run turns n old later outputs new) e h;
      }
  run_begins number old (line ∷ first) later [] new h = absurd h
  run_begins number old (line ∷ first) later (output ∷ outputs) new h =
      let r = run_begins (number + 1) h.0 first later outputs new h.2 in
      let e : number + 1 + length first ≡ number + suc (length first) = omega arith in
      record {
        front = output ∷ r.front;
        rest = r.rest;
        split = ap (λ x. output ∷ x) r.split;
        one_each = ap suc r.one_each;
        mid = r.mid;
        begun = (h.0, h.1, r.begun);
        ended = subst (λ n. Run turns n r.mid later r.rest new) e r.ended;
      }
